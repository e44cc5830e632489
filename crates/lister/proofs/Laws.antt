-- What is promised of the calls that list: the laws that callers may cite.
-- Assumes nothing.
use Rattle.std.specs.Prelude.{Ok, Err}
use Rattle.std.proofs.Common.{◌≡◌, ℕ, suc, ◌+◌, ◌-◌, ◌<◌, ◌≤◌, Bool, true, false, cond, ltb, ◌⊎◌, List, [], ◌∷◌, ◌++◌, length, drop, sym, refl, ap, ◌∙◌, inl, inr, add-zero, arith, length-append, ltb-false, ltb-true, le-ltb, lt-ltb}
use mathlib.Core.Option.{Option, some, none}
use Rattle.rows.specs.Rows.{passed_up, raised, Numbered}
use Rattle.rows.specs.Settled.{Settled}
use Rattle.rows.proofs.Laws.{numbered, clash, first_false}
use Rattle.rows.proofs.Settled.{settled, settled_with}
use Rattle.lent.specs.Lent.{over}
use Rattle.lent.proofs.Laws.{length_over}
use Rattle.receiver.specs.declared.Fault.{Fault}
use Rattle.receiver.specs.declared.Fault.TheVariants.{PastLargest}
use Rattle.receiver.specs.Receiver.{largest, told, CarriesPast, step_rows, step_refusal, fault_number}
use Rattle.receiver.proofs.Goes.{next_place}
use Rattle.receiver.proofs.Laws.{step_ranked}
use Rattle.lister.specs.declared.Listing.{Listing}
use Rattle.lister.specs.declared.Listed.{Listed}
use Rattle.lister.specs.Text.{longest_line, Poured, poured, behind, text_told, onward, carried, pour, pour_answer, pour_of, list_outcome, list_told, listed, Begins, Lists}
use Rattle.lister.proofs.Pouring.{lines_short}

-- ---- what `list` writes fits the room, and what it takes is of the chunk

abbrev pub Within : ℕ → List ℕ → Poured → Type 0
Within room chunk p = (length p.text ≤ room) × (p.taken ≤ length chunk)

pub pour_within : (l : Listing) (room : ℕ) (chunk : List ℕ) → Within room chunk (pour l room chunk)
unfolding pour
pour_within l room [] = (omega arith, omega arith)
pour_within l room (b ∷ rest) = go (ltb room longest_line) refl (pour_within (onward l b) (room - length (text_told l b)) rest)
  where
    later : Poured
    later = pour (onward l b) (room - length (text_told l b)) rest

    go : (t : Bool) → ltb room longest_line ≡ t → Within (room - length (text_told l b)) rest later
        → Within room (b ∷ rest) (cond t (poured l 0 []) (behind 1 (text_told l b) later))
    go true e ih = (omega arith, omega arith)
    go false e ih =
        let space : longest_line ≤ room = ltb-false room longest_line e in
        let short : length (text_told l b) ≤ longest_line = lines_short (told l.receiver b) in
        (rw (length-append (text_told l b) later.text) (omega (arith, ih.0)), omega (arith, ih.1))

call_within : (l : Listing) (room : ℕ) (chunk : List ℕ) → Within room chunk (pour_of l room chunk)
unfolding pour_of
call_within l room chunk = by (step_refusal l.receiver chunk)
  where
    by : (f : Option Fault) → Within room chunk (pour_answer f l (pour l room chunk))
    by (some f) = (omega arith, omega arith)
    by none = pour_within l room chunk

pub list_within : (l : Listing) (chunk room : List ℕ) (r : Listed) (room' : List ℕ) → Lists l chunk room r room' → (r.size ≤ length room') × (r.taken ≤ length chunk)
list_within l chunk room r room' p =
    let long : length room' ≡ length room = ap length p.1 ∙ length_over (pour_of l (length room) chunk).text room in
    let size : r.size ≡ length (pour_of l (length room) chunk).text = ap (λ (r : Listed). r.size) p.0 in
    let taken : r.taken ≡ (pour_of l (length room) chunk).taken = ap (λ (r : Listed). r.taken) p.0 in
    let w = call_within l (length room) chunk in
    (omega (arith, w.0), omega (arith, w.1))

-- with room for a line a chunk that is not refused goes on, so that calls over a chunk come to an end
pub pour_moves : (l : Listing) (room : ℕ) (chunk : List ℕ) → 0 < length chunk → longest_line ≤ room → 0 < (pour l room chunk).taken
unfolding pour
pour_moves l room [] any space = absurd (omega arith)
pour_moves l room (b ∷ rest) any space = rw (le-ltb room longest_line space) (omega arith)

pub list_moves : (l : Listing) (chunk room : List ℕ) (r : Listed) (room' : List ℕ) → Lists l chunk room r room'
    → 0 < length chunk → longest_line ≤ length room → r.outcome ≡ Ok tt → 0 < r.taken
unfolding pour_of
list_moves l chunk room r room' p any space done =
    rw (ap (λ (r : Listed). r.taken) p.0) (by (step_refusal l.receiver chunk) (sym (ap (λ (r : Listed). r.outcome) p.0) ∙ done))
  where
    by : (f : Option Fault) → list_outcome f ≡ Ok tt → 0 < (pour_answer f l (pour l (length room) chunk)).taken
    by (some f) e = clash (cc)
    by none e = pour_moves l (length room) chunk any space

abbrev Stops : ℕ → List ℕ → Poured → Type 0
Stops room chunk p = (p.taken ≡ length chunk) ⊎ (room - length p.text < longest_line)

pour_stops : (l : Listing) (room : ℕ) (chunk : List ℕ) → Stops room chunk (pour l room chunk)
unfolding pour
pour_stops l room [] = inl refl
pour_stops l room (b ∷ rest) =
    go (ltb room longest_line) refl (pour (onward l b) (room - length (text_told l b)) rest) (pour_stops (onward l b) (room - length (text_told l b)) rest)
  where
    go : (t : Bool) → ltb room longest_line ≡ t → (later : Poured) → Stops (room - length (text_told l b)) rest later
        → Stops room (b ∷ rest) (cond t (poured l 0 []) (behind 1 (text_told l b) later))
    go true e later s = let h : room < longest_line = ltb-true room longest_line e in inr (omega arith)
    go false e later (inl s) = inl (omega arith)
    go false e later (inr s) =
        let long : length (text_told l b ++ later.text) ≡ length (text_told l b) + length later.text = length-append (text_told l b) later.text in
        inr (omega arith)

-- a call goes on to the chunk's end, or until what is left of the room holds no line
pub list_stops : (l : Listing) (chunk room : List ℕ) (r : Listed) (room' : List ℕ) → Lists l chunk room r room' → r.outcome ≡ Ok tt
    → (r.taken ≡ length chunk) ⊎ (length room - r.size < longest_line)
unfolding pour_of
list_stops l chunk room r room' p done =
    rw (ap (λ (r : Listed). r.taken) p.0, ap (λ (r : Listed). r.size) p.0)
    (by (step_refusal l.receiver chunk) (sym (ap (λ (r : Listed). r.outcome) p.0) ∙ done))
  where
    by : (f : Option Fault) → list_outcome f ≡ Ok tt → Stops (length room) chunk (pour_answer f l (pour l (length room) chunk))
    by (some f) e = clash (cc)
    by none e = pour_stops l (length room) chunk

-- ---- the place moves on by what is taken

abbrev PlaceBy : Listing → Poured → Type 0
PlaceBy l p = p.listing.receiver.place ≡ l.receiver.place + p.taken

stays : (l : Listing) → PlaceBy l (poured l 0 [])
stays l = sym (add-zero l.receiver.place)

pour_place : (l : Listing) (room : ℕ) (chunk : List ℕ) → PlaceBy l (pour l room chunk)
unfolding pour
pour_place l room [] = stays l
pour_place l room (b ∷ rest) = go (ltb room longest_line) (pour_place (onward l b) (room - length (text_told l b)) rest)
  where
    go : (t : Bool) → PlaceBy (onward l b) (pour (onward l b) (room - length (text_told l b)) rest)
        → PlaceBy l (cond t (poured l 0 []) (behind 1 (text_told l b) (pour (onward l b) (room - length (text_told l b)) rest)))
    go true h = stays l
    go false h = let one = next_place l.receiver b in omega (arith, h, one)

module _ (l : Listing) (chunk room room' : List ℕ) (r : Listed) (lists : Lists l chunk room r room') where
  pub list_place : r.listing.receiver.place ≡ l.receiver.place + r.taken
  unfolding pour_of
  list_place = rw lists.0 (by (step_refusal l.receiver chunk))
    where
      by : (o : Option Fault) → PlaceBy l (pour_answer o l (pour l (length room) chunk))
      by (some f) = stays l
      by none = pour_place l (length room) chunk

  -- a chunk that is not refused has its places
  pub list_fits : r.outcome ≡ Ok tt → l.receiver.place + length chunk ≤ largest
  unfolding step_refusal
  list_fits done =
      ltb-false largest (l.receiver.place + length chunk)
      (first_false (ltb largest (l.receiver.place + length chunk)) PastLargest none
      (by (step_refusal l.receiver chunk) (sym (ap (λ (x : Listed). x.outcome) lists.0) ∙ done))).0
    where
      by : (o : Option Fault) → list_outcome o ≡ Ok tt → o ≡ none
      by (some f) e = clash cc
      by none e = refl

-- ---- the listing behind some bytes, whatever rooms there were

pour_carries : (l : Listing) (room : ℕ) (chunk : List ℕ) → carried (pour l room chunk).listing (drop (pour l room chunk).taken chunk) ≡ carried l chunk
unfolding pour carried
pour_carries l room [] = refl
pour_carries l room (b ∷ rest) = go (ltb room longest_line) (pour_carries (onward l b) (room - length (text_told l b)) rest)
  where
    later : Poured
    later = pour (onward l b) (room - length (text_told l b)) rest

    one_more : (n : ℕ) → 1 + n ≡ suc n
    one_more n = omega arith

    go : (t : Bool) → carried later.listing (drop later.taken rest) ≡ carried (onward l b) rest
        → carried (cond t (poured l 0 []) (behind 1 (text_told l b) later)).listing (drop (cond t (poured l 0 []) (behind 1 (text_told l b) later)).taken (b ∷ rest)) ≡ carried l (b ∷ rest)
    go true ih = refl
    go false ih = rw (one_more later.taken) ih

-- what a call leaves of the chunk carries its listing to where the chunk carries the one before it
pub list_carries : (l : Listing) (chunk room : List ℕ) (r : Listed) (room' : List ℕ) → Lists l chunk room r room' → carried r.listing (drop r.taken chunk) ≡ carried l chunk
unfolding pour_of
list_carries l chunk room r room' lists = rw (ap (λ (r : Listed). r.listing) lists.0, ap (λ (r : Listed). r.taken) lists.0) (by (step_refusal l.receiver chunk))
  where
    by : (o : Option Fault) → carried (pour_answer o l (pour l (length room) chunk)).listing (drop (pour_answer o l (pour l (length room) chunk)).taken chunk) ≡ carried l chunk
    by (some f) = refl
    by none = pour_carries l (length room) chunk

-- ---- 60: "Each is given exactly when its condition holds"

pub list_exactly : (l : Listing) (chunk room : List ℕ) {r : Listed} {room' : List ℕ} → Lists l chunk room r room'
    → Numbered (passed_up fault_number (step_rows l.receiver chunk)) (60 ∷ []) (list_told r.outcome)
unfolding step_rows
list_exactly l chunk room lists =
    numbered fault_number (step_rows l.receiver chunk) (step_refusal l.receiver chunk) (step_ranked l.receiver chunk) (60 ∷ []) refl refl _
    (ap (λ (r : Listed). list_told r.outcome) lists.0 ∙ by (step_refusal l.receiver chunk))
  where
    by : (o : Option Fault) → list_told (list_outcome o) ≡ raised fault_number o
    by (some f) = refl
    by none = refl

-- "none of it is taken", whatever room is lent
pub list_untouched : (l : Listing) (chunk : List ℕ) (room : ℕ) → CarriesPast l.receiver chunk → pour_of l room chunk ≡ poured l 0 []
unfolding CarriesPast pour_of step_refusal
list_untouched l chunk room past = rw (lt-ltb largest (l.receiver.place + length chunk) past) refl

-- a call that is refused leaves the listing and every byte of the room as they were
pub list_refusal_keeps : (l : Listing) (chunk room : List ℕ) (r : Listed) (room' : List ℕ) (f : Fault) → Lists l chunk room r room' → r.outcome ≡ Err f
    → (r.listing ≡ l) × (r.taken ≡ 0) × (r.size ≡ 0) × (room' ≡ room)
unfolding pour_of over
list_refusal_keeps l chunk room r room' f lists refused = by (step_refusal l.receiver chunk) lists.0 lists.1
  where
    by : (o : Option Fault) → let p = pour_answer o l (pour l (length room) chunk) in r ≡ listed p.listing p.taken (length p.text) (list_outcome o) → room' ≡ over p.text room
        → (r.listing ≡ l) × (r.taken ≡ 0) × (r.size ≡ 0) × (room' ≡ room)
    by (some g) e q = (ap (λ (r : Listed). r.listing) e, ap (λ (r : Listed). r.taken) e, ap (λ (r : Listed). r.size) e, q)
    by none e q = let done : r.outcome ≡ (Ok tt) = ap (λ (r : Listed). r.outcome) e in clash (cc)

-- ---- "Show that any two outcomes allowed by it are equal."

pub begins_settled : (place : ℕ) → Settled (Begins place)
begins_settled place = settled _

pub lists_settled : (l : Listing) (chunk room : List ℕ) → Settled {A = Listed × List ℕ} (λ o. Lists l chunk room o.0 o.1)
lists_settled l chunk room = settled_with _ _
