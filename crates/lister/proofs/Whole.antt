-- The text of a whole listing, however its bytes were cut and whatever room there was for it.
-- Assumes nothing.
use Rattle.std.specs.Prelude.{Ok, Err, Some, None}
use Rattle.std.proofs.Common.{◌≡◌, ℕ, zero, suc, ◌+◌, ◌-◌, ◌<◌, ◌≤◌, Bool, true, false, cond, ltb, List, [], ◌∷◌, ◌++◌, length, drop, sym, refl, ap, ◌∙◌, ap₂, append_assoc, append-nil, le_of_eq, add-zero, mod-eq_of_lt, zero-add, arith, length-append, length-drop, drop-drop, le-ltb}
use lib.Seq.{drop-length}
use Rattle.lines.specs.declared.Event.{Event}
use Rattle.lines.specs.declared.Event.TheVariants.{Open}
use Rattle.lines.specs.declared.Placed.{Placed}
use Rattle.lines.specs.Lines.{header_text, line_text, totals_text, ending_text}
use Rattle.listing.specs.Events.{events_of, events_from, total, is_ok, is_refused, is_dropped, is_open}
use Rattle.listing.specs.Listing.{lines_text, listing_text}
use Rattle.listing.proofs.Events.{no_line_lem, one_line, lines-append, no_total, one_total, total-append, one_kind}
use Rattle.receiver.specs.declared.Receiver.{Receiver}
use Rattle.receiver.specs.Answers.{Answer}
use Rattle.lister.specs.declared.Listing.{Listing}
use Rattle.receiver.specs.Receiver.{largest, is_inside, next, told, step_refusal}
use Rattle.receiver.specs.Chunks.{line_in, open_line, joined}
use Rattle.lister.specs.Text.{longest_line, begin_at, plus, Poured, poured, behind, text_told, onward, pour, pour_of, pours, pours_all, end_text}
use Rattle.receiver.specs.Parts.{Fits, Held}
use Rattle.receiver.proofs.Kept.{length_none}
use Rattle.receiver.proofs.Goes.{next_place}
use Rattle.receiver.proofs.Same.{behind_bytes, Moved, not_moved, moved_byte, moved_then, moved_joined}
use Rattle.receiver.proofs.Chunks.{reading, place_after, place_behind}
use Rattle.lister.proofs.Laws.{pour_within, pour_moves}

-- ---- the totals do not wrap: none is over the place

pub record Unwrapped (l : Listing) : Type 0 where
  pub oks : l.ok ≤ l.receiver.place
  pub refusals : l.refused ≤ l.receiver.place
  pub drops : l.dropped ≤ l.receiver.place

-- the totals went up by these lines
abbrev pub Totalled : Listing → List Placed → Listing → Type 0
Totalled l lines l' =
    (l'.ok ≡ l.ok + total is_ok lines) × (l'.refused ≡ l.refused + total is_refused lines) × (l'.dropped ≡ l.dropped + total is_dropped lines)

totalled_none : (l : Listing) → Totalled l [] l
totalled_none l =
    let z : (counts : Event → ℕ) (n : ℕ) → n ≡ n + total counts [] = λ counts n. sym (add-zero n) ∙ ap (λ (k : ℕ). n + k) (sym (no_total counts)) in
    (z is_ok l.ok, z is_refused l.refused, z is_dropped l.dropped)

totalled_then : (l l' l'' : Listing) (a b : List Placed) → Totalled l a l' → Totalled l' b l'' → Totalled l (a ++ b) l''
totalled_then l l' l'' a b p q = (more is_ok l.ok p.0 q.0, more is_refused l.refused p.1 q.1, more is_dropped l.dropped p.2 q.2)
  where
    more : (counts : Event → ℕ) (x : ℕ) {y z : ℕ} → y ≡ x + total counts a → z ≡ y + total counts b → z ≡ x + total counts (a ++ b)
    more counts x e f = let j : total counts (a ++ b) ≡ total counts a + total counts b = total-append counts a b in omega arith

-- ---- bytes taken, with their text and totals

pub record Went (l : Listing) (chunk : List ℕ) (l' : Listing) (text left : List ℕ) : Type 0 where
  pub lines : List Placed
  pub text_is : text ≡ lines_text lines
  pub moved : Moved l.receiver chunk l'.receiver lines left
  pub totalled : Totalled l lines l'
  pub unwrapped_is : Unwrapped l'

went_none : (l : Listing) (chunk : List ℕ) → Held l.receiver → Unwrapped l → Went l chunk l [] chunk
went_none l chunk h g =
    record { lines = []; text_is = sym no_line_lem; moved = not_moved l.receiver chunk h; totalled = totalled_none l; unwrapped_is = g }

went_with : {l l' l'' : Listing} {chunk chunk₁ chunk₂ left left₁ left₂ a b : List ℕ} (p : Went l chunk₁ l' a left₁) (q : Went l' chunk₂ l'' b left₂)
    → Moved l.receiver chunk l''.receiver (p.lines ++ q.lines) left → Went l chunk l'' (a ++ b) left
went_with {l} {l'} {l''} p q both =
    record {
      lines = p.lines ++ q.lines;
      text_is = ap₂ (λ (x y : List ℕ). x ++ y) p.text_is q.text_is ∙ sym (lines-append p.lines q.lines);
      moved = both;
      totalled = totalled_then l l' l'' p.lines q.lines p.totalled q.totalled;
      unwrapped_is = q.unwrapped_is;
    }

went_then : {l l' l'' : Listing} {chunk left left' a b : List ℕ} → Went l chunk l' a left → Went l' left l'' b left' → Went l chunk l'' (a ++ b) left'
went_then p q = went_with p q (moved_then p.moved q.moved)

-- at most one line for a byte
one_most : (a : Answer) → (total is_ok (line_in a) ≤ 1) × (total is_refused (line_in a) ≤ 1) × (total is_dropped (line_in a) ≤ 1)
one_most (Ok (Some e)) =
    let one : is_ok e.event + (is_refused e.event + (is_dropped e.event + is_open e.event)) ≡ 1 = one_kind e.event in
    rw (one_total is_ok e, one_total is_refused e, one_total is_dropped e) (omega arith, omega arith, omega arith)
one_most (Ok None) = rw (no_total is_ok, no_total is_refused, no_total is_dropped) (omega arith, omega arith, omega arith)
one_most (Err f) = rw (no_total is_ok, no_total is_refused, no_total is_dropped) (omega arith, omega arith, omega arith)

plus_is : (n more place : ℕ) → n ≤ place → more ≤ 1 → place < largest → plus n more ≡ n + more
plus_is n more place a b c = mod-eq_of_lt (omega arith)

went_byte : (l : Listing) (b : ℕ) (rest : List ℕ) → Held l.receiver → Unwrapped l → l.receiver.place < largest → Went l (b ∷ rest) (onward l b) (text_told l b) rest
went_byte l b rest h g under =
    record {
      lines = line_in (told l.receiver b);
      text_is = refl;
      moved = moved_byte l.receiver b rest h;
      totalled = (oks, refusals, drops);
      unwrapped_is =
          record {
            oks = on g.oks most.0 oks;
            refusals = on g.refusals most.1 refusals;
            drops = on g.drops most.2 drops;
          };
    }
  where
    most : (total is_ok (line_in (told l.receiver b)) ≤ 1) × (total is_refused (line_in (told l.receiver b)) ≤ 1) × (total is_dropped (line_in (told l.receiver b)) ≤ 1)
    most = one_most (told l.receiver b)

    oks : plus l.ok (total is_ok (line_in (told l.receiver b))) ≡ l.ok + total is_ok (line_in (told l.receiver b))
    oks = plus_is l.ok (total is_ok (line_in (told l.receiver b))) l.receiver.place g.oks most.0 under

    refusals : plus l.refused (total is_refused (line_in (told l.receiver b))) ≡ l.refused + total is_refused (line_in (told l.receiver b))
    refusals = plus_is l.refused (total is_refused (line_in (told l.receiver b))) l.receiver.place g.refusals most.1 under

    drops : plus l.dropped (total is_dropped (line_in (told l.receiver b))) ≡ l.dropped + total is_dropped (line_in (told l.receiver b))
    drops = plus_is l.dropped (total is_dropped (line_in (told l.receiver b))) l.receiver.place g.drops most.2 under

    on : {n more m : ℕ} → n ≤ l.receiver.place → more ≤ 1 → m ≡ n + more → m ≤ (next l.receiver b).place
    on a c e = let p : (next l.receiver b).place ≡ l.receiver.place + 1 = next_place l.receiver b in omega arith

-- ---- a call

pub pour_went : (l : Listing) (room : ℕ) (chunk : List ℕ) → Held l.receiver → Unwrapped l → Fits l.receiver.place chunk
    → Went l chunk (pour l room chunk).listing (pour l room chunk).text (drop (pour l room chunk).taken chunk)
unfolding pour
pour_went l room [] h g fits = went_none l [] h g
pour_went l room (b ∷ rest) h g fits =
    let one = went_byte l b rest h g (omega arith) in
    let place : (next l.receiver b).place ≡ l.receiver.place + 1 = next_place l.receiver b in
    go (ltb room longest_line) one (pour_went (onward l b) (room - length (text_told l b)) rest one.moved.held one.unwrapped_is (omega arith))
  where
    later : Poured
    later = pour (onward l b) (room - length (text_told l b)) rest

    one_more : (n : ℕ) → 1 + n ≡ suc n
    one_more n = omega arith

    go : (t : Bool) → Went l (b ∷ rest) (onward l b) (text_told l b) rest → Went (onward l b) rest later.listing later.text (drop later.taken rest)
        → Went l (b ∷ rest) (cond t (poured l 0 []) (behind 1 (text_told l b) later)).listing (cond t (poured l 0 []) (behind 1 (text_told l b) later)).text
        (drop (cond t (poured l 0 []) (behind 1 (text_told l b) later)).taken (b ∷ rest))
    go true one more = went_none l (b ∷ rest) h g
    go false one more = rw (one_more later.taken) (went_then one more)

-- ---- the calls for a piece, with any rooms

call_is : (l : Listing) (room : ℕ) (chunk : List ℕ) → Fits l.receiver.place chunk → pour_of l room chunk ≡ pour l room chunk
unfolding pour_of step_refusal
call_is l room chunk fits = rw (le-ltb largest (l.receiver.place + length chunk) fits) refl

-- a place is the number of bytes taken
moved_place : {l l' : Listing} {chunk text : List ℕ} (n : ℕ) → Went l chunk l' text (drop n chunk) → n ≤ length chunk → l'.receiver.place ≡ l.receiver.place + n
moved_place {l} {l'} {chunk} n w h =
    let before : (behind_bytes l'.receiver (drop n chunk ++ [])).place ≡ l'.receiver.place + length (drop n chunk ++ []) = place_behind l'.receiver (drop n chunk ++ []) in
    let after : (behind_bytes l.receiver (chunk ++ [])).place ≡ l.receiver.place + length (chunk ++ []) = place_behind l.receiver (chunk ++ []) in
    let same : (behind_bytes l'.receiver (drop n chunk ++ [])).place ≡ (behind_bytes l.receiver (chunk ++ [])).place = ap (λ (r : Receiver). r.place) (w.moved.same_receiver []) in
    let left : length (drop n chunk ++ []) ≡ length chunk - n = ap length (append-nil (drop n chunk)) ∙ length-drop n chunk in
    let all : length (chunk ++ []) ≡ length chunk = ap length (append-nil chunk) in
    omega arith

-- what came of some calls
pub record Through (l : Listing) (chunk : List ℕ) (n : ℕ) (p : Poured) : Type 0 where
  pub went : Went l chunk p.listing p.text (drop p.taken chunk)
  pub within : p.taken ≤ length chunk
  pub all : length chunk ≤ n → p.taken ≡ length chunk

-- one call, and then what came of the others
module _ (room n : ℕ) (l : Listing) (chunk : List ℕ) (space : longest_line ≤ room) (held : Held l.receiver) (g : Unwrapped l) (fits : Fits l.receiver.place chunk) where
  first : Went l chunk (pour l room chunk).listing (pour l room chunk).text (drop (pour l room chunk).taken chunk)
  first = pour_went l room chunk held g fits

  in_chunk : (pour l room chunk).taken ≤ length chunk
  in_chunk = (pour_within l room chunk).1

  left_is : length (drop (pour l room chunk).taken chunk) ≡ length chunk - (pour l room chunk).taken
  left_is = length-drop (pour l room chunk).taken chunk

  still_fits : Fits (pour l room chunk).listing.receiver.place (drop (pour l room chunk).taken chunk)
  still_fits =
      let place : (pour l room chunk).listing.receiver.place ≡ l.receiver.place + (pour l room chunk).taken = moved_place (pour l room chunk).taken first in_chunk in
      omega (arith, in_chunk, left_is)

  through_then : (more : Poured) → Through (pour l room chunk).listing (drop (pour l room chunk).taken chunk) n more
      → Through l chunk (suc n) (behind (pour l room chunk).taken (pour l room chunk).text more)
  through_then more later =
      record {
        went = rw (← drop-drop more.taken (pour l room chunk).taken chunk) (went_then first later.went);
        within = omega (arith, in_chunk, left_is, later.within);
        all = λ e. by chunk refl e;
      }
    where
      by : (xs : List ℕ) → chunk ≡ xs → length chunk ≤ suc n → (pour l room chunk).taken + more.taken ≡ length chunk
      by [] is e = let none : length chunk ≡ 0 = ap length is in omega (arith, in_chunk, left_is, later.within)
      by (b ∷ xs) is e =
          let long : length chunk ≡ suc (length xs) = ap length is in
          let some_taken : 0 < (pour l room chunk).taken = pour_moves l room chunk (omega arith) space in
          let rest : more.taken ≡ length (drop (pour l room chunk).taken chunk) = later.all (omega (arith, left_is)) in
          omega (arith, in_chunk, left_is)

module _ (rooms : ℕ → ℕ) (space : (n : ℕ) → longest_line ≤ rooms n) where
  pub pours_through : (n : ℕ) (l : Listing) (chunk : List ℕ) → Held l.receiver → Unwrapped l → Fits l.receiver.place chunk → Through l chunk n (pours rooms n l chunk)
  unfolding pours
  pours_through zero l chunk h g fits = record { went = went_none l chunk h g; within = omega arith; all = λ e. omega arith }
  pours_through (suc n) l chunk h g fits =
      let wide = space l.receiver.place in
      let one = first (rooms l.receiver.place) n l chunk wide h g fits in
      let left : List ℕ = drop (pour l (rooms l.receiver.place) chunk).taken chunk in
      let next_listing : Listing = (pour l (rooms l.receiver.place) chunk).listing in
      rw (call_is l (rooms l.receiver.place) chunk fits)
      (through_then (rooms l.receiver.place) n l chunk wide h g fits (pours rooms n next_listing left)
      (pours_through n next_listing left one.moved.held one.unwrapped_is (still_fits (rooms l.receiver.place) n l chunk wide h g fits)))

  -- a piece, all of it
  piece_went : (l : Listing) (piece : List ℕ) → Held l.receiver → Unwrapped l → Fits l.receiver.place piece
      → Went l piece (pours rooms (length piece) l piece).listing (pours rooms (length piece) l piece).text []
  piece_went l piece h g fits =
      let through = pours_through (length piece) l piece h g fits in
      rw (through.all (le_of_eq refl), drop-length piece) at through.went

  -- ---- pieces

  pub pieces_went : (l : Listing) (pieces : List (List ℕ)) → Held l.receiver → Unwrapped l → Fits l.receiver.place (joined pieces)
      → Went l (joined pieces) (pours_all rooms l pieces).listing (pours_all rooms l pieces).text []
  unfolding pours_all joined
  pieces_went l [] h g fits = went_none l [] h g
  pieces_went l (piece ∷ pieces) h g fits =
      let long : length (piece ++ joined pieces) ≡ length piece + length (joined pieces) = length-append piece (joined pieces) in
      let one = piece_went l piece h g (omega arith) in
      let place : (pours rooms (length piece) l piece).listing.receiver.place ≡ l.receiver.place + length piece = place_after one.moved in
      let more = pieces_went (pours rooms (length piece) l piece).listing pieces one.moved.held one.unwrapped_is (omega arith) in
      went_with one more (moved_joined {b = more.lines} one.moved more.moved)

-- ---- "it writes exactly this"

fresh_unwrapped : (place : ℕ) → Unwrapped (begin_at place)
fresh_unwrapped place = record { oks = omega arith; refusals = omega arith; drops = omega arith }

-- the open frame's line
open_text : (r : Receiver) → lines_text (open_line r) ≡ cond (is_inside r) (line_text r.start Open) []
open_text r = go (is_inside r)
  where
    go : (t : Bool) → lines_text (cond t (record { place = r.start; event = Open } ∷ []) []) ≡ cond t (line_text r.start Open) []
    go true = one_line (record { place = r.start; event = Open })
    go false = no_line_lem

-- an open frame is in none of the totals
open_total : (counts : Event → ℕ) → counts Open ≡ 0 → (r : Receiver) → total counts (open_line r) ≡ 0
open_total counts e r = go (is_inside r)
  where
    go : (t : Bool) → total counts (cond t (record { place = r.start; event = Open } ∷ []) []) ≡ 0
    go true = one_total counts (record { place = r.start; event = Open }) ∙ e
    go false = no_total counts

-- what was told, with the open frame's line, are the events: so are its text and its totals
module _ (place : ℕ) (bytes : List ℕ) (l : Listing) (text : List ℕ) (w : Went (begin_at place) bytes l text []) where
  all_lines : w.lines ++ open_line l.receiver ≡ events_from place bytes
  all_lines = (reading place bytes w.moved).0

  pub lines_are : text ++ cond (is_inside l.receiver) (line_text l.receiver.start Open) [] ≡ lines_text (events_from place bytes)
  lines_are =
      ap₂ (λ (a b : List ℕ). a ++ b) w.text_is (sym (open_text l.receiver)) ∙ sym (lines-append w.lines (open_line l.receiver)) ∙ ap lines_text all_lines

  all_counted : (counts : Event → ℕ) → counts Open ≡ 0 → {n : ℕ} → n ≡ 0 + total counts w.lines → n ≡ total counts (events_from place bytes)
  all_counted counts e p =
      p ∙ zero-add (total counts w.lines) ∙ sym (add-zero (total counts w.lines))
      ∙ ap (λ (k : ℕ). total counts w.lines + k) (sym (open_total counts e l.receiver))
      ∙ sym (total-append counts w.lines (open_line l.receiver)) ∙ ap (total counts) all_lines

  -- 01: "totals made up (they equal the numbers of such lines)"
  pub totals_are :
      (l.ok ≡ total is_ok (events_from place bytes)) × (l.refused ≡ total is_refused (events_from place bytes)) × (l.dropped ≡ total is_dropped (events_from place bytes))
  totals_are = (all_counted is_ok refl w.totalled.0, all_counted is_refused refl w.totalled.1, all_counted is_dropped refl w.totalled.2)

  pub whole_text : text ++ end_text l
      ≡ lines_text (events_from place bytes)
      ++ totals_text (total is_ok (events_from place bytes)) (total is_refused (events_from place bytes)) (total is_dropped (events_from place bytes))
  unfolding ending_text
  whole_text =
      sym (append_assoc text (cond (is_inside l.receiver) (line_text l.receiver.start Open) []) (totals_text l.ok l.refused l.dropped))
      ∙ ap₂ (λ (a b : List ℕ). a ++ b) lines_are (rw (totals_are.0, totals_are.1, totals_are.2) refl)

-- a capture in any pieces, listed with any rooms that hold a line, between the header and the end
pub listed : (rooms : ℕ → ℕ) → ((n : ℕ) → longest_line ≤ rooms n) → (pieces : List (List ℕ)) → length (joined pieces) ≤ largest
    → header_text ++ ((pours_all rooms (begin_at 0) pieces).text ++ end_text (pours_all rooms (begin_at 0) pieces).listing) ≡ listing_text (joined pieces)
unfolding listing_text events_of
listed rooms space pieces fits =
    ap (λ (l : List ℕ). header_text ++ l)
    (whole_text 0 (joined pieces) (pours_all rooms (begin_at 0) pieces).listing (pours_all rooms (begin_at 0) pieces).text
    (pieces_went rooms space (begin_at 0) pieces length_none (fresh_unwrapped 0) (omega arith)))
