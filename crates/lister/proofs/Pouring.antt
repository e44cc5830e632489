-- The lines of a chunk, poured into a room.
-- Assumes nothing.
use Rattle.std.specs.Prelude.{Ok, Err, Some, None}
use Rattle.std.proofs.Common.{◌≡◌, ℕ, ◌+◌, ◌-◌, ◌^◌, ◌<◌, ◌≤◌, true, false, List, [], ◌∷◌, ◌++◌, length, take, drop, sym, refl, ap, ◌∙◌, ap₂, ⊎_elim, not-suc-le-zero, add-zero, add_assoc, zero-add, add-one, arith, length-append, length-drop, drop_of_length-le, take_all, drop-drop, le-ltb, lt-ltb}
use native.Mathlib.Nat.{sub-zero, mod-add-mod}
use Rattle.lent.specs.Lent.{over, over_at}
use Rattle.lent.proofs.Laws.{over_at_none, over_at_zero, over_at_append, length-over_at, lay_part}
use Rattle.lines.specs.declared.Event.{Event}
use Rattle.lines.specs.declared.Placed.{Placed}
use Rattle.lines.specs.Lines.{line_text, Writes}
use Rattle.lines.proofs.Laws.{line_short}
use Rattle.listing.specs.Events.{is_ok, is_refused, is_dropped, total}
use Rattle.listing.specs.Listing.{lines_text}
use Rattle.listing.proofs.Events.{no_line_lem, one_line, one_total, no_total}
use Rattle.receiver.specs.declared.Receiver.{Receiver}
use Rattle.receiver.specs.Answers.{Answer}
use Rattle.receiver.specs.declared.Stepped.{Stepped}
use Rattle.lister.specs.declared.Listing.{Listing}
use Rattle.lister.specs.declared.Listed.{Listed}
use Rattle.receiver.specs.declared.Fault.TheVariants.{PastLargest}
use Rattle.receiver.specs.Receiver.{largest, is_past, next, told, stepped, one_more, end_or, step_from, step_refusal, step_of}
use Rattle.receiver.specs.Chunks.{line_in}
use Rattle.receiver.proofs.Chunks.{step_fits}
use Rattle.receiver.proofs.Goes.{on_or_end, step_cons, step-none, step_goes, step_takes}
use Rattle.lister.specs.Text.{longest_line, plus, tally_on, counted, Poured, poured, behind, text_told, onward, pour, pour_of, listed, Lists}
use Rattle.receiver.specs.Parts.{Fits}
use Rattle.lister.specs.Parts.{Fills, kinds_in, kind_of}

-- ---- the totals

pub line_kinds : (answer : Answer) (e : Placed) → answer ≡ Ok (Some e) → kind_of e.event ≡ kinds_in (line_in answer)
line_kinds answer e is = rw (is, one_total is_ok e, one_total is_refused e, one_total is_dropped e) refl

pub no_kinds : (answer : Answer) → line_in answer ≡ [] → record { ok = 0; refused = 0; dropped = 0 } ≡ kinds_in (line_in answer)
no_kinds answer none = rw (none, no_total is_ok, no_total is_refused, no_total is_dropped) refl

-- ---- a line in its place

pub line_put : (answer : Answer) (e : Placed) (at : ℕ) (room : List ℕ) {r : ℕ} {part : List ℕ} → answer ≡ Ok (Some e) → at ≤ length room
    → Writes (line_text e.place e.event) (take (length room - at) (drop at room)) r part
    → (r ≡ length (lines_text (line_in answer))) × (take at room ++ (part ++ drop (length room - at) (drop at room)) ≡ over_at at (lines_text (line_in answer)) room)
line_put answer e at room {part = part} is h w =
    let text : line_text e.place e.event ≡ lines_text (line_in answer) = rw is (sym (one_line e)) in
    (w.0 ∙ ap length text, lay_part at (line_text e.place e.event) room part h w.1 ∙ ap (λ (l : List ℕ). over_at at l room) text)

pub no_text : (answer : Answer) (at : ℕ) (room : List ℕ) → line_in answer ≡ [] → (0 ≡ length (lines_text (line_in answer))) × (room ≡ over_at at (lines_text (line_in answer)) room)
no_text answer at room none = rw (none, no_line_lem) (refl, sym (over_at_none at room))

pub lines_short : (answer : Answer) → length (lines_text (line_in answer)) ≤ longest_line
lines_short (Ok (Some e)) = rw (one_line e) (line_short e.place e.event)
lines_short (Ok None) = rw no_line_lem (omega arith)
lines_short (Err f) = rw no_line_lem (omega arith)

-- ---- pouring, a step at a time

-- counted twice is counted at once
counted_then : (l : Listing) (r s : Receiver) (lines : List Placed) → counted (counted l [] r) lines s ≡ counted l lines s
counted_then l r s lines =
    ap₂ (λ (a : ℕ) (b : ℕ × ℕ). record { receiver = s; tally = tally_on l.tally lines; ok = a; refused = b.0; dropped = b.1 }) (again is_ok l.ok)
    (ap₂ (λ (a b : ℕ). (a, b)) (again is_refused l.refused) (again is_dropped l.dropped))
  where
    again : (counts : Event → ℕ) (n : ℕ) → plus (plus n (total counts [])) (total counts lines) ≡ plus n (total counts lines)
    again counts n = rw (no_total counts, add-zero n) (mod-add-mod n (2 ^ 64) (total counts lines))

pour_none : (l : Listing) (room : ℕ) → pour l room [] ≡ poured l 0 []
unfolding pour
pour_none l room = refl

pour_cons : (l : Listing) (room b : ℕ) (rest : List ℕ) → longest_line ≤ room
    → pour l room (b ∷ rest) ≡ behind 1 (text_told l b) (pour (onward l b) (room - length (text_told l b)) rest)
unfolding pour
pour_cons l room b rest h = rw (le-ltb room longest_line h) refl

pub pour_full : (l : Listing) (room : ℕ) (chunk : List ℕ) → room < longest_line → pour l room chunk ≡ poured l 0 []
unfolding pour
pour_full l room [] h = refl
pour_full l room (b ∷ rest) h = rw (lt-ltb room longest_line h) refl

-- what a step brings, and then the rest
abbrev pub pour_by : Listing → ℕ → List ℕ → Stepped → Poured
pour_by l room chunk s =
    behind s.taken (lines_text (line_in s.answer))
    (pour (counted l (line_in s.answer) s.receiver) (room - length (lines_text (line_in s.answer))) (drop s.taken chunk))

quiet_step : (l : Listing) (room b : ℕ) (rest : List ℕ) (s : Stepped) → line_in (told l.receiver b) ≡ [] → longest_line ≤ room
    → pour (counted l [] (next l.receiver b)) room rest ≡ pour_by (counted l [] (next l.receiver b)) room rest s
    → pour l room (b ∷ rest) ≡ pour_by l room (b ∷ rest) (one_more s)
quiet_step l room b rest s none h ih =
    pour_cons l room b rest h
    ∙ ap (λ (lines : List Placed). behind 1 (lines_text lines) (pour (counted l lines (next l.receiver b)) (room - length (lines_text lines)) rest)) none
    ∙ ap₂ (λ (text : List ℕ) (n : ℕ). behind 1 text (pour (counted l [] (next l.receiver b)) n rest)) no_line_lem (ap (λ (t : List ℕ). room - length t) no_line_lem ∙ sub-zero room)
    ∙ ap (behind 1 []) ih
    ∙ one_first s.taken (lines_text (line_in s.answer)) later
    ∙ ap₂ (λ (k : Listing) (d : List ℕ). behind (s.taken + 1) (lines_text (line_in s.answer)) (pour k (room - length (lines_text (line_in s.answer))) d))
    (counted_then l (next l.receiver b) s.receiver (line_in s.answer)) (ap (λ (n : ℕ). drop n (b ∷ rest)) (sym (add-one s.taken)))
  where
    again : Listing
    again = counted (counted l [] (next l.receiver b)) (line_in s.answer) s.receiver

    later : Poured
    later = pour again (room - length (lines_text (line_in s.answer))) (drop s.taken rest)

    same : (t n : ℕ) → 1 + (t + n) ≡ t + 1 + n
    same t n = omega arith

    one_first : (t : ℕ) (x : List ℕ) (p : Poured) → behind 1 [] (behind t x p) ≡ behind (t + 1) x p
    one_first t x p = ap (λ (n : ℕ). poured p.listing n (x ++ p.text)) (same t p.taken)

line_step : (l : Listing) (room b : ℕ) (rest : List ℕ) (e : Placed) → told l.receiver b ≡ Ok (Some e) → longest_line ≤ room
    → pour l room (b ∷ rest) ≡ pour_by l room (b ∷ rest) (stepped (next l.receiver b) 1 (Ok (Some e)))
line_step l room b rest e is h =
    pour_cons l room b rest h
    ∙ ap (λ (lines : List Placed). behind 1 (lines_text lines) (pour (counted l lines (next l.receiver b)) (room - length (lines_text lines)) rest)) (ap line_in is)

pub pour_step : (l : Listing) (room : ℕ) (chunk : List ℕ) → 0 < length chunk → longest_line ≤ room → pour l room chunk ≡ pour_by l room chunk (step_from l.receiver chunk)
pour_step l room [] some h = absurd (not-suc-le-zero some)
pour_step l room (b ∷ rest) some h =
    ⊎_elim
    (λ p. quiet_step l room b rest later_step p.0 h (later rest (pour_step (counted l [] (next l.receiver b)) room rest)) ∙ ap (pour_by l room (b ∷ rest)) (sym p.1))
    (λ p. line_step l room b rest p.0 p.1 h
    ∙ ap (λ (a : Answer). pour_by l room (b ∷ rest) (end_or a (next l.receiver b) (step_from (next l.receiver b) rest))) (sym p.1))
    (on_or_end (told l.receiver b) (next l.receiver b) (step_from (next l.receiver b) rest))
    ∙ ap (pour_by l room (b ∷ rest)) (sym (step_cons l.receiver b rest))
  where
    on : Listing
    on = counted l [] (next l.receiver b)

    later_step : Stepped
    later_step = step_from (next l.receiver b) rest

    later : (rest : List ℕ) → (0 < length rest → longest_line ≤ room → pour on room rest ≡ pour_by on room rest (step_from on.receiver rest))
        → pour on room rest ≡ pour_by on room rest (step_from on.receiver rest)
    later [] ih =
        pour_none on room ∙ ap₂ (λ (k : Listing) (x : List ℕ). poured k 0 (x ++ [])) (sym (counted_then l on.receiver on.receiver [])) (sym no_line_lem)
        ∙ ap (λ (p : Poured). behind 0 (lines_text []) p) (sym (pour_none (counted on [] on.receiver) (room - length (lines_text []))))
        ∙ ap (pour_by on room []) (sym (step-none on.receiver))
    later (c ∷ rest) ih = ih (omega arith) h

-- a part that is all that is left
pub all_left : (taken : ℕ) (chunk : List ℕ) → take (length chunk - taken) (drop taken chunk) ≡ drop taken chunk
all_left taken chunk = take_all (length chunk - taken) (drop taken chunk) (rw (length-drop taken chunk) (omega arith))

-- ---- the loop: what was poured and what is still to pour is the whole

module _ (l₀ : Listing) (chunk room₀ : List ℕ) where
  abbrev pub whole : Poured
  whole = pour l₀ (length room₀) chunk

  -- still to pour
  abbrev pub rest : Listing → ℕ → ℕ → List ℕ → Poured
  rest l taken size room = pour l (length room - size) (drop taken chunk)

  pub record Going (l : Listing) (taken size : ℕ) (room : List ℕ) : Type 0 where
    pub listing_is : (rest l taken size room).listing ≡ whole.listing
    pub taken_is : taken + (rest l taken size room).taken ≡ whole.taken
    pub size_is : size + length (rest l taken size room).text ≡ length whole.text
    pub room_is : over_at size (rest l taken size room).text room ≡ over whole.text room₀
    pub room_long : length room ≡ length room₀
    pub in_chunk : taken ≤ length chunk
    pub in_room : size ≤ length room
    pub places : l.receiver.place + (length chunk - taken) ≤ largest

  pub going_starts : Fits l₀.receiver.place chunk → Going l₀ 0 0 room₀
  going_starts fits =
      record {
        listing_is = ap (λ (p : Poured). p.listing) same;
        taken_is = zero-add (rest l₀ 0 0 room₀).taken ∙ ap (λ (p : Poured). p.taken) same;
        size_is = zero-add (length (rest l₀ 0 0 room₀).text) ∙ ap (λ (p : Poured). length p.text) same;
        room_is = over_at_zero (rest l₀ 0 0 room₀).text room₀ ∙ ap (λ (p : Poured). over p.text room₀) same;
        room_long = refl;
        in_chunk = omega arith;
        in_room = omega arith;
        places = omega arith;
      }
    where
      same : rest l₀ 0 0 room₀ ≡ whole
      same = ap (λ (n : ℕ). pour l₀ n chunk) (sub-zero (length room₀))

module _ {l₀ : Listing} {chunk room₀ : List ℕ} {l : Listing} {taken size : ℕ} {room : List ℕ} (g : Going l₀ chunk room₀ l taken size room) where
  -- nothing more is poured: the room is full, or the chunk is done
  ends : rest l₀ chunk room₀ l taken size room ≡ poured l 0 [] → let p = whole l₀ chunk room₀ in
      (listed l taken size (Ok tt) ≡ listed p.listing p.taken (length p.text) (Ok tt)) × (room ≡ over p.text room₀)
  ends e = (
    ap₂ (λ (k : Listing) (n : ℕ × ℕ). listed k n.0 n.1 (Ok tt)) (sym (ap (λ (p : Poured). p.listing) e) ∙ g.listing_is)
        (ap₂ (λ (a b : ℕ). (a, b))
        (sym (add-zero taken) ∙ ap (λ (p : Poured). taken + p.taken) (sym e) ∙ g.taken_is)
        (sym (add-zero size) ∙ ap (λ (p : Poured). size + length p.text) (sym e) ∙ g.size_is)),
    sym (over_at_none size room) ∙ ap (λ (p : Poured). over_at size p.text room) (sym e) ∙ g.room_is,
  )

  pub ends_full : length room - size < longest_line → Fills l₀ chunk room₀ (listed l taken size (Ok tt)) room
  ends_full h = ends (pour_full l (length room - size) (drop taken chunk) h)

  pub ends_done : length chunk ≤ taken → Fills l₀ chunk room₀ (listed l taken size (Ok tt)) room
  ends_done h = ends (rw (drop_of_length-le chunk {i = taken} h) (pour_none l (length room - size)))

  pub chunk-fits : taken < length chunk → Fits l.receiver.place (take (length chunk - taken) (drop taken chunk))
  chunk-fits h = let p : l.receiver.place + (length chunk - taken) ≤ largest = g.places in rw (all_left taken chunk, length-drop taken chunk) p

  -- one step on
  module _ (under : taken < length chunk) (space : longest_line ≤ length room - size) (s : Stepped) (by : s ≡ step_of l.receiver (take (length chunk - taken) (drop taken chunk))) where
    is : s ≡ step_from l.receiver (drop taken chunk)
    is = by ∙ step_fits l.receiver (take (length chunk - taken) (drop taken chunk)) (chunk-fits under) ∙ ap (step_from l.receiver) (all_left taken chunk)

    left_over : s.taken ≤ length chunk - taken
    left_over = rw (← length-drop taken chunk, is) (step_goes l.receiver (drop taken chunk)).0

    pub step_less : length chunk - (taken + s.taken) < length chunk - taken
    step_less =
        let some : 0 < s.taken = rw is (step_takes l.receiver (drop taken chunk) (rw (length-drop taken chunk) (omega arith))) in
        omega (arith, left_over)

    pub step_within : taken + s.taken ≤ length chunk
    step_within = omega (arith, left_over)

    pub text_within : {n : ℕ} → n ≡ length (lines_text (line_in s.answer)) → size + n ≤ length room
    text_within {n} e = let h : length (lines_text (line_in s.answer)) ≤ longest_line = lines_short s.answer in omega (arith, g.in_room)

    module _ (n : ℕ) (long : n ≡ length (lines_text (line_in s.answer))) (room' : List ℕ) (laid : room' ≡ over_at size (lines_text (line_in s.answer)) room) where
      next_listing : Listing
      next_listing = counted l (line_in s.answer) s.receiver

      same_long : length room' ≡ length room
      same_long = ap length laid ∙ length-over_at size (lines_text (line_in s.answer)) room

      room_left : length room - size - length (lines_text (line_in s.answer)) ≡ length room' - (size + n)
      room_left = let h = same_long in omega (arith, h)

      stepped_on : rest l₀ chunk room₀ l taken size room
          ≡ behind s.taken (lines_text (line_in s.answer)) (rest l₀ chunk room₀ (counted l (line_in s.answer) s.receiver) (taken + s.taken) (size + n) room')
      stepped_on =
          pour_step l (length room - size) (drop taken chunk) (rw (length-drop taken chunk) (omega arith)) space
          ∙ ap (pour_by l (length room - size) (drop taken chunk)) (sym is)
          ∙ ap₂ (λ (k : ℕ) (d : List ℕ). behind s.taken (lines_text (line_in s.answer)) (pour (counted l (line_in s.answer) s.receiver) k d)) room_left
          (drop-drop s.taken taken chunk)

      pub going_on : Going l₀ chunk room₀ (counted l (line_in s.answer) s.receiver) (taken + s.taken) (size + n) room'
      going_on =
          record {
            listing_is = sym (ap (λ (p : Poured). p.listing) stepped_on) ∙ g.listing_is;
            taken_is = add_assoc taken s.taken later_taken ∙ sym (ap (λ (p : Poured). taken + p.taken) stepped_on) ∙ g.taken_is;
            size_is = sizes ∙ sym (ap (λ (p : Poured). size + length p.text) stepped_on) ∙ g.size_is;
            room_is = rooms ∙ sym (ap (λ (p : Poured). over_at size p.text room) stepped_on) ∙ g.room_is;
            room_long = same_long ∙ g.room_long;
            in_chunk = step_within;
            in_room = rw same_long (text_within long);
            places = place_left;
          }
        where
          later : Poured
          later = rest l₀ chunk room₀ (counted l (line_in s.answer) s.receiver) (taken + s.taken) (size + n) room'

          later_taken : ℕ
          later_taken = (rest l₀ chunk room₀ (counted l (line_in s.answer) s.receiver) (taken + s.taken) (size + n) room').taken

          sizes : size + n + length later.text ≡ size + length (lines_text (line_in s.answer) ++ later.text)
          sizes = rw (length-append (lines_text (line_in s.answer)) later.text) (omega arith)

          rooms : over_at (size + n) later.text room' ≡ over_at size (lines_text (line_in s.answer) ++ later.text) room
          rooms = ap₂ (λ (k : ℕ) (d : List ℕ). over_at (size + k) later.text d) long laid ∙ over_at_append size (lines_text (line_in s.answer)) later.text room

          place_left : s.receiver.place + (length chunk - (taken + s.taken)) ≤ largest
          place_left =
              let to : s.receiver.place ≡ l.receiver.place + s.taken = rw is (step_goes l.receiver (drop taken chunk)).1 in
              omega (arith, g.places, left_over)

-- ---- by 60's test

module _ (l : Listing) (chunk room : List ℕ) where
  pub list_refused : is_past l.receiver.place chunk ≡ true → Lists l chunk room (listed l 0 0 (Err PastLargest)) room
  unfolding pour_of step_refusal over
  list_refused e = rw e (refl, refl)

  pub list_filled : (r : Listed) (room' : List ℕ) → is_past l.receiver.place chunk ≡ false → Fills l chunk room r room' → Lists l chunk room r room'
  unfolding pour_of step_refusal
  list_filled r room' e f = rw e f
