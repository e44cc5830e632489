-- Chunks one after the other against one reading of all bytes joined.
-- Assumes nothing.
use mathlib.Core.Path.{◌≡◌, refl, sym, ap, ap₂, ◌∙◌}
use mathlib.Core.List.{List, [], ◌∷◌, ◌++◌, append-nil}
use mathlib.Core.Logic.{⊎_elim}
use Prim.Native.Nat.{ℕ, zero, suc, ◌+◌, ◌-◌, ◌≤◌, ◌<◌}
use native.Mathlib.Nat.{add-zero, not-suc-le-zero, le_of_eq}
use native.Mathlib.Numerals.{add-one}
use native.Mathlib.Omega.{arith}
use borrow.Author.Tests.{le-ltb}
use lib.ListN.{length, get_or, drop, length-append, length-drop}
use Rattle.lines.specs.declared.Placed.{Placed}
use Rattle.listing.specs.Events.{placed, event_of, events_from, events_of}
use Rattle.listing.specs.Places.{In, thirteens}
use Rattle.listing.proofs.Laws.{as_many, every_13}
use Rattle.receiver.specs.declared.Receiver.{Receiver}
use Rattle.receiver.specs.declared.Stepped.{Stepped}
use Rattle.receiver.specs.Receiver.{largest, outside_at, next, told, step_from, step_refusal, step_of}
use Rattle.receiver.specs.Chunks.{line_in, open_line, steps, feed, joined, receiver_of, IsReading}
use Rattle.receiver.specs.Parts.{Fits, Held}
use Rattle.receiver.proofs.Kept.{length_none}
use Rattle.receiver.proofs.Goes.{next_place, on_or_end, step_cons, step-none, step_goes, step_takes}
use Rattle.receiver.proofs.Laws.{kept_most}
use Rattle.receiver.proofs.Same.{expected, expected_first, expected_end, behind_bytes, from_bytes, next_held, Moved, not_moved, moved_byte, moved_then, moved_joined}

-- ---- a step

-- what a step did to the bytes
abbrev pub MovedBy : Receiver → List ℕ → Stepped → Type 0
MovedBy r chunk s = Moved r chunk s.receiver (line_in s.answer) (drop s.taken chunk)

pub step_moved : (r : Receiver) (chunk : List ℕ) → Held r → MovedBy r chunk (step_from r chunk)
step_moved r [] h = rw (step-none r) (not_moved r [] h)
step_moved r (b ∷ rest) h =
    rw (step_cons r b rest)
    (⊎_elim
    (λ p. rw (p.1, add-one (step_from (next r b) rest).taken) (moved_then (rw p.0 at (moved_byte r b rest h)) (step_moved (next r b) rest (next_held r b h))))
    (λ p. rw p.1 (rw p.1 at (moved_byte r b rest h))) (on_or_end (told r b) (next r b) (step_from (next r b) rest)))

-- a chunk that is not refused
pub step_fits : (r : Receiver) (chunk : List ℕ) → Fits r.place chunk → step_of r chunk ≡ step_from r chunk
unfolding step_of step_refusal
step_fits r chunk fits = rw (le-ltb largest (r.place + length chunk) fits) refl

-- ---- all steps of a chunk

module _ (r : Receiver) (chunk : List ℕ) (fits : Fits r.place chunk) where
  pub rest_fits : Fits (step_from r chunk).receiver.place (drop (step_from r chunk).taken chunk)
  rest_fits =
      let goes = step_goes r chunk in
      let left : length (drop (step_from r chunk).taken chunk) ≡ length chunk - (step_from r chunk).taken = length-drop (step_from r chunk).taken chunk in
      omega (arith, goes.0, goes.1)

pub steps_moved : (n : ℕ) (r : Receiver) (chunk : List ℕ) → Held r → Fits r.place chunk → Moved r chunk (steps n r chunk).receiver (steps n r chunk).lines (steps n r chunk).left
unfolding steps
steps_moved zero r chunk h fits = not_moved r chunk h
steps_moved (suc n) r chunk h fits =
    let one = step_moved r chunk h in
    rw (step_fits r chunk fits) (moved_then one (steps_moved n (step_from r chunk).receiver (drop (step_from r chunk).taken chunk) one.held (rest_fits r chunk fits)))

-- "steps over a chunk end after at most its length"
pub steps_end : (n : ℕ) (r : Receiver) (chunk : List ℕ) → Fits r.place chunk → length chunk ≤ n → (steps n r chunk).left ≡ []
unfolding steps
steps_end zero r [] fits h = refl
steps_end zero r (b ∷ rest) fits h = absurd (not-suc-le-zero h)
steps_end (suc n) r chunk fits h =
    rw (step_fits r chunk fits) (steps_end n (step_from r chunk).receiver (drop (step_from r chunk).taken chunk) (rest_fits r chunk fits) (fewer chunk h (step_takes r chunk)))
  where
    fewer : (xs : List ℕ) {t : ℕ} → length xs ≤ suc n → (0 < length xs → 0 < t) → length (drop t xs) ≤ n
    fewer [] {t} l some = rw (length-drop {A = ℕ} t []) (omega arith)
    fewer (x ∷ xs) {t} l some = let h : 0 < t = some (omega arith) in rw (length-drop t (x ∷ xs)) (omega arith)

-- ---- chunks

pub place_behind : (r : Receiver) (xs : List ℕ) → (behind_bytes r xs).place ≡ r.place + length xs
unfolding behind_bytes
place_behind r [] = sym (add-zero r.place)
place_behind r (b ∷ rest) = place_behind (next r b) rest ∙ ap (λ (p : ℕ). p + length rest) (next_place r b) ∙ one_on r.place (length rest)
  where
    one_on : (p n : ℕ) → p + 1 + n ≡ p + suc n
    one_on p n = omega arith

-- the receiver behind bytes that were all taken
pub behind_is : {r r' : Receiver} {chunk : List ℕ} {lines : List Placed} → Moved r chunk r' lines [] → r' ≡ behind_bytes r chunk
unfolding behind_bytes
behind_is {r} {chunk = chunk} m = m.same_receiver [] ∙ ap (behind_bytes r) (append-nil chunk)

pub place_after : {r r' : Receiver} {chunk : List ℕ} {lines : List Placed} → Moved r chunk r' lines [] → r'.place ≡ r.place + length chunk
place_after {r} {chunk = chunk} m = ap (λ (s : Receiver). s.place) (behind_is m) ∙ place_behind r chunk

whole_chunk : (r : Receiver) (chunk : List ℕ) → Held r → Fits r.place chunk
    → Moved r chunk (steps (length chunk) r chunk).receiver (steps (length chunk) r chunk).lines []
whole_chunk r chunk h fits = rw (steps_end (length chunk) r chunk fits (le_of_eq refl)) at (steps_moved (length chunk) r chunk h fits)

pub feed_moved : (r : Receiver) (chunks : List (List ℕ)) → Held r → Fits r.place (joined chunks)
    → Moved r (joined chunks) (feed r chunks).receiver (feed r chunks).lines [] × ((feed r chunks).left ≡ [])
unfolding feed joined
feed_moved r [] h fits = (not_moved r [] h, refl)
feed_moved r (chunk ∷ chunks) h fits =
    let long : length (chunk ++ joined chunks) ≡ length chunk + length (joined chunks) = length-append chunk (joined chunks) in
    let here : Fits r.place chunk = omega arith in
    let one = whole_chunk r chunk h here in
    let place : (steps (length chunk) r chunk).receiver.place ≡ r.place + length chunk = place_after one in
    let more = feed_moved (steps (length chunk) r chunk).receiver chunks one.held (omega arith) in
    (moved_joined one more.0, ap₂ (λ (a b : List ℕ). a ++ b) (steps_end (length chunk) r chunk here (le_of_eq refl)) more.1)

-- ---- "however the bytes were cut"

-- from bytes that were all taken to what they alone give
pub reading : (place : ℕ) (bytes : List ℕ) {r : Receiver} {lines : List Placed} → Moved (outside_at place) bytes r lines []
    → (lines ++ open_line r ≡ events_from place bytes) × (r ≡ receiver_of place bytes)
reading place bytes {r} {lines} m = (
  ap (λ (l : List Placed). lines ++ l) (sym (expected_end r)) ∙ m.same_lines [] ∙ ap (expected (outside_at place)) (append-nil bytes) ∙ expected_first place bytes,
  behind_is m ∙ from_bytes place bytes,
)

pub same_reading : (place : ℕ) (chunks : List (List ℕ)) → place + length (joined chunks) ≤ largest → IsReading place (joined chunks) (feed (outside_at place) chunks)
same_reading place chunks fits =
    let m = feed_moved (outside_at place) chunks length_none fits in
    let s = reading place (joined chunks) m.0 in
    record { all_taken = m.1; same_lines = s.0; same_receiver = s.1 }

-- two cuts of the same bytes
pub same_cuts : (place : ℕ) (a b : List (List ℕ)) → joined a ≡ joined b → place + length (joined a) ≤ largest
    → let f = feed (outside_at place) a in let g = feed (outside_at place) b in
    (f.receiver ≡ g.receiver) × (f.lines ++ open_line f.receiver ≡ g.lines ++ open_line g.receiver)
same_cuts place a b e fits =
    let p = same_reading place a fits in
    let q = same_reading place b (rw (← e) fits) in
    (p.same_receiver ∙ ap (receiver_of place) e ∙ sym q.same_receiver, p.same_lines ∙ ap (events_from place) e ∙ sym q.same_lines)

-- and each 13 has its own line, as the bytes behind it decide, whatever chunks they came in
pub chunk_13s : (chunks : List (List ℕ)) → length (joined chunks) ≤ largest → (i : ℕ) → i < length (joined chunks) → get_or (joined chunks) i 0 ≡ 13
    → In (placed (0 + i) (event_of (drop (i + 1) (joined chunks)))) ((feed (outside_at 0) chunks).lines ++ open_line (feed (outside_at 0) chunks).receiver)
unfolding events_of
chunk_13s chunks fits i h e = rw (same_reading 0 chunks (omega arith)).same_lines (every_13 (joined chunks) i h e)

-- so there are as many lines as 13s, and no more than 494 bytes of a frame are kept, whatever chunks came
pub chunk_lines : (place : ℕ) (chunks : List (List ℕ)) → place + length (joined chunks) ≤ largest
    → length ((feed (outside_at place) chunks).lines ++ open_line (feed (outside_at place) chunks).receiver) ≡ thirteens (joined chunks)
chunk_lines place chunks fits = ap length (same_reading place chunks fits).same_lines ∙ as_many (joined chunks) place

pub chunk_kept : (place : ℕ) (chunks : List (List ℕ)) → place + length (joined chunks) ≤ largest → (feed (outside_at place) chunks).receiver.size ≤ 494
chunk_kept place chunks fits = rw (same_reading place chunks fits).same_receiver (kept_most place (joined chunks))
