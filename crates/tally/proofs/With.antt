-- "and #101's sameness wants no 76 either": chunks that are taken by steps with one tally.
-- Assumes nothing.
use Rattle.std.specs.Prelude.{Ok, Err, Some, None}
use mathlib.Core.Path.{◌≡◌, refl, sym, ap, ◌∙◌}
use mathlib.Core.Bool.{Bool, true, false, cond, ◌||◌, true≢false}
use mathlib.Core.List.{List, [], ◌∷◌, ◌++◌}
use Prim.Native.Nat.{ℕ, zero, suc, ◌+◌, ◌≤◌}
use native.Mathlib.Nat.{add-zero}
use lib.Dec.{eqb}
use lib.ListN.{length, drop}
use Rattle.rows.specs.Rows.{stands}
use Rattle.lines.specs.declared.Event.{Event}
use Rattle.lines.specs.declared.Event.TheVariants.{Open}
use Rattle.lines.specs.declared.Placed.{Placed}
use Rattle.listing.specs.Events.{placed, events_from, total, is_ok, is_refused, is_dropped}
use Rattle.listing.proofs.Events.{total-append}
use Rattle.receiver.specs.Receiver.{largest, outside_at, is_inside, step_of}
use Rattle.receiver.specs.Chunks.{line_in, Run, after, steps, feed, joined, open_line, IsReading}
use Rattle.receiver.specs.Answers.{Answer as Ended}
use Rattle.receiver.specs.declared.Receiver.{Receiver}
use Rattle.receiver.proofs.Chunks.{same_reading, same_cuts}
use Rattle.tally.specs.declared.Stepped.{Stepped}
use Rattle.tally.specs.declared.Tally.{Tally}
use Rattle.tally.specs.Tally.{Clears, IsTallyFull, told}
use Rattle.tally.specs.Count.{passed_on, line_told, number_told, Tallies, Adds, step_with, tally_with, Tallied, steps_with, feed_with}
use Rattle.tally.proofs.Laws.{full_undone, receivers_own, step_adds}
use Rattle.tally.proofs.Since.{tallies_then, adds_then}

-- ---- numbers that are not told

stands_append : (n : ℕ) (a b : List ℕ) → stands n (a ++ b) ≡ (stands n a || stands n b)
stands_append n [] b = refl
stands_append n (m ∷ a) b = go (eqb n m) (stands_append n a b)
  where
    go : (t : Bool) → stands n (a ++ b) ≡ (stands n a || stands n b) → (t || stands n (a ++ b)) ≡ ((t || stands n a) || stands n b)
    go true ih = refl
    go false ih = ih

neither : (a b : Bool) → (a || b) ≡ false → (a ≡ false) × (b ≡ false)
neither true b e = absurd (true≢false e)
neither false b e = (refl, e)

apart : (n : ℕ) (a b : List ℕ) → stands n (a ++ b) ≡ false → (stands n a ≡ false) × (stands n b ≡ false)
apart n a b e = neither (stands n a) (stands n b) (sym (stands_append n a b) ∙ e)

-- ---- a step that is not 76 is the receiver's own

line_told_lem : (a : Ended) → line_told (told a) ≡ line_in a
line_told_lem (Ok (Some line)) = refl
line_told_lem (Ok None) = refl
line_told_lem (Err f) = refl

not_76 : (t : Tally) (r : Receiver) (chunk : List ℕ) → stands 76 (number_told (step_with t r chunk).answer) ≡ false → step_with t r chunk ≡ passed_on (step_of r chunk)
not_76 t r chunk e = receivers_own t r chunk {t' = tally_with t r chunk} not_full (refl, refl) refl
  where
    not_full : IsTallyFull t r chunk → ⊥
    not_full full =
        let told_76 : number_told (step_with t r chunk).answer ≡ 76 ∷ [] = ap (λ (s : Stepped). number_told s.answer) (full_undone t r chunk {t' = tally_with t r chunk} (refl, refl) full).0 in
        true≢false (ap (stands 76) (sym told_76) ∙ e)

-- ---- so are all steps of a chunk, and all chunks

pub steps_same : (n : ℕ) (t : Tally) (r : Receiver) (chunk : List ℕ) → stands 76 (steps_with n t r chunk).numbers ≡ false → (steps_with n t r chunk).reading ≡ steps n r chunk
unfolding steps_with steps
steps_same zero t r chunk e = refl
steps_same (suc n) t r chunk e =
    let parts = apart 76 (number_told (step_with t r chunk).answer) (steps_with n (tally_with t r chunk) (step_with t r chunk).receiver (drop (step_with t r chunk).taken chunk)).numbers e in
    go (step_with t r chunk) (not_76 t r chunk parts.0) (steps_same n (tally_with t r chunk) (step_with t r chunk).receiver (drop (step_with t r chunk).taken chunk) parts.1)
  where
    go : (s : Stepped) → s ≡ passed_on (step_of r chunk)
        → (steps_with n (tally_with t r chunk) s.receiver (drop s.taken chunk)).reading ≡ steps n s.receiver (drop s.taken chunk)
        → after (line_told s.answer) [] (steps_with n (tally_with t r chunk) s.receiver (drop s.taken chunk)).reading
        ≡ after (line_in (step_of r chunk).answer) [] (steps n (step_of r chunk).receiver (drop (step_of r chunk).taken chunk))
    go s is ih =
        ap (after (line_told s.answer) []) ih
        ∙ ap (λ (s : Stepped). after (line_told s.answer) [] (steps n s.receiver (drop s.taken chunk))) is
        ∙ ap (λ (l : List Placed). after l [] (steps n (step_of r chunk).receiver (drop (step_of r chunk).taken chunk))) (line_told_lem (step_of r chunk).answer)

pub feed_same : (t : Tally) (r : Receiver) (chunks : List (List ℕ)) → stands 76 (feed_with t r chunks).numbers ≡ false → (feed_with t r chunks).reading ≡ feed r chunks
unfolding feed_with feed
feed_same t r [] e = refl
feed_same t r (chunk ∷ chunks) e =
    let parts = apart 76 (steps_with (length chunk) t r chunk).numbers (feed_with (steps_with (length chunk) t r chunk).tally (steps_with (length chunk) t r chunk).reading.receiver chunks).numbers e in
    go (steps_with (length chunk) t r chunk).reading (steps_same (length chunk) t r chunk parts.0)
    (feed_same (steps_with (length chunk) t r chunk).tally (steps_with (length chunk) t r chunk).reading.receiver chunks parts.1)
  where
    go : (s : Run) → s ≡ steps (length chunk) r chunk → (feed_with (steps_with (length chunk) t r chunk).tally s.receiver chunks).reading ≡ feed s.receiver chunks
        → after s.lines s.left (feed_with (steps_with (length chunk) t r chunk).tally s.receiver chunks).reading
        ≡ after (steps (length chunk) r chunk).lines (steps (length chunk) r chunk).left (feed (steps (length chunk) r chunk).receiver chunks)
    go s is ih = ap (after s.lines s.left) ih ∙ ap (λ (s : Run). after s.lines s.left (feed s.receiver chunks)) is

-- ---- "however the bytes were cut": with no 76, and no 60, one reading of all bytes joined, whatever the tally was

pub same_reading_with : (t : Tally) (place : ℕ) (chunks : List (List ℕ)) → stands 76 (feed_with t (outside_at place) chunks).numbers ≡ false
    → place + length (joined chunks) ≤ largest → IsReading place (joined chunks) (feed_with t (outside_at place) chunks).reading
same_reading_with t place chunks e fits = rw (feed_same t (outside_at place) chunks e) (same_reading place chunks fits)

-- ---- the tally behind the chunks: one for each line of each number's kind, 76 or not

abbrev AddsTo : Tally → Tallied → Type 0
AddsTo t s = Adds t s.reading.lines s.tally

pub steps_add : (n : ℕ) (t : Tally) (r : Receiver) (chunk : List ℕ) → AddsTo t (steps_with n t r chunk)
unfolding steps_with total
steps_add zero t r chunk = (sym (add-zero t.read), sym (add-zero t.refused), sym (add-zero t.dropped))
steps_add (suc n) t r chunk =
    let later = steps_with n (tally_with t r chunk) (step_with t r chunk).receiver (drop (step_with t r chunk).taken chunk) in
    adds_then (line_told (step_with t r chunk).answer) later.reading.lines t (tally_with t r chunk) later.tally (step_adds t r chunk {s = step_with t r chunk} (refl, refl))
    (steps_add n (tally_with t r chunk) (step_with t r chunk).receiver (drop (step_with t r chunk).taken chunk))

pub feed_adds : (t : Tally) (r : Receiver) (chunks : List (List ℕ)) → AddsTo t (feed_with t r chunks)
unfolding feed_with total
feed_adds t r [] = (sym (add-zero t.read), sym (add-zero t.refused), sym (add-zero t.dropped))
feed_adds t r (chunk ∷ chunks) =
    let first = steps_with (length chunk) t r chunk in
    let later = feed_with first.tally first.reading.receiver chunks in
    adds_then first.reading.lines later.reading.lines t first.tally later.tally (steps_add (length chunk) t r chunk) (feed_adds first.tally first.reading.receiver chunks)

-- from a cleared one each number is the count of such lines of that reading
pub feed_counted : (t : Tally) (r : Receiver) (chunks : List (List ℕ)) → Clears t → Tallies (feed_with t r chunks).reading.lines (feed_with t r chunks).tally
unfolding total
feed_counted t r chunks c = tallies_then [] (feed_with t r chunks).reading.lines t (feed_with t r chunks).tally (rw c (refl, refl, refl)) (feed_adds t r chunks)

-- an open frame's line is in none of the numbers
open_none : (counts : Event → ℕ) → counts Open ≡ 0 → (lines : List Placed) (r : Receiver) → total counts (lines ++ open_line r) ≡ total counts lines
unfolding total
open_none counts none_open lines r =
    total-append counts lines (open_line r) ∙ ap (λ (n : ℕ). total counts lines + n) (go (is_inside r)) ∙ add-zero (total counts lines)
  where
    go : (t : Bool) → total counts (cond t (placed r.start Open ∷ []) []) ≡ 0
    go true = ap (λ (n : ℕ). n + 0) none_open
    go false = refl

-- so with no 76, and no 60, a cleared tally has the totals of one reading of all bytes joined
pub feed_totals : (t : Tally) (place : ℕ) (chunks : List (List ℕ)) → stands 76 (feed_with t (outside_at place) chunks).numbers ≡ false
    → place + length (joined chunks) ≤ largest → Clears t → Tallies (events_from place (joined chunks)) (feed_with t (outside_at place) chunks).tally
feed_totals t place chunks e fits c = let h = feed_counted t (outside_at place) chunks c in (h.0 ∙ all is_ok refl, h.1 ∙ all is_refused refl, h.2 ∙ all is_dropped refl)
  where
    all : (counts : Event → ℕ) → counts Open ≡ 0 → total counts (feed_with t (outside_at place) chunks).reading.lines ≡ total counts (events_from place (joined chunks))
    all counts none_open =
        let fed = (feed_with t (outside_at place) chunks).reading in
        sym (open_none counts none_open fed.lines fed.receiver) ∙ ap (total counts) (same_reading_with t place chunks e fits).same_lines

-- and two cuts of the same bytes give the same receiver, the same lines with the open frame's, and the same tally
module _ (t : Tally) (place : ℕ) (a b : List (List ℕ)) (p : stands 76 (feed_with t (outside_at place) a).numbers ≡ false) (q : stands 76 (feed_with t (outside_at place) b).numbers ≡ false)
    (e : joined a ≡ joined b) (fits : place + length (joined a) ≤ largest) where
  abbrev f : Tallied
  f = feed_with t (outside_at place) a

  abbrev g : Tallied
  g = feed_with t (outside_at place) b

  pub same_cuts_with : (f.reading.receiver ≡ g.reading.receiver) × (f.reading.lines ++ open_line f.reading.receiver ≡ g.reading.lines ++ open_line g.reading.receiver)
  same_cuts_with = rw (feed_same t (outside_at place) a p, feed_same t (outside_at place) b q) (same_cuts place a b e fits)

  same_total : (counts : Event → ℕ) → counts Open ≡ 0 → total counts f.reading.lines ≡ total counts g.reading.lines
  same_total counts none_open =
      sym (open_none counts none_open f.reading.lines f.reading.receiver) ∙ ap (total counts) same_cuts_with.1 ∙ open_none counts none_open g.reading.lines g.reading.receiver

  pub same_tally_with : f.tally ≡ g.tally
  same_tally_with = λ i. record { read = by_read i; refused = by_refused i; dropped = by_dropped i }
    where
      one : AddsTo t f
      one = feed_adds t (outside_at place) a

      two : AddsTo t g
      two = feed_adds t (outside_at place) b

      by_read : f.tally.read ≡ g.tally.read
      by_read = one.0 ∙ ap (λ (n : ℕ). t.read + n) (same_total is_ok refl) ∙ sym two.0

      by_refused : f.tally.refused ≡ g.tally.refused
      by_refused = one.1 ∙ ap (λ (n : ℕ). t.refused + n) (same_total is_refused refl) ∙ sym two.1

      by_dropped : f.tally.dropped ≡ g.tally.dropped
      by_dropped = one.2 ∙ ap (λ (n : ℕ). t.dropped + n) (same_total is_dropped refl) ∙ sym two.2
