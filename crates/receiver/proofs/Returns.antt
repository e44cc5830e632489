-- What the functions return, by their tests.
-- Assumes nothing.
use Rattle.std.specs.Prelude.{Err}
use mathlib.Core.Path.{◌≡◌, refl, sym, ap₂, ◌∙◌}
use mathlib.Core.Bool.{Bool, true, false}
use mathlib.Core.List.{List, [], ◌∷◌}
use Prim.Native.Nat.{ℕ, ◌+◌, ◌-◌, ◌≤◌, ◌<◌, min}
use native.Mathlib.Nat.{sub-zero}
use native.Mathlib.Omega.{arith}
use borrow.Author.Tests.{le-leb, lt-leb, lt-ltb, le-ltb, ltb-true, ltb-false}
use lib.Dec.{ltb}
use lib.ListN.{length, take, drop, set, replicate, length-take, length-drop}
use Rattle.lent.specs.Lent.{over, over_at}
use Rattle.telegram.specs.declared.Fault.TheVariants.{LongMessage}
use Rattle.lines.specs.declared.Event.{Event}
use Rattle.lines.specs.declared.Event.TheVariants.{Refused}
use Rattle.listing.specs.Events.{frame_event, to_next_end}
use Rattle.receiver.specs.declared.Receiver.{Receiver}
use Rattle.receiver.specs.declared.Stepped.{Stepped}
use Rattle.receiver.specs.declared.Fault.TheVariants.{PastLargest}
use Rattle.receiver.specs.Receiver.{largest, no_bytes, is_past, stepped, step_from, step_refusal, step_of}
use Rattle.receiver.specs.Parts.{Fits, size_by, grown_by, closed_by}

-- 60's test without a sum
pub past_test : (place n : ℕ) → place ≤ largest → ltb (largest - place) n ≡ ltb largest (place + n)
past_test place n h = go (ltb (largest - place) n) refl
  where
    go : (t : Bool) → ltb (largest - place) n ≡ t → t ≡ ltb largest (place + n)
    go true e = let z : largest - place < n = ltb-true (largest - place) n e in sym (lt-ltb largest (place + n) (omega arith))
    go false e = let z : n ≤ largest - place = ltb-false (largest - place) n e in sym (le-ltb largest (place + n) (omega arith))

-- a 13 in front of nothing
pub first-kept : set (replicate 494 0) 0 13 ≡ over_at 0 (13 ∷ []) no_bytes
unfolding no_bytes over_at over
first-kept = refl

module _ (size more : ℕ) where
  pub ran_away_lem : 494 ≤ size → size ≡ size_by size more
  ran_away_lem h = rw (le-leb 494 size h) refl

  pub runs_away : size < 494 → 494 - size < more → 494 ≡ size_by size more
  runs_away h g = rw (lt-leb 494 size h, lt-ltb (494 - size) more g) refl

  pub grows : size < 494 → more ≤ 494 - size → size + more ≡ size_by size more
  grows h g = rw (lt-leb 494 size h, le-ltb (494 - size) more g) refl

module _ (r : Receiver) (more : List ℕ) where
  pub grown_is : (size : ℕ) (bytes : List ℕ) → size ≡ size_by r.size (length more) → bytes ≡ over_at r.size more r.bytes
      → record { place = r.place + length more; start = r.start; size = size; bytes = bytes } ≡ grown_by r more
  grown_is size bytes s b = ap₂ (λ (size : ℕ) (bytes : List ℕ). record { place = r.place + length more; start = r.start; size = size; bytes = bytes }) s b

  pub was_away : 494 ≤ r.size → Refused LongMessage ≡ closed_by r more
  was_away h = rw (le-leb 494 r.size h) refl

  pub gets_away : r.size < 494 → 494 - r.size < length more → Refused LongMessage ≡ closed_by r more
  gets_away h g = rw (lt-leb 494 r.size h, lt-ltb (494 - r.size) (length more) g) refl

  pub closes : (event : Event) (bytes : List ℕ) → r.size < 494 → length more ≤ 494 - r.size → event ≡ frame_event (take (r.size + length more - 0) bytes)
      → bytes ≡ over_at r.size more r.bytes → event ≡ closed_by r more
  closes event bytes h g e b =
      rw (lt-leb 494 r.size h, le-ltb (494 - r.size) (length more) g)
      (e ∙ ap₂ (λ (n : ℕ) (l : List ℕ). frame_event (take n l)) (sub-zero (r.size + length more)) b)

-- the rest of a chunk that fits, behind a 13
pub rest_fits : (place at n : ℕ) (chunk : List ℕ) → Fits place chunk → at < length chunk → Fits (place + at + 1) (take n (drop (at + 1) chunk))
rest_fits place at n chunk fits under =
    let part : length (take n (drop (at + 1) chunk)) ≡ min n (length (drop (at + 1) chunk)) = length-take n (drop (at + 1) chunk) in
    let rest : length (drop (at + 1) chunk) ≡ length chunk - (at + 1) = length-drop (at + 1) chunk in
    omega arith

-- ---- a step, by 60's test

module _ (r : Receiver) (chunk : List ℕ) where
  pub step_refused : is_past r.place chunk ≡ true → stepped r 0 (Err PastLargest) ≡ step_of r chunk
  unfolding step_of step_refusal
  step_refused e = rw e refl

  pub step_taken : (s : Stepped) → is_past r.place chunk ≡ false → s ≡ step_from r chunk → s ≡ step_of r chunk
  unfolding step_of step_refusal
  step_taken s e p = rw e p

pub not_past : (place : ℕ) (chunk : List ℕ) → is_past place chunk ≡ false → Fits place chunk
not_past place chunk e = ltb-false largest (place + length chunk) e

-- ---- the end of the open frame, looked for from the chunk's first byte on

module _ (chunk : List ℕ) (end : ℕ) where
  pub from_start : end ≡ 0 + to_next_end chunk → to_next_end chunk ≡ end
  from_start e = omega arith

  pub from_first : length chunk ≤ end → end ≡ 0 + to_next_end chunk → length chunk ≤ to_next_end chunk
  from_first h e = omega arith

  pub all_taken : length chunk ≤ end → end ≤ length chunk → end ≡ length chunk
  all_taken h g = omega arith
