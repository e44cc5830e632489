-- What is promised of the night listing, sentence by sentence.
-- Assumes nothing.
use Rattle.std.specs.Prelude.{Ok, Err}
use mathlib.Core.Path.{◌≡◌, refl, sym, ap, ◌∙◌}
use mathlib.Core.Bool.{Bool, true, false, cond, ◌||◌}
use mathlib.Core.List.{List, [], ◌∷◌, ◌++◌}
use mathlib.Core.Logic.{◌⊎◌, inl, inr, ⊎_elim}
use Prim.Native.Nat.{ℕ, zero, suc, ◌+◌, ◌≤◌, ◌<◌}
use native.Mathlib.Nat.{add-zero, add-suc, le_of_suc-le-suc, not-suc-le-zero}
use native.Mathlib.Numerals.{add-one}
use native.Mathlib.Omega.{arith}
use borrow.Author.Tests.{lt-ltb, le-ltb, eq-eqb, eqb-true, leb-true}
use lib.Dec.{eqb, leb, ltb}
use lib.ListN.{length, get_or, drop, take}
use mathlib.Core.Option.{some}
use Rattle.rows.proofs.Laws.{clash}
use Rattle.telegram.proofs.Faulty.{place_told}
use Rattle.telegram.specs.Read.{read_frame, FirstFaulty, fault_number, fault_place}
use Rattle.telegram.specs.declared.Fault.{Fault}
use Rattle.telegram.specs.Answers.{Reading}
use Rattle.lines.specs.declared.Event.{Event}
use Rattle.lines.specs.declared.Event.TheVariants.{Refused, Dropped, Open}
use Rattle.lines.specs.declared.Placed.{Placed}
use Rattle.telegram.specs.declared.Fault.TheVariants.{LongMessage}
use Rattle.listing.specs.Events.{placed, read_event, frame_event, to_next, to_next_end, event_of, events_from, events_of, total, is_ok, is_refused, is_dropped, is_open}
use Rattle.listing.proofs.Events.{events_none, events_cons, one_kind, no_total, one_total, total-append}
use Rattle.listing.specs.Places.{In, RisingFrom, Of13, thirteens, shifted}

-- ---- each frame of the capture has one line, in order of its place: the events are those of the 13s, at rising places

rising_later : (es : List Placed) (n : ℕ) → RisingFrom (suc n) es → RisingFrom n es
rising_later [] n r = tt
rising_later (e ∷ es) n r = let h : suc n ≤ e.place = r.0 in (omega arith, r.1)

rising_from : (xs : List ℕ) (from : ℕ) → RisingFrom from (events_from from xs)
rising_from [] from = rw (events_none from) tt
rising_from (b ∷ xs) from = rw (events_cons from b xs) (go (eqb b 13) (rising_from xs (suc from)))
  where
    go : (t : Bool) → RisingFrom (suc from) (events_from (suc from) xs) → RisingFrom from (cond t (placed from (event_of xs) ∷ []) [] ++ events_from (suc from) xs)
    go true ih = (omega arith, ih)
    go false ih = rising_later (events_from (suc from) xs) from ih

pub rising : (capture : List ℕ) → RisingFrom 0 (events_of capture)
unfolding events_of
rising capture = rising_from capture 0

drop_suc : (b i : ℕ) (xs : List ℕ) → drop (suc i + 1) (b ∷ xs) ≡ drop (i + 1) xs
drop_suc b i xs = rw (add-one (suc i), add-one i) refl

later_13 : (b : ℕ) (xs : List ℕ) (from : ℕ) (e : Placed) → Of13 xs (suc from) e → Of13 (b ∷ xs) from e
later_13 b xs from e o = let h : o.0 < length xs = o.2 in let p : e.place ≡ suc from + o.0 = o.1 in (suc o.0, omega arith, omega arith, o.3, o.4 ∙ ap event_of (sym (drop_suc b o.0 xs)))

only_from : (xs : List ℕ) (from : ℕ) (e : Placed) → In e (events_from from xs) → Of13 xs from e
only_from [] from e m = absurd (rw (events_none from) at m)
only_from (b ∷ xs) from e m = go (eqb b 13) refl (only_from xs (suc from) e) (rw (events_cons from b xs) at m)
  where
    go : (t : Bool) → eqb b 13 ≡ t → (In e (events_from (suc from) xs) → Of13 xs (suc from) e) → In e (cond t (placed from (event_of xs) ∷ []) [] ++ events_from (suc from) xs) → Of13 (b ∷ xs) from e
    go true p ih m =
        ⊎_elim
        (λ q. (0, ap (λ (x : Placed). x.place) q ∙ sym (add-zero from), omega arith, eqb-true b 13 p, ap (λ (x : Placed). x.event) q))
        (λ q. later_13 b xs from e (ih q)) m
    go false p ih m = later_13 b xs from e (ih m)

-- no line but for a 13
pub only_13s : (capture : List ℕ) (e : Placed) → In e (events_of capture) → Of13 capture 0 e
unfolding events_of
only_13s capture e m = only_from capture 0 e m

in_later : (es rest : List Placed) (e : Placed) → In e rest → In e (es ++ rest)
in_later [] rest e m = m
in_later (x ∷ es) rest e m = inr (in_later es rest e m)

every_from : (xs : List ℕ) (from i : ℕ) → i < length xs → get_or xs i 0 ≡ 13 → In (placed (from + i) (event_of (drop (i + 1) xs))) (events_from from xs)
every_from [] from i h e = absurd (not-suc-le-zero h)
every_from (b ∷ xs) from zero h e = rw (events_cons from b xs, add-zero from) (simp (eq-eqb b 13 e) (inl refl))
every_from (b ∷ xs) from (suc i) h e =
    let k : from + suc i ≡ suc from + i = omega arith in
    rw (events_cons from b xs, k, drop_suc b i xs)
    (in_later (cond (eqb b 13) (placed from (event_of xs) ∷ []) []) (events_from (suc from) xs) _
    (every_from xs (suc from) i (le_of_suc-le-suc h) e))

-- each 13 has its line
pub every_13 : (capture : List ℕ) (i : ℕ) → i < length capture → get_or capture i 0 ≡ 13 → In (placed (0 + i) (event_of (drop (i + 1) capture))) (events_of capture)
unfolding events_of
every_13 capture i h e = every_from capture 0 i h e

-- ---- ok, refused and dropped, and 1 where one is open, are together the number of 13s

kinds_are : (es : List Placed) → total is_ok es + (total is_refused es + (total is_dropped es + total is_open es)) ≡ length es
unfolding total
kinds_are [] = refl
kinds_are (e ∷ es) =
    let ih : total is_ok es + (total is_refused es + (total is_dropped es + total is_open es)) ≡ length es = kinds_are es in
    let one : is_ok e.event + (is_refused e.event + (is_dropped e.event + is_open e.event)) ≡ 1 = one_kind e.event in
    omega arith

-- each 13 has one event
pub as_many : (xs : List ℕ) (from : ℕ) → length (events_from from xs) ≡ thirteens xs
unfolding thirteens
as_many [] from = ap length (events_none from)
as_many (b ∷ xs) from = ap length (events_cons from b xs) ∙ go (eqb b 13) (as_many xs (suc from))
  where
    go : (t : Bool) → length (events_from (suc from) xs) ≡ thirteens xs
        → length (cond t (placed from (event_of xs) ∷ []) [] ++ events_from (suc from) xs) ≡ cond t 1 0 + thirteens xs
    go true ih = omega arith
    go false ih = omega arith

pub thirteens_are : (capture : List ℕ)
    → total is_ok (events_of capture) + (total is_refused (events_of capture) + (total is_dropped (events_of capture) + total is_open (events_of capture))) ≡ thirteens capture
unfolding events_of
thirteens_are capture = kinds_are (events_from 0 capture) ∙ as_many capture 0

to_next_lem : (b : ℕ) (rest : List ℕ) → to_next_end (b ∷ rest) ≡ cond (eqb b 10 || eqb b 13) 0 (suc (to_next_end rest))
unfolding to_next
to_next_lem b rest = refl

-- one is open at most: behind its 13 there is no other
none_after : (xs : List ℕ) (from : ℕ) → length xs ≤ to_next_end xs → events_from from xs ≡ []
none_after [] from h = events_none from
none_after (b ∷ xs) from h = go (eqb b 10) (eqb b 13) refl refl (none_after xs (suc from)) (rw (to_next_lem b xs) at h)
  where
    go : (s t : Bool) → eqb b 10 ≡ s → eqb b 13 ≡ t → (length xs ≤ to_next_end xs → events_from (suc from) xs ≡ [])
        → suc (length xs) ≤ cond (eqb b 10 || eqb b 13) 0 (suc (to_next_end xs)) → events_from from (b ∷ xs) ≡ []
    go true t p q ih h = absurd (not-suc-le-zero (rw p at h))
    go false true p q ih h = absurd (not-suc-le-zero (rw (p, q) at h))
    go false false p q ih h = events_cons from b xs ∙ rw q (ih (le_of_suc-le-suc (rw (p, q) at h)))

-- ---- 02's #101: "a frame over 494 bytes is refused 5, ahead of numbers 2 to 4"

module _ (frame : List ℕ) where
  pub too_long : 494 < length frame → Refused LongMessage ≡ frame_event frame
  unfolding frame_event
  too_long h = rw (lt-ltb 494 (length frame) h) refl

  pub is_read : length frame ≤ 494 → read_event (read_frame frame 240) ≡ frame_event frame
  unfolding frame_event
  is_read h = rw (le-ltb 494 (length frame) h) refl

  -- 02, #105: a line `refused 3` has the place of the first faulty 94; over 494 bytes 5 goes first, which has none
  pub refused_line_place : (f : Fault) → frame_event frame ≡ Refused f → fault_number f ≡ 3 → FirstFaulty frame (fault_place f)
  unfolding frame_event
  refused_line_place f is number = go (ltb 494 (length frame)) is
    where
      same : Refused LongMessage ≡ Refused f → LongMessage ≡ f
      same e = cc

      read : (q : Reading) → read_event q ≡ Refused f → q ≡ Err f
      read (Ok t) e = clash (cc)
      read (Err g) e = cc

      go : (long : Bool) → cond long (Refused LongMessage) (read_event (read_frame frame 240)) ≡ Refused f → FirstFaulty frame (fault_place f)
      go true e = let five : ◌≡◌ {A = ℕ} 5 (fault_number f) = ap fault_number (same e) in absurd (omega arith)
      go false e = place_told frame 240 (Err f) (sym (read (read_frame frame 240) e)) (ap some number)

-- a frame that a 10 closed is not open
pub closed_not_open : (frame : List ℕ) → is_open (frame_event frame) ≡ 0
unfolding frame_event
closed_not_open frame = go (ltb 494 (length frame)) (read_frame frame 240)
  where
    go : (t : Bool) (r : Reading) → is_open (cond t (Refused LongMessage) (read_event r)) ≡ 0
    go true r = refl
    go false (Ok t) = refl
    go false (Err f) = refl

open_is : (rest : List ℕ) → (is_open (event_of rest) ≡ 0) ⊎ ((is_open (event_of rest) ≡ 1) × (length rest ≤ to_next_end rest))
unfolding event_of
open_is rest = go (leb (length rest) (to_next_end rest)) (eqb (get_or rest (to_next_end rest) 0) 13) refl
  where
    event : Event
    event = frame_event (13 ∷ take (suc (to_next_end rest)) rest)

    go : (s t : Bool) → leb (length rest) (to_next_end rest) ≡ s
        → (is_open (cond s Open (cond t Dropped event)) ≡ 0) ⊎ ((is_open (cond s Open (cond t Dropped event)) ≡ 1) × (length rest ≤ to_next_end rest))
    go true t p = inr (refl, leb-true (length rest) (to_next_end rest) p)
    go false true p = inl refl
    go false false p = inl (closed_not_open (13 ∷ take (suc (to_next_end rest)) rest))

open-from : (xs : List ℕ) (from : ℕ) → total is_open (events_from from xs) ≤ 1
open-from [] from = rw (events_none from, no_total is_open) (omega arith)
open-from (b ∷ xs) from =
    rw (events_cons from b xs, total-append is_open (cond (eqb b 13) (placed from (event_of xs) ∷ []) []) (events_from (suc from) xs))
    (go (eqb b 13) (open-from xs (suc from)) (open_is xs))
  where
    go : (t : Bool) → total is_open (events_from (suc from) xs) ≤ 1 → (is_open (event_of xs) ≡ 0) ⊎ ((is_open (event_of xs) ≡ 1) × (length xs ≤ to_next_end xs))
        → total is_open (cond t (placed from (event_of xs) ∷ []) []) + total is_open (events_from (suc from) xs) ≤ 1
    go true ih (inl z) = rw (one_total is_open (placed from (event_of xs)), z) (omega arith)
    go true ih (inr z) = rw (one_total is_open (placed from (event_of xs)), none_after xs (suc from) z.1, no_total is_open, z.0) (omega arith)
    go false ih z = rw (no_total is_open) (omega arith)

pub open_once : (capture : List ℕ) → total is_open (events_of capture) ≤ 1
unfolding events_of
open_once capture = open-from capture 0

-- ---- 02's #101: places from any place on

shifted_from : (by from : ℕ) (xs : List ℕ) → events_from (by + from) xs ≡ shifted by (events_from from xs)
unfolding shifted
shifted_from by from [] = rw (events_none (by + from), events_none from) refl
shifted_from by from (b ∷ xs) =
    let ih : events_from (by + suc from) xs ≡ shifted by (events_from (suc from) xs) = shifted_from by (suc from) xs in
    rw (events_cons (by + from) b xs, events_cons from b xs) (go (eqb b 13) (rw (add-suc by from) at ih))
  where
    go : (t : Bool) → events_from (suc (by + from)) xs ≡ shifted by (events_from (suc from) xs)
        → cond t (placed (by + from) (event_of xs) ∷ []) [] ++ events_from (suc (by + from)) xs
        ≡ shifted by (cond t (placed from (event_of xs) ∷ []) [] ++ events_from (suc from) xs)
    go true ih = ap (λ (l : List Placed). placed (by + from) (event_of xs) ∷ l) ih
    go false ih = ih

-- the events of a capture that begins at a place are those of one that begins at 0, each so much later
pub from_place : (place : ℕ) (capture : List ℕ) → events_from place capture ≡ shifted place (events_of capture)
unfolding events_of
from_place place capture = ap (λ (p : ℕ). events_from p capture) (sym (add-zero place)) ∙ shifted_from place 0 capture
