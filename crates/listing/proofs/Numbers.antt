-- Which numbers can stand in a listing: the listing itself finds the ends of a frame, and the reader has 240 bytes of room.
-- Assumes nothing.
use Rattle.std.specs.Prelude.{Ok, Err}
use mathlib.Core.Path.{◌≡◌, refl, sym, ap, ◌∙◌}
use mathlib.Core.Bool.{Bool, true, false, cond}
use mathlib.Core.List.{List, [], ◌∷◌}
use mathlib.Core.Logic.{◌≢◌, ◌⊎◌, inl, inr, ⊎_elim}
use Prim.Native.Nat.{ℕ, zero, suc, ◌+◌, ◌-◌, ◌<◌}
use native.Mathlib.Omega.{arith}
use borrow.Author.Tests.{leb-false, eqb-false}
use lib.Dec.{eqb, leb, ltb}
use lib.ListN.{length, get_or, take, drop, length-take}
use lib.Seq.{get_or-take}
use Rattle.rows.proofs.Laws.{Decides, clash, decides_eq, decides_or}
use Rattle.rows.specs.Rows.{stands}
use Rattle.telegram.proofs.Judge.{reading_refused}
use Rattle.telegram.proofs.Ranking.{framed_numbers}
use Rattle.telegram.specs.Read.{byte, Between, IsNotFramed, HasStrayEnd, read_frame, fault_number}
use Rattle.telegram.specs.declared.Fault.{Fault}
use Rattle.telegram.specs.declared.Fault.TheVariants.{LongMessage}
use Rattle.telegram.specs.Answers.{Reading}
use Rattle.lines.specs.declared.Event.TheVariants.{Refused, Dropped, Open}
use Rattle.lines.specs.declared.Placed.{Placed}
use Rattle.listing.specs.Events.{read_event, frame_event, is_end, to_next_end, event_of, events_of}
use Rattle.listing.specs.Places.{In}
use Rattle.listing.proofs.Next.{none_before, next_there}
use Rattle.listing.proofs.Laws.{only_13s}

pub decides_end : (b : ℕ) → Decides (is_end b) ((b ≡ 10) ⊎ (b ≡ 13))
decides_end b = decides_or (decides_eq b 10) (decides_eq b 13)

-- there the frame ends
pub ends_there : (rest : List ℕ) → to_next_end rest < length rest → (get_or rest (to_next_end rest) 0 ≡ 10) ⊎ (get_or rest (to_next_end rest) 0 ≡ 13)
ends_there rest under = (decides_end (get_or rest (to_next_end rest) 0)).so (next_there is_end rest under)

module _ (rest : List ℕ) (under : to_next_end rest < length rest) (closes : get_or rest (to_next_end rest) 0 ≢ 13) where
  frame : List ℕ
  frame = 13 ∷ take (suc (to_next_end rest)) rest

  long : length frame ≡ suc (suc (to_next_end rest))
  unfolding frame
  long = let e = length-take (suc (to_next_end rest)) rest in omega (arith, e)

  at : (i : ℕ) → i < suc (to_next_end rest) → byte frame (suc i) ≡ get_or rest i 0
  unfolding frame
  at i l = get_or-take (suc (to_next_end rest)) rest i 0 l

  starts : byte frame 0 ≡ 13
  unfolding frame
  starts = refl

  right : IsNotFramed frame → ⊥
  unfolding IsNotFramed
  right =
      ⊎_elim (λ short. omega (arith, long)) (⊎_elim (λ n. n starts) (λ n. n ends))
    where
      ends : byte frame (length frame - 1) ≡ 10
      ends =
          let last : length frame - 1 ≡ suc (to_next_end rest) = omega (arith, long) in
          ap (byte frame) last ∙ at (to_next_end rest) (omega arith) ∙ ⊎_elim (λ e. e) (λ e. absurd (closes e)) (ends_there rest under)

  no_stray : HasStrayEnd frame → ⊥
  unfolding HasStrayEnd
  no_stray h = inside h.0 h.1 h.2
    where
      inside : (i : ℕ) → Between frame i → (byte frame i ≡ 10) ⊎ (byte frame i ≡ 13) → ⊥
      inside zero b s = omega (arith, b.0)
      inside (suc i) b s =
          let l : i < to_next_end rest = omega (arith, long, b.1) in
          let same : byte frame (suc i) ≡ get_or rest i 0 = at i (omega arith) in
          (decides_end (get_or rest i 0)).not_so (none_before is_end rest i l) (⊎_elim (λ e. inl (sym same ∙ e)) (λ e. inr (sym same ∙ e)) s)

refused_event : (r : Reading) (f : Fault) → read_event r ≡ Refused f → r ≡ Err f
refused_event (Err g) f e = ap Err (let same : g ≡ f = cc in same)
refused_event (Ok t) f e = clash (cc)

event_numbers : (rest : List ℕ) (f : Fault) → event_of rest ≡ Refused f → stands (fault_number f) (3 ∷ 4 ∷ 5 ∷ 7 ∷ 8 ∷ 9 ∷ []) ≡ true
unfolding event_of frame_event frame
event_numbers rest f e = go (leb (length rest) (to_next_end rest)) refl (eqb (get_or rest (to_next_end rest) 0) 13) refl (ltb 494 (length closed)) e
  where
    closed : List ℕ
    closed = 13 ∷ take (suc (to_next_end rest)) rest

    long_is : (g : Fault) → Refused LongMessage ≡ Refused g → LongMessage ≡ g
    long_is g e = cc

    go : (a : Bool) → leb (length rest) (to_next_end rest) ≡ a → (b : Bool) → eqb (get_or rest (to_next_end rest) 0) 13 ≡ b → (over : Bool)
        → cond a Open (cond b Dropped (cond over (Refused LongMessage) (read_event (read_frame closed 240)))) ≡ Refused f
        → stands (fault_number f) (3 ∷ 4 ∷ 5 ∷ 7 ∷ 8 ∷ 9 ∷ []) ≡ true
    go true p b q over e = clash (cc)
    go false p true q over e = clash (cc)
    go false p false q true e = rw (← long_is f e) refl
    go false p false q false e =
        let under : to_next_end rest < length rest = leb-false (length rest) (to_next_end rest) p in
        let closes = eqb-false (get_or rest (to_next_end rest) 0) 13 q in
        framed_numbers closed 240 (omega arith) (right rest under closes) (no_stray rest under closes) f
        (reading_refused closed 240 f (refused_event _ f e))

-- 1, 2 and 6 never stand there: a refused frame has one of these numbers
pub listed_numbers : (capture : List ℕ) (e : Placed) → In e (events_of capture) → (f : Fault) → e.event ≡ Refused f
    → stands (fault_number f) (3 ∷ 4 ∷ 5 ∷ 7 ∷ 8 ∷ 9 ∷ []) ≡ true
listed_numbers capture e m f is = let of = only_13s capture e m in event_numbers (drop (of.0 + 1) capture) f (sym of.4 ∙ is)
