-- 02, #105: "All that pass the reader's answer on, bench and desk too, pass the place on": the bench's silence.
-- Assumes nothing.
use Rattle.std.specs.Prelude.{Ok, Err}
use mathlib.Core.Path.{◌≡◌, refl, sym, ap, subst, ◌∙◌}
use mathlib.Core.Bool.{Bool, true, false, cond, not}
use mathlib.Core.List.{List}
use mathlib.Core.Logic.{◌≢◌}
use mathlib.Core.Option.{Option, some, none}
use Prim.Native.Nat.{ℕ}
use native.Mathlib.Omega.{arith}
use lib.Dec.{eqb, ltb}
use lib.ListN.{length}
use Rattle.rows.proofs.Laws.{clash}
use Rattle.rows.proofs.Settled.{settled}
use Rattle.rows.specs.Rows.{or_later, raised}
use Rattle.rows.specs.Settled.{Settled}
use Rattle.telegram.proofs.Faulty.{refused_place, fault_no_place}
use Rattle.telegram.specs.Read.{FirstFaulty, read_refusal, fields_in, data_in}
use Rattle.telegram.specs.declared.Fault.{Fault as Unreadable}
use Rattle.bench.specs.Register.{fault_number, fault_place, Places}
use Rattle.bench.specs.Take.{reply_of, is_answer, request_refusal, take_refusal, take_answer, take_told, take_place, Takes}
use Rattle.bench.specs.declared.AfterTake.{AfterTake}
use Rattle.bench.specs.declared.Bench.{Bench}
use Rattle.bench.specs.declared.Fault.{Fault}
use Rattle.bench.specs.declared.Fault.TheVariants.{Unread, WrongKind, WrongRights, AlreadyThere, Full, NotAModule, OtherAddress, NotARequest, NoRoom, NotHeld, DoesNotFit}
use Rattle.bench.specs.Answers.{Taking}

-- of the bench's refusals only the reader's has number 3
three_unread : (f : Fault) → fault_number f ≡ 3 → (g : Unreadable) × (f ≡ Unread g)
three_unread (Unread g) e = (g, refl)
three_unread WrongKind e = absurd (omega arith)
three_unread WrongRights e = absurd (omega arith)
three_unread AlreadyThere e = absurd (omega arith)
three_unread Full e = absurd (omega arith)
three_unread NotAModule e = absurd (omega arith)
three_unread OtherAddress e = absurd (omega arith)
three_unread NotARequest e = absurd (omega arith)
three_unread NoRoom e = absurd (omega arith)
three_unread NotHeld e = absurd (omega arith)
three_unread DoesNotFit e = absurd (omega arith)

-- what keeps the bench silent so refused the frame
unread_only : (o : Option Unreadable) (b c d : Bool) (g : Unreadable)
    → or_later (raised Unread o) (cond b (some OtherAddress) (cond c (some NotARequest) (cond d (some NoRoom) none))) ≡ some (Unread g) → o ≡ some g
unread_only (some h) b c d g e = cc
unread_only none true c d g e = clash (cc)
unread_only none false true d g e = clash (cc)
unread_only none false false true g e = clash (cc)
unread_only none false false false g e = clash (cc)

number_of : {m n : ℕ} → ◌≡◌ {A = Option ℕ} (some m) (some n) → m ≡ n
number_of e = cc

-- the refusal of a silence
silent_for : (o : Option Fault) (reply : List ℕ) (f : Fault) → Err f ≡ take_answer o reply → o ≡ some f
silent_for (some g) reply f e = cc
silent_for none reply f e = clash (cc)

module _ (bench : Bench) (frame room : List ℕ) (r : AfterTake) (room' : List ℕ) (takes : Takes bench frame room r room') where
  -- 3 comes with the place of the first faulty 94 of the telegram's frame
  pub take_place_lem : take_told r.answer ≡ some 3 → FirstFaulty frame (take_place r.answer)
  unfolding take_refusal request_refusal
  take_place_lem told = go r.answer refl told
    where
      go : (a : Taking) → r.answer ≡ a → take_told a ≡ some 3 → FirstFaulty frame (take_place a)
      go (Ok n) is e = clash (cc)
      go (Err f) is e =
          let u = three_unread f (number_of e) in
          let refusal : take_refusal bench frame (length room) ≡ some (Unread u.0) =
          silent_for (take_refusal bench frame (length room)) _ f (sym is ∙ takes.0) ∙ ap some u.1 in
          subst (λ (x : Fault). FirstFaulty frame (fault_place x)) (sym u.1)
          (refused_place frame 240 u.0 (unread_only (read_refusal frame 240) (not (eqb (fields_in frame).destination bench.address)) (is_answer (fields_in frame).sort)
          (ltb (length room) (length (reply_of bench (fields_in frame) (data_in frame)))) u.0 refusal) (sym (ap fault_number u.1) ∙ number_of e))

  -- and the call `place` tells it
  pub take-told_place : (f : Fault) (place : ℕ) → r.answer ≡ Err f → fault_number f ≡ 3 → Places f place → FirstFaulty frame place
  take-told_place f place is number told =
      subst (FirstFaulty frame) (sym told) (subst (λ (a : Taking). take_told a ≡ some 3 → FirstFaulty frame (take_place a)) is take_place_lem (ap some number))

-- no other answer has a place
pub fault_unplaced : (f : Fault) → fault_number f ≢ 3 → fault_place f ≡ 0
fault_unplaced (Unread g) other = fault_no_place g other
fault_unplaced WrongKind other = refl
fault_unplaced WrongRights other = refl
fault_unplaced AlreadyThere other = refl
fault_unplaced Full other = refl
fault_unplaced NotAModule other = refl
fault_unplaced OtherAddress other = refl
fault_unplaced NotARequest other = refl
fault_unplaced NoRoom other = refl
fault_unplaced NotHeld other = refl
fault_unplaced DoesNotFit other = refl

pub take_no_place : (a : Taking) → take_told a ≢ some 3 → take_place a ≡ 0
take_no_place (Ok n) other = refl
take_no_place (Err f) other = fault_unplaced f (λ e. other (ap some e))

-- the call `place` gives the place that these laws speak of
pub place_is : (f : Fault) (r : ℕ) → Places f r → r ≡ fault_place f
place_is f r p = p

pub places_settled : (f : Fault) → Settled (Places f)
places_settled f = settled _
