-- A scan of job 0: the desk refuses each of its requests, so it never takes a turn.
-- Assumes nothing.
use Rattle.std.specs.Prelude.{Ok, Err}
use mathlib.Core.Path.{◌≡◌, refl, sym, ap, ◌∙◌}
use mathlib.Core.List.{List}
use mathlib.Core.Logic.{inl}
use mathlib.Core.Option.{Option, some, none}
use Prim.Native.Nat.{ℕ, ◌-◌}
use native.Mathlib.Omega.{arith}
use lib.ListN.{replicate}
use Rattle.rows.proofs.Laws.{clash}
use Rattle.desk.specs.Answers.{Booking}
use Rattle.desk.specs.Answers.{Closing}
use Rattle.desk.specs.declared.Desk.{Desk}
use Rattle.scan.proofs.Laws.{step_refusals, step_refusal_keeps, nothing_out_stays, refusals_tell_nothing}
use Rattle.scan.specs.Scan.{Steps, HearsReply, HearsClosing, step_told}
use Rattle.scan.specs.declared.AfterStep.{AfterStep}
use Rattle.scan.specs.declared.Scan.{Scan}
use Rattle.scan.specs.Answers.{Stepping}
use Rattle.scan.specs.declared.Stage.TheVariants.{Asked, Waiting, Done}
use Rattle.scans.specs.Shift.{Event, Shift}
use Rattle.scans.specs.Shift.{begins, steps, opens, replies, cancels, expires}

refused_10 : (scan : Scan) (desk : Desk) (clock : ℕ) (room : List ℕ) (r : AfterStep) (room' : List ℕ) → Steps scan desk clock room r room'
    → scan ≡ record { job = 0; turns = 0; out = 0; results = replicate 160 0 } → step_told r.answer ≡ some 10
refused_10 scan desk clock room r room' c is =
    let t = ap (λ (s : Scan). s.turns) is in
    ((step_refusals scan desk clock room r room' c (omega (arith, t)) (ap (λ (s : Scan). s.out) is)).each 10).1 (inl (ap (λ (s : Scan). s.job) is, refl))

keeps : (scan : Scan) (desk : Desk) (clock : ℕ) (room : List ℕ) (r : AfterStep) (room' : List ℕ) → Steps scan desk clock room r room'
    → step_told r.answer ≡ some 10 → r.scan ≡ scan
keeps scan desk clock room r room' c told = go r.answer refl
  where
    go : (a : Stepping) → r.answer ≡ a → r.scan ≡ scan
    go (Err f) is = (step_refusal_keeps scan desk clock room r room' c f is).0
    go (Ok Done) is = let both : ◌≡◌ {A = Option ℕ} none (some 10) = sym (ap step_told is) ∙ told in clash (cc)
    go (Ok (Waiting x)) is = let both : ◌≡◌ {A = Option ℕ} none (some 10) = sym (ap step_told is) ∙ told in clash (cc)
    go (Ok (Asked x y z)) is = let both : ◌≡◌ {A = Option ℕ} none (some 10) = sym (ap step_told is) ∙ told in clash (cc)

reply_stays : (scan scan' : Scan) (a : Booking) → scan.out ≡ 0 → HearsReply scan a scan' → scan' ≡ scan
reply_stays scan scan' (Ok booked) free h = (nothing_out_stays scan scan' free).0 booked.job booked.address booked.sort booked.size booked.folder h
reply_stays scan scan' (Err f) free h = (refusals_tell_nothing scan scan' f).0 h

closing_stays : (scan scan' : Scan) (a : Closing) → scan.out ≡ 0 → HearsClosing scan a scan' → scan' ≡ scan
closing_stays scan scan' (Ok closed) free h = (nothing_out_stays scan scan' free).1 closed.job closed.address closed.folder h
closing_stays scan scan' (Err f) free h = (refusals_tell_nothing scan scan' f).1 h

-- "also with job 0, for ever": a scan of job 0 never takes a turn, and each of its steps is refused with 10
pub job_0_stays : {scan : Scan} {desk : Desk} {past : List Event} → Shift 0 scan desk past → scan ≡ record { job = 0; turns = 0; out = 0; results = replicate 160 0 }
job_0_stays (begins calls) = refl
job_0_stays (steps {scan} {desk} shift clock room r room' c) =
    let is = job_0_stays shift in keeps scan desk clock room r room' c (refused_10 scan desk clock room r room' c is) ∙ is
job_0_stays (opens shift what bytes clock room r room' c) = job_0_stays shift
job_0_stays (replies {scan} shift frame room r room' scan' c told) =
    let is = job_0_stays shift in reply_stays scan scan' r.answer (ap (λ (s : Scan). s.out) is) told ∙ is
job_0_stays (cancels {scan} shift theirs address clock r scan' c told) =
    let is = job_0_stays shift in closing_stays scan scan' r.answer (ap (λ (s : Scan). s.out) is) told ∙ is
job_0_stays (expires {scan} shift clock r scan' c told) =
    let is = job_0_stays shift in closing_stays scan scan' r.answer (ap (λ (s : Scan). s.out) is) told ∙ is

pub job_0_for_ever : {scan : Scan} {desk : Desk} {past : List Event} → Shift 0 scan desk past
    → (clock : ℕ) (room : List ℕ) (r : AfterStep) (room' : List ℕ) → Steps scan desk clock room r room' → step_told r.answer ≡ some 10
job_0_for_ever {scan} {desk} shift clock room r room' c = refused_10 scan desk clock room r room' c (job_0_stays shift)
