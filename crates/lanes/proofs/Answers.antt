-- What a grant's answer tells of the desk's answer that it was made from.
-- Assumes nothing.
use Rattle.std.specs.Prelude.{Ok, Err}
use mathlib.Core.Path.{◌≡◌, refl, sym}
use mathlib.Core.Bool.{Bool, true, false, cond, true≢false}
use Prim.Native.Nat.{ℕ}
use Rattle.rows.proofs.Laws.{clash}
use Rattle.desk.specs.declared.Fault.{Fault as DeskFault}
use Rattle.desk.specs.declared.Fault.TheVariants.{Denied, FolderHeld, NoneFree, NoRoom, Unread, Misfit, NotTheirs, NothingDue}
use Rattle.desk.specs.Answers.{Opening, opening}
use Rattle.lanes.specs.Grant.{takes_out, moves_on, from_desk}
use Rattle.lanes.specs.declared.Fault.{Fault}
use Rattle.lanes.specs.declared.Fault.TheVariants.{AtDesk}
use Rattle.lanes.specs.Answers.{Granting}
use Rattle.lanes.specs.declared.Turn.TheVariants.{Granted, TakenOut}

-- only a held folder takes a request out
pub taken_why : (f : DeskFault) → takes_out f ≡ true → f ≡ FolderHeld
taken_why FolderHeld e = refl
taken_why (Denied g) e = absurd (true≢false (sym e))
taken_why NoneFree e = absurd (true≢false (sym e))
taken_why NoRoom e = absurd (true≢false (sym e))
taken_why (Unread g) e = absurd (true≢false (sym e))
taken_why (Misfit g) e = absurd (true≢false (sym e))
taken_why NotTheirs e = absurd (true≢false (sym e))
taken_why NothingDue e = absurd (true≢false (sym e))

-- a refusal at the desk is told as one that takes the request out, or passed on
module _ (job : ℕ) (f : DeskFault) where
  by_fault : (P : Granting → Type 0) → (takes_out f ≡ true → P (Ok (TakenOut job))) → (takes_out f ≡ false → P (Err (AtDesk f))) → P (from_desk job (Err f))
  by_fault P out stays = go (takes_out f) refl
    where
      go : (b : Bool) → takes_out f ≡ b → P (cond b (Ok (TakenOut job)) (Err (AtDesk f)))
      go true e = out e
      go false e = stays e

pub granted_told : (job job' address n : ℕ) (a : Opening) → Ok (Granted job' address n) ≡ from_desk job a → (a ≡ opening address n) × (job' ≡ job)
granted_told job job' address n (Ok opened) e = (let a : address ≡ opened.address = cc in let s : n ≡ opened.size = cc in rw (a, s) refl, cc)
granted_told job job' address n (Err f) e =
    by_fault job f (λ g. Ok (Granted job' address n) ≡ g → (Err f ≡ opening address n) × (job' ≡ job)) (λ out p. clash (cc)) (λ stays p. clash (cc)) e

pub taken_told : (job job' : ℕ) (a : Opening) → Ok (TakenOut job') ≡ from_desk job a → (a ≡ Err FolderHeld) × (job' ≡ job)
taken_told job job' (Ok opened) e = clash (cc)
taken_told job job' (Err f) e =
    by_fault job f (λ g. Ok (TakenOut job') ≡ g → (◌≡◌ {A = Opening} (Err f) (Err FolderHeld)) × (job' ≡ job))
    (λ out p. (rw (taken_why f out), cc)) (λ stays p. clash (cc)) e

pub refused_told : (job : ℕ) (a : Opening) (h : Fault) → Err h ≡ from_desk job a
    → (f : DeskFault) × (a ≡ Err f) × (h ≡ AtDesk f) × (takes_out f ≡ false)
refused_told job (Ok opened) h e = clash (cc)
refused_told job (Err f) h e =
    by_fault job f (λ g. Err h ≡ g → (k : DeskFault) × (◌≡◌ {A = Opening} (Err f) (Err k)) × (h ≡ AtDesk k) × (takes_out k ≡ false))
    (λ out p. clash (cc)) (λ stays p. (f, refl, cc, stays)) e

-- a turn is used by an opening or by a held folder
pub moves_why : (P : Opening → Type 0) → ((address n : ℕ) → P (opening address n)) → P (Err FolderHeld) → (a : Opening) → moves_on a ≡ true → P a
moves_why P opened held (Ok told) e = opened told.address told.size
moves_why P opened held (Err f) e = rw (taken_why f e) held
