use mathlib.Core.Path.{refl, sym, ◌∙◌}
use Rattle.desk.proofs.Calls.{under_told, over_told, open_denied, open_held, open_full, open_allowed}
use Rattle.request.proofs.Laws.{asked_denied, asked_allowed, allowed_writable}
use Rattle.desk.proofs.open.Goals as goal

pub returns-in-Err : goal.returns-in-Err
returns-in-Err c = rw (open_denied c.args.desk c.args.asked _ _ _ _ (asked_denied _ _ (sym c.in-Err.is ∙ c.judge.ensures))) (refl, refl, refl, refl)

pub returns-then-is_folder_held : goal.returns-then-is_folder_held
returns-then-is_folder_held c =
    rw (open_held c.args.desk c.args.asked _ c.args.clock _
    (asked_allowed _ (sym c.in_default.is ∙ c.judge.ensures)) (sym c.is_folder_held.ensures ∙ c.if-is_folder_held.true))
    (refl, refl, refl, refl)

pub returns-in_default-free_distance : goal.returns-in_default-free_distance
returns-in_default-free_distance c =
    rw (open_full c.args.desk c.args.asked _ c.args.clock _
    (asked_allowed _ (sym c.in_default.is ∙ c.judge.ensures)) (sym c.is_folder_held.ensures ∙ c.if-is_folder_held.false)
    (over_told _ _ (sym c.free_distance.ensures ∙ c.in_default-free_distance.is)))
    (refl, refl, refl, refl)

pub open_at-requires-clause-near : goal.open_at-requires-clause-near
open_at-requires-clause-near c = (under_told _ _ _ (sym c.free_distance.ensures ∙ c.in-Some.is)).1

pub open_at-requires-clause-writable : goal.open_at-requires-clause-writable
open_at-requires-clause-writable c = allowed_writable _ _ (asked_allowed _ (sym c.in_default.is ∙ c.judge.ensures))

pub returns : goal.returns
returns c =
    open_allowed c.args.desk c.args.asked c.args.«data».now c.args.clock c.args.room.now _ _ _
    (asked_allowed _ (sym c.in_default.is ∙ c.judge.ensures))
    (sym c.is_folder_held.ensures ∙ c.if-is_folder_held.false)
    (under_told _ _ _ (sym c.free_distance.ensures ∙ c.in-Some.is)).0 c.open_at.ensures
