use mathlib.Core.Path.{sym, ◌∙◌}
use native.Mathlib.Omega.{arith}
use Rattle.std.proofs.lemmas.Result.{err_from_is_err_and}
use Rattle.telegram.proofs.Judge.{judged_sound, sound_sized, refused_by_length, sound_length, whole_part}
use Rattle.telegram.proofs.reader.judge_between.Goals as goal

pub returns-in_err-sized : goal.returns-in_err-sized
returns-in_err-sized c =
    let restore = c.restore-n in
    let p = err_from_is_err_and c.from_residual.result c.from_residual.ensures.1 in
    rw (p.1, p.2) (refused_by_length _ _ _ _ restore.ensures.0 (sym c.in_err-sized.was ∙ c.sized.ensures), restore.ensures.1)

pub returns : goal.returns
returns c =
    let args = c.args in
    let pre = c.requires in
    let restore = c.restore-n in
    let sized = c.sized in
    let fits = sound_sized restore.result args.room (judged_sound _ (sym c.in_ok-sized.was ∙ sized.ensures)) in (
      sound_length _ _ _ _ _ restore.ensures.0 (whole_part _ _ _ _ restore.ensures.0 restore.ensures.1 (omega (arith, pre, restore.ensures.0)))
          (sym c.in_ok-sized.was ∙ sized.ensures) c.judge_message.ensures,
      restore.ensures.1,
    )
