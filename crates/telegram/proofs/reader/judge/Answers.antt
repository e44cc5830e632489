use mathlib.Core.Path.{sym, ap, ◌∙◌}
use mathlib.Core.List.{List}
use Prim.Native.Nat.{ℕ}
use Rattle.std.proofs.lemmas.Result.{err_from_is_err_and}
use Rattle.lent.specs.Lent.{over}
use Rattle.telegram.proofs.Judge.{judged_sound, judged_unsound, sound_two, refused_by_frame, refused_reading, never_both, sound_reading, sound_message}
use Rattle.telegram.proofs.reader.judge.Goals as goal

pub inside-requires : goal.inside-requires
inside-requires c = sound_two c.args.frame.now (judged_sound _ (sym c.in_ok-framing.was ∙ c.framing.ensures))

pub returns-in_err-framing : goal.returns-in_err-framing
returns-in_err-framing c =
    let args = c.args in
    let refusal =
    refused_by_frame args.frame.now args.room _
    (judged_unsound _ _ (sym c.in_err-framing.was ∙ c.framing.ensures)) in
    let p = err_from_is_err_and c.from_residual.result c.from_residual.ensures.1 in
    rw (p.1, p.2) (refused_reading _ _ _ refusal, λ n. absurd (never_both _ _ refusal n))

pub returns : goal.returns
returns c =
    let args = c.args in
    let framing = c.framing in
    let inside = c.inside in
    let sound = judged_sound _ (sym c.in_ok-framing.was ∙ framing.ensures) in (
      sound_reading args.frame.now _ _ _ sound inside.ensures c.judge_between.ensures.0,
      λ n. c.judge_between.ensures.1
          ∙ ap (λ (m : List ℕ). over m args.message.now) (sound_message _ _ inside.ensures),
    )
