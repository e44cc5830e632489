use mathlib.Core.Path.{refl, sym, ◌∙◌}
use Rattle.std.proofs.lemmas.Option.{MatchOption-at_some, MatchOption-at_none}
use Rattle.telegram.proofs.Faulty.{judged_bad, judged_good}
use Rattle.telegram.proofs.Judge.{framed_two}
use Rattle.telegram.proofs.reader.framing.Goals as goal

pub returns-then-not_framed : goal.returns-then-not_framed
returns-then-not_framed c = rw (← c.not_framed.ensures, c.if-not_framed.true)

pub inside-bytes-requires : goal.inside-bytes-requires
inside-bytes-requires c = framed_two c.args.frame.now (sym c.not_framed.ensures ∙ c.if-not_framed.false)

pub returns-then-stray_end : goal.returns-then-stray_end
returns-then-stray_end c = rw (← c.not_framed.ensures, c.if-not_framed.false, ← c.inside-bytes.ensures, ← c.stray_end.ensures, c.if-stray_end.true)

pub returns-in-Some : goal.returns-in-Some
returns-in-Some c =
    let at = MatchOption-at_some _ _ _ c.in-Some.is c.bad_place.ensures in
    judged_bad c.args.frame.now c.not_framed.ensures c.if-not_framed.false
    c.inside-bytes.ensures c.stray_end.ensures c.if-stray_end.false at.0 at.1

pub returns : goal.returns
returns c =
    let past = MatchOption-at_none _ _ c.in_default.is c.bad_place.ensures in
    judged_good c.args.frame.now c.not_framed.ensures c.if-not_framed.false
    c.inside-bytes.ensures c.stray_end.ensures c.if-stray_end.false refl past
