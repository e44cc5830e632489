use Rattle.varia.specs.Ask.{now_out}
use mathlib.Core.Path.{sym, ap, ◌∙◌}
use Rattle.varia.proofs.now_out.Goals as goal

pub returns-in-Ok : goal.returns-in-Ok
returns-in-Ok c = c.with_out.ensures ∙ sym (ap (now_out _ _ _) c.in-Ok.is)
