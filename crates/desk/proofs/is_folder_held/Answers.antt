use mathlib.Core.Path.{◌∙◌}
use Rattle.desk.proofs.Calls.{folder_none, folder_by}
use Rattle.desk.proofs.is_folder_held.Goals as goal

pub returns-then-asked-ne0 : goal.returns-then-asked-ne0
returns-then-asked-ne0 c = c.is_some.ensures ∙ folder_by c.args.desk c.args.asked _ c.if-asked-ne0.true c.holder_place.ensures

pub returns-else-asked-ne0 : goal.returns-else-asked-ne0
returns-else-asked-ne0 c = folder_none c.args.desk c.args.asked c.if-asked-ne0.false
