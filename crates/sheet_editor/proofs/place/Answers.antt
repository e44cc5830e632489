use Rattle.sheet_editor.proofs.Steps.{place_found}
use Rattle.sheet_editor.proofs.place.Goals as goal

pub returns : goal.returns
returns c = let a = c.args in place_found a.room.now a.n a.head _ c.requires.1 c.place_of.ensures
