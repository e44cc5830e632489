use Rattle.text.proofs.Laws.{spelt_laid}
use Rattle.text.proofs.decimal_at.Goals as goal

pub returns : goal.returns
returns c =
    let spell = c.spell-from in
    spelt_laid _ _ _ _ _ _ spell.ensures.1 spell.ensures.2 c.lay_at.ensures
