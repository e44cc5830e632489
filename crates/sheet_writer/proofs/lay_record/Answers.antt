use Rattle.values.specs.Values.{bytes_of}
use Rattle.sheet.specs.Sheet.{record_for}
use Rattle.sheet_writer.proofs.lay_record.Goals as goal

pub returns : goal.returns
unfolding record_for bytes_of
returns c = c.lay_at.ensures
