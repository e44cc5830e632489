-- `kamzhor_after_box_read_status` asks for the status of the box that numbers mean, told in numbers.
-- Assumes nothing.
use Rattle.kamzhor.proofs.host_box.kamzhor_after_box_read_status.Goals as goal

pub returns : goal.returns
returns c = (_, rw c.meant_box.ensures at c.read_status.ensures, c.of_ask.ensures)
