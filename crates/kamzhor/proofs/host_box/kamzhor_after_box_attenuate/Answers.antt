-- `kamzhor_after_box_attenuate` asks for an attenuation of the box that numbers mean, told in numbers.
-- Assumes nothing.
use Rattle.kamzhor.proofs.host_box.kamzhor_after_box_attenuate.Goals as goal

pub returns : goal.returns
returns c = (_, rw c.meant_box.ensures at c.attenuate.ensures, c.of_ask.ensures)
