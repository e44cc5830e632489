-- `kamzhor_after_scan_reply` is the scan after the desk's answer to a reply.
-- Assumes nothing.
use Rattle.kamzhor.proofs.host_scan.kamzhor_after_scan_reply.Goals as goal

pub returns : goal.returns
returns c = rw c.meant_booking.ensures at c.told_reply.ensures
