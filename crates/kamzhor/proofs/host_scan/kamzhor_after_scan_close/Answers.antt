-- `kamzhor_after_scan_close` is the scan after the desk's answer to a cancel or an expiry.
-- Assumes nothing.
use Rattle.kamzhor.proofs.host_scan.kamzhor_after_scan_close.Goals as goal

pub returns : goal.returns
returns c = rw c.meant_closing.ensures at c.told_closing.ensures
