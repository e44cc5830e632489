-- The request of the desk that the call of a setting makes.
-- Assumes nothing.
use Rattle.request.specs.declared.Request.{Request}
use Rattle.setting.specs.declared.Head.{Head}
use Rattle.sheet_teller.specs.declared.Order.{Order}

-- "`desk.open JOB MODULE 5 REGISTER DATA WAIT 0 CLOCK BUF`": a write, whose reply is filed nowhere
abbrev pub request_of : Order → Head → Request
request_of order h = record { job = order.job; unit = h.unit; sort = 5; register = h.register; wait = order.wait; folder = 0 }
