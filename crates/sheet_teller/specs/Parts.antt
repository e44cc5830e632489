-- The two stretches of a call that are laid by functions of their own.
-- Assumes nothing.
use Rattle.std.specs.Prelude.{List, ◌++◌, ℕ}
use Rattle.text.specs.Text.{ascii, decimal}
use Rattle.setting.specs.declared.Head.{Head}
use Rattle.sheet_teller.specs.declared.Order.{Order}

-- up to the data
abbrev pub asked_text : ℕ → Head → List ℕ
asked_text job h = ascii "desk.open " ++ (decimal job ++ (ascii " " ++ (decimal h.unit ++ (ascii " 5 " ++ (decimal h.register ++ ascii " ")))))

-- behind them, up to the buffer
abbrev pub timed_text : Order → List ℕ
timed_text order = ascii " " ++ (decimal order.wait ++ (ascii " 0 " ++ (decimal order.clock ++ ascii " ")))
