-- Each return is one stretch of bytes.
-- Assumes nothing.
use mathlib.Core.Path.{sym}
use native.Mathlib.Omega.{arith}
use Rattle.numerals.proofs.Digits.{digit_before, digit_figure, digit_between, digit_upper, digit_among, digit_lower, digit_behind}
use Rattle.numerals.proofs.digit.Goals as goal

pub returns-then-byte-lt48 : goal.returns-then-byte-lt48
returns-then-byte-lt48 c = (sym (digit_before _ c.if-byte-lt48.true), omega arith)

pub returns-then-byte-le57 : goal.returns-then-byte-le57
returns-then-byte-le57 c = (sym (digit_figure _ c.if-byte-lt48.false c.if-byte-le57.true), omega arith)

pub returns-then-byte-lt65 : goal.returns-then-byte-lt65
returns-then-byte-lt65 c = (sym (digit_between _ c.if-byte-le57.false c.if-byte-lt65.true), omega arith)

pub returns-then-byte-le70 : goal.returns-then-byte-le70
returns-then-byte-le70 c = (sym (digit_upper _ c.if-byte-lt65.false c.if-byte-le70.true), omega arith)

pub returns-then-byte-lt97 : goal.returns-then-byte-lt97
returns-then-byte-lt97 c = (sym (digit_among _ c.if-byte-le70.false c.if-byte-lt97.true), omega arith)

pub returns-then-byte-le102 : goal.returns-then-byte-le102
returns-then-byte-le102 c = (sym (digit_lower _ c.if-byte-lt97.false c.if-byte-le102.true), omega arith)

pub returns : goal.returns
returns c = (sym (digit_behind _ c.if-byte-le102.false), omega arith)
