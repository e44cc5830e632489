use mathlib.Core.Path.{refl}
use native.Mathlib.Omega.{arith}
use Rattle.sheet_maker.proofs.Whole.{found_none, found_at_lem, sheet_within}
use borrow.Author.Rules.{rules}
use Rattle.sheet_maker.proofs.find.Goals as goal

pub overflow_mul-end : goal.overflow_mul-end
overflow_mul-end c = let w = sheet_within c.args.sheet.now _ _ c.check.ensures c.in-Ok.is in record { fits = omega (arith, w.0) }

pub overflow_add-end : goal.overflow_add-end
overflow_add-end c = let w = sheet_within c.args.sheet.now _ _ c.check.ensures c.in-Ok.is in record { fits = omega (arith, w.0) }

pub slice_bounds-first_of-end : goal.slice_bounds-first_of-end
slice_bounds-first_of-end c = let w = sheet_within c.args.sheet.now _ _ c.check.ensures c.in-Ok.is in search rules

pub returns-in-Err : goal.returns-in-Err
returns-in-Err c = found_none c.args.sheet.now _ _ _ _ c.check.ensures c.in-Err.is

pub returns-in-Ok : goal.returns-in-Ok
returns-in-Ok c = found_at_lem c.args.sheet.now _ _ _ _ _ _ _ c.check.ensures c.in-Ok.is refl c.unwrap_or.ensures c.first_of.ensures
