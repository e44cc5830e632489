use Rattle.std.specs.Prelude.{Ok}
use mathlib.Core.Path.{◌≡◌, ap}
use mathlib.Core.Bool.{cond}
use mathlib.Core.List.{List}
use mathlib.Core.Option.{some, none}
use Prim.Native.Nat.{ℕ}
use native.Mathlib.Omega.{arith}
use Rattle.rows.specs.Rows.{first_row_of}
use Rattle.setting.specs.declared.Fault.TheVariants.{WrongPlaces}
use Rattle.setting.specs.Setting.{heads, falls, unfit}
use Rattle.sheet.specs.Sheet.{record_tests}
use Rattle.sheet.proofs.Steps.{counted, rows_few, record_found, no_record_found, past_69}
use Rattle.sheet.proofs.check_records.Goals as goal
use Rattle.sheet.proofs.check_records.Goals.{After-is_misplaced}

-- 70 alone decides
told : (c : After-is_misplaced) → first_row_of (record_tests c.args.sheet.now) ≡ cond c.is_misplaced.result (some WrongPlaces) none
told c =
    past_69 _ _ _ _ (counted _ _ c.field-n.ensures) c.requires.1 c.first_fall-fall.ensures c.if-fall-n.false
    c.first_unfit-unfit.ensures c.if-unfit-n.false c.is_misplaced.ensures

pub overflow_mul-end : goal.overflow_mul-end
overflow_mul-end c = record { fits = omega (arith, counted c.args.sheet.now c.field-n.result c.field-n.ensures, c.requires) }

pub overflow_add-end : goal.overflow_add-end
overflow_add-end c = record { fits = omega (arith, counted c.args.sheet.now c.field-n.result c.field-n.ensures, c.requires) }

pub slice_bounds-rows-end : goal.slice_bounds-rows-end
slice_bounds-rows-end c = omega (arith, counted c.args.sheet.now c.field-n.result c.field-n.ensures, c.requires)

pub returns-then-fall-n : goal.returns-then-fall-n
returns-then-fall-n c =
    let n = counted c.args.sheet.now _ c.field-n.ensures in
    rw (record_found _ (λ (rows : List ℕ). falls (heads rows)) _ _ n c.requires.1 c.first_fall-fall.ensures c.if-fall-n.true)

pub returns-then-unfit-n : goal.returns-then-unfit-n
returns-then-unfit-n c =
    let sheet = c.args.sheet.now in
    let n = counted sheet _ c.field-n.ensures in
    let reach = c.requires.1 in
    rw (
      no_record_found sheet (λ (rows : List ℕ). falls (heads rows)) _ _ n reach c.first_fall-fall.ensures c.if-fall-n.false,
      record_found sheet (λ (rows : List ℕ). unfit (heads rows)) _ _ n reach c.first_unfit-unfit.ensures c.if-unfit-n.true,
    )

pub overflow_sub-sheet : goal.overflow_sub-sheet
overflow_sub-sheet c = omega (arith, counted c.args.sheet.now c.field-n.result c.field-n.ensures, c.requires)

pub is_misplaced-requires : goal.is_misplaced-requires
is_misplaced-requires c = rows_few _ c.field-n.result (omega (arith, counted c.args.sheet.now c.field-n.result c.field-n.ensures, c.requires))

pub returns-then-is_misplaced : goal.returns-then-is_misplaced
returns-then-is_misplaced c = rw (told (goal.at.returns-then-is_misplaced c).After-is_misplaced, c.if-is_misplaced.true)

pub returns : goal.returns
returns c = rw (told (goal.at.returns c).After-is_misplaced, c.if-is_misplaced.false) (ap Ok (counted _ _ c.field-n.ensures))
