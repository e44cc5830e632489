use Rattle.sheet_line.proofs.Judging.{low_module, high_module, high_register, no_kind, high_count, not_allowed, all_right, other_count}
use Rattle.sheet_line.proofs.reading.judge.Goals as goal

pub returns-then-four-lt1 : goal.returns-then-four-lt1
returns-then-four-lt1 c =
    let four = c.args.four in
    λ words says long. low_module words four says c.if-four-lt1.true

pub returns-then-four-gt160 : goal.returns-then-four-gt160
returns-then-four-gt160 c =
    let four = c.args.four in
    λ words says long. high_module words four says c.if-four-lt1.false c.if-four-gt160.true

pub returns-then-four-gt255 : goal.returns-then-four-gt255
returns-then-four-gt255 c =
    let four = c.args.four in
    λ words says long. high_register words four says c.if-four-lt1.false c.if-four-gt160.false c.if-four-gt255.true

pub returns-then-four-eq0 : goal.returns-then-four-eq0
returns-then-four-eq0 c =
    let four = c.args.four in
    λ words says long. no_kind words four says c.if-four-lt1.false c.if-four-gt160.false c.if-four-gt255.false c.if-four-eq0.true

pub returns-then-four-gt255-2 : goal.returns-then-four-gt255-2
returns-then-four-gt255-2 c =
    let four = c.args.four in
    λ words says long. high_count words four says c.if-four-lt1.false c.if-four-gt160.false c.if-four-gt255.false c.if-four-eq0.false c.if-four-gt255-2.true

pub returns-then-many-four : goal.returns-then-many-four
returns-then-many-four c =
    let told = c.is_allowed.ensures in
    λ words says long.
    all_right words c.args.four says c.if-four-lt1.false c.if-four-gt160.false c.if-four-gt255.false c.if-four-eq0.false told c.if-is_allowed.true c.args.many long c.requires
    c.if-many-four.true

pub returns-then-is_allowed : goal.returns-then-is_allowed
returns-then-is_allowed c =
    let told = c.is_allowed.ensures in
    λ words says long.
    other_count words c.args.four says c.if-four-lt1.false c.if-four-gt160.false c.if-four-gt255.false c.if-four-eq0.false told c.if-is_allowed.true c.args.many long c.requires
    c.if-many-four.false

pub returns : goal.returns
returns c =
    let four = c.args.four in
    λ words says long. not_allowed words four says c.if-four-lt1.false c.if-four-gt160.false c.if-four-gt255.false c.if-four-eq0.false c.is_allowed.ensures c.if-is_allowed.false
