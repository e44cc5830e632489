use mathlib.Core.Path.{sym, ◌∙◌}
use Rattle.sheet_line.proofs.Steps.{kind_1, kind_2, kind_3, kind_4, kind_5, kind_6, kind_7, kind_none}
use Rattle.sheet_line.proofs.words.kind.Goals as goal

pub returns-then-same : goal.returns-then-same
returns-then-same c = kind_1 _ (sym c.same.ensures ∙ c.if-same.true)

pub returns-then-same-2 : goal.returns-then-same-2
returns-then-same-2 c =
    let n1 = sym c.same.ensures ∙ c.if-same.false in
    kind_2 _ n1 (sym c.same-2.ensures ∙ c.if-same-2.true)

pub returns-then-same-3 : goal.returns-then-same-3
returns-then-same-3 c =
    let n1 = sym c.same.ensures ∙ c.if-same.false in
    let n2 = sym c.same-2.ensures ∙ c.if-same-2.false in
    kind_3 _ n1 n2 (sym c.same-3.ensures ∙ c.if-same-3.true)

pub returns-then-same-4 : goal.returns-then-same-4
returns-then-same-4 c =
    let n1 = sym c.same.ensures ∙ c.if-same.false in
    let n2 = sym c.same-2.ensures ∙ c.if-same-2.false in
    let n3 = sym c.same-3.ensures ∙ c.if-same-3.false in
    kind_4 _ n1 n2 n3 (sym c.same-4.ensures ∙ c.if-same-4.true)

pub returns-then-same-5 : goal.returns-then-same-5
returns-then-same-5 c =
    let n1 = sym c.same.ensures ∙ c.if-same.false in
    let n2 = sym c.same-2.ensures ∙ c.if-same-2.false in
    let n3 = sym c.same-3.ensures ∙ c.if-same-3.false in
    let n4 = sym c.same-4.ensures ∙ c.if-same-4.false in
    kind_5 _ n1 n2 n3 n4 (sym c.same-5.ensures ∙ c.if-same-5.true)

pub returns-then-same-6 : goal.returns-then-same-6
returns-then-same-6 c =
    let n1 = sym c.same.ensures ∙ c.if-same.false in
    let n2 = sym c.same-2.ensures ∙ c.if-same-2.false in
    let n3 = sym c.same-3.ensures ∙ c.if-same-3.false in
    let n4 = sym c.same-4.ensures ∙ c.if-same-4.false in
    let n5 = sym c.same-5.ensures ∙ c.if-same-5.false in
    kind_6 _ n1 n2 n3 n4 n5 (sym c.same-6.ensures ∙ c.if-same-6.true)

pub returns-then-same-7 : goal.returns-then-same-7
returns-then-same-7 c =
    let n1 = sym c.same.ensures ∙ c.if-same.false in
    let n2 = sym c.same-2.ensures ∙ c.if-same-2.false in
    let n3 = sym c.same-3.ensures ∙ c.if-same-3.false in
    let n4 = sym c.same-4.ensures ∙ c.if-same-4.false in
    let n5 = sym c.same-5.ensures ∙ c.if-same-5.false in
    let n6 = sym c.same-6.ensures ∙ c.if-same-6.false in
    kind_7 _ n1 n2 n3 n4 n5 n6 (sym c.same-7.ensures ∙ c.if-same-7.true)

pub returns : goal.returns
returns c =
    let n1 = sym c.same.ensures ∙ c.if-same.false in
    let n2 = sym c.same-2.ensures ∙ c.if-same-2.false in
    let n3 = sym c.same-3.ensures ∙ c.if-same-3.false in
    let n4 = sym c.same-4.ensures ∙ c.if-same-4.false in
    let n5 = sym c.same-5.ensures ∙ c.if-same-5.false in
    let n6 = sym c.same-6.ensures ∙ c.if-same-6.false in
    kind_none _ n1 n2 n3 n4 n5 n6 (sym c.same-7.ensures ∙ c.if-same-7.false)
