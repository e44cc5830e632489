use mathlib.Core.Path.{refl, sym, ◌∙◌}
use native.Mathlib.Omega.{arith}
use Rattle.std.proofs.lemmas.Result.{err_from_is_err_and}
use Rattle.sheet_line.specs.Words.{words_in}
use Rattle.sheet_line.proofs.Saying.{no_word, few_words, no_number, head_wrong, head_right, values_said}
use Rattle.sheet_line.proofs.reading.read_words.Goals as goal

pub returns-then-many-eq0 : goal.returns-then-many-eq0
returns-then-many-eq0 c =
    let words = words_in c.args.text.now in
    record { answer = no_word words _ c.count_words-many.ensures.0 c.if-many-eq0.true; stored = refl }

pub returns-then-many-lt4 : goal.returns-then-many-lt4
returns-then-many-lt4 c =
    let words = words_in c.args.text.now in
    record { answer = few_words words _ c.count_words-many.ensures.0 c.if-many-eq0.false c.if-many-lt4.true; stored = refl }

pub returns-in-Some : goal.returns-in-Some
returns-in-Some c =
    let words = words_in c.args.text.now in
    let many = c.count_words-many.ensures.0 in
    let wrong = rw c.in-Some.is at c.first_wrong.ensures in
    record { answer = no_number words _ many c.if-many-eq0.false c.if-many-lt4.false wrong.0 wrong.1; stored = refl }

pub read_values-requires : goal.read_values-requires
read_values-requires c =
    let many = c.count_words-many.ensures.0 in
    let words = words_in c.args.text.now in
    let right = rw c.in_default.is at c.first_wrong.ensures in
    let four = c.first_four-four.ensures in
    let told = sym c.in_ok-head.was ∙ c.judge.ensures words four.says many in
    record { behind_head = four.goes_on; headed = head_right words 0 many c.if-many-eq0.false c.if-many-lt4.false right (omega arith) _ told }

pub returns-in_err-head : goal.returns-in_err-head
returns-in_err-head c =
    let many = c.count_words-many.ensures.0 in
    let words = words_in c.args.text.now in
    let right = rw c.in_default.is at c.first_wrong.ensures in
    let four = c.first_four-four.ensures in
    let told = sym c.in_err-head.was ∙ c.judge.ensures words four.says many in
    let p = err_from_is_err_and c.from_residual.result c.from_residual.ensures.1 in
    rw (p.1, p.2) (record { answer = head_wrong words _ many c.if-many-eq0.false c.if-many-lt4.false right (omega arith) _ told; stored = refl })

pub returns : goal.returns
returns c =
    let many = c.count_words-many.ensures.0 in
    let words = words_in c.args.text.now in
    let right = rw c.in_default.is at c.first_wrong.ensures in
    let four = c.first_four-four.ensures in
    let told = sym c.in_ok-head.was ∙ c.judge.ensures words four.says many in
    let read = c.read_values.ensures in
    record { answer = values_said words _ many c.if-many-eq0.false c.if-many-lt4.false right (omega arith) _ told read.answer; stored = read.stored }
