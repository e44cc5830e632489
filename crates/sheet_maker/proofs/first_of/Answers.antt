use Rattle.std.proofs.Common.{◌≡◌, true, false, Bool, List, ℕ, ◌/◌, ◌<◌, ◌≤◌, length, Option, None, Some, MatchOption, rules, arith}
use Rattle.std.proofs.lemmas.Iterator.{first_from_Range}
use Rattle.first.specs.First.{first_place}
use Rattle.setting.specs.Setting.{rows_in, heads}
use Rattle.setting.proofs.Steps.{found, none_found}
use Rattle.sheet_maker.specs.Maker.{is_key}
use Rattle.sheet_maker.proofs.Whole.{key_told}
use Rattle.sheet_maker.proofs.first_of.Goals as goal

first_found : (p : ℕ → Bool) (rows : List ℕ) (r : Option ℕ)
    → MatchOption r ((k : ℕ) → 0 ≤ k → k < length rows / 8 → p k ≡ false) (λ i. (0 ≤ i) × (i < length rows / 8) × (p i ≡ true) × ((k : ℕ) → 0 ≤ k → k < i → p k ≡ false))
    → MatchOption r (rows_in rows ≡ first_place p (rows_in rows)) (λ k. (k ≡ first_place p (rows_in rows)) × (k < rows_in rows))
unfolding rows_in
first_found p rows None none = none_found p rows (length rows / 8) (omega arith) (λ j l. none j (omega arith) l)
first_found p rows (Some i) first = (found p rows i first.1 (λ j l. first.3 j (omega arith) l) first.2, omega (arith, first.1))

pub returns : goal.returns
returns c =
    let is = is_key c.args.unit c.args.register (heads c.args.rows.now) in
    let first = first_from_Range _ _ _ c.find.result (λ k. is k ≡ true) (λ k. is k ≡ false) c.find.ensures.ran (λ x q k. search (rules, key_told)) (λ x q k. search (rules, key_told)) in
    first_found is c.args.rows.now c.find.result first
