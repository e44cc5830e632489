use mathlib.Core.Path.{refl}
use borrow.Author.Rules.{rules}
use lib.Dec.{ltb}
use Rattle.std.proofs.lemmas.List.Recursion.{and_is}
use Rattle.numerals.specs.Numerals.{digit_of, are_digits}
use Rattle.numerals.proofs.are_digits.Goals as goal

pub returns : goal.returns
unfolding are_digits
returns c =
    and_is (are_digits c.args.base) (λ b. ltb (digit_of b) c.args.base) refl (λ _ _. refl) c.args.figures.now 0 c.all.result (search rules) (search rules)
