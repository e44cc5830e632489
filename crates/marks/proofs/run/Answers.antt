use mathlib.Core.Path.{◌≡◌}
use Prim.Native.Nat.{ℕ, ◌-◌, ◌/◌, ◌%◌, ◌^◌, ◌<◌}
use native.Mathlib.Omega.{arith}
use lib.Count.{count_trailing_zeros, trailing_le}
use Rattle.marks.specs.Marks.{word_of, run_from}
use Rattle.marks.specs.declared.Marks.{Marks}
use Rattle.marks.proofs.Bits.{ones_left}
use Rattle.marks.proofs.Laws.{run_is}
use Rattle.marks.proofs.run.Goals as goal

-- what is left of the word above the place's bit has as many ones at its lower end as its complement has zeros
counted : (marks : Marks) (place word : ℕ) → word ≡ word_of marks place → word < 2 ^ 64 → count_trailing_zeros 64 (2 ^ 64 - 1 - word / 2 ^ (place % 64)) ≡ run_from marks place
counted marks place word is under =
    run_is marks place _ (rw (← is) (ones_left (64 - place % 64) (place % 64) 64 word (omega arith) under))

pub overflow_cast-result : goal.overflow_cast-result
overflow_cast-result c = omega (arith, trailing_le 64 (18446744073709551615 - c.word_of.result / 2 ^ (c.args.place % 64)))

pub returns : goal.returns
returns c = counted c.args.marks c.args.place c.word_of.result c.word_of.ensures c.word_of.type_inv
