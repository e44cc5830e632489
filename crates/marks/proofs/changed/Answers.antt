use mathlib.Core.Path.{◌≡◌, ap, ◌∙◌}
use Prim.Native.Nat.{ℕ, ◌*◌, ◌%◌, ◌^◌, ◌<◌}
use native.Mathlib.Nat.{one-mul, mod-eq_of_lt}
use lib.Pow.{pow-lt}
use Rattle.values.specs.Values.{set_bits, clear_bits}
use Rattle.marks.proofs.changed.Goals as goal

-- a one that was moved up stays within the word
one_bit : (k : ℕ) → k < 64 → 1 * 2 ^ k % 2 ^ 64 ≡ 2 ^ k
one_bit k h = ap (λ (x : ℕ). x % 2 ^ 64) (one-mul (2 ^ k)) ∙ mod-eq_of_lt (pow-lt {i = k} {j = 64} h)

pub returns-then-held : goal.returns-then-held
returns-then-held c = rw c.if-held.true (c.set_bits.ensures ∙ ap (set_bits c.args.word) (one_bit c.args.bit c.requires))

pub returns : goal.returns
returns c = rw c.if-held.false (c.clear_bits.ensures ∙ ap (clear_bits c.args.word) (one_bit c.args.bit c.requires))
