-- Where a register is held.
-- Assumes nothing.
use mathlib.Core.Path.{◌≡◌, refl, ap, ◌∙◌}
use mathlib.Core.Bool.{Bool, true, false, cond}
use Prim.Native.Nat.{ℕ, ◌≤◌, ◌<◌}
use native.Mathlib.Omega.{arith}
use borrow.Author.Tests.{ltb-true}
use lib.Dec.{eqb}
use lib.ListN.{length, take, length-take}
use lib.Seq.{get_or-take}
use Rattle.std.proofs.Common.{Option, Some, None}
use Rattle.std.proofs.lemmas.List.Sums.{position_or_len_is}
use Rattle.std.specs.List.{position, position_or_len}
use Rattle.first.proofs.Laws.{Ended, ended}
use Rattle.rows.proofs.Laws.{clash}
use Rattle.deeds.specs.declared.Register.{Register}
use Rattle.bench.specs.Register.{no_register, register_at, held_count, place_of, is_held, found_at, found}
use Rattle.bench.specs.declared.Bench.{Bench}

-- ---- the search: a register is held at the first place that has its number

abbrev pub is_numbered : ℕ → Register → Bool
is_numbered number register = eqb register.number number

place_found : (bench : Bench) (number n : ℕ) → n ≡ held_count bench → n ≤ length bench.registers
    → position_or_len (is_numbered number) (take n bench.registers) ≡ place_of bench number
unfolding place_of
place_found bench number n e h =
    position_or_len_is (is_numbered number) (take n bench.registers) (place_of bench number) no_register (omega (arith, search_ended.within, many, e))
    (λ k l. ap (is_numbered number) (get_or-take n bench.registers k no_register (omega (arith, l, search_ended.within, e))) ∙ search_ended.before k l)
    (λ l. let under : place_of bench number < n = omega (arith, l, many) in
    ap (is_numbered number) (get_or-take n bench.registers (place_of bench number) no_register under) ∙ search_ended.there (omega (arith, under, e)))
  where
    search_ended : Ended (λ p. eqb (register_at bench p).number number) (held_count bench) (place_of bench number)
    search_ended = ended (λ p. eqb (register_at bench p).number number) (held_count bench)

    many : length (take n bench.registers) ≡ n
    many = omega (arith, length-take n bench.registers, h)

-- what a search of the registers held found
pub answered : (bench : Bench) (number n : ℕ) → n ≡ held_count bench → n ≤ length bench.registers → {o : Option ℕ}
    → o ≡ position (is_numbered number) (take n bench.registers) → o ≡ found bench number
answered bench number n e h is = is ∙ plainly ∙ go (is_held bench number)
  where
    many : length (take n bench.registers) ≡ held_count bench
    many = omega (arith, length-take n bench.registers, h, e)

    plainly : position (is_numbered number) (take n bench.registers) ≡ cond (is_held bench number) (Some (place_of bench number)) None
    plainly = rw (place_found bench number n e h, many) refl

    go : (b : Bool) → cond b (Some (place_of bench number)) None ≡ found_at b (place_of bench number)
    go true = refl
    go false = refl

-- ---- what the search tells

pub record At_its_place (bench : Bench) (number place : ℕ) : Type 0 where
  pub held : is_held bench number ≡ true
  pub where_it_is : place ≡ place_of bench number
  pub under : place < 32

pub found_held : (bench : Bench) (number place : ℕ) → found bench number ≡ Some place → At_its_place bench number place
found_held bench number place = by_test (is_held bench number) refl
  where
    by_test : (b : Bool) → is_held bench number ≡ b → found_at b (place_of bench number) ≡ Some place → At_its_place bench number place
    by_test true h e =
        let same : place ≡ place_of bench number = cc in
        record { held = h; where_it_is = same; under = omega (arith, ltb-true (place_of bench number) (held_count bench) h) }
    by_test false h e = clash (cc)

pub found_not : (bench : Bench) (number : ℕ) → found bench number ≡ None → is_held bench number ≡ false
found_not bench number = by_test (is_held bench number)
  where
    by_test : (b : Bool) → found_at b (place_of bench number) ≡ None → b ≡ false
    by_test true e = clash (cc)
    by_test false e = refl
