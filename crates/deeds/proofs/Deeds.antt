-- What a request does, test by test: what each return of the code is.
-- Assumes nothing.
use mathlib.Core.Path.{◌≡◌, refl, sym, ◌∙◌}
use mathlib.Core.Bool.{Bool, true, false, cond, ◌||◌, ◌&&◌, true≢false}
use mathlib.Core.List.{List}
use Prim.Native.Nat.{ℕ, ◌≤◌}
use native.Mathlib.Omega.{arith}
use native.Mathlib.Decide.{dec_lt}
use borrow.Author.Tests.{eqb-true, eq-eqb, ne_eqb}
use lib.Dec.{eqb}
use lib.ListN.{length}
use Rattle.values.proofs.Laws.{loads_all}
use Rattle.values.proofs.Sized.{size-le}
use Rattle.values.specs.Values.{size_of, natural, set_bits, clear_bits, toggle_bits, Loads}
use Rattle.deeds.specs.Deeds.{has_right, nack, ack, read_deed, write_deed, held_deed, Changes, is_bit_write}
use Rattle.deeds.specs.declared.Register.{Register}

pub size_most : (kind : ℕ) → size_of kind ≤ 8
size_most kind = elim (dec_lt 0 (size_of kind)) [
  | yes h ↦ size-le kind h
  | no h ↦ omega arith
]

-- ---- reads and writes of a held register

module _ (register : Register) (n : ℕ) where
  pub read_allowed : (right : Bool) (size : ℕ) → right ≡ has_right register 1 → right ≡ true → n ≡ 0 → size ≡ size_of register.kind
      → record { sort = 8; size = size; value = register.value } ≡ read_deed register n
  unfolding read_deed
  read_allowed right size e t h s = rw (← e, t, h, s)

  pub read_denied : (right : Bool) → right ≡ has_right register 1 → right ≡ false → nack register.value ≡ read_deed register n
  unfolding read_deed
  read_denied right e t = rw (← e, t)

  pub read_with_data : (right : Bool) → right ≡ has_right register 1 → right ≡ true → (n ≡ 0 → ⊥) → nack register.value ≡ read_deed register n
  unfolding read_deed
  read_with_data right e t h = rw (← e, t, ne_eqb n 0 h)

  module _ (which value : ℕ) (right : Bool) (e : right ≡ has_right register which) where
    pub write_allowed : right ≡ true → n ≡ size_of register.kind → ack value ≡ write_deed register which n value
    unfolding write_deed
    write_allowed t h = rw (← e, t, eq-eqb n (size_of register.kind) h)

    pub write_denied : right ≡ false → nack register.value ≡ write_deed register which n value
    unfolding write_deed
    write_denied t = rw (← e, t)

    pub write_of_other_size : right ≡ true → (n ≡ size_of register.kind → ⊥) → nack register.value ≡ write_deed register which n value
    unfolding write_deed
    write_of_other_size t h = rw (← e, t, ne_eqb n (size_of register.kind) h)

-- ---- by the request's type

-- what is loaded counts only where it is the kind's size, and then it is all of the data
pub loaded : (register : Register) (right : ℕ) (bytes : List ℕ) (f : ℕ → ℕ) (mask : ℕ) → Loads bytes mask
    → write_deed register right (length bytes) (f mask) ≡ write_deed register right (length bytes) (f (natural bytes))
unfolding write_deed
loaded register right bytes f mask e = by_size (has_right register right) (eqb (length bytes) (size_of register.kind)) refl
  where
    by_size : (a b : Bool) → eqb (length bytes) (size_of register.kind) ≡ b
        → cond (a && b) (ack (f mask)) (nack register.value) ≡ cond (a && b) (ack (f (natural bytes))) (nack register.value)
    by_size false b q = refl
    by_size true false q = refl
    by_size true true q =
        let few : length bytes ≤ 8 = omega (arith, eqb-true (length bytes) (size_of register.kind) q, size_most register.kind) in
        rw (loads_all bytes few e)

module _ (register : Register) (sort : ℕ) (bytes : List ℕ) where
  pub deed_read : sort ≡ 4 → read_deed register (length bytes) ≡ held_deed register sort bytes
  unfolding held_deed
  deed_read e = rw e

  module _ (mask : ℕ) (is : Loads bytes mask) where
    pub deed_write : sort ≡ 5 → write_deed register 2 (length bytes) mask ≡ held_deed register sort bytes
    unfolding held_deed
    deed_write e = rw e (loaded register 2 bytes (λ m. m) mask is)

    -- a bit write of any of the three types
    pub deed_bits : (b : Bool) (v : ℕ) → b ≡ is_bit_write sort → b ≡ true → (sort ≡ 4 → ⊥) → (sort ≡ 5 → ⊥) → Changes sort register.value mask v
        → write_deed register 4 (length bytes) v ≡ held_deed register sort bytes
    unfolding held_deed
    deed_bits b v e t n₄ n₅ changes =
        rw (ne_eqb sort 4 n₄, ne_eqb sort 5 n₅) (go (eqb sort 6) (eqb sort 7) (eqb sort 9) refl refl refl (sym e ∙ t))
      where
        go : (six seven nine : Bool) → eqb sort 6 ≡ six → eqb sort 7 ≡ seven → eqb sort 9 ≡ nine → (six || (seven || nine)) ≡ true
            → write_deed register 4 (length bytes) v
            ≡ cond six (write_deed register 4 (length bytes) (set_bits register.value (natural bytes)))
            (cond seven (write_deed register 4 (length bytes) (clear_bits register.value (natural bytes)))
            (cond nine (write_deed register 4 (length bytes) (toggle_bits register.value (natural bytes))) (nack register.value)))
        go true seven nine h₆ h₇ h₉ any = rw (changes.0 (eqb-true sort 6 h₆)) (loaded register 4 bytes (set_bits register.value) mask is)
        go false true nine h₆ h₇ h₉ any = rw (changes.1 (eqb-true sort 7 h₇)) (loaded register 4 bytes (clear_bits register.value) mask is)
        go false false true h₆ h₇ h₉ any = rw (changes.2 (eqb-true sort 9 h₉)) (loaded register 4 bytes (toggle_bits register.value) mask is)
        go false false false h₆ h₇ h₉ any = absurd (true≢false (sym any))

  pub deed_other : (b : Bool) → b ≡ is_bit_write sort → b ≡ false → (sort ≡ 4 → ⊥) → (sort ≡ 5 → ⊥) → nack register.value ≡ held_deed register sort bytes
  unfolding held_deed
  deed_other b e t n₄ n₅ = rw (ne_eqb sort 4 n₄, ne_eqb sort 5 n₅) (go (eqb sort 6) (eqb sort 7) (eqb sort 9) (sym e ∙ t))
    where
      go : (six seven nine : Bool) → (six || (seven || nine)) ≡ false
          → nack register.value
          ≡ cond six (write_deed register 4 (length bytes) (set_bits register.value (natural bytes)))
          (cond seven (write_deed register 4 (length bytes) (clear_bits register.value (natural bytes)))
          (cond nine (write_deed register 4 (length bytes) (toggle_bits register.value (natural bytes))) (nack register.value)))
      go true seven nine none = absurd (true≢false none)
      go false true nine none = absurd (true≢false none)
      go false false true none = absurd (true≢false none)
      go false false false none = refl
