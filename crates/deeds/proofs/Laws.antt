-- What is promised of a request to a register, each law under the sentence of the paper that it keeps.
-- Assumes nothing.
use mathlib.Core.Path.{◌≡◌, refl, sym, ◌∙◌}
use mathlib.Core.Bool.{Bool, true, false, cond, ◌&&◌}
use mathlib.Core.List.{List}
use mathlib.Core.Logic.{◌⊎◌, inl, inr}
use Prim.Native.Nat.{ℕ, zero, suc, ◌+◌, ◌*◌, ◌/◌, ◌%◌, ◌^◌, ◌≤◌, ◌<◌}
use native.Mathlib.Omega.{arith}
use borrow.Author.Tests.{eqb-true}
use lib.Dec.{eqb}
use lib.ListN.{length}
use Rattle.rows.proofs.Settled.{settled}
use Rattle.rows.specs.Settled.{Settled}
use Rattle.rows.proofs.Laws.{decides_eq, decides_and, told_true}
use Rattle.values.proofs.Bytes.{natural_lt}
use Rattle.values.proofs.Laws.{set_size, clear_size, toggle_size}
use Rattle.values.specs.Values.{size_of, natural, Bytes, set_bits, clear_bits, toggle_bits}
use Rattle.deeds.specs.Deeds.{HasRight, has_right, share, MayRead, MayWrite, MayChange, nack, ack, datagram, read_deed, write_deed, held_deed, Small, Reply, Does, Nacks}
use Rattle.deeds.specs.declared.Register.{Register}
use Rattle.deeds.specs.declared.Deed.{Deed}
use Rattle.deeds.proofs.Deeds.{size_most, read_allowed, write_allowed, deed_read}

-- ---- "Rights: 1 read, 2 write, 4 bit writes, summed."

pub rights_summed : (register : Register) → register.rights ≤ 7 → register.rights ≡ share register 1 + share register 2 + share register 4
rights_summed register h =
    let one = counted (register.rights / 1 % 2) 1 (omega arith) in
    let two = counted (register.rights / 2 % 2) 2 (omega arith) in
    let four = counted (register.rights / 4 % 2) 4 (omega arith) in
    let low : register.rights / 1 % 2 ≡ register.rights % 2 = omega arith in
    let high : register.rights / 4 % 2 ≡ register.rights / 4 = omega arith in
    let middle : register.rights / 2 ≡ 2 * (register.rights / 4) + register.rights / 2 % 2 = omega arith in
    let all : register.rights ≡ 2 * (register.rights / 2) + register.rights % 2 = omega arith in
    omega (arith, one, two, four, low, high, middle, all)
  where
    counted : (b right : ℕ) → b < 2 → cond (eqb b 1) right 0 ≡ b * right
    counted zero right h = omega arith
    counted (suc zero) right h = omega arith
    counted (suc (suc b)) right h = absurd (omega arith)

-- ---- the deed of each

choose : {A : Type 0} (b : Bool) (x y z : A) → (b ≡ true → x ≡ z) → y ≡ z → cond b x y ≡ z
choose true x y z p q = p refl
choose false x y z p q = q

module _ (register : Register) (sort : ℕ) (bytes : List ℕ) where
  pub read_deed_lem : MayRead register sort bytes → held_deed register sort bytes ≡ datagram register
  read_deed_lem m =
      sym (deed_read register sort bytes m.0)
      ∙ sym (read_allowed register (length bytes) (has_right register 1) _ refl (told_true (decides_eq (register.rights / 1 % 2) 1) m.1) m.2 refl)

  changed : (right value : ℕ) → HasRight register right → length bytes ≡ size_of register.kind → write_deed register right (length bytes) value ≡ ack value
  changed right value h n =
      sym (write_allowed register (length bytes) right value (has_right register right) refl (told_true (decides_eq (register.rights / right % 2) 1) h) n)

  pub write_deed_lem : MayWrite register sort bytes → held_deed register sort bytes ≡ ack (natural bytes)
  unfolding held_deed
  write_deed_lem m = rw m.0 (changed 2 (natural bytes) m.1 m.2)

  module _ (h : HasRight register 4) (n : length bytes ≡ size_of register.kind) where
    pub set_deed : sort ≡ 6 → held_deed register sort bytes ≡ ack (set_bits register.value (natural bytes))
    unfolding held_deed
    set_deed e = rw e (changed 4 (set_bits register.value (natural bytes)) h n)

    pub clear_deed : sort ≡ 7 → held_deed register sort bytes ≡ ack (clear_bits register.value (natural bytes))
    unfolding held_deed
    clear_deed e = rw e (changed 4 (clear_bits register.value (natural bytes)) h n)

    pub toggle_deed : sort ≡ 9 → held_deed register sort bytes ≡ ack (toggle_bits register.value (natural bytes))
    unfolding held_deed
    toggle_deed e = rw e (changed 4 (toggle_bits register.value (natural bytes)) h n)

  unread_deed : (HasRight register 1 × (length bytes ≡ 0) → ⊥) → read_deed register (length bytes) ≡ nack register.value
  unfolding read_deed
  unread_deed n =
      choose (has_right register 1 && eqb (length bytes) 0) (datagram register) (nack register.value) (nack register.value)
      (λ e. absurd (n ((decides_and (decides_eq (register.rights / 1 % 2) 1) (decides_eq (length bytes) 0)).so e))) refl

  unwritten_deed : (right value : ℕ) → (HasRight register right × (length bytes ≡ size_of register.kind) → ⊥)
      → write_deed register right (length bytes) value ≡ nack register.value
  unfolding write_deed
  unwritten_deed right value n =
      choose (has_right register right && eqb (length bytes) (size_of register.kind)) (ack value) (nack register.value) (nack register.value)
      (λ e. absurd (n ((decides_and (decides_eq (register.rights / right % 2) 1) (decides_eq (length bytes) (size_of register.kind))).so e))) refl

  pub other_deed : (MayRead register sort bytes → ⊥) → (MayWrite register sort bytes → ⊥) → (MayChange register sort bytes → ⊥)
      → held_deed register sort bytes ≡ nack register.value
  unfolding held_deed
  other_deed no_read no_write no_change =
      choose (eqb sort 4) _ _ _ (λ e. unread_deed (λ h. no_read (eqb-true sort 4 e, h.0, h.1)))
      (choose (eqb sort 5) _ _ _ (λ e. unwritten_deed 2 (natural bytes) (λ h. no_write (eqb-true sort 5 e, h.0, h.1)))
      (choose (eqb sort 6) _ _ _ (λ e. unchanged _ (inl (eqb-true sort 6 e)))
      (choose (eqb sort 7) _ _ _ (λ e. unchanged _ (inr (inl (eqb-true sort 7 e))))
      (choose (eqb sort 9) _ _ _ (λ e. unchanged _ (inr (inr (eqb-true sort 9 e)))) refl))))
    where
      unchanged : (value : ℕ) → (sort ≡ 6) ⊎ ((sort ≡ 7) ⊎ (sort ≡ 9)) → write_deed register 4 (length bytes) value ≡ nack register.value
      unchanged value is = unwritten_deed 4 value (λ h. no_change (is, h.0, h.1))

-- ---- what holds of a datagram, a nack and every ack holds of what a request does

pub either : {A : Type 0} (P : A → Type 0) (b : Bool) (x y : A) → P x → P y → P (cond b x y)
either P true x y p q = p
either P false x y p q = q

held_any : (P : Deed → Type 0) (register : Register) → P (datagram register) → P (nack register.value) → ((v : ℕ) → P (ack v))
    → (sort : ℕ) (bytes : List ℕ) → P (held_deed register sort bytes)
unfolding held_deed read_deed write_deed
held_any P register read denied written sort bytes =
    either P (eqb sort 4) _ _ (either P (has_right register 1 && eqb (length bytes) 0) _ _ read denied)
    (either P (eqb sort 5) _ _ (writes 2 (natural bytes))
    (either P (eqb sort 6) _ _ (writes 4 (set_bits register.value (natural bytes)))
    (either P (eqb sort 7) _ _ (writes 4 (clear_bits register.value (natural bytes)))
    (either P (eqb sort 9) _ _ (writes 4 (toggle_bits register.value (natural bytes))) denied))))
  where
    writes : (right v : ℕ) → P (cond (has_right register right && eqb (length bytes) (size_of register.kind)) (ack v) (nack register.value))
    writes right v = either P (has_right register right && eqb (length bytes) (size_of register.kind)) _ _ (written v) denied

-- so the writer of the reply has room enough
pub nacked : (v : ℕ) → Small (nack v)
nacked v = (omega arith, omega arith)

pub held_small : (register : Register) (sort : ℕ) (bytes : List ℕ) → Small (held_deed register sort bytes)
held_small register =
    held_any Small register (omega arith, size_most register.kind) (nacked register.value) (λ v. (omega arith, omega arith))

-- and these are the types that a bench answers with
pub held_reply : (register : Register) (sort : ℕ) (bytes : List ℕ) → Reply (held_deed register sort bytes)
held_reply register = held_any Reply register (inr (inr refl)) (inl refl) (λ v. inr (inl refl))

-- ---- a value that fits its kind still does afterwards

module _ (register : Register) (small : register.value < 2 ^ (8 * size_of register.kind)) where
  abbrev Fits : Deed → Type 0
  Fits deed = deed.value < 2 ^ (8 * size_of register.kind)

  write_fits : (which n v : ℕ) → (n ≡ size_of register.kind → v < 2 ^ (8 * size_of register.kind)) → Fits (write_deed register which n v)
  unfolding write_deed
  write_fits which n v h = go (has_right register which) (eqb n (size_of register.kind)) refl
    where
      go : (a b : Bool) → eqb n (size_of register.kind) ≡ b → Fits (cond (a && b) (ack v) (nack register.value))
      go false b e = small
      go true false e = small
      go true true e = h (eqb-true n (size_of register.kind) e)

  read_fits : (n : ℕ) → Fits (read_deed register n)
  unfolding read_deed
  read_fits n = either Fits (has_right register 1 && eqb n 0) (datagram register) (nack register.value) (small) (small)

  pub deed_fits : (sort : ℕ) (bytes : List ℕ) → Bytes bytes → Fits (held_deed register sort bytes)
  unfolding held_deed
  deed_fits sort bytes each =
      either Fits (eqb sort 4) _ _ (read_fits (length bytes))
      (either Fits (eqb sort 5) _ _ (write_fits 2 (length bytes) (natural bytes) mask)
      (either Fits (eqb sort 6) _ _ (write_fits 4 (length bytes) (set_bits v m) (λ e. set_size size v m small (mask e)))
      (either Fits (eqb sort 7) _ _ (write_fits 4 (length bytes) (clear_bits v m) (λ e. clear_size size v m small))
      (either Fits (eqb sort 9) _ _ (write_fits 4 (length bytes) (toggle_bits v m) (λ e. toggle_size size v m small (mask e))) small))))
    where
      size : ℕ
      size = size_of register.kind

      v : ℕ
      v = register.value

      m : ℕ
      m = natural bytes

      mask : length bytes ≡ size_of register.kind → natural bytes < 2 ^ (8 * size_of register.kind)
      mask e = rw e at (natural_lt bytes each)

-- ---- "Show that any two outcomes allowed by it are equal."

pub does_settled : (register : Register) (sort : ℕ) (bytes : List ℕ) → Settled (Does register sort bytes)
does_settled register sort bytes = settled _

pub nacks_settled : (value : ℕ) → Settled (Nacks value)
nacks_settled value = settled _
