-- What a request does to a register: the reply's type, how many bytes of the value it carries, and the value afterwards.
-- A value is kept as the number that the register's bytes are, lowest first.
-- Assumes nothing.
use Rattle.std.specs.Prelude.{◌≡◌, Bool, cond, ◌||◌, ◌&&◌, List, ◌⊎◌, ℕ, ◌/◌, ◌%◌, ◌≤◌, eqb, length}
use Rattle.values.specs.Values.{size_of, natural, set_bits, clear_bits, toggle_bits}
use Rattle.deeds.specs.declared.Register.{Register}
use Rattle.deeds.specs.declared.Deed.{Deed}

-- "Rights: 1 read, 2 write, 4 bit writes, summed."
abbrev pub HasRight : Register → ℕ → Type 0
HasRight register right = register.rights / right % 2 ≡ 1

abbrev pub has_right : Register → ℕ → Bool
has_right register right = eqb (register.rights / right % 2) 1

-- what a right counts in a register's rights: itself where the register has it, else 0
abbrev pub share : Register → ℕ → ℕ
share register right = cond (has_right register right) right 0

-- ---- when each rule applies to a held register

-- "read with the right and no data"
abbrev pub MayRead : Register → ℕ → List ℕ → Type 0
MayRead register sort bytes = (sort ≡ 4) × HasRight register 1 × (length bytes ≡ 0)

-- "write with the right and exactly the kind's size of data"
abbrev pub MayWrite : Register → ℕ → List ℕ → Type 0
MayWrite register sort bytes = (sort ≡ 5) × HasRight register 2 × (length bytes ≡ size_of register.kind)

-- "set, clear or toggle with right 4 and that size"
abbrev pub MayChange : Register → ℕ → List ℕ → Type 0
MayChange register sort bytes = ((sort ≡ 6) ⊎ ((sort ≡ 7) ⊎ (sort ≡ 9))) × HasRight register 4 × (length bytes ≡ size_of register.kind)

-- ---- what a request does

-- "Ack and nack carry the register and no data."
abbrev pub nack : ℕ → Deed
nack value = record { sort = 0; size = 0; value = value }

abbrev pub ack : ℕ → Deed
ack value = record { sort = 3; size = 0; value = value }

abbrev pub datagram : Register → Deed
datagram register = record { sort = 8; size = size_of register.kind; value = register.value }

-- "read with the right and no data: a datagram with the value"; n is how many data bytes there are
unfoldable pub read_deed : Register → ℕ → Deed
read_deed register n = cond (has_right register 1 && eqb n 0) (datagram register) (nack register.value)

-- "write with the right and exactly the kind's size of data: ack, and the value is those bytes";
-- "set, clear or toggle with right 4 and that size: ack"
unfoldable pub write_deed : Register → ℕ → ℕ → ℕ → Deed
write_deed register right n value = cond (has_right register right && eqb n (size_of register.kind)) (ack value) (nack register.value)

-- "anything else [..]: nack, nothing changed"
unfoldable pub held_deed : Register → ℕ → List ℕ → Deed
held_deed register sort bytes =
    cond (eqb sort 4) (read_deed register (length bytes))
    (cond (eqb sort 5) (write_deed register 2 (length bytes) (natural bytes))
    (cond (eqb sort 6) (write_deed register 4 (length bytes) (set_bits register.value (natural bytes)))
    (cond (eqb sort 7) (write_deed register 4 (length bytes) (clear_bits register.value (natural bytes)))
    (cond (eqb sort 9) (write_deed register 4 (length bytes) (toggle_bits register.value (natural bytes))) (nack register.value)))))

-- what a bit write makes of a value: 6 sets, 7 clears, 9 toggles
abbrev pub Changes : ℕ → ℕ → ℕ → ℕ → Type 0
Changes sort value mask r = (sort ≡ 6 → r ≡ set_bits value mask) × (sort ≡ 7 → r ≡ clear_bits value mask) × (sort ≡ 9 → r ≡ toggle_bits value mask)

abbrev pub is_bit_write : ℕ → Bool
is_bit_write sort = eqb sort 6 || (eqb sort 7 || eqb sort 9)

-- ---- what every deed is

-- the type is at most 9 and there are at most 8 bytes
abbrev pub Small : Deed → Type 0
Small deed = (deed.sort ≤ 9) × (deed.size ≤ 8)

-- a nack, an ack or a datagram
abbrev pub Reply : Deed → Type 0
Reply deed = (deed.sort ≡ 0) ⊎ ((deed.sort ≡ 3) ⊎ (deed.sort ≡ 8))

-- ---- the contracts

abbrev pub Does : Register → ℕ → List ℕ → Deed → Type 0
Does register sort bytes r = r ≡ held_deed register sort bytes

abbrev pub Nacks : ℕ → Deed → Type 0
Nacks value r = r ≡ nack value
