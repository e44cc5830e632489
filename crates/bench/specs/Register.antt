-- The bench module's registers: "one address and up to 32 registers, each with a kind, rights and a value, 0 when added."
-- Rights, and what a request does to a register, are in deeds.
-- Assumes nothing.
use Rattle.std.specs.Prelude.{◌≡◌, Bool, true, false, ℕ, ◌<◌, min, eqb, ltb, get_or, replicate, set, Some, None}
use Rattle.first.specs.First.{first_place}
use Rattle.deeds.specs.declared.Register.{Register}
use Rattle.telegram.specs.Read.{fault_number as read_number, fault_place as read_place}
use Rattle.values.specs.Values.{size_of, is_signed, value_at}
use Rattle.values.specs.declared.Value.{Value}
use Rattle.bench.specs.declared.Bench.{Bench}
use Rattle.bench.specs.declared.Fault.{Fault}
use Rattle.bench.specs.declared.Fault.TheVariants.{Unread, WrongKind, WrongRights, AlreadyThere, Full, NotAModule, OtherAddress, NotARequest, NoRoom, NotHeld, DoesNotFit}
use Rattle.bench.specs.Answers.{Seen}
use Rattle.bench.specs.Answers.{Found}

abbrev pub no_register : Register
no_register = record { number = 0; kind = 0; rights = 0; value = 0 }

-- a bench at an address that holds nothing yet
abbrev pub empty_bench : ℕ → Bench
empty_bench address = record { address = address; count = 0; registers = replicate 32 no_register }

abbrev pub register_at : Bench → ℕ → Register
register_at bench place = get_or bench.registers place no_register

-- how many registers it holds; they are the first ones
abbrev pub held_count : Bench → ℕ
held_count bench = min bench.count 32

-- where a register is held; held_count where it is not
unfoldable pub place_of : Bench → ℕ → ℕ
place_of bench number = first_place (λ place. eqb (register_at bench place).number number) (held_count bench)

-- the bench holds the register
abbrev pub Held : Bench → ℕ → Type 0
Held bench number = (place : ℕ) × (place < held_count bench) × ((register_at bench place).number ≡ number)

abbrev pub is_held : Bench → ℕ → Bool
is_held bench number = ltb (place_of bench number) (held_count bench)

-- what a search for the register finds
abbrev pub found_at : Bool → ℕ → Found
found_at true place = Some place
found_at false place = None

abbrev pub found : Bench → ℕ → Found
found bench number = found_at (is_held bench number) (place_of bench number)

-- the register that a number names
abbrev pub named : Bench → ℕ → Register
named bench number = register_at bench (place_of bench number)

-- the value that a register's bytes mean
abbrev pub meant : Register → Value
meant register = value_at (is_signed register.kind) (size_of register.kind) register.value

-- the bench with another value in a register that it holds; every other register stays
abbrev pub with_value : Bench → ℕ → ℕ → Bench
with_value bench place value =
    record {
      address = bench.address;
      count = bench.count;
      registers = set bench.registers place
          (record {
            number = (register_at bench place).number;
            kind = (register_at bench place).kind;
            rights = (register_at bench place).rights;
            value = value;
          });
    }

-- the paper's number of each refusal; a telegram that could not be read has its own
abbrev pub fault_number : Fault → ℕ
fault_number (Unread f) = read_number f
fault_number WrongKind = 30
fault_number WrongRights = 31
fault_number AlreadyThere = 32
fault_number Full = 33
fault_number NotAModule = 34
fault_number OtherAddress = 35
fault_number NotARequest = 36
fault_number NoRoom = 37
fault_number NotHeld = 38
fault_number DoesNotFit = 43

-- the place that comes with the reader's 3; 0 with all else
abbrev pub fault_place : Fault → ℕ
fault_place (Unread f) = read_place f
fault_place WrongKind = 0
fault_place WrongRights = 0
fault_place AlreadyThere = 0
fault_place Full = 0
fault_place NotAModule = 0
fault_place OtherAddress = 0
fault_place NotARequest = 0
fault_place NoRoom = 0
fault_place NotHeld = 0
fault_place DoesNotFit = 0

abbrev pub shown : Bool → Register → Seen
shown true register = Some register
shown false register = None

-- ---- the contracts

abbrev pub Numbers : Fault → ℕ → Type 0
Numbers fault r = r ≡ fault_number fault

-- `place`
abbrev pub Places : Fault → ℕ → Type 0
Places fault r = r ≡ fault_place fault

abbrev pub Looks : Bench → ℕ → Seen → Type 0
Looks bench number r = r ≡ shown (is_held bench number) (named bench number)
