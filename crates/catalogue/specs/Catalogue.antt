-- The register catalogue: the paper's table in its own words and order, and what a search of it answers.
-- Assumes nothing.
use Rattle.std.specs.Prelude.{◌≡◌, Bool, true, false, cond, not, ◌&&◌, ◌||◌, List, [], ◌∷◌, ◌⊎◌, ℕ, ◌≤◌, ◌<◌, eqb, leb, length, get_or, Ok, Err}
use Rattle.std.proofs.Math.Option.{Option, some, none}
use Rattle.rows.specs.Rows.{Row as Refusal, row, Test, test, first_row_of}
use Rattle.values.specs.Values.{size_of, is_signed, is_kind, greatest, fits, Holds}
use Rattle.values.specs.declared.Value.TheVariants.{Natural}
use Rattle.catalogue.specs.declared.Entry.{Entry}
use Rattle.catalogue.specs.declared.table.Row.{Row}
use Rattle.catalogue.specs.declared.Fault.{Fault}
use Rattle.catalogue.specs.declared.Fault.TheVariants.{NoSuchRow}
use Rattle.catalogue.specs.Answers.{Found}

-- ---- "a fixed table of module type and register, with kind, right to write, lowest and highest written value"

-- what the paper says of writing: "read"; "whole range"; "from 1"; or the two ends
pub data Written : Type 0 where
  reads : Written
  whole : Written
  from1 : Written
  between : ℕ → ℕ → Written

pub record Line : Type 0 where
  pub model : ℕ
  pub register : ℕ
  pub kind : ℕ
  pub written : Written

abbrev pub line : ℕ → ℕ → ℕ → Written → Line
line m r k w = record { model = m; register = r; kind = k; written = w }

abbrev pub SELECT : ℕ
SELECT = 0x67

abbrev pub VARIA : ℕ
VARIA = 0x68

abbrev pub COMPACT : ℕ
COMPACT = 0x74

abbrev pub U8 : ℕ
U8 = 1

abbrev pub U16 : ℕ
U16 = 3

abbrev pub I16 : ℕ
I16 = 4

abbrev pub U32 : ℕ
U32 = 5

unfoldable pub table : List Line
table =
    line SELECT 0x10 U16 reads
    ∷ line SELECT 0x11 U16 reads
    ∷ line SELECT 0x32 U8 (between 0 7)
    ∷ line SELECT 0x33 U8 (between 0 7)
    ∷ line SELECT 0x34 U8 (between 0 1)
    ∷ line SELECT 0x35 U8 (between 0 1)
    ∷ line SELECT 0x90 U32 reads
    ∷ line SELECT 0x91 U32 reads
    ∷ line SELECT 0xA0 U32 reads
    ∷ line SELECT 0xA1 U32 reads
    ∷ line VARIA 0x13 U16 reads
    ∷ line VARIA 0x66 U16 reads
    ∷ line VARIA 0x32 U16 whole
    ∷ line VARIA 0x33 U16 whole
    ∷ line VARIA 0x34 U16 whole
    ∷ line COMPACT 0x1A U16 reads
    ∷ line COMPACT 0x66 U16 reads
    ∷ line COMPACT 0x1B I16 reads
    ∷ line COMPACT 0x36 U32 reads
    ∷ line COMPACT 0x71 U32 reads
    ∷ line COMPACT 0x24 U16 (between 0 4095)
    ∷ line COMPACT 0x26 U16 (between 0 100)
    ∷ line COMPACT 0x30 U8 (between 0 1)
    ∷ line COMPACT 0x31 U8 (between 0 5)
    ∷ line COMPACT 0x33 U32 from1
    ∷ line COMPACT 0x34 U16 from1
    ∷ line COMPACT 0x35 U8 whole
    ∷ line COMPACT 0x3E U8 (between 0 100)
    ∷ []

-- what stands where the table has no line
abbrev pub nothing : Line
nothing = line 0 0 0 reads

-- ---- "'Whole range' is 0 to the kind's greatest number, 'from 1' ends there too. Read rows answer 0 for both ends."

abbrev pub may_write : Written → Bool
may_write reads = false
may_write whole = true
may_write from1 = true
may_write (between lo hi) = true

abbrev pub lowest_of : Written → ℕ
lowest_of reads = 0
lowest_of whole = 0
lowest_of from1 = 1
lowest_of (between lo hi) = lo

abbrev pub highest_of : ℕ → Written → ℕ
highest_of kind reads = 0
highest_of kind whole = greatest kind
highest_of kind from1 = greatest kind
highest_of kind (between lo hi) = hi

-- a line in numbers, as the program has it
abbrev pub row_of : Line → Row
row_of l =
    record {
      model = l.model;
      register = l.register;
      kind = l.kind;
      writable = may_write l.written;
      lowest = lowest_of l.written;
      highest = highest_of l.kind l.written;
    }

-- what is answered of a line
abbrev pub entry_of : Line → Entry
entry_of l =
    record {
      kind = l.kind;
      writable = may_write l.written;
      lowest = lowest_of l.written;
      highest = highest_of l.kind l.written;
    }

-- ---- row 50

-- the line is that of this type and register
abbrev pub For : ℕ → ℕ → Line → Type 0
For model register l = (l.model ≡ model) × (l.register ≡ register)

-- 50: "no such row"
unfoldable pub NoSuch : ℕ → ℕ → Type 0
NoSuch model register = (i : ℕ) → i < length table → For model register (get_or table i nothing) → ⊥

unfoldable pub find_rows : ℕ → ℕ → List (Refusal Fault)
find_rows model register = row (NoSuch model register) NoSuchRow ∷ []

-- the paper's number of the refusal
abbrev pub fault_number : Fault → ℕ
fault_number NoSuchRow = 50

-- ---- how it is looked up

unfoldable pub is_for : ℕ → ℕ → Line → Bool
is_for model register l = eqb l.model model && eqb l.register register

unfoldable pub named : ℕ → ℕ → List Line → Bool
named model register [] = false
named model register (l ∷ rest) = is_for model register l || named model register rest

unfoldable pub line_for : ℕ → ℕ → List Line → Line
line_for model register [] = nothing
line_for model register (l ∷ rest) = cond (is_for model register l) l (line_for model register rest)

abbrev pub find_tests : ℕ → ℕ → List (Test Fault)
find_tests model register = test (not (named model register table)) NoSuchRow ∷ []

unfoldable pub find_refusal : ℕ → ℕ → Option Fault
find_refusal model register = first_row_of (find_tests model register)

abbrev pub find_answer : Option Fault → Entry → Found
find_answer (some f) e = Err f
find_answer none e = Ok e

unfoldable pub find_entry : ℕ → ℕ → Found
find_entry model register = find_answer (find_refusal model register) (entry_of (line_for model register table))

-- the number that an answer tells, or none
abbrev pub find_told : Found → Option ℕ
find_told (Err f) = some (fault_number f)
find_told (Ok e) = none

-- ---- the rule of the table

-- of a line: a kind, ends in order, both ends of the kind, and where they are as the paper says
pub record Right (l : Line) : Type 0 where
  pub known : is_kind l.kind ≡ true
  pub in_order : lowest_of l.written ≤ highest_of l.kind l.written
  pub low_fits : Holds (is_signed l.kind) (size_of l.kind) (Natural (lowest_of l.written))
  pub high_fits : Holds (is_signed l.kind) (size_of l.kind) (Natural (highest_of l.kind l.written))
  pub read_zero : may_write l.written ≡ false → (lowest_of l.written ≡ 0) × (highest_of l.kind l.written ≡ 0)
  pub from_zero : l.written ≡ whole → lowest_of l.written ≡ 0
  pub from_one : l.written ≡ from1 → lowest_of l.written ≡ 1
  pub to_top : (l.written ≡ whole) ⊎ (l.written ≡ from1) → highest_of l.kind l.written ≡ greatest l.kind

-- how it is tested, of one line
unfoldable pub sound : Line → Bool
sound l =
    is_kind l.kind
    && (leb (lowest_of l.written) (highest_of l.kind l.written)
    && (fits l.kind (Natural (lowest_of l.written)) && fits l.kind (Natural (highest_of l.kind l.written))))

-- and of all: no pair of type and register twice
unfoldable pub distinct : List Line → Bool
distinct [] = true
distinct (l ∷ rest) = not (named l.model l.register rest) && distinct rest

-- ---- the contracts

abbrev pub Numbers : Fault → ℕ → Type 0
Numbers fault r = r ≡ fault_number fault

abbrev pub Finds : ℕ → ℕ → Found → Type 0
Finds model register r = r ≡ find_entry model register
