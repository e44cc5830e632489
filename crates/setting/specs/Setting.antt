-- A setting: what a register of a module is to hold. Which settings are allowed, in which order they stand, and rows of 8 bytes that
-- name them, as a sheet's records do.
-- Assumes nothing.
use Rattle.std.specs.Prelude.{◌≡◌, Bool, false, cond, not, ◌&&◌, List, [], ◌∷◌, ◌⊎◌, ℕ, zero, suc, ◌+◌, ◌*◌, ◌/◌, ◌≤◌, ◌<◌, eqb, leb, ltb, length, get_or, take, drop}
use Rattle.first.specs.First.{first_place}
use Rattle.values.specs.Values.{size_of, natural}
use Rattle.setting.specs.declared.Head.{Head}
use Rattle.setting.specs.declared.Fault.{Fault}
use Rattle.setting.specs.declared.Fault.TheVariants.{ShortSheet, OtherVersion, WrongHeader, OutOfOrder, NotAllowed, WrongPlaces, NoSuchRecord, NoRoom, TooMany}

-- "module, register, kind, element count": a `Head` is these four
abbrev pub head : ℕ → ℕ → ℕ → ℕ → Head
head unit register kind count = record { unit = unit; register = register; kind = kind; count = count }

pub record Setting : Type 0 where
  pub named : Head
  pub value : List ℕ

abbrev pub setting : Head → List ℕ → Setting
setting named value = record { named = named; value = value }

-- "count times size": how many bytes the value of such a setting has
unfoldable pub length_of : Head → ℕ
length_of h = h.count * size_of h.kind

-- how many the first k of them have
unfoldable pub lengths_to : (ℕ → Head) → ℕ → ℕ
lengths_to at zero = 0
lengths_to at (suc k) = lengths_to at k + length_of (at k)

-- ---- the two conditions that a sheet's records and a writer's settings share

-- "rise strictly by module, then register": b stands above a
unfoldable pub Above : Head → Head → Type 0
Above a b = (a.unit < b.unit) ⊎ ((a.unit ≡ b.unit) × (a.register < b.register))

-- "module (1 to 160)", kinds 1 to 7, "element count 1 to 240", "An element count times its size is at most 240."
unfoldable pub Allowed : Head → Type 0
Allowed h =
    ((1 ≤ h.unit) × (h.unit ≤ 160))
    × (((1 ≤ h.kind) × (h.kind ≤ 7)) × (((1 ≤ h.count) × (h.count ≤ 240)) × (length_of h ≤ 240)))

-- the most elements of each kind, from 0 on, which is none: at most 240 bytes of U8 and I8, U16 and I16, U32 and I32, U64
abbrev pub most_elements : List ℕ
most_elements = 0 ∷ 240 ∷ 240 ∷ 120 ∷ 120 ∷ 60 ∷ 60 ∷ 30 ∷ []

-- some place under n
abbrev pub Some : (ℕ → Type 0) → ℕ → Type 0
Some P n = (k : ℕ) × (k < n) × P k

-- 68: "a record not above the one before"; the first has none before it
unfoldable pub Falls : (ℕ → Head) → ℕ → Type 0
Falls at zero = ⊥
Falls at (suc k) = Above (at k) (at (suc k)) → ⊥

-- 69: "kind, count or module (1 to 160) not allowed"
unfoldable pub Unfit : (ℕ → Head) → ℕ → Type 0
Unfit at k = Allowed (at k) → ⊥

-- ---- rows of 8 bytes: a head, and a number of 4 bytes, lowest first

unfoldable pub head_of : List ℕ → Head
head_of row = head (get_or row 0 0) (get_or row 1 0) (get_or row 2 0) (get_or row 3 0)

-- a sheet's records say where the value stands there, a writer's settings how long it is
unfoldable pub tail_of : List ℕ → ℕ
tail_of row = natural (take 4 (drop 4 row))

-- how many rows there are, each whole
unfoldable pub rows_in : List ℕ → ℕ
rows_in rows = length rows / 8

-- of the row at k, from 0 on; zeros where there is none
unfoldable pub heads : List ℕ → ℕ → Head
heads rows k = cond (ltb k (rows_in rows)) (head_of (drop (8 * k) rows)) (head 0 0 0 0)

unfoldable pub tails : List ℕ → ℕ → ℕ
tails rows k = cond (ltb k (rows_in rows)) (tail_of (drop (8 * k) rows)) 0

-- the settings that the first n rows name, their values standing one after the other
unfoldable pub settings_in : ℕ → List ℕ → List ℕ → List Setting
settings_in zero rows values = []
settings_in (suc n) rows values =
    setting (head_of rows) (take (length_of (head_of rows)) values) ∷ settings_in n (drop 8 rows) (drop (length_of (head_of rows)) values)

-- ---- how the two are tested

unfoldable pub is_above : Head → Head → Bool
is_above a b = cond (eqb a.unit b.unit) (ltb a.register b.register) (ltb a.unit b.unit)

unfoldable pub is_allowed : Head → Bool
is_allowed h =
    (leb 1 h.unit && leb h.unit 160)
    && ((leb 1 h.kind && leb h.kind 7) && ((leb 1 h.count && leb h.count 240) && leb (length_of h) 240))

unfoldable pub falls : (ℕ → Head) → ℕ → Bool
falls at zero = false
falls at (suc k) = not (is_above (at k) (at (suc k)))

unfoldable pub unfit : (ℕ → Head) → ℕ → Bool
unfit at k = not (is_allowed (at k))

-- a test tells true of some place under n
unfoldable pub some_of : (ℕ → Bool) → ℕ → Bool
some_of p n = ltb (first_place p n) n

-- ---- the refusals of every call on sheets

-- the paper's number of each
abbrev pub fault_number : Fault → ℕ
fault_number ShortSheet = 65
fault_number OtherVersion = 66
fault_number WrongHeader = 67
fault_number OutOfOrder = 68
fault_number NotAllowed = 69
fault_number WrongPlaces = 70
fault_number NoSuchRecord = 56
fault_number NoRoom = 57
fault_number TooMany = 79

-- a row does not stand below a head
abbrev pub not_below : Head → (ℕ → Head) → ℕ → Bool
not_below h at k = not (is_above (at k) h)

-- ---- the contracts

-- whether such a setting is allowed
abbrev pub Allows : Head → Bool → Type 0
Allows h r = r ≡ is_allowed h

-- whether b stands above a
abbrev pub Rises : Head → Head → Bool → Type 0
Rises a b r = r ≡ is_above a b

abbrev pub Numbers : Fault → ℕ → Type 0
Numbers fault r = r ≡ fault_number fault

-- the length of the value of such a setting
abbrev pub Measures : Head → ℕ → Type 0
Measures h r = r ≡ length_of h

-- what the row at k says
abbrev pub NamesRow : List ℕ → ℕ → Head → Type 0
NamesRow rows k r = r ≡ heads rows k

abbrev pub TellsRow : List ℕ → ℕ → ℕ → Type 0
TellsRow rows k r = r ≡ tails rows k

-- the first row that is not above the one before; how many rows there are where each is
abbrev pub FindsFall : List ℕ → ℕ → Type 0
FindsFall rows r = r ≡ first_place (falls (heads rows)) (rows_in rows)

-- the first row that is not allowed; how many rows there are where each is
abbrev pub FindsUnfit : List ℕ → ℕ → Type 0
FindsUnfit rows r = r ≡ first_place (unfit (heads rows)) (rows_in rows)

-- the first row that does not stand below a head; how many rows there are where each does
abbrev pub FindsPlace : List ℕ → Head → ℕ → Type 0
FindsPlace rows h r = r ≡ first_place (not_below h (heads rows)) (rows_in rows)
