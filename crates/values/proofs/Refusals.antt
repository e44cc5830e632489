-- What decides each row, what an answer tells of its refusal, and what a refusal leaves.
-- Assumes nothing.
use Rattle.std.specs.Prelude.{Ok, Err}
use mathlib.Core.Path.{◌≡◌, refl, sym, ap, ap₂, ◌∙◌}
use mathlib.Core.Bool.{Bool, true, false, cond, not, ◌||◌, true≢false}
use mathlib.Core.List.{List}
use mathlib.Core.Option.{Option, some, none}
use Prim.Native.Nat.{ℕ, ◌+◌, ◌-◌, ◌*◌, ◌/◌, ◌%◌, ◌^◌, ◌<◌, ◌≤◌}
use native.Mathlib.Nat.{div-add-mod', mul-mod_left}
use native.Mathlib.Omega.{arith}
use borrow.Author.Tests.{ltb-false, not-false}
use lib.Dec.{leb, ltb, eqb}
use lib.ListN.{length, take}
use lib.Pow.{pow_pos}
use Rattle.lent.specs.Lent.{over}
use Rattle.lent.proofs.Laws.{take-over}
use Rattle.rows.proofs.Laws.{Decides, decides_le, decides_eq, decides_not, decides_as, clash}
use Rattle.values.specs.Values.{size_of, is_signed, is_kind, greatest, fits, Holds, value_at, natural, element_of, stored_at, bytes_of}
use Rattle.values.specs.Values.{read_answer, read_refusal, read_value, stored_answer, stored_refusal, stored_value, write_refusal, write_answer, room_after, Writes}
use Rattle.values.specs.declared.Value.{Value}
use Rattle.values.specs.declared.Value.TheVariants.{Natural, Negative}
use Rattle.values.specs.declared.Fault.{Fault}
use Rattle.values.specs.declared.Fault.TheVariants.{UnknownKind, DoesNotFit, ShortBuffer}
use Rattle.values.proofs.Bytes.{length-bytes_of}
use Rattle.values.proofs.Sized.{positive, size_of_kind, kind_of_size}

-- ---- the tests decide the rows

pub decides_kind : (kind : ℕ) → Decides (is_kind kind) ((1 ≤ kind) × (kind ≤ 7))
unfolding is_kind
decides_kind kind =
    decides_as (decides_not (decides_eq (size_of kind) 0))
    (λ n. kind_of_size kind (positive (size_of kind) n))
    (λ h z. let l : 1 ≤ size_of kind = (size_of_kind kind h.0 h.1).0 in omega arith)

pub decides_length : (kind : ℕ) (bytes : List ℕ) → Decides (not (eqb (length bytes % size_of kind) 0)) ((q : ℕ) × (length bytes ≡ q * size_of kind) → ⊥)
decides_length kind bytes =
    decides_not
    (decides_as (decides_eq (length bytes % size_of kind) 0)
    (λ e. (length bytes / size_of kind, multiple (length bytes) (size_of kind) e))
    (λ m. ap (λ (n : ℕ). n % size_of kind) m.1 ∙ mul-mod_left m.0 (size_of kind)))
  where
    multiple : (a n : ℕ) → a % n ≡ 0 → a ≡ a / n * n
    multiple a n e = omega (arith, div-add-mod' a n)

-- at most one less than a power is under the power
decides_below : (v k : ℕ) → Decides (leb v (2 ^ k - 1)) (v < 2 ^ k)
decides_below v k = decides_as (decides_le v (2 ^ k - 1)) (λ h. omega (arith, pow_pos k)) (λ h. omega arith)

natural_fits : (b : Bool) (n v : ℕ) → Decides (leb v (cond b (2 ^ (8 * n - 1) - 1) (2 ^ (8 * n) - 1))) (Holds b n (Natural v))
unfolding Holds
natural_fits true n v = decides_below v (8 * n - 1)
natural_fits false n v = decides_below v (8 * n)

negative_fits : (b : Bool) (n m : ℕ) → Decides (cond b (leb m (cond b (2 ^ (8 * n - 1) - 1) (2 ^ (8 * n) - 1))) false) (Holds b n (Negative m))
unfolding Holds
negative_fits true n m = decides_below m (8 * n - 1)
negative_fits false n m = record { so = λ e. absurd (true≢false (sym e)); not_so = λ e h. h }

pub decides_fits : (kind : ℕ) (value : Value) → Decides (fits kind value) (Holds (is_signed kind) (size_of kind) value)
unfolding fits greatest
decides_fits kind (Natural v) = natural_fits (is_signed kind) (size_of kind) v
decides_fits kind (Negative m) = negative_fits (is_signed kind) (size_of kind) m

-- ---- what no refusal tells

none_first : {F : Type 0} (b : Bool) (f : F) (o : Option F) → cond b (some f) o ≡ none → (b ≡ false) × (o ≡ none)
none_first true f o e = clash (cc)
none_first false f o e = (refl, e)

pub stored_none : (kind : ℕ) (value : Value) → stored_refusal kind value ≡ none → (is_kind kind ≡ true) × (fits kind value ≡ true)
unfolding stored_refusal
stored_none kind value e =
    let first = none_first (not (is_kind kind)) _ _ e in
    let second = none_first (not (fits kind value)) _ _ first.1 in
    (not-false _ first.0, not-false _ second.0)

pub read_none : (kind : ℕ) (bytes : List ℕ) (element : ℕ) → read_refusal kind bytes element ≡ none
    → (is_kind kind ≡ true) × ((element + 1) * size_of kind ≤ length bytes)
unfolding read_refusal
read_none kind bytes element e =
    let first = none_first (not (is_kind kind)) _ _ e in
    let second = none_first (eqb (length bytes) 0 || not (eqb (length bytes % size_of kind) 0)) _ _ first.1 in
    let third = none_first (ltb (length bytes) ((element + 1) * size_of kind)) _ _ second.1 in
    (not-false _ first.0, ltb-false _ _ third.0)

-- the bytes themselves are not tested, only how many there are
pub read_same_length : (kind : ℕ) (xs ys : List ℕ) (element : ℕ) → length xs ≡ length ys → read_refusal kind ys element ≡ none → read_refusal kind xs element ≡ none
unfolding read_refusal
read_same_length kind xs ys element same e = rw same e

-- and what makes none
pub stored_so : (kind : ℕ) (value : Value) → is_kind kind ≡ true → Holds (is_signed kind) (size_of kind) value → stored_refusal kind value ≡ none
unfolding stored_refusal
stored_so kind value k h = rw (k, decided (fits kind value) (decides_fits kind value) h)
  where
    decided : (b : Bool) {P : Type 0} → Decides b P → P → b ≡ true
    decided true d p = refl
    decided false d p = absurd (d.not_so refl p)

-- ---- what an answer tells

pub read_is : (kind : ℕ) (bytes : List ℕ) (element : ℕ) (value : Value) → read_value kind bytes element ≡ Ok value
    → (read_refusal kind bytes element ≡ none) × (value ≡ value_at (is_signed kind) (size_of kind) (natural (element_of (size_of kind) bytes element)))
unfolding read_value
read_is kind bytes element value = by_refusal (read_refusal kind bytes element)
  where
    by_refusal : (o : Option Fault) {v : Value} → read_answer o v ≡ Ok value → (o ≡ none) × (value ≡ v)
    by_refusal none e = (refl, cc)
    by_refusal (some f) e = clash (cc)

pub stored_as : (kind : ℕ) (value : Value) (n : ℕ) → stored_value kind value ≡ Ok n
    → (stored_refusal kind value ≡ none) × (n ≡ stored_at (size_of kind) value)
unfolding stored_value
stored_as kind value n = by_refusal (stored_refusal kind value)
  where
    by_refusal : (o : Option Fault) {v : ℕ} → stored_answer o v ≡ Ok n → (o ≡ none) × (n ≡ v)
    by_refusal none e = (refl, cc)
    by_refusal (some f) e = clash (cc)

pub stored_refused : (kind : ℕ) (value : Value) (f : Fault) → stored_value kind value ≡ Err f → stored_refusal kind value ≡ some f
unfolding stored_value
stored_refused kind value f = by_refusal (stored_refusal kind value)
  where
    by_refusal : (o : Option Fault) → stored_answer o (stored_at (size_of kind) value) ≡ Err f → o ≡ some f
    by_refusal none e = clash (cc)
    by_refusal (some g) e = cc

-- ---- writing is refused as storing is, and then by the room

pub write_refused_so : (kind : ℕ) (value : Value) (room : ℕ) (f : Fault) → stored_refusal kind value ≡ some f → write_refusal kind value room ≡ some f
unfolding stored_refusal write_refusal
write_refused_so kind value room f = by_tests (not (is_kind kind)) (not (fits kind value))
  where
    short : Option Fault
    short = cond (ltb room (size_of kind)) (some ShortBuffer) none

    by_tests : (a b : Bool) → cond a (some UnknownKind) (cond b (some DoesNotFit) none) ≡ some f
        → cond a (some UnknownKind) (cond b (some DoesNotFit) short) ≡ some f
    by_tests true b e = e
    by_tests false true e = e
    by_tests false false e = clash (cc)

pub write_room : (kind : ℕ) (value : Value) (room : ℕ) → stored_refusal kind value ≡ none
    → write_refusal kind value room ≡ cond (ltb room (size_of kind)) (some ShortBuffer) none
unfolding write_refusal
write_room kind value room e =
    let kept = stored_none kind value e in
    rw (kept.0, kept.1)

-- a refusal leaves the buffer as it was
pub write_refused : (kind : ℕ) (value : Value) (room : List ℕ) (f : Fault) → write_refusal kind value (length room) ≡ some f
    → Writes kind value room (Err f) room
unfolding room_after
write_refused kind value room f e = (rw e, rw e)

pub write_done : (kind : ℕ) (value : Value) (room room' : List ℕ) → write_refusal kind value (length room) ≡ none
    → room' ≡ over (bytes_of (size_of kind) (stored_at (size_of kind) value)) room → Writes kind value room (Ok tt) room'
unfolding room_after
write_done kind value room room' e laid = (rw e, rw e laid)

-- what was written stands in the first bytes
pub write_is : (kind : ℕ) (value : Value) (room room' : List ℕ) → Writes kind value room (Ok tt) room'
    → (stored_refusal kind value ≡ none) × (take (size_of kind) room' ≡ bytes_of (size_of kind) (stored_at (size_of kind) value))
unfolding stored_refusal write_refusal room_after
write_is kind value room room' w =
    let no : write_refusal kind value (length room) ≡ none = by_refusal (write_refusal kind value (length room)) w.0 in
    let first = none_first (not (is_kind kind)) _ _ no in
    let second = none_first (not (fits kind value)) _ _ first.1 in
    let third = none_first (ltb (length room) (size_of kind)) _ _ second.1 in (
      rw (first.0, second.0),
      first_bytes (size_of kind) (stored_at (size_of kind) value) room room' (ltb-false _ _ third.0)
          (w.1 ∙ ap (λ (o : Option Fault). room_after o (bytes_of (size_of kind) (stored_at (size_of kind) value)) room) no),
    )
  where
    by_refusal : (o : Option Fault) → Ok tt ≡ write_answer o → o ≡ none
    by_refusal none e = refl
    by_refusal (some f) e = clash (cc)

    first_bytes : (n v : ℕ) (d d' : List ℕ) → n ≤ length d → d' ≡ over (bytes_of n v) d → take n d' ≡ bytes_of n v
    first_bytes n v d d' h e =
        ap₂ (λ (k : ℕ) (l : List ℕ). take k l) (sym (length-bytes_of n v)) e
        ∙ take-over (bytes_of n v) d (rw (length-bytes_of n v) h)
