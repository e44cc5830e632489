-- What is promised of register values: the laws that callers may cite.
-- Assumes nothing.
use Rattle.std.specs.Prelude.{Ok}
use mathlib.Core.Path.{◌≡◌, refl, sym, ap, ◌∙◌, subst}
use mathlib.Core.Bool.{Bool, true, false}
use mathlib.Core.List.{List, [], ◌∷◌, ◌++◌}
use mathlib.Core.Logic.{◌↔◌, ⊎_elim}
use mathlib.Core.Option.{Option, some, none}
use Prim.Native.Nat.{ℕ, zero, suc, ◌+◌, ◌-◌, ◌*◌, ◌/◌, ◌%◌, ◌^◌, ◌≤◌, ◌<◌}
use native.Mathlib.Nat.{mod-lt, mod-eq_of_lt, lt_of_le_of_lt}
use native.Mathlib.Omega.{arith}
use borrow.Author.Tests.{lt-ltb, not-false, eqb-true, eq-eqb}
use lib.Bits.{bit_and, bit_or, bit_xor, and_shr, and_mod, or_shr, or_mod, xor_shr, xor_mod, or_lt, xor_lt, and_le_l, or_zero_r, and_zero_r, xor_zero_r}
use lib.IntN.{pos, negsuc, ◌-ℤ◌}
use lib.ListN.{length, get_or, take, drop}
use lib.Pow.{mod-pow-add}
use lib.Seq.{take_all}
use Rattle.rows.proofs.Settled.{settled, settled_with}
use Rattle.rows.specs.Settled.{Settled}
use Rattle.lent.specs.Lent.{over_at}
use Rattle.lent.proofs.Laws.{take-over, over_is, length-over_at}
use Rattle.rows.specs.Rows.{Ranked, passed_up, raised, Numbered}
use Rattle.rows.proofs.Laws.{decides_eq, decides_lt, decides_not, decides_or, ranked, ◌otherwise◌, numbered, done_exactly, told_true, told_false}
use Rattle.values.specs.Values.{size_of, is_signed, is_kind, natural, bytes_of, integer, value_at, stored_at, element_of, Bytes, Held, Holds, Within, ends_of}
use Rattle.values.specs.Values.{NoKind, BadLength, NoElement, Unfit, NoRoom, read_rows, stored_rows, write_rows, fault_number, read_tests, stored_tests, write_tests}
use Rattle.values.specs.Values.{read_refusal, read_answer, read_told, read_value, stored_refusal, stored_answer, stored_told, stored_value, write_refusal, write_answer, write_told}
use Rattle.values.specs.Values.{set_bits, clear_bits, toggle_bits, bit_at, weighed, Numbers, Sizes, Loads, Stores, Keeps, Reads, Writes, Sets, Clears, Toggles, TestsBit}
use Rattle.values.specs.declared.Value.{Value}
use Rattle.values.specs.declared.Fault.{Fault}
use Rattle.values.specs.Answers.{Stored}
use Rattle.values.specs.Answers.{Reading}
use Rattle.values.specs.Answers.{Writing}
use Rattle.values.proofs.Bytes.{natural_lt, bytes_element, length_element, element_lt, length-bytes_of, bytes_bytes_of, natural_bytes_of, bytes_of_natural, byte_at}
use Rattle.values.proofs.Sized.{size_of_kind, stored_back, value_back, value_low, value_high, kind_positive}
use Rattle.values.proofs.Bits.{run, byte_run, not_run, or_one, and_one, xor_one}
use Rattle.values.proofs.Refusals.{decides_kind, decides_length, decides_fits, stored_none, stored_so, read_none, read_same_length, read_is, write_is}
use Rattle.values.proofs.Ends.{decides_within}

-- ---- "Each is given exactly when its condition holds and no earlier one does."

pub read_ranked : (kind : ℕ) (bytes : List ℕ) (element : ℕ) → Ranked (read_rows kind bytes element) (read_refusal kind bytes element)
unfolding read_rows read_refusal NoKind BadLength NoElement
read_ranked kind bytes element =
    ranked (read_tests kind bytes element) (read_rows kind bytes element)
    (decides_not (decides_kind kind) otherwise λ n₄₀.
    decides_or (decides_eq (length bytes) 0) (decides_length kind bytes) otherwise λ n₄₁.
    decides_lt _ _ otherwise λ n₄₂. tt)

pub stored_ranked : (kind : ℕ) (value : Value) → Ranked (stored_rows kind value) (stored_refusal kind value)
unfolding stored_rows stored_refusal NoKind Unfit
stored_ranked kind value =
    ranked (stored_tests kind value) (stored_rows kind value)
    (decides_not (decides_kind kind) otherwise λ n₄₀.
    decides_not (decides_fits kind value) otherwise λ n₄₃. tt)

pub write_ranked : (kind : ℕ) (value : Value) (room : List ℕ) → Ranked (write_rows kind value room) (write_refusal kind value (length room))
unfolding write_rows write_refusal NoKind Unfit NoRoom
write_ranked kind value room =
    ranked (write_tests kind value (length room)) (write_rows kind value room)
    (decides_not (decides_kind kind) otherwise λ n₄₀.
    decides_not (decides_fits kind value) otherwise λ n₄₃.
    decides_lt _ _ otherwise λ n₄₄. tt)

-- and so of the calls, by the paper's numbers
pub read_exactly : (kind : ℕ) (bytes : List ℕ) (element : ℕ) {r : Reading} → Reads kind bytes element r
    → Numbered (passed_up fault_number (read_rows kind bytes element)) (40 ∷ 41 ∷ 42 ∷ []) (read_told r)
unfolding read_rows read_value
read_exactly kind bytes element reads =
    numbered fault_number (read_rows kind bytes element) (read_refusal kind bytes element) (read_ranked kind bytes element)
    (40 ∷ 41 ∷ 42 ∷ []) refl refl _ (ap read_told reads ∙ told (read_refusal kind bytes element) _)
  where
    told : (o : Option Fault) (v : Value) → read_told (read_answer o v) ≡ raised fault_number o
    told (some f) v = refl
    told none v = refl

pub stored_exactly : (kind : ℕ) (value : Value) {r : Stored} → Keeps kind value r
    → Numbered (passed_up fault_number (stored_rows kind value)) (40 ∷ 43 ∷ []) (stored_told r)
unfolding stored_rows stored_value
stored_exactly kind value keeps =
    numbered fault_number (stored_rows kind value) (stored_refusal kind value) (stored_ranked kind value)
    (40 ∷ 43 ∷ []) refl refl _ (ap stored_told keeps ∙ told (stored_refusal kind value) _)
  where
    told : (o : Option Fault) (v : ℕ) → stored_told (stored_answer o v) ≡ raised fault_number o
    told (some f) v = refl
    told none v = refl

pub write_exactly : (kind : ℕ) (value : Value) (room : List ℕ) {r : Writing} {room' : List ℕ} → Writes kind value room r room'
    → Numbered (passed_up fault_number (write_rows kind value room)) (40 ∷ 43 ∷ 44 ∷ []) (write_told r)
unfolding write_rows
write_exactly kind value room writes =
    numbered fault_number (write_rows kind value room) (write_refusal kind value (length room)) (write_ranked kind value room)
    (40 ∷ 43 ∷ 44 ∷ []) refl refl _ (ap write_told writes.0 ∙ told (write_refusal kind value (length room)))
  where
    told : (o : Option Fault) → write_told (write_answer o) ≡ raised fault_number o
    told (some f) = refl
    told none = refl

-- ---- a value fits exactly when the kind can hold it

pub fits_exactly : (signed : Bool) (n : ℕ) (value : Value) → 0 < n → Holds signed n value ↔ Held signed n value
fits_exactly signed n value p = (there, back)
  where
    there : Holds signed n value → Held signed n value
    there h =
        let s = stored_back signed n value p h in
        record {
          bytes = bytes_of n (stored_at n value);
          many = length-bytes_of n (stored_at n value);
          each = bytes_bytes_of n (stored_at n value);
          mean = ap (value_at signed n) (natural_bytes_of n (stored_at n value) s.0) ∙ s.1;
        }

    back : Held signed n value → Holds signed n value
    back h =
        let under : natural h.bytes < 2 ^ (8 * n) = rw h.many at (natural_lt h.bytes h.each) in
        subst (Holds signed n) h.mean (value_back signed n (natural h.bytes) p under).0

-- so a kind takes a value exactly where bytes of its size have that value
pub kept_exactly : (kind : ℕ) (value : Value) → is_kind kind ≡ true → (stored_refusal kind value ≡ none) ↔ Held (is_signed kind) (size_of kind) value
kept_exactly kind value k = (
  λ e. exactly.0 ((decides_fits kind value).so (stored_none kind value e).1),
  λ h. stored_so kind value k (exactly.1 h),
)
  where
    exactly : Holds (is_signed kind) (size_of kind) value ↔ Held (is_signed kind) (size_of kind) value
    exactly = fits_exactly (is_signed kind) (size_of kind) value (kind_positive kind k)

-- and by the kind's ends in plain figures
pub fits_between : (kind : ℕ) (value : Value) → 1 ≤ kind → kind ≤ 7 → (Unfit kind value → ⊥) ↔ Within (ends_of kind) (integer value)
unfolding Unfit
fits_between kind value low high =
    let within = decides_within kind value low high in (
      λ h. within.so (not-false _ (told_false (decides_not (decides_fits kind value)) h)),
      λ w h. h ((decides_fits kind value).so (told_true within w)),
    )

-- so what a register of that kind keeps
pub kept_between : (kind : ℕ) (value : Value) {r : Stored} → 1 ≤ kind → kind ≤ 7 → Keeps kind value r
    → (stored_told r ≡ none) ↔ Within (ends_of kind) (integer value)
unfolding stored_rows NoKind
kept_between kind value low high keeps =
    let between = fits_between kind value low high in
    let exactly = (stored_exactly kind value keeps).done in (
      λ e. between.0 (exactly.0 e).1.0,
      λ w. exactly.1 ((λ n. n (low, high)), (between.1 w, tt)),
    )

-- ---- "Lowest byte first; signed kinds are two's complement."

pub integer_unsigned : (n v : ℕ) → integer (value_at false n v) ≡ pos v
unfolding integer value_at
integer_unsigned n v = refl

pub integer_low : (n v : ℕ) → v < 2 ^ (8 * n - 1) → integer (value_at true n v) ≡ pos v
unfolding integer
integer_low n v h = sym (ap integer (value_low true n v refl h))

pub integer_high : (n v : ℕ) → 2 ^ (8 * n - 1) ≤ v → v < 2 ^ (8 * n) → integer (value_at true n v) ≡ pos v -ℤ pos (2 ^ (8 * n))
unfolding integer
integer_high n v h l = sym (ap integer (value_high true n v refl h)) ∙ sym (below v (2 ^ (8 * n)) l)
  where
    below : (v m : ℕ) → v < m → pos v -ℤ pos m ≡ negsuc (m - 1 - v)
    below v zero l = absurd (omega arith)
    below v (suc m) l =
        let same : suc m - suc v ≡ suc m - 1 - v = omega arith in
        rw (lt-ltb v (suc m) l) (ap negsuc same)

-- ---- a written value reads back the same, at every element

-- the number that a kind keeps of a value has as many bytes as the kind, and they mean the value
pub stored_means : (kind : ℕ) (value : Value) → stored_refusal kind value ≡ none
    → (stored_at (size_of kind) value < 2 ^ (8 * size_of kind)) × (value_at (is_signed kind) (size_of kind) (stored_at (size_of kind) value) ≡ value)
stored_means kind value s =
    let kept = stored_none kind value s in
    stored_back (is_signed kind) (size_of kind) value (kind_positive kind kept.0) ((decides_fits kind value).so kept.1)

-- the value of whatever bytes stand at the element
pub reads_element : (kind : ℕ) (value : Value) (bytes : List ℕ) (element : ℕ) → stored_refusal kind value ≡ none → read_refusal kind bytes element ≡ none
    → element_of (size_of kind) bytes element ≡ bytes_of (size_of kind) (stored_at (size_of kind) value) → read_value kind bytes element ≡ Ok value
unfolding read_value
reads_element kind value bytes element s r e =
    let means = stored_means kind value s in
    rw (r, e, natural_bytes_of (size_of kind) (stored_at (size_of kind) value) means.0) (ap Ok means.1)

-- bytes that are one element
pub reads_whole : (kind : ℕ) (bytes : List ℕ) → 1 ≤ kind → kind ≤ 7 → length bytes ≡ size_of kind
    → read_value kind bytes 0 ≡ Ok (value_at (is_signed kind) (size_of kind) (natural bytes))
unfolding read_value read_rows NoKind BadLength NoElement element_of
reads_whole kind bytes low high many =
    let some : 1 ≤ size_of kind = (size_of_kind kind low high).0 in
    let no : read_refusal kind bytes 0 ≡ none =
    (done_exactly (read_rows kind bytes 0) (read_refusal kind bytes 0) (read_ranked kind bytes 0)).1 (
      (λ n. n (low, high)),
      (⊎_elim (λ z. omega (arith, many, some)) (λ n. n (1, omega (arith, many))), ((λ l. omega (arith, many)), tt)),
    ) in
    let start : 0 * size_of kind ≡ 0 = omega arith in
    rw (no, start, take_all (size_of kind) bytes (omega (arith, many)))

-- so what a kind keeps of a value is read as that value
pub stored_reads : (kind : ℕ) (value : Value) → stored_refusal kind value ≡ none
    → read_value kind (bytes_of (size_of kind) (stored_at (size_of kind) value)) 0 ≡ Ok value
stored_reads kind value s =
    let means = stored_means kind value s in
    let range = (decides_kind kind).so (stored_none kind value s).0 in
    reads_whole kind _ range.0 range.1 (length-bytes_of (size_of kind) (stored_at (size_of kind) value))
    ∙ ap Ok (ap (value_at (is_signed kind) (size_of kind)) (natural_bytes_of (size_of kind) _ means.0) ∙ means.1)

-- what is laid over the bytes of an element is that element
pub element_laid : (size : ℕ) (xs bytes : List ℕ) (element : ℕ) → length xs ≡ size → (element + 1) * size ≤ length bytes
    → element_of size (over_at (element * size) xs bytes) element ≡ xs
unfolding element_of over_at
element_laid size xs bytes element many within =
    let room : element * size + length xs ≤ length bytes = omega arith in
    ap (λ (n : ℕ). take n (drop (element * size) (over_at (element * size) xs bytes))) (sym many) ∙ laid (element * size) xs bytes room
  where
    laid : (k : ℕ) (xs d : List ℕ) → k + length xs ≤ length d → take (length xs) (drop k (over_at k xs d)) ≡ xs
    laid zero xs d h = take-over xs d (omega arith)
    laid (suc k) xs [] h = absurd (omega arith)
    laid (suc k) xs (y ∷ d) h = laid k xs d (omega arith)

-- so a value that is stored at an element of an array, wherever the array lies in the lent bytes, is what is read there
pub laid_reads : (kind : ℕ) (value : Value) (bytes : List ℕ) (element : ℕ) → stored_refusal kind value ≡ none → read_refusal kind bytes element ≡ none
    → read_value kind (over_at (element * size_of kind) (bytes_of (size_of kind) (stored_at (size_of kind) value)) bytes) element ≡ Ok value
laid_reads kind value bytes element s r =
    reads_element kind value (over_at (element * size_of kind) xs bytes) element s (read_same_length kind _ bytes element (length-over_at _ _ _) r)
    (element_laid (size_of kind) xs bytes element (length-bytes_of _ _) (read_none kind bytes element r).1)
  where
    xs : List ℕ
    xs = bytes_of (size_of kind) (stored_at (size_of kind) value)

-- of the calls: what `write` put into a buffer, `read` finds wherever those bytes are an element
pub written_reads : (kind : ℕ) (value : Value) (room room' bytes : List ℕ) (element : ℕ) {r : Reading}
    → Writes kind value room (Ok tt) room' → read_refusal kind bytes element ≡ none
    → element_of (size_of kind) bytes element ≡ take (size_of kind) room' → Reads kind bytes element r → r ≡ Ok value
written_reads kind value room room' bytes element w found e r =
    let done = write_is kind value room room' w in
    r ∙ reads_element kind value bytes element done.0 found (e ∙ done.1)

-- ---- read bytes written again are the same bytes

pub element_stored : (kind : ℕ) (value : Value) (bytes : List ℕ) (element : ℕ) → Bytes bytes → read_value kind bytes element ≡ Ok value
    → (stored_refusal kind value ≡ none) × (bytes_of (size_of kind) (stored_at (size_of kind) value) ≡ element_of (size_of kind) bytes element)
element_stored kind value bytes element each e = (
  stored_so kind value found.0 (rw is.1 back.0),
  ap (λ (v : Value). bytes_of n (stored_at n v)) is.1 ∙ ap (bytes_of n) back.1
      ∙ ap (λ (k : ℕ). bytes_of k (natural (element_of n bytes element))) (sym (length_element n bytes element within))
      ∙ bytes_of_natural (element_of n bytes element) (bytes_element n bytes element each),
)
  where
    n : ℕ
    n = size_of kind

    is : (read_refusal kind bytes element ≡ none) × (value ≡ value_at (is_signed kind) n (natural (element_of n bytes element)))
    is = read_is kind bytes element value e

    found : (is_kind kind ≡ true) × ((element + 1) * n ≤ length bytes)
    found = read_none kind bytes element is.0

    within : element * n + n ≤ length bytes
    within = omega (arith, found.1)

    back : Holds (is_signed kind) n (value_at (is_signed kind) n (natural (element_of n bytes element)))
        × (stored_at n (value_at (is_signed kind) n (natural (element_of n bytes element))) ≡ natural (element_of n bytes element))
    back =
        value_back (is_signed kind) n (natural (element_of n bytes element)) (kind_positive kind found.0)
        (element_lt n bytes element each within)

-- of the calls: `write` of what `read` answered puts the element's bytes back
pub read_writes : (kind : ℕ) (value : Value) (bytes : List ℕ) (element : ℕ) (room room' : List ℕ) → Bytes bytes
    → Reads kind bytes element (Ok value) → Writes kind value room (Ok tt) room'
    → take (size_of kind) room' ≡ element_of (size_of kind) bytes element
read_writes kind value bytes element room room' each r w =
    (write_is kind value room room' w).1 ∙ (element_stored kind value bytes element each (sym r)).1

-- ---- "A one in the mask sets, clears or inverts that bit, a zero keeps it": bit by bit

lowest_bits : (v n : ℕ) → weighed (bit_at v) n ≡ v % 2 ^ n
unfolding weighed
lowest_bits v zero = omega arith
lowest_bits v (suc n) =
    let one_more : suc n ≡ 1 + n = omega arith in
    let ih : weighed (bit_at v) n ≡ v % 2 ^ n = lowest_bits v n in
    rw (one_more) (omega (arith, mod-pow-add v 1 n, ih))

-- a number is what its bits weigh
pub bits_weigh : (v n : ℕ) → v < 2 ^ n → weighed (bit_at v) n ≡ v
bits_weigh v n h = lowest_bits v n ∙ mod-eq_of_lt h

-- and `bit` tells which are ones
pub bit_told : (v place : ℕ) {r : Bool} → TestsBit v place r → (r ≡ true) ↔ (bit_at v place ≡ 1)
bit_told v place tests = (λ e. eqb-true (bit_at v place) 1 (sym tests ∙ e), λ e. tests ∙ eq-eqb (bit_at v place) 1 e)

bit_lt : (v k : ℕ) → bit_at v k < 2
bit_lt v k = mod-lt (v / 2 ^ k) (omega arith)

pub set-one : (v mask k : ℕ) → bit_at mask k ≡ 1 → bit_at (set_bits v mask) k ≡ 1
set-one v mask k e = run bit_or or_shr or_mod k 1 v mask ∙ ap (bit_or (bit_at v k)) e ∙ or_one (bit_at v k) (bit_lt v k)

pub set_zero : (v mask k : ℕ) → bit_at mask k ≡ 0 → bit_at (set_bits v mask) k ≡ bit_at v k
set_zero v mask k e = run bit_or or_shr or_mod k 1 v mask ∙ ap (bit_or (bit_at v k)) e ∙ or_zero_r (bit_at v k)

-- and-not of a bit and the mask's
cleared : (v mask k : ℕ) → k < 64 → mask < 2 ^ 64 → bit_at (clear_bits v mask) k ≡ bit_and (bit_at v k) (1 - bit_at mask k)
cleared v mask k h l =
    run bit_and and_shr and_mod k 1 v (2 ^ 64 - 1 - mask) ∙ ap (bit_and (bit_at v k)) (not_run k 1 mask (omega arith) l)

pub clear_one : (v mask k : ℕ) → k < 64 → mask < 2 ^ 64 → bit_at mask k ≡ 1 → bit_at (clear_bits v mask) k ≡ 0
clear_one v mask k h l e = cleared v mask k h l ∙ ap (λ (b : ℕ). bit_and (bit_at v k) (1 - b)) e ∙ and_zero_r (bit_at v k)

pub clear_zero : (v mask k : ℕ) → k < 64 → mask < 2 ^ 64 → bit_at mask k ≡ 0 → bit_at (clear_bits v mask) k ≡ bit_at v k
clear_zero v mask k h l e = cleared v mask k h l ∙ ap (λ (b : ℕ). bit_and (bit_at v k) (1 - b)) e ∙ and_one (bit_at v k) (bit_lt v k)

pub toggle_one : (v mask k : ℕ) → bit_at mask k ≡ 1 → bit_at (toggle_bits v mask) k ≡ 1 - bit_at v k
toggle_one v mask k e = run bit_xor xor_shr xor_mod k 1 v mask ∙ ap (bit_xor (bit_at v k)) e ∙ xor_one (bit_at v k) (bit_lt v k)

pub toggle_zero : (v mask k : ℕ) → bit_at mask k ≡ 0 → bit_at (toggle_bits v mask) k ≡ bit_at v k
toggle_zero v mask k e = run bit_xor xor_shr xor_mod k 1 v mask ∙ ap (bit_xor (bit_at v k)) e ∙ xor_zero_r (bit_at v k)

-- ---- "Bit writes work on the stored bytes, signed kinds included."

-- a value that so many bytes hold stays one
pub set_size : (n v mask : ℕ) → v < 2 ^ (8 * n) → mask < 2 ^ (8 * n) → set_bits v mask < 2 ^ (8 * n)
set_size n v mask = or_lt (8 * n) v mask

pub clear_size : (n v mask : ℕ) → v < 2 ^ (8 * n) → clear_bits v mask < 2 ^ (8 * n)
clear_size n v mask h = lt_of_le_of_lt (and_le_l v (2 ^ 64 - 1 - mask)) h

pub toggle_size : (n v mask : ℕ) → v < 2 ^ (8 * n) → mask < 2 ^ (8 * n) → toggle_bits v mask < 2 ^ (8 * n)
toggle_size n v mask = xor_lt (8 * n) v mask

-- byte j of what is stored is or, and-not, or exclusive or of byte j of the register and byte j of the mask
pub set_byte : (n j v mask : ℕ) → j < n
    → get_or (bytes_of n (set_bits v mask)) j 0 ≡ bit_or (get_or (bytes_of n v) j 0) (get_or (bytes_of n mask) j 0)
set_byte = byte_run bit_or or_shr or_mod

pub clear_byte : (n j v mask : ℕ) → j < n → n ≤ 8 → mask < 2 ^ 64
    → get_or (bytes_of n (clear_bits v mask)) j 0 ≡ bit_and (get_or (bytes_of n v) j 0) (255 - get_or (bytes_of n mask) j 0)
clear_byte n j v mask h few l =
    byte_run bit_and and_shr and_mod n j v (2 ^ 64 - 1 - mask) h
    ∙ ap (bit_and (get_or (bytes_of n v) j 0))
    (byte_at n (2 ^ 64 - 1 - mask) j h ∙ not_run (8 * j) 8 mask (omega arith) l ∙ ap (λ (b : ℕ). 255 - b) (sym (byte_at n mask j h)))

pub toggle_byte : (n j v mask : ℕ) → j < n
    → get_or (bytes_of n (toggle_bits v mask)) j 0 ≡ bit_xor (get_or (bytes_of n v) j 0) (get_or (bytes_of n mask) j 0)
toggle_byte = byte_run bit_xor xor_shr xor_mod

-- ---- up to 8 bytes are loaded whole

pub loads_all : (bytes : List ℕ) {r : ℕ} → length bytes ≤ 8 → Loads bytes r → r ≡ natural bytes
loads_all bytes h loads = loads ∙ ap natural (take_all 8 bytes h)

-- ---- and stored as many bytes as were asked; the rest of the buffer stays

pub stores_lays : (v size : ℕ) (room : List ℕ) {room' : List ℕ} → size ≤ length room → Stores v size room room' → room' ≡ bytes_of size v ++ drop size room
stores_lays v size room h stores =
    let many : length (bytes_of size v) ≡ size = length-bytes_of size v in
    stores ∙ over_is (bytes_of size v) room (omega (arith, many)) ∙ ap (λ (n : ℕ). bytes_of size v ++ drop n room) many

-- ---- "Show that any two outcomes allowed by it are equal."

-- the call `number` gives the number that the laws tell
pub number_is : (f : Fault) (r : ℕ) → Numbers f r → r ≡ fault_number f
number_is f r p = p

pub numbers_settled : (fault : Fault) → Settled (Numbers fault)
numbers_settled fault = settled _

pub sizes_settled : (kind : ℕ) → Settled (Sizes kind)
sizes_settled kind = settled _

pub loads_settled : (bytes : List ℕ) → Settled (Loads bytes)
loads_settled bytes = settled _

pub stores_settled : (v size : ℕ) (room : List ℕ) → Settled (Stores v size room)
stores_settled v size room = settled _

pub keeps_settled : (kind : ℕ) (value : Value) → Settled (Keeps kind value)
keeps_settled kind value = settled _

pub reads_settled : (kind : ℕ) (bytes : List ℕ) (element : ℕ) → Settled (Reads kind bytes element)
reads_settled kind bytes element = settled _

pub writes_settled : (kind : ℕ) (value : Value) (room : List ℕ) → Settled {A = Writing × List ℕ} (λ o. Writes kind value room o.0 o.1)
writes_settled kind value room = settled_with _ _

pub sets_settled : (v mask : ℕ) → Settled (Sets v mask)
sets_settled v mask = settled _

pub clears_settled : (v mask : ℕ) → Settled (Clears v mask)
clears_settled v mask = settled _

pub toggles_settled : (v mask : ℕ) → Settled (Toggles v mask)
toggles_settled v mask = settled _

pub tests_bit_settled : (v place : ℕ) → Settled (TestsBit v place)
tests_bit_settled v place = settled _
