-- There: a line reads as the setting that it was written for.
-- Assumes nothing.
use Rattle.std.specs.Prelude.{Ok, Some}
use mathlib.Core.Path.{◌≡◌, refl, sym, ap, ap₂, ◌∙◌}
use mathlib.Core.Bool.{Bool, true, false}
use mathlib.Core.List.{List, []}
use mathlib.Core.Logic.{◌≢◌, ⊎_elim}
use mathlib.Core.Option.{none}
use Prim.Native.Nat.{ℕ, zero, suc, ◌+◌, ◌-◌, ◌*◌, ◌≤◌, ◌<◌}
use native.Mathlib.Nat.{mul-le-mul_right}
use native.Mathlib.Omega.{arith}
use lib.ListN.{length, get_or, take, drop}
use lib.Pow.{pow_mono}
use lib.Seq.{take_all, take-add, drop-drop, get_or-drop}
use Rattle.lent.specs.Lent.{over}
use Rattle.rows.proofs.Laws.{done_exactly}
use Rattle.text.specs.Text.{decimal}
use Rattle.values.specs.declared.Value.{Value}
use Rattle.values.specs.declared.Value.TheVariants.{Natural, Negative}
use Rattle.values.specs.Values.{size_of, is_signed, fits, Holds, Bytes, bytes_of, stored_at, natural, value_at, element_of}
use Rattle.values.specs.Values.{NoKind, BadLength, NoElement, read_rows, read_refusal, read_value}
use Rattle.values.proofs.Sized.{size_of_kind}
use Rattle.values.proofs.Refusals.{decides_fits, stored_none}
use Rattle.values.proofs.Laws.{read_ranked, element_stored}
use Rattle.numerals.specs.Numerals.{value_of, limited_to, spelt, is_shortest}
use Rattle.numerals.proofs.Laws.{Small, spelt_value, spelt_shortest, shortest_number, limited_decimal}
use Rattle.setting.specs.declared.Head.{Head}
use Rattle.setting.specs.Setting.{Setting, setting, length_of, Allowed}
use Rattle.sheet.specs.declared.Record.{Record}
use Rattle.sheet.specs.Sheet.{record_as}
use Rattle.sheet_line.specs.Words.{words_of}
use Rattle.sheet_line.specs.Line.{name_of, kind_of, word_at, small_at, kind_in, head_in, bytes_in, value_in}
use Rattle.sheet_line.specs.Line.{said_by, room_after, element_text, line_of, Canonical, Reads, Writes}
use Rattle.sheet_line.specs.Answers.{Line}
use Rattle.sheet_line.proofs.Sound.{kind_of_name, Sound, sound_said, read_allowed}
use Rattle.sheet_line.proofs.Written.{texts_from, words_for, length_texts, text_at, line_joined, written, line_words}

-- ---- a setting of a sheet

pub record Proper (s : Setting) : Type 0 where
  pub allowed : Allowed s.named
  pub register : s.named.register < 256
  pub many : length s.value ≡ length_of s.named
  pub bytes : Bytes s.value

-- in plain figures
pub proper_head : (s : Setting) → Proper s
    → ((1 ≤ s.named.unit) × (s.named.unit ≤ 160)) × (((1 ≤ s.named.kind) × (s.named.kind ≤ 7)) × ((1 ≤ s.named.count) × (s.named.count ≤ 240)))
unfolding Allowed
proper_head s p = (p.allowed.0, (p.allowed.1.0, p.allowed.1.1.0))

pub proper_length : (s : Setting) → Proper s → length s.value ≡ s.named.count * size_of s.named.kind
unfolding length_of
proper_length s p = p.many

-- a setting that was read from a line is one
pub read_proper : (text room : List ℕ) (r : Record) (room' : List ℕ) → Reads text room (Ok (Some r)) room' → Proper (setting r.head (take r.size room'))
read_proper text room r room' reads =
    let f = read_allowed text room r room' reads in
    record { allowed = f.allowed; register = f.register; many = rw f.laid f.many; bytes = rw f.laid f.bytes }

-- ---- a value of at most 8 bytes has at most 20 digits

small_held : (signed : Bool) (n : ℕ) (v : Value) → n ≤ 8 → Holds signed n v → Small v
unfolding Holds
small_held false n (Natural v) l h = omega (arith, pow_mono {i = 8 * n} {j = 64} (omega arith))
small_held false n (Negative m) l h = absurd h
small_held true n (Natural v) l h = omega (arith, pow_mono {i = 8 * n - 1} {j = 63} (omega arith))
small_held true n (Negative m) l h = omega (arith, pow_mono {i = 8 * n - 1} {j = 63} (omega arith))

pub small_fits : (kind : ℕ) (v : Value) → 1 ≤ kind → kind ≤ 7 → fits kind v ≡ true → Small v
small_fits kind v low high e = small_held (is_signed kind) (size_of kind) v (size_of_kind kind low high).1 ((decides_fits kind v).so e)

-- ---- each element of a value of so many elements can be read

pub readable : (kind count : ℕ) (value : List ℕ) → 1 ≤ kind → kind ≤ 7 → length value ≡ count * size_of kind
    → (k : ℕ) → k < count → read_refusal kind value k ≡ none
unfolding read_rows NoKind BadLength NoElement
readable kind count value low high many k h =
    let some : 1 ≤ size_of kind = (size_of_kind kind low high).0 in
    let within : (k + 1) * size_of kind ≤ count * size_of kind = mul-le-mul_right {m = k + 1} (size_of kind) (omega arith) in
    let split : (k + 1) * size_of kind ≡ k * size_of kind + size_of kind = omega arith in
    (done_exactly (read_rows kind value k) (read_refusal kind value k) (read_ranked kind value k)).1 (
      (λ n. n (low, high)),
      (⊎_elim (λ z. omega arith) (λ n. n (count, many)), ((λ l. omega arith), tt)),
    )

read_at : (kind count : ℕ) (value : List ℕ) → 1 ≤ kind → kind ≤ 7 → length value ≡ count * size_of kind
    → (k : ℕ) → k < count → read_value kind value k ≡ Ok (value_at (is_signed kind) (size_of kind) (natural (element_of (size_of kind) value k)))
unfolding read_value
read_at kind count value low high many k h = rw (readable kind count value low high many k h)

-- an element's text: a number with no digit too many, of a value that fits the kind and has the element's bytes
record Tells (kind : ℕ) (bytes word : List ℕ) : Type 0 where
  shortest : is_shortest word ≡ true
  fitting : fits kind (value_of word) ≡ true
  stored : bytes_of (size_of kind) (stored_at (size_of kind) (value_of word)) ≡ bytes

tells : (kind : ℕ) (value : List ℕ) (k : ℕ) (v : Value) → 1 ≤ kind → kind ≤ 7 → Bytes value → read_value kind value k ≡ Ok v
    → Tells kind (element_of (size_of kind) value k) (element_text (read_value kind value k))
unfolding element_text
tells kind value k v low high each e =
    let kept = element_stored kind v value k each e in
    let fit : fits kind v ≡ true = (stored_none kind v kept.0).1 in
    let small : Small v = small_fits kind v low high fit in
    let back : value_of (spelt v) ≡ v = spelt_value v small in
    rw e (record { shortest = spelt_shortest v small; fitting = rw back fit; stored = rw back kept.1 })

text_tells : (kind count : ℕ) (value : List ℕ) → 1 ≤ kind → kind ≤ 7 → length value ≡ count * size_of kind → Bytes value
    → (k : ℕ) → k < count → Tells kind (element_of (size_of kind) value k) (element_text (read_value kind value k))
text_tells kind count value low high many each k h = tells kind value k _ low high each (read_at kind count value low high many k h)

-- the bytes of the elements' texts, one after the other, are the value's
texts_bytes : (kind count : ℕ) (value : List ℕ) → 1 ≤ kind → kind ≤ 7 → length value ≡ count * size_of kind → Bytes value
    → (k n : ℕ) → k + n ≤ count → bytes_in kind (texts_from kind value k n) ≡ take (n * size_of kind) (drop (k * size_of kind) value)
unfolding bytes_in element_of
texts_bytes kind count value low high many each k zero h = let none : 0 * size_of kind ≡ 0 = omega arith in rw none
texts_bytes kind count value low high many each k (suc n) h =
    let first = (text_tells kind count value low high many each k (omega arith)).stored in
    let more : suc n * size_of kind ≡ size_of kind + n * size_of kind = omega arith in
    let on : suc k * size_of kind ≡ k * size_of kind + size_of kind = omega arith in
    rw (
      first,
      texts_bytes kind count value low high many each (suc k) n (omega arith),
      on,
      more,
      take-add (size_of kind) (n * size_of kind) (drop (k * size_of kind) value),
      drop-drop (size_of kind) (k * size_of kind) value,
    )

-- ---- the first four words

-- a number of a byte, written and read
small_back : (words : List (List ℕ)) (k n : ℕ) → word_at words k ≡ decimal n → n < 256 → small_at words k ≡ n
unfolding small_at
small_back words k n e h = ap (limited_to 255) e ∙ limited_decimal 255 n (omega arith) (omega arith)

head_back : (s : Setting) → Proper s → head_in (words_for s) ≡ s.named
unfolding head_in
head_back s p =
    let h = proper_head s p in
    rw (
      small_back (words_for s) 0 s.named.unit refl (omega (arith, h.0.1)),
      small_back (words_for s) 1 s.named.register refl p.register,
      kind_of_name s.named.kind h.1.0.0 h.1.0.1,
      small_back (words_for s) 3 s.named.count refl (omega (arith, h.1.1.1)),
    )

-- ---- the words behind them

-- a value's word, by its place among the values
pub past_head : (words : List (List ℕ)) (k : ℕ) → word_at words (4 + k) ≡ word_at (drop 4 words) k
past_head words k = sym (get_or-drop 4 words k [])

element_tells : (s : Setting) → Proper s → (k : ℕ) → k < s.named.count
    → Tells s.named.kind (element_of (size_of s.named.kind) s.value k) (get_or (texts_from s.named.kind s.value 0 s.named.count) k [])
element_tells s p k h =
    let hd = proper_head s p in
    let e : 0 + k ≡ k = omega arith in
    rw (text_at s.named.kind s.value 0 s.named.count k h, e)
    (text_tells s.named.kind s.named.count s.value hd.1.0.0 hd.1.0.1 (proper_length s p) p.bytes k h)

shortest_at : (s : Setting) → Proper s → (k : ℕ) → k < length (words_for s) → k ≢ 2 → is_shortest (word_at (words_for s) k) ≡ true
unfolding spelt
shortest_at s p zero h n = spelt_shortest (Natural s.named.unit) (omega (arith, (proper_head s p).0.1))
shortest_at s p (suc zero) h n = spelt_shortest (Natural s.named.register) (omega (arith, p.register))
shortest_at s p (suc (suc zero)) h n = absurd (n refl)
shortest_at s p (suc (suc (suc zero))) h n = spelt_shortest (Natural s.named.count) (omega (arith, (proper_head s p).1.1.1))
shortest_at s p (suc (suc (suc (suc k)))) h n =
    (element_tells s p k (omega (arith, length_texts s.named.kind s.value 0 s.named.count))).shortest

words_sound : (s : Setting) → Proper s → (room : ℕ) → length_of s.named ≤ room → Sound (words_for s) room
words_sound s p room h =
    let hd = proper_head s p in
    let long = length_texts s.named.kind s.value 0 s.named.count in
    let count : small_at (words_for s) 3 ≡ s.named.count = small_back (words_for s) 3 s.named.count refl (omega (arith, hd.1.1.1)) in
    let kind : kind_in (words_for s) ≡ s.named.kind = kind_of_name s.named.kind hd.1.0.0 hd.1.0.1 in
    record {
      four = omega arith;
      numbers = λ k l n. shortest_number (word_at (words_for s) k) (shortest_at s p k l n);
      register = rw (small_back (words_for s) 1 s.named.register refl p.register) (omega (arith, p.register));
      allowed = rw (head_back s p) p.allowed;
      many = rw count (omega (arith, long));
      fitting = λ k l. rw (kind, past_head (words_for s) k) (element_tells s p k (omega (arith, l, count))).fitting;
      roomy = rw (head_back s p) h;
    }

-- ---- a line reads back as the setting that it was written for

pub line_reads : (s : Setting) → Proper s → (room : List ℕ) → length_of s.named ≤ length room
    → said_by (words_of (line_of s)) (length room) ≡ Ok (Some (record_as s.named))
line_reads s p room h =
    rw (line_words s) (sound_said (words_for s) (length room) (words_sound s p (length room) h) ∙ ap (λ (hd : Head). Ok (Some (record_as hd))) (head_back s p))

pub line_value : (s : Setting) → Proper s → value_in (words_of (line_of s)) ≡ s.value
unfolding value_in
line_value s p =
    let hd = proper_head s p in
    let kind : kind_of (name_of s.named.kind) ≡ s.named.kind = kind_of_name s.named.kind hd.1.0.0 hd.1.0.1 in
    let count : small_at (words_for s) 3 ≡ s.named.count = small_back (words_for s) 3 s.named.count refl (omega (arith, hd.1.1.1)) in
    let start : 0 * size_of s.named.kind ≡ 0 = omega arith in
    let long = length_texts s.named.kind s.value 0 s.named.count in
    rw (
      line_words s,
      count,
      kind,
      take_all s.named.count (texts_from s.named.kind s.value 0 s.named.count) (omega arith),
      texts_bytes s.named.kind s.named.count s.value hd.1.0.0 hd.1.0.1 (proper_length s p) p.bytes 0 s.named.count (omega arith),
      start,
    )
    (take_all (s.named.count * size_of s.named.kind) s.value (omega (arith, proper_length s p)))

pub reads_back : (s : Setting) → Proper s → (room : List ℕ) → length_of s.named ≤ length room → (r : Line) (room' : List ℕ)
    → Reads (line_of s) room r room' → (r ≡ Ok (Some (record_as s.named))) × (room' ≡ over s.value room)
reads_back s p room h r room' reads =
    let says = line_reads s p room h in (
      reads.0 ∙ says,
      reads.1 ∙ ap₂ (λ (l : Line) (bytes : List ℕ). room_after l bytes room) says (line_value s p),
    )

-- so of the calls: what `write` put into a buffer, `read` reads
pub written_reads : (h : Head) (value room : List ℕ) (n : ℕ) (room' : List ℕ) → Proper (setting h value) → Writes h value room n room' → n ≤ length room
    → (space : List ℕ) → length_of h ≤ length space → (r : Line) (space' : List ℕ)
    → Reads (take n room') space r space' → (r ≡ Ok (Some (record_as h))) × (space' ≡ over value space)
written_reads h value room n room' p w l space long r space' reads =
    reads_back (setting h value) p space long r space' (rw (written (setting h value) room n room' w l) at reads)

-- and it is as a line is written
pub line_canonical : (s : Setting) → Proper s → Canonical (line_of s)
line_canonical s p =
    record { spaced = rw (line_words s) (sym (line_joined s)); short = rw (line_words s) (shortest_at s p) }
