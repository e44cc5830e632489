-- And back: a line as it is written is what is written again for the setting that it reads as.
-- Assumes nothing.
use Rattle.std.specs.Prelude.{Ok, Some}
use mathlib.Core.Path.{◌≡◌, refl, sym, ap, ◌∙◌}
use mathlib.Core.Bool.{Bool, true, false, cond}
use mathlib.Core.List.{List, [], ◌∷◌}
use mathlib.Core.Logic.{◌≢◌}
use mathlib.Core.Option.{none}
use Prim.Native.Nat.{ℕ, zero, suc, ◌+◌, ◌*◌, ◌^◌, ◌≤◌, ◌<◌}
use native.Mathlib.Omega.{arith}
use lib.ListN.{length, take, drop}
use lib.Seq.{take_all, drop-drop, take_at, drop_at}
use Rattle.rows.proofs.Laws.{told_true}
use Rattle.text.specs.Text.{decimal}
use Rattle.values.specs.declared.Value.{Value}
use Rattle.values.specs.declared.Value.TheVariants.{Natural}
use Rattle.values.specs.Values.{size_of, fits, bytes_of, stored_at, stored_refusal, element_of}
use Rattle.values.specs.Values.{read_value}
use Rattle.values.proofs.Bytes.{length-bytes_of}
use Rattle.values.proofs.Refusals.{decides_kind, decides_fits, stored_so}
use Rattle.values.proofs.Laws.{reads_element}
use Rattle.numerals.specs.Numerals.{is_minus, amount_of, below, value_of, limited_to, spelt, is_shortest}
use Rattle.numerals.proofs.Laws.{Small, shortest_spelt, limited_is}
use Rattle.setting.specs.Setting.{setting, Allowed}
use Rattle.sheet.specs.declared.Record.{Record}
use Rattle.sheet_line.specs.Words.{words_of, joined}
use Rattle.sheet_line.specs.Line.{kind_of, word_at, small_at, head_in, bytes_in, value_in}
use Rattle.sheet_line.specs.Line.{element_text, line_of, Canonical, Reads, Writes}
use Rattle.sheet_line.proofs.Joined.{Every, at_every}
use Rattle.sheet_line.proofs.Sound.{kind_named, Sound, read_sound, read_allowed, length-bytes_in}
use Rattle.sheet_line.proofs.Written.{texts_from, words_for, line_joined, written}
use Rattle.sheet_line.proofs.There.{small_fits, readable, past_head}

-- a word's value is its amount, or that below 0
small_amount : (word : List ℕ) → Small (value_of word) → amount_of word < 10 ^ 20
unfolding value_of below
small_amount word = go (is_minus word) (amount_of word)
  where
    go : (minus : Bool) (n : ℕ) → Small (cond minus (below n) (Natural n)) → n < 10 ^ 20
    go false n h = h
    go true zero h = h
    go true (suc n) h = h

-- a value that fits is kept
kept_so : (kind : ℕ) (v : Value) → 1 ≤ kind → kind ≤ 7 → fits kind v ≡ true → stored_refusal kind v ≡ none
kept_so kind v low high e = stored_so kind v (told_true (decides_kind kind) (low, high)) ((decides_fits kind v).so e)

-- a word that is a number with no digit too many is how its value is spelt
spelt_again : (word : List ℕ) → is_shortest word ≡ true → Small (value_of word) → spelt (value_of word) ≡ word
spelt_again word e small = shortest_spelt word e (small_amount word small)

decimal_again : (word : List ℕ) → is_shortest word ≡ true → limited_to 255 word ≤ 255 → decimal (limited_to 255 word) ≡ word
unfolding spelt
decimal_again word e h =
    let is : value_of word ≡ Natural (limited_to 255 word) = (limited_is 255 word (limited_to 255 word) refl h).1 in
    let small : Small (value_of word) = rw is (omega arith) in
    ap spelt (sym is) ∙ spelt_again word e small

-- the words behind the first four, read as bytes and written again
texts_again : (kind count : ℕ) (value : List ℕ) (words : List (List ℕ)) (k : ℕ) → 1 ≤ kind → kind ≤ 7 → length value ≡ count * size_of kind
    → k + length words ≤ count → drop (k * size_of kind) value ≡ bytes_in kind words
    → Every (λ word. (is_shortest word ≡ true) × (fits kind (value_of word) ≡ true)) words → texts_from kind value k (length words) ≡ words
unfolding bytes_in element_text element_of
texts_again kind count value [] k low high many h e each = refl
texts_again kind count value (word ∷ rest) k low high many h e each =
    let first : List ℕ = bytes_of (size_of kind) (stored_at (size_of kind) (value_of word)) in
    let on : suc k * size_of kind ≡ k * size_of kind + size_of kind = omega arith in
    let element : take (size_of kind) (drop (k * size_of kind) value) ≡ first = rw e (take_at first (bytes_in kind rest) (size_of kind) (length-bytes_of _ _)) in
    let behind : drop (suc k * size_of kind) value ≡ bytes_in kind rest =
    rw (on, ← drop-drop (size_of kind) (k * size_of kind) value, e) (drop_at first (bytes_in kind rest) (size_of kind) (length-bytes_of _ _)) in
    let is : read_value kind value k ≡ Ok (value_of word) =
    reads_element kind (value_of word) value k (kept_so kind (value_of word) low high each.0.1) (readable kind count value low high many k (omega arith)) element in
    rw (is, spelt_again word each.0.0 (small_fits kind (value_of word) low high each.0.1))
    (ap (λ (l : List (List ℕ)). word ∷ l) (texts_again kind count value rest (suc k) low high many (omega arith) behind each.1))

texts_all : (kind n : ℕ) (words : List (List ℕ)) → 1 ≤ kind → kind ≤ 7 → length words ≡ n
    → Every (λ word. (is_shortest word ≡ true) × (fits kind (value_of word) ≡ true)) words → texts_from kind (bytes_in kind (take n words)) 0 n ≡ words
texts_all kind n words low high e each =
    let start : 0 * size_of kind ≡ 0 = omega arith in
    rw (← e, take_all (length words) words (omega arith))
    (texts_again kind (length words) (bytes_in kind words) words 0 low high (length-bytes_in kind words) (omega arith) (rw start) each)

words_again : (words : List (List ℕ)) (room : ℕ) → Sound words room
    → ((k : ℕ) → k < length words → k ≢ 2 → is_shortest (word_at words k) ≡ true) → words_for (setting (head_in words) (value_in words)) ≡ words
unfolding head_in value_in small_at Allowed
words_again [] room s short = absurd (omega (arith, s.four))
words_again (a ∷ []) room s short = absurd (omega (arith, s.four))
words_again (a ∷ b ∷ []) room s short = absurd (omega (arith, s.four))
words_again (a ∷ b ∷ c ∷ []) room s short = absurd (omega (arith, s.four))
words_again (a ∷ b ∷ c ∷ d ∷ rest) room s short =
    let kind : (1 ≤ kind_of c) × (kind_of c ≤ 7) = s.allowed.1.0 in
    let many : length rest ≡ limited_to 255 d = omega (arith, s.many) in
    let each : Every (λ word. (is_shortest word ≡ true) × (fits (kind_of c) (value_of word) ≡ true)) rest =
    at_every _ rest [] (λ k h. (
      short (suc (suc (suc (suc k)))) (omega arith) (λ e. omega arith),
      (rw (past_head (a ∷ b ∷ c ∷ d ∷ rest) k) at (s.fitting k (omega (arith, h, many)))),
    )) in
    rw (
      decimal_again a (short 0 (omega arith) (λ e. omega arith)) (omega (arith, s.allowed.0.1)),
      decimal_again b (short 1 (omega arith) (λ e. omega arith)) s.register,
      (kind_named c (λ z. omega (arith, z, kind.0))).1,
      texts_all (kind_of c) (limited_to 255 d) rest kind.0 kind.1 many each,
      decimal_again d (short 3 (omega arith) (λ e. omega arith)) (omega (arith, s.allowed.1.1.0.1)),
    )

pub written_again : (text room : List ℕ) (r : Record) (room' : List ℕ) → Canonical text → Reads text room (Ok (Some r)) room'
    → line_of (setting r.head (take r.size room')) ≡ text
written_again text room r room' c reads =
    let f = read_allowed text room r room' reads in
    rw (f.laid, f.named)
    (line_joined _ ∙ ap joined (words_again (words_of text) (length room) (read_sound text room r room' reads) c.short) ∙ c.spaced)

-- of the calls: `write` of what `read` read is that line again
pub read_writes : (text room : List ℕ) (r : Record) (room' : List ℕ) → Canonical text → Reads text room (Ok (Some r)) room'
    → (space : List ℕ) (n : ℕ) (space' : List ℕ) → Writes r.head (take r.size room') space n space' → n ≤ length space → take n space' ≡ text
read_writes text room r room' c reads space n space' w l =
    written (setting r.head (take r.size room')) space n space' w l ∙ written_again text room r room' c reads

-- so two lines as they are written that read as the same setting are the same line
pub written_once : (a b room : List ℕ) (r : Record) (room' : List ℕ) → Canonical a → Canonical b
    → Reads a room (Ok (Some r)) room' → Reads b room (Ok (Some r)) room' → a ≡ b
written_once a b room r room' ca cb ra rb = sym (written_again a room r room' ca ra) ∙ written_again b room r room' cb rb
