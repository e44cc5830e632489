-- The values of a line in bytes: one laid behind the other, and the first that does not fit.
-- Assumes nothing.
use Rattle.std.specs.Prelude.{Ok, Err}
use mathlib.Core.Path.{◌≡◌, refl, sym, ap, ap₂, ◌∙◌}
use mathlib.Core.Bool.{Bool, true, false, not, true≢false}
use mathlib.Core.List.{List, [], ◌∷◌, ◌++◌}
use mathlib.Core.Option.{some, none}
use Prim.Native.Nat.{ℕ, suc, ◌+◌, ◌-◌, ◌*◌, ◌≤◌, ◌<◌}
use native.Mathlib.Nat.{zero-mul, suc-mul, sub-zero, mul-le-mul_right}
use native.Mathlib.Numerals.{add-one}
use native.Mathlib.Omega.{arith}
use lib.ListN.{length, get_or, take, drop, length-append}
use lib.Seq.{drop-cons}
use Rattle.first.proofs.Laws.{first_at, first-none}
use Rattle.lent.specs.Lent.{over, over_at}
use Rattle.lent.proofs.Laws.{over_at_none, over_at_append, over_at_zero, length-over_at, lay_part}
use Rattle.rows.proofs.Laws.{clash, told_true}
use Rattle.values.specs.declared.Value.{Value}
use Rattle.values.specs.declared.Fault.{Fault}
use Rattle.values.specs.Values.{size_of, fits, is_kind, bytes_of, stored_at, stored_value, stored_refusal}
use Rattle.values.proofs.Bytes.{length-bytes_of}
use Rattle.values.proofs.Refusals.{decides_kind, stored_none, stored_as, stored_refused}
use Rattle.numerals.specs.declared.Numeral.{Numeral}
use Rattle.numerals.specs.declared.Numeral.TheVariants as numeral
use Rattle.numerals.specs.Numerals.{is_number, value_of, numeral_of}
use Rattle.numerals.proofs.Laws.{numeral_is, numeral_huge, numeral_nothing, huge_unfit}
use Rattle.setting.specs.declared.Head.{Head}
use Rattle.setting.specs.Setting.{length_of}
use Rattle.sheet_line.specs.Line.{bytes_in}
use Rattle.sheet_line.specs.Parts.{AreNumbers, unfit_in, bytes_for, StoresAll}
use Rattle.sheet_line.proofs.Steps.{word_here}

-- the bytes of a value
abbrev value_bytes : ℕ → List ℕ → List ℕ
value_bytes kind word = bytes_of (size_of kind) (stored_at (size_of kind) (value_of word))

-- ---- one value

refusal_clash : (kind : ℕ) (value : Value) (f : Fault) → is_kind kind ≡ true → fits kind value ≡ true → stored_refusal kind value ≡ some f → ◌≡◌ {A = ℕ} 0 1
unfolding stored_refusal
refusal_clash kind value f k q e = let none_is : none ≡ some f = rw (k, q) at e in cc

module _ (kind : ℕ) (word : List ℕ) (l : 1 ≤ kind) (h : kind ≤ 7) {read : Numeral} (read_is : read ≡ numeral_of word) where
  is_kind_lem : is_kind kind ≡ true
  is_kind_lem = told_true (decides_kind kind) (l, h)

  module _ (value : Value) (is : read ≡ numeral.Is value) where
    same_value_lem : value_of word ≡ value
    same_value_lem = (numeral_is word value (sym read_is ∙ is)).1

    pub value_fits : {n : ℕ} → stored_value kind value ≡ Ok n → true ≡ fits kind (value_of word)
    value_fits {n} e = rw same_value_lem (sym (stored_none kind value (stored_as kind value n e).0).1)

    pub value_laid : {n size : ℕ} (at : ℕ) (room : List ℕ) {part : List ℕ} → stored_value kind value ≡ Ok n → size ≡ size_of kind → at ≤ length room
        → part ≡ over (bytes_of size n) (take (length room - at) (drop at room))
        → take at room ++ (part ++ drop (length room - at) (drop at room)) ≡ over_at at (value_bytes kind word) room
    value_laid {n} {size} at room {part} e s within laid =
        let bytes : bytes_of size n ≡ value_bytes kind word =
        ap₂ bytes_of s (stored_as kind value n e).1 ∙ ap (λ (v : Value). bytes_of (size_of kind) (stored_at (size_of kind) v)) (sym same_value_lem) in
        lay_part at (bytes_of size n) room part within laid ∙ ap (λ (xs : List ℕ). over_at at xs room) bytes

    pub value_refused : (f : Fault) → stored_value kind value ≡ Err f → false ≡ fits kind (value_of word)
    value_refused f e = rw same_value_lem (sym (refused_unfit (fits kind value) refl))
      where
        refused_unfit : (t : Bool) → fits kind value ≡ t → fits kind value ≡ false
        refused_unfit true q = clash (refusal_clash kind value f is_kind_lem q (stored_refused kind value f e))
        refused_unfit false q = q

  -- a number whose value was not read
  pub unread_refused : is_number word ≡ true → ((value : Value) → read ≡ numeral.Is value → ⊥) → false ≡ fits kind (value_of word)
  unread_refused number unread = go read refl
    where
      go : (told : Numeral) → read ≡ told → false ≡ fits kind (value_of word)
      go (numeral.Is value) e = absurd (unread value e)
      go numeral.Huge e = sym (huge_unfit kind word (numeral_huge word (sym read_is ∙ e)).1)
      go numeral.Nothing e = absurd (true≢false (sym number ∙ numeral_nothing word (sym read_is ∙ e)))

-- ---- the values, one behind the other: what is still to be laid gives the whole

length_value : (kind : ℕ) (word : List ℕ) → length (value_bytes kind word) ≡ size_of kind
length_value kind word = length-bytes_of (size_of kind) (stored_at (size_of kind) (value_of word))

pub length-bytes_in : (kind : ℕ) (words : List (List ℕ)) → length (bytes_in kind words) ≡ length words * size_of kind
unfolding bytes_in
length-bytes_in kind [] = sym (zero-mul (size_of kind))
length-bytes_in kind (word ∷ rest) =
    length-append (value_bytes kind word) (bytes_in kind rest)
    ∙ (ap₂ (λ (a b : ℕ). a + b) (length_value kind word) (length-bytes_in kind rest) ∙ sym (suc_mul_first (length rest) (size_of kind)))
  where
    suc_mul_first : (n size : ℕ) → suc n * size ≡ size + n * size
    suc_mul_first n size = rw (suc-mul n size) (omega arith)

abbrev pub Laid : ℕ → ℕ → ℕ → List (List ℕ) → List ℕ → ℕ → List ℕ → Type 0
Laid kind size n words whole k room = over_at (k * size) (bytes_in kind (take (n - k) (drop k words))) room ≡ whole

module _ (kind size n : ℕ) (words : List (List ℕ)) (sized : size ≡ size_of kind) where
  pub laid_starts : (room : List ℕ) → Laid kind size n words (over (bytes_in kind (take n words)) room) 0 room
  laid_starts room = rw (zero-mul size, sub-zero n) (over_at_zero (bytes_in kind (take n words)) room)

  -- one value more
  value_first : (k : ℕ) → k < n → k < length words
      → bytes_in kind (take (n - k) (drop k words)) ≡ value_bytes kind (get_or words k []) ++ bytes_in kind (take (n - (k + 1)) (drop (k + 1) words))
  unfolding bytes_in
  value_first k l h =
      let more : n - k ≡ suc (n - (k + 1)) = omega arith in
      rw (more, drop-cons words k [] h, add-one k) refl

  pub laid_on : {whole : List ℕ} (k : ℕ) (room room' : List ℕ) → k < n → k < length words → room' ≡ over_at (k * size) (value_bytes kind (get_or words k [])) room
      → Laid kind size n words whole k room → Laid kind size n words whole (k + 1) room'
  laid_on k room room' l h laid so =
      let bytes = value_bytes kind (get_or words k []) in
      let rest = bytes_in kind (take (n - (k + 1)) (drop (k + 1) words)) in
      let long : length bytes ≡ size = length_value kind (get_or words k []) ∙ sym sized in
      let place : (k + 1) * size ≡ k * size + length bytes = ap (λ (a : ℕ). a * size) (add-one k) ∙ (suc-mul k size ∙ ap (λ (a : ℕ). k * size + a) (sym long)) in
      ap₂ (λ (a : ℕ) (d : List ℕ). over_at a rest d) place laid
      ∙ (over_at_append (k * size) bytes rest room ∙ (ap (λ (b : List ℕ). over_at (k * size) b room) (sym (value_first k l h)) ∙ so))

  pub laid_ends : {whole : List ℕ} (k : ℕ) (room : List ℕ) → n ≤ k → Laid kind size n words whole k room → room ≡ whole
  unfolding bytes_in
  laid_ends k room h so =
      let none : n - k ≡ 0 = omega arith in
      sym (ap (λ (m : ℕ). over_at (k * size) (bytes_in kind (take m (drop k words))) room) none ∙ over_at_none (k * size) room) ∙ so

-- ---- the first that does not fit

module _ (kind : ℕ) (words : List (List ℕ)) (k : ℕ) {left : List (List ℕ)} {word : List ℕ} {t : Bool} (so : drop k words ≡ left) (is : word ≡ get_or left 0 [])
    (told : t ≡ fits kind (value_of word)) where
  pub fit_told_lem : unfit_in kind words k ≡ not t
  unfolding unfit_in
  fit_told_lem = ap not (ap (λ (w : List ℕ). fits kind (value_of w)) (sym (word_here words k so is)) ∙ sym told)

-- ---- the loop

module _ (h : Head) (words : List (List ℕ)) (room₀ : List ℕ) (size : ℕ) (sized : size ≡ size_of h.kind) where
  -- the next value's place
  pub place-within : (k long : ℕ) → k ≤ h.count → length_of h ≤ long → k * size ≤ long
  unfolding length_of
  place-within k long l within =
      let most : k * size_of h.kind ≤ h.count * size_of h.kind = mul-le-mul_right (size_of h.kind) l in
      rw sized (omega arith)

  pub number_at : (k : ℕ) {left : List (List ℕ)} {word : List ℕ} → k < h.count → AreNumbers words h.count → drop k words ≡ left → word ≡ get_or left 0 []
      → is_number word ≡ true
  number_at k l numbers so is = ap is_number (word_here words k so is) ∙ numbers k l

  pub stored_on : (k : ℕ) (room room' : List ℕ) {left : List (List ℕ)} {word : List ℕ} → k < h.count → h.count ≤ length words → drop k words ≡ left
      → word ≡ get_or left 0 [] → room' ≡ over_at (k * size) (value_bytes h.kind word) room → length room ≡ length room₀
      → Laid h.kind size h.count words (over (bytes_for h words) room₀) k room
      → (length room' ≡ length room₀) × Laid h.kind size h.count words (over (bytes_for h words) room₀) (k + 1) room'
  stored_on k room room' {word = word} l enough so is laid long before = (
    ap length laid ∙ (length-over_at (k * size) (value_bytes h.kind word) room ∙ long),
    laid_on h.kind size h.count words sized k room room' l (omega arith)
        (laid ∙ ap (λ (w : List ℕ). over_at (k * size) (value_bytes h.kind w) room) (word_here words k so is)) before,
  )

  pub one_unfit : (k : ℕ) (room : List ℕ) → k < h.count → ((j : ℕ) → j < k → unfit_in h.kind words j ≡ false) → unfit_in h.kind words k ≡ true
      → StoresAll words h room₀ k room
  one_unfit k room l before there = (sym (first_at (unfit_in h.kind words) h.count k l before there), λ e. absurd (omega arith))

  pub all_fit : (k : ℕ) (room : List ℕ) → k ≤ h.count → h.count ≤ k → ((j : ℕ) → j < k → unfit_in h.kind words j ≡ false)
      → Laid h.kind size h.count words (over (bytes_for h words) room₀) k room → StoresAll words h room₀ k room
  all_fit k room l m before laid =
      let all : k ≡ h.count = omega arith in (
        all ∙ sym (first-none (unfit_in h.kind words) h.count (λ j u. before j (omega arith))),
        λ e. laid_ends h.kind size h.count words sized k room m laid,
      )
