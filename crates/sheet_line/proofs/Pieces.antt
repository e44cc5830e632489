-- How a line is put together from its pieces in a lent room.
-- Assumes nothing.
use Rattle.std.specs.Prelude.{Ok, Err}
use mathlib.Core.Path.{◌≡◌, refl, sym, ap, subst, ◌∙◌}
use mathlib.Core.Bool.{Bool, true, false, cond, ◌&&◌}
use mathlib.Core.List.{List, [], ◌∷◌}
use mathlib.Core.Logic.{◌≢◌}
use Prim.Native.Nat.{ℕ, zero, suc, ◌+◌, ◌-◌, ◌^◌, ◌≤◌, ◌<◌}
use native.Mathlib.Decide.{dec_lt}
use native.Mathlib.Nat.{zero-add, zero-lt-suc, lt_of_lt_of_le}
use native.Mathlib.Numerals.{add-one}
use native.Mathlib.Omega.{arith}
use borrow.Author.Tests.{le-leb, lt-leb}
use lib.Dec.{leb, leb→le}
use lib.ListN.{length, get_or, get_or-eq_default}
use Rattle.lent.proofs.Laws.{over_at_none, over_at_zero}
use Rattle.text.specs.Text.{ascii, decimal, Puts}
use Rattle.text.proofs.Laws.{puts_then}
use Rattle.values.specs.Values.{size_of, is_signed, Bytes, Holds, read_value}
use Rattle.values.specs.declared.Value.{Value}
use Rattle.values.specs.declared.Value.TheVariants.{Natural, Negative}
use Rattle.values.specs.declared.Fault.{Fault}
use Rattle.values.specs.Answers.{Reading}
use Rattle.values.proofs.Laws.{element_stored}
use Rattle.values.proofs.Refusals.{decides_fits, stored_none}
use Rattle.values.proofs.Table.{at as each_at}
use Rattle.values.proofs.Sized.{half_le, kind_positive, size-le}
use Rattle.numerals.specs.Numerals.{spelt}
use Rattle.setting.specs.declared.Head.{Head}
use Rattle.sheet_line.specs.Line.{kind_names, name_of, element_text, elements_from, line_of, Writes}

-- the same piece by another name
pub puts_as : (x y : List ℕ) (at r : ℕ) (room room' : List ℕ) → y ≡ x → Puts x at room r room' → Puts y at room r room'
puts_as x y at r room room' e p = subst (λ (text : List ℕ). Puts text at room r room') (sym e) p

-- ---- a kind

-- from one kind to the next; all seven at once are too many cases for `omega`
next : (n kind : ℕ) → n ≤ kind → kind ≢ n → suc n ≤ kind
next n kind h other = omega arith

pub no_name : (kind : ℕ) → kind ≢ 1 → kind ≢ 2 → kind ≢ 3 → kind ≢ 4 → kind ≢ 5 → kind ≢ 6 → kind ≢ 7 → name_of kind ≡ ascii "?"
unfolding name_of
no_name zero a b c d e f g = refl
no_name (suc k) a b c d e f g =
    rw (le-leb 1 (suc k) (zero-lt-suc k), lt-leb (suc k) 7 (next 7 _ (next 6 _ (next 5 _ (next 4 _ (next 3 _ (next 2 _ (next 1 _ (zero-lt-suc k) a) b) c) d) e) f) g))

pub name_short : (kind : ℕ) → length (name_of kind) ≤ 3
unfolding name_of
name_short kind = go (leb 1 kind && leb kind 7)
  where
    listed : length (get_or kind_names kind []) ≤ 3
    listed = elim (dec_lt kind 8) [
      | yes under ↦ leb→le _ 3 (each_at (λ (name : List ℕ). leb (length name) 3) kind_names [] tt kind under)
      | no past ↦ rw (get_or-eq_default kind_names [] {n = kind} (omega arith)) (omega arith)
    ]

    go : (b : Bool) → length (cond b (get_or kind_names kind []) (ascii "?")) ≤ 3
    go true = listed
    go false = omega arith

-- a blank and the name, by whichever way it is known
pub name_put : (kind : ℕ) (name : List ℕ) (at r : ℕ) (room room' : List ℕ) → name_of kind ≡ name → Puts (32 ∷ name) at room r room'
    → Puts (32 ∷ name_of kind) at room r room' × (r ≤ at + 4)
name_put kind name at r room room' e p =
    let named : Puts (32 ∷ name_of kind) at room r room' = rw e p in
    (named, omega (arith, named.0, name_short kind))

-- ---- an element

-- one below 0 is not so low that its negative would be no number of 64 bits
pub read_small : (kind : ℕ) (bytes : List ℕ) (k m : ℕ) → Bytes bytes → read_value kind bytes k ≡ Ok (Negative m) → m < 2 ^ 63
unfolding Holds
read_small kind bytes k m each e =
    let kept = stored_none kind (Negative m) (element_stored kind (Negative m) bytes k each e).0 in
    by_sign (is_signed kind) (size-le kind (kind_positive kind kept.0)) ((decides_fits kind (Negative m)).so kept.1)
  where
    by_sign : (b : Bool) → size_of kind ≤ 8 → Holds b (size_of kind) (Negative m) → m < 2 ^ 63
    by_sign false s h = absurd h
    by_sign true s h = lt_of_lt_of_le h (half_le (size_of kind) s)

-- what `read` answered, told case by case
pub read_as : (kind : ℕ) (bytes : List ℕ) (k : ℕ) (r : Reading) (v w : Value) → r ≡ read_value kind bytes k → r ≡ Ok v → v ≡ w
    → read_value kind bytes k ≡ Ok w
read_as kind bytes k r v w read is e = sym read ∙ is ∙ ap Ok e

pub natural_text : (kind : ℕ) (bytes : List ℕ) (k n : ℕ) → read_value kind bytes k ≡ Ok (Natural n) → 32 ∷ element_text (read_value kind bytes k) ≡ 32 ∷ decimal n
unfolding element_text spelt
natural_text kind bytes k n e = rw e

pub negative_text : (kind : ℕ) (bytes : List ℕ) (k n : ℕ) → read_value kind bytes k ≡ Ok (Negative n)
    → 32 ∷ element_text (read_value kind bytes k) ≡ 32 ∷ (45 ∷ decimal (n + 1))
unfolding element_text spelt
negative_text kind bytes k n e = rw (e, add-one n)

pub no_text : (kind : ℕ) (bytes : List ℕ) (k : ℕ) (r : Reading) (f : Fault) → r ≡ read_value kind bytes k → r ≡ Err f
    → 32 ∷ element_text (read_value kind bytes k) ≡ ascii " ?"
unfolding element_text
no_text kind bytes k r f read is = rw (← read, is)

-- ---- the elements: whatever writes those from k on from here writes all of them

abbrev pub Going : ℕ → List ℕ → ℕ → ℕ → List ℕ → ℕ → ℕ → List ℕ → Type 0
Going kind value count at room₀ k to room =
    (r : ℕ) (room' : List ℕ) → Puts (elements_from kind value k (count - k)) to room r room' → Puts (elements_from kind value 0 count) at room₀ r room'

pub going_start : (kind : ℕ) (value : List ℕ) (count at : ℕ) (room : List ℕ) → Going kind value count at room 0 at room
going_start kind value count at room r room' p =
    let all : count - 0 ≡ count = omega arith in
    rw all at p

pub going_on : (kind : ℕ) (value : List ℕ) (count at : ℕ) (room₀ : List ℕ) (k to to' : ℕ) (room room₁ : List ℕ) → k < count
    → Puts (32 ∷ element_text (read_value kind value k)) to room to' room₁ → Going kind value count at room₀ k to room
    → Going kind value count at room₀ (k + 1) to' room₁
unfolding elements_from
going_on kind value count at room₀ k to to' room room₁ h p going r room' q =
    let left : count - k ≡ suc (count - (k + 1)) = omega arith in
    let both = puts_then (32 ∷ element_text (read_value kind value k)) (elements_from kind value (k + 1) (count - (k + 1))) to to' r room room₁ room' p q in
    going r room' (rw (left, ← add-one k) both)

pub going_end : (kind : ℕ) (value : List ℕ) (count at : ℕ) (room₀ : List ℕ) (k to : ℕ) (room : List ℕ) → count ≤ k → Going kind value count at room₀ k to room
    → Puts (elements_from kind value 0 count) at room₀ to room
unfolding elements_from
going_end kind value count at room₀ k to room h going =
    let left : count - k ≡ 0 = omega arith in
    going to room (rw left (omega arith, sym (over_at_none to room)))

-- ---- all of a line

pub line_put : (h : Head) (value : List ℕ) (a b c d r : ℕ) (room room₁ room₂ room₃ room₄ room' : List ℕ) → Puts (decimal h.unit) 0 room a room₁
    → Puts (32 ∷ decimal h.register) a room₁ b room₂ → Puts (32 ∷ name_of h.kind) b room₂ c room₃ → Puts (32 ∷ decimal h.count) c room₃ d room₄
    → Puts (elements_from h.kind value 0 h.count) d room₄ r room' → Writes h value room r room'
unfolding line_of
line_put h value a b c d r room room₁ room₂ room₃ room₄ room' unit register kind count elements =
    let whole =
    puts_then (decimal h.unit) _ 0 a r room room₁ room' unit
    (puts_then (32 ∷ decimal h.register) _ a b r room₁ room₂ room' register
    (puts_then (32 ∷ name_of h.kind) _ b c r room₂ room₃ room' kind (puts_then (32 ∷ decimal h.count) _ c d r room₃ room₄ room' count elements))) in
    (whole.0 ∙ zero-add _, whole.1 ∙ over_at_zero _ room)
