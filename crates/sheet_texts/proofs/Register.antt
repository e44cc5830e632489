-- One register of a right sheet: the record that is found is the only one of that module and register.
-- Assumes nothing.
use mathlib.Core.Path.{◌≡◌, refl, sym, ap, ◌∙◌}
use mathlib.Core.Bool.{Bool, true, false}
use mathlib.Core.List.{List, [], ◌∷◌}
use mathlib.Core.Option.{none}
use Prim.Native.Nat.{ℕ, zero, suc, ◌<◌}
use native.Mathlib.Nat.{le_of_suc-le-suc}
use native.Mathlib.Omega.{arith}
use lib.ListN.{length, get_or}
use Rattle.first.specs.First.{first_place}
use Rattle.first.proofs.Laws.{Ended, ended, first-same}
use Rattle.rows.proofs.Laws.{Decides, decides_eq, decides_and, done_exactly, told_false}
use Rattle.setting.specs.declared.Head.{Head}
use Rattle.setting.specs.Setting.{Setting, Above, heads}
use Rattle.sheet.specs.Sheet.{nothing, named, count_in, records_in, held, check_rows, check_refusal, Right}
use Rattle.sheet.specs.Promised.{Whole}
use Rattle.sheet.proofs.Right.{whole, check_ranked}
use Rattle.sheet.proofs.Written.{held_named, held_long, held_writable}
use Rattle.sheet_editor.specs.Editor.{without, SameKey, same_key}
use Rattle.sheet_editor.proofs.Chosen.{not_below_same}
use Rattle.sheet_editor.proofs.Rising.{Each, Up, each_at, each_by, parts_of}
use Rattle.sheet_maker.specs.Maker.{key_for, is_key, Finds}
use Rattle.sheet_texts.specs.Texts.{besides}

pub decides_key : (a b : Head) → Decides (same_key a b) (SameKey a b)
unfolding SameKey
decides_key a b = decides_and (decides_eq a.unit b.unit) (decides_eq a.register b.register)

-- two with the same key have each other's
shared : (a b c : Head) → SameKey a c → SameKey b c → SameKey a b
unfolding SameKey
shared a b c p q = (p.0 ∙ sym q.0, p.1 ∙ sym q.1)

-- ---- where none has it, all stay

besides_all : (unit register : ℕ) (settings : List Setting) → Each (λ s. SameKey s.named (key_for unit register) → ⊥) settings → besides unit register settings ≡ settings
unfolding besides Each
besides_all unit register [] each = refl
besides_all unit register (s ∷ rest) each =
    rw (told_false (decides_key s.named (key_for unit register)) each.0) (ap (λ (l : List Setting). s ∷ l) (besides_all unit register rest each.1))

-- ---- the first that has it is the only one, where they rise

out_besides : (unit register : ℕ) (settings : List Setting) (j : ℕ) → Up settings → j < length settings
    → ((i : ℕ) → i < j → same_key (named settings i) (key_for unit register) ≡ false) → same_key (named settings j) (key_for unit register) ≡ true
    → without j settings ≡ besides unit register settings
unfolding Up without besides named
out_besides unit register [] j up l before there = absurd (omega arith)
out_besides unit register (s ∷ rest) zero up l before there =
    let same = (decides_key s.named (key_for unit register)).so there in
    rw there (sym (besides_all unit register rest
    (each_by (λ t. SameKey t.named (key_for unit register) → ⊥) rest (λ k m other.
    not_below_same s.named (get_or rest k nothing).named (shared s.named (get_or rest k nothing).named (key_for unit register) same other)
    (each_at (λ t. Above s.named t.named) rest up.0 k m)))))
out_besides unit register (s ∷ rest) (suc j) up l before there =
    rw (before 0 (omega arith))
    (ap (λ (t : List Setting). s ∷ t) (out_besides unit register rest j up.1 (le_of_suc-le-suc l) (λ i m. before (suc i) (omega arith)) there))

-- ---- so of a right sheet

-- whether the setting at a place is that register's
abbrev pub is_at : ℕ → ℕ → List Setting → ℕ → Bool
is_at unit register settings k = same_key (named settings k) (key_for unit register)

pub none_wrong : (sheet : List ℕ) → Right sheet → check_refusal sheet ≡ none
none_wrong sheet right = (done_exactly (check_rows sheet) (check_refusal sheet) (check_ranked sheet)).1 right

pub found_place : (sheet : List ℕ) (unit register i : ℕ) → Right sheet → Finds sheet unit register i
    → i ≡ first_place (is_at unit register (held sheet)) (length (held sheet))
found_place sheet unit register i right finds =
    let w : Whole sheet = whole sheet right in
    let found : i ≡ first_place (is_key unit register (heads (records_in sheet))) (count_in sheet) = rw (none_wrong sheet right) at finds in
    found
    ∙ (first-same (is_key unit register (heads (records_in sheet))) (is_at unit register (held sheet)) (count_in sheet)
    (λ k l. ap (λ (h : Head). same_key h (key_for unit register)) (sym (held_named sheet w.header k l)))
    ∙ ap (first_place (is_at unit register (held sheet))) (sym (held_long sheet)))

pub without_found : (sheet : List ℕ) (unit register i : ℕ) → Right sheet → Finds sheet unit register i → i < length (held sheet)
    → without i (held sheet) ≡ besides unit register (held sheet)
without_found sheet unit register i right finds l =
    let place = found_place sheet unit register i right finds in
    let e : Ended (is_at unit register (held sheet)) (length (held sheet)) i = rw place (ended (is_at unit register (held sheet)) (length (held sheet))) in
    out_besides unit register (held sheet) i (parts_of (held sheet) (held_writable sheet right)).0 l e.before (e.there l)
