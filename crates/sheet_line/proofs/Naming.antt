-- Kinds and their names: a word names a kind exactly where it is that kind's name.
-- Assumes nothing.
use mathlib.Core.Path.{◌≡◌, refl, sym, ap, ap₂, ◌∙◌}
use mathlib.Core.Bool.{Bool, true, false, cond, true≢false}
use mathlib.Core.List.{List, [], ◌∷◌}
use mathlib.Core.Logic.{◌≢◌}
use Prim.Native.Nat.{ℕ, zero, suc, ◌≤◌}
use native.Mathlib.Omega.{arith}
use borrow.Author.Tests.{eq-eqb, eqb-true}
use lib.Dec.{eqb}
use Rattle.rows.proofs.Laws.{Decides, decides_eq}
use Rattle.values.proofs.Sized.{positive}
use Rattle.sheet_line.specs.Words.{same}
use Rattle.sheet_line.specs.Line.{name_of, kind_of, word_at, kind_in, IsNoKind}
use Rattle.sheet_line.proofs.Steps.{both, kind_most}

-- ---- the same bytes

same_so : (xs ys : List ℕ) → same xs ys ≡ true → xs ≡ ys
unfolding same
same_so [] [] e = refl
same_so [] (y ∷ ys) e = absurd (true≢false (sym e))
same_so (x ∷ xs) [] e = absurd (true≢false (sym e))
same_so (x ∷ xs) (y ∷ ys) e =
    let p = both (eqb x y) (same xs ys) e in
    ap₂ (λ (b : ℕ) (l : List ℕ). b ∷ l) (eqb-true x y p.0) (same_so xs ys p.1)

same_self : (xs : List ℕ) → same xs xs ≡ true
unfolding same
same_self [] = refl
same_self (x ∷ xs) = rw (eq-eqb x x refl, same_self xs)

pub decides_same : (xs ys : List ℕ) → Decides (same xs ys) (xs ≡ ys)
decides_same xs ys = record { so = same_so xs ys; not_so = λ n e. true≢false (sym (same_self xs) ∙ (ap (same xs) e ∙ n)) }

-- ---- there and back

pub kind_named : (word : List ℕ) → kind_of word ≢ 0 → word ≡ name_of (kind_of word)
unfolding kind_of
kind_named word =
    by (same word (name_of 1)) (same word (name_of 2)) (same word (name_of 3)) (same word (name_of 4)) (same word (name_of 5)) (same word (name_of 6)) (same word (name_of 7))
    (same_so word (name_of 1)) (same_so word (name_of 2)) (same_so word (name_of 3)) (same_so word (name_of 4)) (same_so word (name_of 5)) (same_so word (name_of 6))
    (same_so word (name_of 7))
  where
    found : (a b c d e f g : Bool) → ℕ
    found a b c d e f g = cond a 1 (cond b 2 (cond c 3 (cond d 4 (cond e 5 (cond f 6 (cond g 7 0))))))

    Named : ℕ → Bool → Type 0
    Named k t = t ≡ true → word ≡ name_of k

    by : (a b c d e f g : Bool) → Named 1 a → Named 2 b → Named 3 c → Named 4 d → Named 5 e → Named 6 f → Named 7 g → found a b c d e f g ≢ 0
        → word ≡ name_of (found a b c d e f g)
    by true b c d e f g p q r s t u v n = p refl
    by false true c d e f g p q r s t u v n = q refl
    by false false true d e f g p q r s t u v n = r refl
    by false false false true e f g p q r s t u v n = s refl
    by false false false false true f g p q r s t u v n = t refl
    by false false false false false true g p q r s t u v n = u refl
    by false false false false false false true p q r s t u v n = v refl
    by false false false false false false false p q r s t u v n = absurd (n refl)

pub named_kind : (k : ℕ) → 1 ≤ k → k ≤ 7 → kind_of (name_of k) ≡ k
unfolding kind_of name_of same
named_kind zero l h = absurd (omega arith)
named_kind (suc zero) l h = refl
named_kind (suc (suc zero)) l h = refl
named_kind (suc (suc (suc zero))) l h = refl
named_kind (suc (suc (suc (suc zero)))) l h = refl
named_kind (suc (suc (suc (suc (suc zero))))) l h = refl
named_kind (suc (suc (suc (suc (suc (suc zero)))))) l h = refl
named_kind (suc (suc (suc (suc (suc (suc (suc zero))))))) l h = refl
named_kind (suc (suc (suc (suc (suc (suc (suc (suc k)))))))) l h = absurd (omega arith)

pub decides_kindless : (words : List (List ℕ)) → Decides (eqb (kind_in words) 0) (IsNoKind words)
unfolding IsNoKind
decides_kindless words =
    let d = decides_eq (kind_in words) 0 in
    record {
      so = λ e k l h is. let z : k ≡ 0 = sym (named_kind k l h) ∙ (ap kind_of (sym is) ∙ d.so e) in omega arith;
      not_so = λ e n.
          let some_kind : kind_in words ≢ 0 = d.not_so e in
          n (kind_in words) (positive (kind_in words) some_kind) (kind_most (word_at words 2)) (kind_named (word_at words 2) some_kind);
    }
