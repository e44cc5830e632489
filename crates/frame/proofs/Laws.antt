-- The laws of substitution and of frames.
-- Assumes nothing.
use mathlib.Core.Path.{◌≡◌, refl, sym, ap, ◌∙◌}
use mathlib.Core.Logic.{◌⊎◌, ⊎_elim, ◌↔◌}
use mathlib.Core.Bool.{Bool, true, false, cond}
use mathlib.Core.List.{List, [], ◌∷◌, ◌++◌}
use Prim.Native.Nat.{ℕ, zero, suc, ◌+◌, ◌*◌, ◌≤◌, ◌<◌}
use native.Mathlib.Omega.{arith}
use lib.Dec.{eqb}
use lib.ListN.{length, get_or, drop, length-append}
use Rattle.std.specs.List.{sum_by}
use Rattle.std.proofs.lemmas.List.Sums.{sum_by-cons}
use Rattle.rows.proofs.Settled.{settled, settled_with}
use Rattle.rows.specs.Settled.{Settled}
use Rattle.lent.proofs.Laws.{drop-next}
use Rattle.rows.proofs.Laws.{Decides, decides_eq, decides_or}
use Rattle.frame.specs.Frame.{AllBytes, is_special, substitute, substituted, framed, restore, opens, restored, Measures, Substitutes, Restores}

-- ---- bytes, by their places

pub all_bytes : (xs : List ℕ) → AllBytes xs ↔ ((i : ℕ) → get_or xs i 0 < 256)
all_bytes [] = (λ p i. omega arith, λ p. tt)
all_bytes (x ∷ xs) = (at (all_bytes xs).0, λ p. (p 0, (all_bytes xs).1 (λ i. p (suc i))))
  where
    at : (AllBytes xs → (i : ℕ) → get_or xs i 0 < 256) → AllBytes (x ∷ xs) → (i : ℕ) → get_or (x ∷ xs) i 0 < 256
    at later p zero = p.0
    at later p (suc i) = later p.1 i

-- ---- one byte

pub decides_special : (b : ℕ) → Decides (is_special b) ((b ≡ 10) ⊎ ((b ≡ 13) ⊎ (b ≡ 94)))
decides_special b = decides_or (decides_eq b 10) (decides_or (decides_eq b 13) (decides_eq b 94))

pub special_under : (b : ℕ) → is_special b ≡ true → b ≤ 94
special_under b e = ⊎_elim (λ p. omega arith) (⊎_elim (λ p. omega arith) (λ p. omega arith)) ((decides_special b).so e)

-- computed: the start byte, each of the three as 94 and the byte plus 64, another byte as it is, and the end byte
pub three_sent : framed (10 ∷ 13 ∷ 94 ∷ 7 ∷ []) ≡ 13 ∷ 94 ∷ 74 ∷ 94 ∷ 77 ∷ 94 ∷ 158 ∷ 7 ∷ 10 ∷ []
unfolding framed substituted
three_sent = refl

-- ---- a walk along the bytes, one step on

pub substituted_next : (xs : List ℕ) (i : ℕ) → i < length xs → substituted (drop i xs) ≡ substitute (get_or xs i 0) ++ substituted (drop (i + 1) xs)
unfolding substituted
substituted_next xs i h = ap substituted (drop-next xs i h)

pub restored_next : (after : Bool) (xs : List ℕ) (i : ℕ) → i < length xs
    → restored after (drop i xs) ≡ restore after (get_or xs i 0) ++ restored (opens after (get_or xs i 0)) (drop (i + 1) xs)
unfolding restored
restored_next after xs i h = ap (restored after) (drop-next xs i h)

pub length-substitute : (b : ℕ) → length (substitute b) ≤ 2
length-substitute b = go (is_special b)
  where
    go : (t : Bool) → length (cond t (94 ∷ (b + 64) ∷ []) (b ∷ [])) ≤ 2
    go true = omega arith
    go false = omega arith

-- byte by byte
pub substituted_sum : (m : List ℕ) → length (substituted m) ≡ sum_by (λ b. length (substitute b)) m
unfolding substituted
substituted_sum [] = refl
substituted_sum (b ∷ rest) =
    length-append (substitute b) (substituted rest) ∙ ap (λ (n : ℕ). length (substitute b) + n) (substituted_sum rest)
    ∙ sym (sum_by-cons (λ x. length (substitute x)) b rest)

pub length-substituted : (m : List ℕ) → length (substituted m) ≤ 2 * length m
unfolding substituted
length-substituted [] = omega arith
length-substituted (b ∷ rest) = omega (arith, length-append (substitute b) (substituted rest), length-substitute b, length-substituted rest)

-- at most two bytes for a byte of a message
pub taken_two : (xs : List ℕ) (i : ℕ) {r : ℕ} → r ≡ length (substitute (get_or xs i 0)) → r ≤ 2
taken_two xs i e = rw e (length-substitute (get_or xs i 0))

length-restore : (after : Bool) (b : ℕ) → length (restore after b) ≤ 1
length-restore true b = omega arith
length-restore false b = go (eqb b 94)
  where
    go : (t : Bool) → length (cond t [] (b ∷ [])) ≤ 1
    go true = omega arith
    go false = omega arith

-- at most one byte from a byte
pub given_one : (after : Bool) (xs : List ℕ) (i : ℕ) {r : ℕ} → r ≡ length (restore after (get_or xs i 0)) → r ≤ 1
given_one after xs i e = rw e (length-restore after (get_or xs i 0))

pub length-framed : (m : List ℕ) → length (framed m) ≡ length (substituted m) + 2
unfolding framed
length-framed m = let e : length (substituted m ++ (10 ∷ [])) ≡ length (substituted m) + 1 = length-append (substituted m) (10 ∷ []) in omega arith

-- ---- 01: "Show that any two outcomes allowed by it are equal."

pub measures_settled : (m : List ℕ) → Settled (Measures m)
measures_settled m = settled _

pub substitutes_settled : (m : List ℕ) (at : ℕ) (room : List ℕ) → Settled (Substitutes m at room)
substitutes_settled m at room = settled _

pub restores_settled : (xs room : List ℕ) → Settled {A = ℕ × List ℕ} (λ o. Restores xs room o.0 o.1)
restores_settled xs room = settled_with _ _
