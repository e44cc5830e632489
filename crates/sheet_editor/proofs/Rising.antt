-- Settings that rise, one by one: what is thrown out leaves the others rising, and a new one in its place does too.
-- Assumes nothing.
use mathlib.Core.Path.{◌≡◌, refl, sym, ap}
use mathlib.Core.Bool.{Bool, true, false, cond}
use mathlib.Core.List.{List, [], ◌∷◌, ◌++◌}
use mathlib.Core.Logic.{◌≢◌}
use Prim.Native.Nat.{ℕ, zero, suc, ◌≤◌, ◌<◌}
use native.Mathlib.Nat.{le_of_suc-le-suc}
use native.Mathlib.Omega.{arith}
use borrow.Author.Tests.{eq-eqb, ne_eqb}
use lib.Dec.{eqb}
use lib.ListN.{length, get_or, length-append}
use Rattle.rows.proofs.Laws.{told_true, told_false}
use Rattle.setting.specs.declared.Head.{Head}
use Rattle.setting.specs.Setting.{Setting, Above, is_above, length_of, Allowed}
use Rattle.setting.proofs.Laws.{decides_above}
use Rattle.sheet.specs.Sheet.{values_for, sheet_of, nothing, named, valued, Writable}
use Rattle.sheet.proofs.Written.{length_sheet}
use Rattle.sheet_editor.specs.Editor.{without, others, among, SameKey}
use Rattle.sheet_editor.proofs.Chosen.{above_step, either_way, not_both, not_below_same}

-- ---- what holds of each, and of each two

unfoldable pub Each : (Setting → Type 0) → List Setting → Type 0
Each P [] = Unit {0}
Each P (s ∷ rest) = P s × Each P rest

unfoldable pub Up : List Setting → Type 0
Up [] = Unit {0}
Up (s ∷ rest) = Each (λ t. Above s.named t.named) rest × Up rest

-- allowed, and a value as long as its head says
abbrev pub Fit : Setting → Type 0
Fit s = Allowed s.named × (length s.value ≡ length_of s.named)

-- by places
pub each_at : (P : Setting → Type 0) (settings : List Setting) → Each P settings → (k : ℕ) → k < length settings → P (get_or settings k nothing)
unfolding Each
each_at P [] all k l = absurd (omega (arith, l))
each_at P (s ∷ rest) all zero l = all.0
each_at P (s ∷ rest) all (suc k) l = each_at P rest all.1 k (le_of_suc-le-suc l)

pub each_by : (P : Setting → Type 0) (settings : List Setting) → ((k : ℕ) → k < length settings → P (get_or settings k nothing)) → Each P settings
unfolding Each
each_by P [] at = tt
each_by P (s ∷ rest) at = (at 0 (omega arith), each_by P rest (λ k l. at (suc k) (omega (arith, l))))

each_more : (P Q : Setting → Type 0) (settings : List Setting) → ((s : Setting) → P s → Q s) → Each P settings → Each Q settings
unfolding Each
each_more P Q [] so all = tt
each_more P Q (s ∷ rest) so all = (so s all.0, each_more P Q rest so all.1)

-- of the rows one after the other
up_of : (settings : List Setting) → ((k : ℕ) → suc k < length settings → Above (named settings k) (named settings (suc k))) → Up settings
unfolding Up Each named
up_of [] rise = tt
up_of (s ∷ []) rise = (tt, tt)
up_of (s ∷ (t ∷ rest)) rise =
    let later = up_of (t ∷ rest) (λ k l. rise (suc k) (omega (arith, l))) in
    let first = rise 0 (omega arith) in
    ((first, each_more (λ u. Above t.named u.named) (λ u. Above s.named u.named) rest (λ u p. above_step s.named t.named u.named first p) later.0), later)

rise_of : (settings : List Setting) → Up settings → (k : ℕ) → suc k < length settings → Above (named settings k) (named settings (suc k))
unfolding Up Each named
rise_of [] up k l = absurd (omega (arith, l))
rise_of (s ∷ []) up k l = absurd (omega (arith, l))
rise_of (s ∷ (t ∷ rest)) up zero l = up.0.0
rise_of (s ∷ (t ∷ rest)) up (suc k) l = rise_of (t ∷ rest) up.1 k (omega (arith, l))

pub parts_of : (settings : List Setting) → Writable settings → Up settings × Each Fit settings
unfolding named valued
parts_of settings w = (up_of settings w.rise, each_by Fit settings (λ k l. (w.allowed k l, w.whole k l)))

pub writable_of : (settings : List Setting) → length settings ≤ 128 → Up settings → Each Fit settings → Writable settings
unfolding named valued
writable_of settings few up fit =
    record {
      few = few;
      rise = rise_of settings up;
      allowed = λ k l. (each_at Fit settings fit k l).0;
      whole = λ k l. (each_at Fit settings fit k l).1;
    }

-- ---- one thrown out

each_without : (P : Setting → Type 0) (k : ℕ) (settings : List Setting) → Each P settings → Each P (without k settings)
unfolding Each without
each_without P k [] all = tt
each_without P zero (s ∷ rest) all = all.1
each_without P (suc k) (s ∷ rest) all = (all.0, each_without P k rest all.1)

up_without : (k : ℕ) (settings : List Setting) → Up settings → Up (without k settings)
unfolding Up without
up_without k [] up = tt
up_without zero (s ∷ rest) up = up.1
up_without (suc k) (s ∷ rest) up = (each_without (λ t. Above s.named t.named) k rest up.0, up_without k rest up.1)

values_without : (k : ℕ) (settings : List Setting) → length (values_for (without k settings)) ≤ length (values_for settings)
unfolding without values_for
values_without k [] = omega arith
values_without zero (s ∷ rest) = omega (arith, length-append s.value (values_for rest))
values_without (suc k) (s ∷ rest) =
    let ih = values_without k rest in
    omega (arith, ih, length-append s.value (values_for rest), length-append s.value (values_for (without k rest)))

fewer_without : (k : ℕ) (settings : List Setting) → length (without k settings) ≤ length settings
unfolding without
fewer_without k [] = omega arith
fewer_without zero (s ∷ rest) = omega arith
fewer_without (suc k) (s ∷ rest) = let ih = fewer_without k rest in omega (arith, ih)

-- and no byte more
pub shorter_without : (k : ℕ) (settings : List Setting) → length (sheet_of (without k settings)) ≤ length (sheet_of settings)
shorter_without k settings =
    let f = fewer_without k settings in
    let v = values_without k settings in
    omega (arith, length_sheet (without k settings), length_sheet settings, f, v)

pub without_writable : (k : ℕ) (settings : List Setting) → Writable settings → Writable (without k settings)
without_writable k settings w =
    let p = parts_of settings w in
    let f = fewer_without k settings in
    let few = w.few in
    writable_of (without k settings) (omega (arith, f, few)) (up_without k settings p.0) (each_without Fit k settings p.1)

-- ---- all of one module

each_others : (P : Setting → Type 0) (unit : ℕ) (settings : List Setting) → Each P settings → Each P (others unit settings)
unfolding Each others
each_others P unit [] all = tt
each_others P unit (s ∷ rest) all = go (eqb s.named.unit unit) (each_others P unit rest all.1)
  where
    go : (b : Bool) → Each P (others unit rest) → Each P (cond b (others unit rest) (s ∷ others unit rest))
    go true later = later
    go false later = (all.0, later)

up_others : (unit : ℕ) (settings : List Setting) → Up settings → Up (others unit settings)
unfolding Up others
up_others unit [] up = tt
up_others unit (s ∷ rest) up =
    go (eqb s.named.unit unit) (up_others unit rest up.1) (each_others (λ t. Above s.named t.named) unit rest up.0)
  where
    go : (b : Bool) → Up (others unit rest) → Each (λ t. Above s.named t.named) (others unit rest) → Up (cond b (others unit rest) (s ∷ others unit rest))
    go true later all = later
    go false later all = (all, later)

fewer_others : (unit : ℕ) (settings : List Setting) → length (others unit settings) ≤ length settings
unfolding others
fewer_others unit [] = omega arith
fewer_others unit (s ∷ rest) = go (eqb s.named.unit unit) (fewer_others unit rest)
  where
    go : (b : Bool) → length (others unit rest) ≤ length rest → length (cond b (others unit rest) (s ∷ others unit rest)) ≤ suc (length rest)
    go true ih = omega (arith, ih)
    go false ih = omega (arith, ih)

values_others : (unit : ℕ) (settings : List Setting) → length (values_for (others unit settings)) ≤ length (values_for settings)
unfolding others values_for
values_others unit [] = omega arith
values_others unit (s ∷ rest) = go (eqb s.named.unit unit) (values_others unit rest)
  where
    go : (b : Bool) → length (values_for (others unit rest)) ≤ length (values_for rest)
        → length (values_for (cond b (others unit rest) (s ∷ others unit rest))) ≤ length (s.value ++ values_for rest)
    go true ih = omega (arith, ih, length-append s.value (values_for rest))
    go false ih = omega (arith, ih, length-append s.value (values_for rest), length-append s.value (values_for (others unit rest)))

pub shorter_others : (unit : ℕ) (settings : List Setting) → length (sheet_of (others unit settings)) ≤ length (sheet_of settings)
shorter_others unit settings =
    let f = fewer_others unit settings in
    let v = values_others unit settings in
    omega (arith, length_sheet (others unit settings), length_sheet settings, f, v)

pub others_writable : (unit : ℕ) (settings : List Setting) → Writable settings → Writable (others unit settings)
others_writable unit settings w =
    let p = parts_of settings w in
    let f = fewer_others unit settings in
    let few = w.few in
    writable_of (others unit settings) (omega (arith, f, few)) (up_others unit settings p.0) (each_others Fit unit settings p.1)

-- ---- a new one

each_among : (P : Setting → Type 0) (new : Setting) (settings : List Setting) → P new → Each P settings → Each P (among new settings)
unfolding Each among
each_among P new [] it all = (it, tt)
each_among P new (s ∷ rest) it all = go (is_above new.named s.named) (each_among P new rest it all.1)
  where
    go : (b : Bool) → Each P (among new rest) → Each P (cond b (new ∷ s ∷ rest) (s ∷ among new rest))
    go true later = (it, all)
    go false later = (all.0, later)

same_turned : (a b : Head) → SameKey a b → SameKey b a
unfolding SameKey
same_turned a b same = (sym same.0, sym same.1)

-- none has its module and register
abbrev pub Apart : Setting → List Setting → Type 0
Apart new settings = Each (λ s. SameKey s.named new.named → ⊥) settings

up_among : (new : Setting) (settings : List Setting) → Apart new settings → Up settings → Up (among new settings)
unfolding Up Each among
up_among new [] apart up = (tt, tt)
up_among new (s ∷ rest) apart up = go (is_above new.named s.named) refl (up_among new rest apart.1 up.1)
  where
    go : (b : Bool) → is_above new.named s.named ≡ b → Up (among new rest) → Up (cond b (new ∷ s ∷ rest) (s ∷ among new rest))
    go true e later =
        let above = (decides_above new.named s.named).so e in
        ((above, each_more (λ u. Above s.named u.named) (λ u. Above new.named u.named) rest (λ u p. above_step new.named s.named u.named above p) up.0), up)
    go false e later =
        let below = either_way new.named s.named ((decides_above new.named s.named).not_so e) (λ same. apart.0 (same_turned new.named s.named same)) in
        (each_among (λ t. Above s.named t.named) new rest below up.0, later)

more_among : (new : Setting) (settings : List Setting) → length (among new settings) ≡ suc (length settings)
unfolding among
more_among new [] = refl
more_among new (s ∷ rest) = go (is_above new.named s.named) (more_among new rest)
  where
    go : (b : Bool) → length (among new rest) ≡ suc (length rest) → length (cond b (new ∷ s ∷ rest) (s ∷ among new rest)) ≡ suc (suc (length rest))
    go true ih = refl
    go false ih = ap suc ih

pub among_writable : (new : Setting) (settings : List Setting) → Fit new → Apart new settings → length settings < 128 → Writable settings → Writable (among new settings)
among_writable new settings fit apart room w =
    let p = parts_of settings w in
    let m = more_among new settings in
    writable_of (among new settings) (omega (arith, m, room)) (up_among new settings apart p.0) (each_among Fit new settings fit p.1)

-- ---- there and back

-- what was added is thrown out again
pub added_out : (new : Setting) (settings : List Setting) → Apart new settings → (k : ℕ) → k < length (among new settings)
    → SameKey (get_or (among new settings) k nothing).named new.named → without k (among new settings) ≡ settings
unfolding Each among without
added_out new [] apart zero l same = refl
added_out new [] apart (suc k) l same = absurd (omega (arith, l))
added_out new (s ∷ rest) apart k l same = go (is_above new.named s.named) k l same (λ j m e. added_out new rest apart.1 j m e)
  where
    go : (b : Bool) (k : ℕ) → k < length (cond b (new ∷ s ∷ rest) (s ∷ among new rest))
        → SameKey (get_or (cond b (new ∷ s ∷ rest) (s ∷ among new rest)) k nothing).named new.named
        → ((j : ℕ) → j < length (among new rest) → SameKey (get_or (among new rest) j nothing).named new.named → without j (among new rest) ≡ rest)
        → without k (cond b (new ∷ s ∷ rest) (s ∷ among new rest)) ≡ s ∷ rest
    go true zero l same later = refl
    go true (suc zero) l same later = absurd (apart.0 same)
    go true (suc (suc k)) l same later =
        absurd (each_at (λ t. SameKey t.named new.named → ⊥) rest apart.1 k (omega (arith, l)) same)
    go false zero l same later = absurd (apart.0 same)
    go false (suc k) l same later = ap (λ (x : List Setting). s ∷ x) (later k (omega (arith, l)) same)

-- what was thrown out is added again
pub out_added : (k : ℕ) (settings : List Setting) → Up settings → k < length settings → among (get_or settings k nothing) (without k settings) ≡ settings
unfolding Up Each among without
out_added k [] up l = absurd (omega (arith, l))
out_added zero (s ∷ []) up l = refl
out_added zero (s ∷ (t ∷ rest)) up l = rw (told_true (decides_above s.named t.named) up.0.0) refl
out_added (suc k) (s ∷ rest) up l =
    let below = each_at (λ t. Above s.named t.named) rest up.0 k (le_of_suc-le-suc l) in
    rw (told_false (decides_above (get_or rest k nothing).named s.named) (not_both s.named (get_or rest k nothing).named below))
    (ap (λ (x : List Setting). s ∷ x) (out_added k rest up.1 (le_of_suc-le-suc l)))

-- and none of the others has its module and register
pub out_apart : (k : ℕ) (settings : List Setting) → Up settings → k < length settings → Apart (get_or settings k nothing) (without k settings)
unfolding Up Each without
out_apart k [] up l = absurd (omega (arith, l))
out_apart zero (s ∷ rest) up l =
    each_more (λ t. Above s.named t.named) (λ t. SameKey t.named s.named → ⊥) rest
    (λ t above same. not_below_same s.named t.named (same_turned t.named s.named same) above) up.0
out_apart (suc k) (s ∷ rest) up l =
    let below = each_at (λ t. Above s.named t.named) rest up.0 k (le_of_suc-le-suc l) in
    (λ same. not_below_same s.named (get_or rest k nothing).named same below, out_apart k rest up.1 (le_of_suc-le-suc l))

pub one_fewer : (k : ℕ) (settings : List Setting) → k < length settings → suc (length (without k settings)) ≡ length settings
unfolding without
one_fewer k [] l = absurd (omega (arith, l))
one_fewer zero (s ∷ rest) l = refl
one_fewer (suc k) (s ∷ rest) l = ap suc (one_fewer k rest (le_of_suc-le-suc l))

-- ---- the definitions, said out

pub without_plainly : (xs : List Setting) (s : Setting) (ys : List Setting) → without (length xs) (xs ++ (s ∷ ys)) ≡ xs ++ ys
unfolding without
without_plainly [] s ys = refl
without_plainly (x ∷ xs) s ys = ap (λ (l : List Setting). x ∷ l) (without_plainly xs s ys)

pub others_drops : (unit : ℕ) (xs : List Setting) (s : Setting) (ys : List Setting) → s.named.unit ≡ unit → others unit (xs ++ (s ∷ ys)) ≡ others unit xs ++ others unit ys
unfolding others
others_drops unit [] s ys same = rw (eq-eqb s.named.unit unit same) refl
others_drops unit (x ∷ xs) s ys same = go (eqb x.named.unit unit) (others_drops unit xs s ys same)
  where
    go : (b : Bool) → others unit (xs ++ (s ∷ ys)) ≡ others unit xs ++ others unit ys
        → cond b (others unit (xs ++ (s ∷ ys))) (x ∷ others unit (xs ++ (s ∷ ys))) ≡ cond b (others unit xs) (x ∷ others unit xs) ++ others unit ys
    go true ih = ih
    go false ih = ap (λ (l : List Setting). x ∷ l) ih

pub others_keeps : (unit : ℕ) (xs : List Setting) (s : Setting) (ys : List Setting) → s.named.unit ≢ unit
    → others unit (xs ++ (s ∷ ys)) ≡ others unit xs ++ (s ∷ others unit ys)
unfolding others
others_keeps unit [] s ys other = rw (ne_eqb s.named.unit unit other) refl
others_keeps unit (x ∷ xs) s ys other = go (eqb x.named.unit unit) (others_keeps unit xs s ys other)
  where
    go : (b : Bool) → others unit (xs ++ (s ∷ ys)) ≡ others unit xs ++ (s ∷ others unit ys)
        → cond b (others unit (xs ++ (s ∷ ys))) (x ∷ others unit (xs ++ (s ∷ ys))) ≡ cond b (others unit xs) (x ∷ others unit xs) ++ (s ∷ others unit ys)
    go true ih = ih
    go false ih = ap (λ (l : List Setting). x ∷ l) ih

pub others_none : (unit : ℕ) → others unit [] ≡ []
unfolding others
others_none unit = refl

-- of settings that rise: those below it, the new one, and those above it
pub among_plainly : (new : Setting) (xs ys : List Setting) → Each (λ s. Above s.named new.named) xs → Each (λ s. Above new.named s.named) ys
    → among new (xs ++ ys) ≡ xs ++ (new ∷ ys)
unfolding Each among
among_plainly new [] [] below above = refl
among_plainly new [] (y ∷ ys) below above = rw (told_true (decides_above new.named y.named) above.0) refl
among_plainly new (x ∷ xs) ys below above =
    rw (told_false (decides_above new.named x.named) (not_both x.named new.named below.0))
    (ap (λ (l : List Setting). x ∷ l) (among_plainly new xs ys below.1 above))
