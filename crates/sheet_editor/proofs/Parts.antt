-- A sheet's records and values part by part, and the settings that they are: those before a place and those behind it.
-- Assumes nothing.
use mathlib.Core.Path.{◌≡◌, sym, ap, ap₂, ◌∙◌}
use mathlib.Core.List.{List, ◌∷◌, ◌++◌}
use Prim.Native.Nat.{ℕ, zero, suc, ◌+◌, ◌-◌, ◌*◌, ◌≤◌, ◌<◌}
use native.Mathlib.Omega.{arith}
use lib.ListN.{length, take, drop, length-drop, take-append-drop, get_or-append}
use lib.Seq.{take-append-le, drop-append-le, take_at, drop_at, drop-drop, length-take-le}
use Rattle.setting.specs.Setting.{Setting, setting, length_of, lengths_to, head_of, settings_in}
use Rattle.setting.proofs.Lists.{head_from, lengths_same, lengths_row, length_settings}

-- ---- a row at the front of others

head_front : (xs ys : List ℕ) → 8 ≤ length xs → head_of (xs ++ ys) ≡ head_of xs
unfolding head_of
head_front xs ys h =
    rw (
      get_or-append xs ys 0 0 (omega (arith, h)),
      get_or-append xs ys 0 1 (omega (arith, h)),
      get_or-append xs ys 0 2 (omega (arith, h)),
      get_or-append xs ys 0 3 (omega (arith, h)),
    )

pub head_from_front : (xs ys : List ℕ) (i k : ℕ) → length xs ≡ 8 * i → k < i → head_from (xs ++ ys) k ≡ head_from xs k
head_from_front xs ys i k long l =
    ap head_of (drop-append-le (8 * k) xs ys (omega (arith, long, l)))
    ∙ head_front (drop (8 * k) xs) ys (omega (arith, length-drop (8 * k) xs, long, l))

-- ---- lengths of the values, part by part

pub lengths_split : (rows : List ℕ) (k m : ℕ) → lengths_to (head_from rows) (k + m) ≡ lengths_to (head_from rows) k + lengths_to (head_from (drop (8 * k) rows)) m
unfolding lengths_to
lengths_split rows k zero = let e : k + 0 ≡ k = omega arith in rw e (omega arith)
lengths_split rows k (suc m) =
    let e : k + suc m ≡ suc (k + m) = omega arith in
    let place : 8 * k + 8 * m ≡ 8 * (k + m) = omega arith in
    let there : head_from rows (k + m) ≡ head_from (drop (8 * k) rows) m =
    ap (λ (i : ℕ). head_of (drop i rows)) (sym place) ∙ ap head_of (sym (drop-drop (8 * m) (8 * k) rows)) in
    let ih = lengths_split rows k m in
    rw (e, there) (omega (arith, ih))

pub lengths_front : (xs ys : List ℕ) (i : ℕ) → length xs ≡ 8 * i → lengths_to (head_from (xs ++ ys)) i ≡ lengths_to (head_from xs) i
lengths_front xs ys i long = lengths_same (head_from (xs ++ ys)) (head_from xs) i (λ k l. head_from_front xs ys i k long l)

pub lengths_joined : (xs ys : List ℕ) (i j : ℕ) → length xs ≡ 8 * i
    → lengths_to (head_from (xs ++ ys)) (i + j) ≡ lengths_to (head_from xs) i + lengths_to (head_from ys) j
lengths_joined xs ys i j long =
    lengths_split (xs ++ ys) i j
    ∙ ap₂ (λ (a b : ℕ). a + b) (lengths_front xs ys i long) (ap (λ (l : List ℕ). lengths_to (head_from l) j) (drop_at xs ys (8 * i) long))

-- ---- the settings of two parts, one behind the other

pub settings_joined : (i j : ℕ) (xs ys vs ws : List ℕ) → length xs ≡ 8 * i → length vs ≡ lengths_to (head_from xs) i
    → settings_in (i + j) (xs ++ ys) (vs ++ ws) ≡ settings_in i xs vs ++ settings_in j ys ws
unfolding settings_in lengths_to
settings_joined zero j xs ys vs ws long sized =
    let none : length vs ≡ 0 = sized in
    let e : 0 + j ≡ j = omega arith in
    rw e (ap₂ (λ (a b : List ℕ). settings_in j a b) (drop_at xs ys 0 long) (drop_at vs ws 0 none))
settings_joined (suc i) j xs ys vs ws long sized =
    let e : suc i + j ≡ suc (i + j) = omega arith in
    let all = lengths_row xs i in
    let first = head_front xs ys (omega (arith, long)) in
    let rows = drop-append-le 8 xs ys (omega (arith, long)) in
    let fits : length_of (head_of xs) ≤ length vs = omega (arith, sized, all) in
    let value = take-append-le (length_of (head_of xs)) vs ws fits in
    let values = drop-append-le (length_of (head_of xs)) vs ws fits in
    rw (e, first, rows, value, values)
    (ap (λ (l : List Setting). setting (head_of xs) (take (length_of (head_of xs)) vs) ∷ l)
    (settings_joined i j (drop 8 xs) ys (drop (length_of (head_of xs)) vs) ws (omega (arith, length-drop 8 xs, long))
    (omega (arith, length-drop (length_of (head_of xs)) vs, sized, all))))

-- ---- so those before a place, and those from it on

module _ (n : ℕ) (rows values : List ℕ) (k : ℕ) (within : k ≤ n) (long : length rows ≡ 8 * n) (sized : length values ≡ lengths_to (head_from rows) n) where
  total : length values ≡ lengths_to (head_from rows) k + lengths_to (head_from (drop (8 * k) rows)) (n - k)
  total = let e : n ≡ k + (n - k) = omega (arith, within) in sized ∙ (ap (lengths_to (head_from rows)) e ∙ lengths_split rows k (n - k))

  pub front_long : length (take (8 * k) rows) ≡ 8 * k
  front_long = length-take-le (8 * k) rows (omega (arith, long, within))

  pub front_lengths : lengths_to (head_from (take (8 * k) rows)) k ≡ lengths_to (head_from rows) k
  front_lengths =
      sym (lengths_front (take (8 * k) rows) (drop (8 * k) rows) k front_long) ∙ ap (λ (l : List ℕ). lengths_to (head_from l) k) (take-append-drop (8 * k) rows)

  pub front_sized : length (take (lengths_to (head_from rows) k) values) ≡ lengths_to (head_from rows) k
  front_sized = let t = total in length-take-le (lengths_to (head_from rows) k) values (omega (arith, t))

  parted : settings_in n rows values
      ≡ settings_in k (take (8 * k) rows) (take (lengths_to (head_from rows) k) values)
      ++ settings_in (n - k) (drop (8 * k) rows) (drop (lengths_to (head_from rows) k) values)
  parted =
      let e : n ≡ k + (n - k) = omega (arith, within) in
      ap (λ (i : ℕ). settings_in i rows values) e
      ∙ (ap₂ (λ (a b : List ℕ). settings_in (k + (n - k)) a b) (sym (take-append-drop (8 * k) rows)) (sym (take-append-drop (lengths_to (head_from rows) k) values))
      ∙ settings_joined k (n - k) (take (8 * k) rows) (drop (8 * k) rows) (take (lengths_to (head_from rows) k) values) (drop (lengths_to (head_from rows) k) values)
      front_long (front_sized ∙ sym front_lengths))

  pub those_before : take k (settings_in n rows values) ≡ settings_in k (take (8 * k) rows) (take (lengths_to (head_from rows) k) values)
  those_before = ap (take k) parted ∙ take_at (settings_in k (take (8 * k) rows) (take (lengths_to (head_from rows) k) values)) (settings_in (n - k) (drop (8 * k) rows) (drop (lengths_to (head_from rows) k) values)) k (length_settings k (take (8 * k) rows) (take (lengths_to (head_from rows) k) values))

  pub those_behind : drop k (settings_in n rows values) ≡ settings_in (n - k) (drop (8 * k) rows) (drop (lengths_to (head_from rows) k) values)
  those_behind = ap (drop k) parted ∙ drop_at (settings_in k (take (8 * k) rows) (take (lengths_to (head_from rows) k) values)) (settings_in (n - k) (drop (8 * k) rows) (drop (lengths_to (head_from rows) k) values)) k (length_settings k (take (8 * k) rows) (take (lengths_to (head_from rows) k) values))
