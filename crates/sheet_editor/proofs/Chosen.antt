-- Which settings are left, and where a new one stands: of settings that rise, what the definitions say is a cut, or one put in at a place.
-- Assumes nothing.
use mathlib.Core.Path.{◌≡◌, refl, sym, ap, subst, ◌∙◌}
use mathlib.Core.Bool.{Bool, true, false, cond, not, true≢false, ◌&&◌}
use mathlib.Core.List.{List, [], ◌∷◌, ◌++◌}
use mathlib.Core.Logic.{◌≢◌, inl, inr, ⊎_elim}
use Prim.Native.Nat.{ℕ, zero, suc, ◌+◌, ◌≤◌, ◌<◌}
use native.Mathlib.Decide.{dec_lt, dec_le}
use native.Mathlib.Omega.{arith}
use borrow.Author.Tests.{lt-ltb, le-ltb, eq-eqb, ne_eqb, eqb-true}
use lib.Dec.{eqb, ltb}
use lib.ListN.{length, take, drop}
use lib.Seq.{drop-nil}
use Rattle.first.specs.First.{first_place}
use Rattle.first.proofs.Laws.{Ended, ended}
use Rattle.rows.proofs.Laws.{Decides, decides_eq, decides_and, told_true, told_false}
use Rattle.setting.specs.declared.Head.{Head}
use Rattle.setting.specs.Setting.{Setting, head, Above, Some, is_above, not_below, some_of}
use Rattle.setting.proofs.Laws.{decides_above, decides_some}
use Rattle.sheet.specs.Sheet.{named}
use Rattle.sheet_editor.specs.Editor.{without, others, among, has_none_of, SameKey, same_key, IsThere, is_there, cut_out, put_in}

-- ---- one record

pub without_cut : (k : ℕ) (settings : List Setting) → without k settings ≡ cut_out k (k + 1) settings
unfolding without cut_out
without_cut zero [] = refl
without_cut (suc k) [] = sym (drop-nil (suc k + 1))
without_cut zero (s ∷ rest) = refl
without_cut (suc k) (s ∷ rest) =
    let e : suc (k + 1) ≡ suc k + 1 = omega arith in
    ap (λ (l : List Setting). s ∷ l) (without_cut k rest) ∙ ap (λ (i : ℕ). take (suc k) (s ∷ rest) ++ drop i (s ∷ rest)) e

-- ---- all of one module

others_is : (unit : ℕ) (settings : List Setting) (from to : ℕ) → from ≤ to → to ≤ length settings
    → ((k : ℕ) → k < from → (named settings k).unit ≢ unit)
    → ((k : ℕ) → from ≤ k → k < to → (named settings k).unit ≡ unit)
    → ((k : ℕ) → to ≤ k → k < length settings → (named settings k).unit ≢ unit)
    → others unit settings ≡ cut_out from to settings
unfolding others cut_out named
others_is unit [] zero zero rise within below inside above = refl
others_is unit [] zero (suc to) rise within below inside above = absurd (omega (arith, within))
others_is unit [] (suc from) to rise within below inside above = absurd (omega (arith, rise, within))
others_is unit (s ∷ rest) zero zero rise within below inside above =
    rw (ne_eqb s.named.unit unit (above 0 (omega arith) (omega arith)))
    (ap (λ (l : List Setting). s ∷ l)
    (others_is unit rest 0 0 (omega arith) (omega arith) (λ k l. absurd (omega (arith, l))) (λ k h l. absurd (omega (arith, l))) (λ k h l. above (suc k) (omega arith) (omega (arith, l)))))
others_is unit (s ∷ rest) zero (suc to) rise within below inside above =
    rw (eq-eqb s.named.unit unit (inside 0 (omega arith) (omega arith)))
    (others_is unit rest 0 to (omega arith) (omega (arith, within)) (λ k l. absurd (omega (arith, l))) (λ k h l. inside (suc k) (omega arith) (omega (arith, l)))
    (λ k h l. above (suc k) (omega (arith, h)) (omega (arith, l))))
others_is unit (s ∷ rest) (suc from) zero rise within below inside above = absurd (omega (arith, rise))
others_is unit (s ∷ rest) (suc from) (suc to) rise within below inside above =
    rw (ne_eqb s.named.unit unit (below 0 (omega arith)))
    (ap (λ (l : List Setting). s ∷ l)
    (others_is unit rest from to (omega (arith, rise)) (omega (arith, within)) (λ k l. below (suc k) (omega (arith, l)))
    (λ k h l. inside (suc k) (omega (arith, h)) (omega (arith, l))) (λ k h l. above (suc k) (omega (arith, h)) (omega (arith, l)))))

-- ---- one put in ahead of the first that stands above it

among_is : (new : Setting) (settings : List Setting) (at : ℕ) → at ≤ length settings
    → ((k : ℕ) → k < at → is_above new.named (named settings k) ≡ false)
    → (at < length settings → is_above new.named (named settings at) ≡ true)
    → among new settings ≡ put_in at new settings
unfolding among put_in named
among_is new [] zero within below there = refl
among_is new [] (suc at) within below there = absurd (omega (arith, within))
among_is new (s ∷ rest) zero within below there = rw (there (omega arith)) refl
among_is new (s ∷ rest) (suc at) within below there =
    rw (below 0 (omega arith))
    (ap (λ (l : List Setting). s ∷ l)
    (among_is new rest at (omega (arith, within)) (λ k l. below (suc k) (omega (arith, l))) (λ l. there (omega (arith, l)))))

-- ---- two heads

pub above_step : (a b c : Head) → Above a b → Above b c → Above a c
unfolding Above
above_step a b c p q =
    ⊎_elim
    (λ h. ⊎_elim (λ g. inl (omega (arith, h, g))) (λ g. let e = g.0 in inl (omega (arith, h, e))) q)
    (λ h. let e = h.0 in let r = h.1 in
    ⊎_elim (λ g. inl (omega (arith, e, g))) (λ g. let f = g.0 in let t = g.1 in inr (e ∙ f, omega (arith, r, t))) q) p

same_decided : (a b : Head) → Decides (same_key a b) (SameKey a b)
unfolding SameKey
same_decided a b = decides_and (decides_eq a.unit b.unit) (decides_eq a.register b.register)

pub not_below_same : (a b : Head) → SameKey a b → Above a b → ⊥
unfolding SameKey Above
not_below_same a b e p =
    let unit = e.0 in
    let register = e.1 in
    ⊎_elim (λ h. absurd (omega (arith, h, unit))) (λ h. let r = h.1 in absurd (omega (arith, r, register))) p

above_same : (a b c : Head) → Above a b → SameKey b c → Above a c
unfolding SameKey Above
above_same a b c p e =
    let unit = e.0 in
    let register = e.1 in
    ⊎_elim (λ h. inl (omega (arith, h, unit))) (λ h. let r = h.1 in inr (h.0 ∙ unit, omega (arith, r, register))) p

pub either_way : (a b : Head) → (Above a b → ⊥) → (SameKey a b → ⊥) → Above b a
unfolding SameKey Above
either_way a b not_under apart = elim (dec_lt b.unit a.unit) [
  | yes h ↦ inl h
  | no h ↦
      let same : b.unit ≡ a.unit = by_unit h in
      inr (same, by_register (sym same))
]
  where
    by_unit : (b.unit < a.unit → ⊥) → b.unit ≡ a.unit
    by_unit h = elim (dec_lt a.unit b.unit) [
      | yes g ↦ absurd (not_under (inl g))
      | no g ↦ omega (arith, h, g)
    ]

    by_register : a.unit ≡ b.unit → b.register < a.register
    by_register same = elim (dec_lt b.register a.register) [
      | yes g ↦ g
      | no g ↦ elim (dec_lt a.register b.register) [
        | yes f ↦ absurd (not_under (inr (same, f)))
        | no f ↦ absurd (apart (same, omega (arith, g, f)))
      ]
    ]

pub not_both : (a b : Head) → Above a b → Above b a → ⊥
unfolding Above
not_both a b p q =
    ⊎_elim
    (λ h. ⊎_elim (λ g. absurd (omega (arith, h, g))) (λ g. let e = g.0 in absurd (omega (arith, h, e))) q)
    (λ h. let e = h.0 in let r = h.1 in
    ⊎_elim (λ g. absurd (omega (arith, e, g))) (λ g. let t = g.1 in absurd (omega (arith, r, t))) q) p

not-false : (b : Bool) → not b ≡ false → b ≡ true
not-false true e = refl
not-false false e = absurd (true≢false e)

not-true : (b : Bool) → not b ≡ true → b ≡ false
not-true true e = absurd (true≢false (sym e))
not-true false e = refl

pub there_decided : (settings : List Setting) (new : Setting) → Decides (is_there settings new) (IsThere settings new)
unfolding IsThere
there_decided settings new =
    decides_some (λ k. same_key (named settings k) new.named) (λ k. SameKey (named settings k) new.named) (length settings)
    (λ k. same_decided (named settings k) new.named)

-- ---- settings that rise

module _ (settings : List Setting) (rise : (k : ℕ) → suc k < length settings → Above (named settings k) (named settings (suc k))) where
  units_step : (k : ℕ) → suc k < length settings → (named settings k).unit ≤ (named settings (suc k)).unit
  unfolding Above
  units_step k l = ⊎_elim (λ h. omega (arith, h)) (λ h. let e = h.0 in omega (arith, e)) (rise k l)

  units_rise : (k j : ℕ) → k ≤ j → j < length settings → (named settings k).unit ≤ (named settings j).unit
  units_rise k zero h l = let e : k ≡ 0 = omega (arith, h) in rw e (omega arith)
  units_rise k (suc j) h l = elim (dec_le k j) [
    | yes below ↦
        let ih = units_rise k j below (omega (arith, l)) in
        let one = units_step j l in
        omega (arith, ih, one)
    | no past ↦ let e : k ≡ suc j = omega (arith, h, past) in rw e (omega arith)
  ]

  all_above : (k j : ℕ) → k < j → j < length settings → Above (named settings k) (named settings j)
  all_above k zero h l = absurd (omega (arith, h))
  all_above k (suc j) h l = elim (dec_lt k j) [
    | yes below ↦
        above_step (named settings k) (named settings j) (named settings (suc j)) (all_above k j below (omega (arith, l))) (rise j l)
    | no past ↦
        let e : k ≡ j = omega (arith, h, past) in
        subst (λ (i : ℕ). Above (named settings i) (named settings (suc j))) (sym e) (rise j l)
  ]

  -- ---- the first of a module, or of one above it

  below_module : (a : Head) (unit : ℕ) → is_above a (head unit 0 0 0) ≡ ltb a.unit unit
  unfolding is_above
  below_module a unit = go (eqb a.unit unit) refl
    where
      none_under : ltb a.register 0 ≡ false
      none_under = le-ltb a.register 0 (omega arith)

      go : (t : Bool) → eqb a.unit unit ≡ t → cond t (ltb a.register 0) (ltb a.unit unit) ≡ ltb a.unit unit
      go true e = let same = eqb-true a.unit unit e in none_under ∙ sym (le-ltb a.unit unit (omega (arith, same)))
      go false e = refl

  unfoldable pub first_of_lem : ℕ → ℕ
  first_of_lem unit = first_place (not_below (head unit 0 0 0) (named settings)) (length settings)

  first_ended : (unit : ℕ) → Ended (not_below (head unit 0 0 0) (named settings)) (length settings) (first_of_lem unit)
  unfolding first_of_lem
  first_ended unit = ended (not_below (head unit 0 0 0) (named settings)) (length settings)

  told_below : (a : Head) (unit : ℕ) → not (is_above a (head unit 0 0 0)) ≡ false → a.unit < unit
  told_below a unit e = elim (dec_lt a.unit unit) [
    | yes h ↦ h
    | no h ↦ absurd (true≢false (sym (ap not (below_module a unit ∙ le-ltb a.unit unit (omega (arith, h)))) ∙ e))
  ]

  told_from : (a : Head) (unit : ℕ) → not (is_above a (head unit 0 0 0)) ≡ true → unit ≤ a.unit
  told_from a unit e = elim (dec_lt a.unit unit) [
    | yes h ↦ absurd (true≢false (sym e ∙ ap not (below_module a unit ∙ lt-ltb a.unit unit h)))
    | no h ↦ omega (arith, h)
  ]

  pub before_first : (unit k : ℕ) → k < first_of_lem unit → (named settings k).unit < unit
  before_first unit k l = told_below (named settings k) unit ((first_ended unit).before k l)

  pub from_first : (unit k : ℕ) → first_of_lem unit ≤ k → k < length settings → unit ≤ (named settings k).unit
  from_first unit k h l =
      let there = told_from (named settings (first_of_lem unit)) unit ((first_ended unit).there (omega (arith, h, l))) in
      let up = units_rise (first_of_lem unit) k h l in
      omega (arith, there, up)

  pub first_within : (unit : ℕ) → first_of_lem unit ≤ length settings
  first_within unit = (first_ended unit).within

  -- a module's records are neighbours
  first_rise : (unit : ℕ) → first_of_lem unit ≤ first_of_lem (unit + 1)
  first_rise unit = elim (dec_le (first_of_lem unit) (first_of_lem (unit + 1))) [
    | yes h ↦ h
    | no h ↦
        let w = first_within unit in
        let low = before_first unit (first_of_lem (unit + 1)) (omega (arith, h)) in
        let high = from_first (unit + 1) (first_of_lem (unit + 1)) (omega arith) (omega (arith, h, w)) in
        absurd (omega (arith, low, high))
  ]

  pub module_cut : (unit : ℕ) → others unit settings ≡ cut_out (first_of_lem unit) (first_of_lem (unit + 1)) settings
  module_cut unit =
      others_is unit settings (first_of_lem unit) (first_of_lem (unit + 1)) (first_rise unit) (first_within (unit + 1))
      (λ k l e. let low = before_first unit k l in absurd (omega (arith, low, e)))
      (λ k h l. let low = from_first unit k h (let w = first_within (unit + 1) in omega (arith, l, w)) in let high = before_first (unit + 1) k l in omega (arith, low, high))
      (λ k h l e. let high = from_first (unit + 1) k h l in absurd (omega (arith, high, e)))

  none_decided : (unit : ℕ) → Decides (some_of (λ k. eqb (named settings k).unit unit) (length settings)) (Some (λ k. (named settings k).unit ≡ unit) (length settings))
  none_decided unit = decides_some (λ k. eqb (named settings k).unit unit) (λ k. (named settings k).unit ≡ unit) (length settings) (λ k. decides_eq (named settings k).unit unit)

  pub module_none : (unit : ℕ) → first_of_lem (unit + 1) ≤ first_of_lem unit → has_none_of settings unit ≡ true
  module_none unit h =
      ap not
      (told_false (none_decided unit)
      (λ s. elim (dec_lt s.0 (first_of_lem unit)) [
        | yes l ↦ let low = before_first unit s.0 l in let e = s.2 in absurd (omega (arith, low, e))
        | no l ↦
            let high = from_first (unit + 1) s.0 (omega (arith, l, h)) s.1 in
            let e = s.2 in
            absurd (omega (arith, high, e))
      ]))

  pub module_some : (unit : ℕ) → first_of_lem unit < first_of_lem (unit + 1) → has_none_of settings unit ≡ false
  module_some unit h =
      let w = first_within (unit + 1) in
      let l : first_of_lem unit < length settings = omega (arith, h, w) in
      let low = from_first unit (first_of_lem unit) (omega arith) l in
      let high = before_first (unit + 1) (first_of_lem unit) h in
      ap not (told_true (none_decided unit) (first_of_lem unit, l, omega (arith, low, high)))

  -- ---- where a new one stands

  module _ (new : Setting) where
    unfoldable pub place_of : ℕ
    place_of = first_place (not_below new.named (named settings)) (length settings)

    place_ended : Ended (not_below new.named (named settings)) (length settings) place_of
    unfolding place_of
    place_ended = ended (not_below new.named (named settings)) (length settings)

    pub place-within : place_of ≤ length settings
    place-within = place_ended.within

    below_place : (k : ℕ) → k < place_of → Above (named settings k) new.named
    below_place k l = (decides_above (named settings k) new.named).so (not-false _ (place_ended.before k l))

    at_place : place_of < length settings → Above (named settings place_of) new.named → ⊥
    at_place l = (decides_above (named settings place_of) new.named).not_so (not-true _ (place_ended.there l))

    only_there : (k : ℕ) → k < length settings → SameKey (named settings k) new.named → k ≡ place_of
    only_there k l same = elim (dec_lt k place_of) [
      | yes h ↦ absurd (not_below_same (named settings k) new.named same (below_place k h))
      | no h ↦ elim (dec_lt place_of k) [
        | yes g ↦
            absurd (at_place (omega (arith, g, l)) (above_same (named settings place_of) (named settings k) new.named (all_above place_of k g l) same))
        | no g ↦ omega (arith, h, g)
      ]
    ]

    -- the record at its place tells whether it is there already
    pub there_told : (t : Bool) → t ≡ (ltb place_of (length settings) && same_key (named settings place_of) new.named) → is_there settings new ≡ t
    unfolding IsThere
    there_told t e = elim (dec_lt place_of (length settings)) [
      | yes l ↦ by_key l (same_key (named settings place_of) new.named) refl
      | no l ↦
          told_false (there_decided settings new) (λ s. let same = only_there s.0 s.1 s.2 in let m = s.1 in absurd (omega (arith, same, m, l)))
          ∙ sym (e ∙ ap (λ (b : Bool). b && same_key (named settings place_of) new.named) (le-ltb place_of (length settings) (omega (arith, l))))
    ]
      where
        by_key : place_of < length settings → (b : Bool) → same_key (named settings place_of) new.named ≡ b → is_there settings new ≡ t
        by_key l true f =
            told_true (there_decided settings new) (place_of, l, (same_decided (named settings place_of) new.named).so f)
            ∙ sym (e ∙ (ap (λ (b : Bool). b && same_key (named settings place_of) new.named) (lt-ltb place_of (length settings) l) ∙ f))
        by_key l false f =
            told_false (there_decided settings new)
            (λ s.
            (same_decided (named settings place_of) new.named).not_so f
            (subst (λ (i : ℕ). SameKey (named settings i) new.named) (only_there s.0 s.1 s.2) s.2))
            ∙ sym (e ∙ (ap (λ (b : Bool). b && same_key (named settings place_of) new.named) (lt-ltb place_of (length settings) l) ∙ f))

    pub among_put : is_there settings new ≡ false → among new settings ≡ put_in place_of new settings
    unfolding IsThere
    among_put not_there =
        among_is new settings place_of place-within
        (λ k l. told_false (decides_above new.named (named settings k)) (not_both (named settings k) new.named (below_place k l)))
        (λ l. told_true (decides_above new.named (named settings place_of))
        (either_way (named settings place_of) new.named (at_place l) (λ same. (there_decided settings new).not_so not_there (place_of, l, same))))
