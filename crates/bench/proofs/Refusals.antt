-- What each call that builds a bench refuses, and what it hands back then.
-- Assumes nothing.
use Rattle.std.specs.Prelude.{Ok, Err}
use mathlib.Core.Path.{◌≡◌, refl, sym, ap, ap₂, ◌∙◌}
use mathlib.Core.Bool.{Bool, true, false, cond, not, ◌&&◌, true≢false}
use mathlib.Core.Logic.{◌⊎◌, inl, inr}
use mathlib.Core.Option.{Option, some, none}
use Prim.Native.Nat.{ℕ, ◌≤◌, ◌<◌}
use native.Mathlib.Omega.{arith}
use borrow.Author.Tests.{lt-ltb, le-ltb, le-leb, lt-leb, leb-false, not-false}
use lib.Dec.{ltb, leb}
use Rattle.values.specs.Answers.{Stored}
use Rattle.values.specs.Values.{Keeps, size_of, stored_at, stored_value, is_kind, fits, stored_refusal}
use Rattle.values.specs.declared.Fault.{Fault as Unstored}
use Rattle.rows.proofs.Laws.{clash, first_false}
use Rattle.values.proofs.Refusals.{stored_none, stored_as, stored_refused}
use Rattle.values.specs.declared.Value.{Value}
use Rattle.values.specs.declared.Fault.TheVariants.{UnknownKind}
use Rattle.bench.specs.Build.{Sets, build_answer, build_bench, make_refusal, add_refusal, set_refusal}
use Rattle.bench.specs.Register.{register_at, place_of, named, is_held, with_value}
use Rattle.bench.specs.declared.Bench.{Bench}
use Rattle.bench.specs.declared.Fault.{Fault}
use Rattle.bench.specs.declared.Fault.TheVariants.{WrongKind, WrongRights, AlreadyThere, Full, NotAModule, NotHeld, DoesNotFit}
use Rattle.bench.specs.declared.AfterBuild.{AfterBuild}
use Rattle.bench.proofs.Places.{At_its_place}
use Rattle.deeds.specs.declared.Register.{Register}
use Rattle.values.specs.declared.Fault.TheVariants as values

pub build_refused : (o : Option Fault) (f : Fault) (before after : Bench) (r : AfterBuild) → o ≡ some f → (r.answer ≡ Err f) × (r.bench ≡ before)
    → (r.answer ≡ build_answer o) × (r.bench ≡ build_bench o before after)
build_refused o f before after r e g = rw e g

pub build_done : (o : Option Fault) (before after : Bench) (r : AfterBuild) → o ≡ none → (r.answer ≡ Ok tt) × (r.bench ≡ after)
    → (r.answer ≡ build_answer o) × (r.bench ≡ build_bench o before after)
build_done o before after r e g = rw e g

pub built_done : (o : Option Fault) → build_answer o ≡ Ok tt → o ≡ none
built_done none e = refl
built_done (some f) e = clash (cc)

-- ---- make

pub make_no : (address : ℕ) → (address ≡ 0) ⊎ (160 < address) → make_refusal address ≡ some NotAModule
unfolding make_refusal
make_no address (inl e) = rw e
make_no address (inr h) = rw (le-leb 1 address (omega arith), lt-leb address 160 h)

pub make_so : (address : ℕ) → (address ≡ 0 → ⊥) → address ≤ 160 → make_refusal address ≡ none
unfolding make_refusal
make_so address n h = rw (le-leb 1 address (omega arith), le-leb address 160 h)

-- ---- add

module _ (bench : Bench) (number kind rights : ℕ) where
  pub add_kind : is_kind kind ≡ false → add_refusal bench number kind rights ≡ some WrongKind
  unfolding add_refusal
  add_kind k = rw k

  pub add_rights : is_kind kind ≡ true → 7 < rights → add_refusal bench number kind rights ≡ some WrongRights
  unfolding add_refusal
  add_rights k h = rw (k, lt-ltb 7 rights h)

  pub add_there : is_kind kind ≡ true → rights ≤ 7 → is_held bench number ≡ true → add_refusal bench number kind rights ≡ some AlreadyThere
  unfolding add_refusal
  add_there k h t = rw (k, le-ltb 7 rights h, t)

  pub add_full : is_kind kind ≡ true → rights ≤ 7 → is_held bench number ≡ false → 32 ≤ bench.count → add_refusal bench number kind rights ≡ some Full
  unfolding add_refusal
  add_full k h t n = rw (k, le-ltb 7 rights h, t, le-leb 32 bench.count n)

  pub add_so : is_kind kind ≡ true → rights ≤ 7 → is_held bench number ≡ false → bench.count < 32 → add_refusal bench number kind rights ≡ none
  unfolding add_refusal
  add_so k h t n = rw (k, le-ltb 7 rights h, t, lt-leb 32 bench.count n)

-- ---- set

module _ (bench : Bench) (number : ℕ) (value : Value) where
  abbrev pub kind_of : ℕ
  kind_of = (named bench number).kind

  pub set_not : is_held bench number ≡ false → set_refusal bench number value ≡ some NotHeld
  unfolding set_refusal
  set_not t = rw t

  pub set_unfit : (f : Unstored) → is_held bench number ≡ true → stored_refusal kind_of value ≡ some f → set_refusal bench number value ≡ some DoesNotFit
  unfolding set_refusal stored_refusal
  set_unfit f t = by_tests (is_kind kind_of) (fits kind_of value)
    where
      by_tests : (a b : Bool) → cond (not a) (some UnknownKind) (cond (not b) (some values.DoesNotFit) none) ≡ some f
          → cond (not (is_held bench number)) (some NotHeld) (cond (not (a && b)) (some DoesNotFit) none) ≡ some DoesNotFit
      by_tests true true e = clash (cc)
      by_tests true false e = rw t
      by_tests false b e = rw t

  pub set_so : is_held bench number ≡ true → stored_refusal kind_of value ≡ none → set_refusal bench number value ≡ none
  unfolding set_refusal
  set_so t e = let kept = stored_none kind_of value e in rw (t, kept.0, kept.1)

-- what is set is held and fits
pub set_done_so : (bench : Bench) (number : ℕ) (value : Value) → set_refusal bench number value ≡ none
    → (is_held bench number ≡ true) × (stored_refusal (named bench number).kind value ≡ none)
unfolding set_refusal stored_refusal
set_done_so bench number value e =
    let held = first_false (not (is_held bench number)) _ _ e in
    let fitting = first_false (not (is_kind (named bench number).kind && fits (named bench number).kind value)) _ _ held.1 in
    (not-false _ held.0, both (is_kind (named bench number).kind) (fits (named bench number).kind value) (not-false _ fitting.0))
  where
    both : (a b : Bool) → a && b ≡ true → cond (not a) (some UnknownKind) (cond (not b) (some values.DoesNotFit) none) ≡ none
    both true true e = refl
    both true false e = absurd (true≢false (sym e))
    both false b e = absurd (true≢false (sym e))

-- what is added was not held, and there was room
pub add_done_so : (bench : Bench) (number kind rights : ℕ) → add_refusal bench number kind rights ≡ none
    → (is_held bench number ≡ false) × (bench.count < 32)
unfolding add_refusal
add_done_so bench number kind rights e =
    let known = first_false (not (is_kind kind)) _ _ e in
    let few = first_false (ltb 7 rights) _ _ known.1 in
    let unheld = first_false (is_held bench number) _ _ few.1 in
    (unheld.0, leb-false 32 bench.count (first_false (leb 32 bench.count) _ _ unheld.1).0)

-- the call's steps: the place, the register there, and what its kind keeps of the value
module _ (bench : Bench) (number place : ℕ) (value : Value) (at : At_its_place bench number place)
    (register : Register) (there : register ≡ register_at bench place) (kept : Stored) (keeps : Keeps register.kind value kept) where
  is_there_lem : register ≡ register_at bench (place_of bench number)
  is_there_lem = there ∙ ap (register_at bench) at.where_it_is

  keeps_there : kept ≡ stored_value (kind_of bench number value) value
  keeps_there = keeps ∙ ap (λ (r : Register). stored_value r.kind value) is_there_lem

  pub set_refused : (f : Unstored) (r : AfterBuild) → kept ≡ Err f → (r.answer ≡ Err DoesNotFit) × (r.bench ≡ bench) → Sets bench number value r
  set_refused f r e g =
      build_refused (set_refusal bench number value) DoesNotFit bench
      (with_value bench (place_of bench number) (stored_at (size_of (named bench number).kind) value)) r
      (set_unfit bench number value f at.held (stored_refused (kind_of bench number value) value f (sym keeps_there ∙ e))) g

  pub set_done : (v : ℕ) (after : Bench) → kept ≡ Ok v → after ≡ with_value bench place v → Sets bench number value (record { bench = after; answer = Ok tt })
  set_done v after e a =
      let so = stored_as (kind_of bench number value) value v (sym keeps_there ∙ e) in
      build_done (set_refusal bench number value) bench
      (with_value bench (place_of bench number) (stored_at (size_of (named bench number).kind) value)) (record { bench = after; answer = Ok tt })
      (set_so bench number value at.held so.0)
      (refl, a ∙ ap₂ (λ (p v : ℕ). with_value bench p v) at.where_it_is so.1)
