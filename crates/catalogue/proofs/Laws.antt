-- What is promised of the catalogue: the laws that callers may cite.
-- Assumes nothing.
use Rattle.std.specs.Prelude.{Ok}
use mathlib.Core.Path.{◌≡◌, refl, sym, ap, ◌∙◌}
use mathlib.Core.Bool.{Bool, true, false, cond, not, ◌&&◌, ◌||◌, true≢false}
use mathlib.Core.List.{List, [], ◌∷◌}
use mathlib.Core.Logic.{⊎_elim, ◌↔◌}
use mathlib.Core.Option.{Option, some, none}
use Prim.Native.Nat.{ℕ, zero, suc, ◌<◌}
use native.Mathlib.Decide.{dec_lt}
use native.Mathlib.Nat.{le_of_suc-le-suc, not-suc-le-zero}
use native.Mathlib.Omega.{arith}
use borrow.Author.Tests.{not-true, not-false}
use lib.Dec.{T, leb, leb→le}
use lib.ListN.{length, get_or}
use Rattle.rows.proofs.Settled.{settled}
use Rattle.rows.specs.Settled.{Settled}
use Rattle.rows.specs.Rows.{Ranked, passed_up, raised, Numbered}
use Rattle.rows.proofs.Laws.{Decides, ranked, ◌otherwise◌, numbered, clash}
use Rattle.values.specs.Values.{size_of, is_signed, is_kind, greatest, fits}
use Rattle.values.specs.declared.Value.TheVariants.{Natural}
use Rattle.values.proofs.Table.{at, every, both_left, both_right}
use Rattle.values.proofs.Refusals.{decides_fits}
use Rattle.catalogue.specs.Catalogue.{Written, reads, whole, from1, between, Line, table, nothing, may_write, lowest_of, highest_of, entry_of, Right, sound, distinct}
use Rattle.catalogue.specs.Catalogue.{VARIA, COMPACT, For, NoSuch, find_rows, is_for, named, line_for, find_tests, find_refusal, find_answer, find_entry, fault_number, find_told, Numbers, Finds}
use Rattle.catalogue.specs.declared.Entry.{Entry}
use Rattle.catalogue.specs.declared.Fault.{Fault}
use Rattle.catalogue.specs.declared.Fault.TheVariants.{NoSuchRow}
use Rattle.catalogue.specs.Answers.{Found}
use Rattle.catalogue.proofs.Lookup.{is_for_lem, for_is}

-- ---- "its rule checked once over the table"

-- the one test of the whole table
checked : T (distinct table && every sound table)
unfolding table sound distinct named is_for is_kind fits greatest size_of is_signed
checked = tt

truth : (b : Bool) → T b → b ≡ true
truth true t = refl
truth false t = absurd t

sound_right : (l : Line) → T (sound l) → Right l
unfolding sound
sound_right l t =
    record {
      known = truth _ (both_left (is_kind l.kind) _ t);
      in_order = leb→le _ _ (both_left (leb lo hi) _ second);
      low_fits = (decides_fits l.kind (Natural lo)).so (truth _ (both_left (fits l.kind (Natural lo)) _ third));
      high_fits = (decides_fits l.kind (Natural hi)).so (truth _ (both_right (fits l.kind (Natural lo)) _ third));
      read_zero = zeros l.written;
      from_zero = ap lowest_of;
      from_one = ap lowest_of;
      to_top = ⊎_elim (ap (highest_of l.kind)) (ap (highest_of l.kind));
    }
  where
    lo : ℕ
    lo = lowest_of l.written

    hi : ℕ
    hi = highest_of l.kind l.written

    second : T (leb lo hi && (fits l.kind (Natural lo) && fits l.kind (Natural hi)))
    second = both_right (is_kind l.kind) _ t

    third : T (fits l.kind (Natural lo) && fits l.kind (Natural hi))
    third = both_right (leb lo hi) _ second

    zeros : (w : Written) → may_write w ≡ false → (lowest_of w ≡ 0) × (highest_of l.kind w ≡ 0)
    zeros reads e = (refl, refl)
    zeros whole e = absurd (true≢false e)
    zeros from1 e = absurd (true≢false e)
    zeros (between lo hi) e = absurd (true≢false e)

pub every_right : (i : ℕ) → i < length table → Right (get_or table i nothing)
every_right i h = sound_right (get_or table i nothing) (at sound table nothing (both_right (distinct table) _ checked) i h)

-- ---- no pair twice

named_at : (model register : ℕ) (xs : List Line) (i : ℕ) → i < length xs → For model register (get_or xs i nothing) → named model register xs ≡ true
unfolding named
named_at model register [] i h f = absurd (not-suc-le-zero h)
named_at model register (l ∷ xs) zero h f = rw (is_for_lem model register l f)
named_at model register (l ∷ xs) (suc i) h f = or_right (is_for model register l) (named_at model register xs i (le_of_suc-le-suc h) f)
  where
    or_right : (a : Bool) {b : Bool} → b ≡ true → a || b ≡ true
    or_right true e = refl
    or_right false e = e

later_differs : (xs : List Line) → T (distinct xs) → (i j : ℕ) → i < j → j < length xs → (model register : ℕ)
    → For model register (get_or xs i nothing) → For model register (get_or xs j nothing) → ⊥
unfolding distinct
later_differs [] t i j l h model register f g = not-suc-le-zero h
later_differs (x ∷ xs) t i zero l h model register f g = not-suc-le-zero l
later_differs (x ∷ xs) t zero (suc j) l h model register f g =
    let again : named x.model x.register xs ≡ true =
    named_at x.model x.register xs j (le_of_suc-le-suc h) (g.0 ∙ sym f.0, g.1 ∙ sym f.1) in
    let never : not (named x.model x.register xs) ≡ true =
    truth _ (both_left (not (named x.model x.register xs)) (distinct xs) t) in
    true≢false (sym again ∙ not-true _ never)
later_differs (x ∷ xs) t (suc i) (suc j) l h model register f g =
    later_differs xs (both_right (not (named x.model x.register xs)) (distinct xs) t) i j (le_of_suc-le-suc l) (le_of_suc-le-suc h) model register f g

pub no_pair_twice : (i j : ℕ) → i < length table → j < length table → (model register : ℕ)
    → For model register (get_or table i nothing) → For model register (get_or table j nothing) → i ≡ j
no_pair_twice i j hi hj model register f g = elim (dec_lt i j) [
  | yes under ↦ absurd (later_differs table once i j under hj model register f g)
  | no up ↦ elim (dec_lt j i) [
    | yes over ↦ absurd (later_differs table once j i over hi model register g f)
    | no down ↦ omega arith
  ]
]
  where
    once : T (distinct table)
    once = both_left (distinct table) (every sound table) checked

-- ---- the row of a pair is answered exactly where there is one

-- where some line has the pair, the search stops at one that has it
first_for : (model register : ℕ) (xs : List Line) → named model register xs ≡ true
    → (i : ℕ) × (i < length xs) × For model register (get_or xs i nothing) × (line_for model register xs ≡ get_or xs i nothing)
unfolding named line_for
first_for model register [] e = absurd (true≢false (sym e))
first_for model register (l ∷ xs) e = by_test (is_for model register l) refl e (first_for model register xs)
  where
    by_test : (b : Bool) → is_for model register l ≡ b → b || named model register xs ≡ true
        → (named model register xs ≡ true
        → (i : ℕ) × (i < length xs) × For model register (get_or xs i nothing) × (line_for model register xs ≡ get_or xs i nothing))
        → (i : ℕ) × (i < length (l ∷ xs)) × For model register (get_or (l ∷ xs) i nothing)
        × (cond b l (line_for model register xs) ≡ get_or (l ∷ xs) i nothing)
    by_test true p e later = (0, omega arith, for_is model register l p, refl)
    by_test false p e later =
        let rest = later e in
        (suc rest.0, omega (arith, rest.1), rest.2, rest.3)

-- each row of the table is answered, for its own type and register
pub row_answered : (i model register : ℕ) → i < length table → For model register (get_or table i nothing)
    → find_entry model register ≡ Ok (entry_of (get_or table i nothing))
unfolding find_entry find_refusal
row_answered i model register h f =
    let there : named model register table ≡ true = named_at model register table i h f in
    let first = first_for model register table there in
    let place : first.0 ≡ i = no_pair_twice first.0 i first.1 h model register first.2 f in
    rw (there, first.3 ∙ ap (λ (k : ℕ). get_or table k nothing) place)

-- computed: one of each sort, "read", "whole range", "from 1", and with its two ends
pub rows_told : (find_entry COMPACT 0x1B ≡ Ok (record { kind = 4; writable = false; lowest = 0; highest = 0 }))
    × (find_entry VARIA 0x34 ≡ Ok (record { kind = 3; writable = true; lowest = 0; highest = 65535 }))
    × (find_entry COMPACT 0x33 ≡ Ok (record { kind = 5; writable = true; lowest = 1; highest = 4294967295 }))
    × (find_entry COMPACT 0x24 ≡ Ok (record { kind = 3; writable = true; lowest = 0; highest = 4095 }))
unfolding find_entry find_refusal named line_for is_for table greatest is_signed size_of
rows_told = (refl, refl, refl, refl)

-- and nothing else is
pub found_exactly : (model register : ℕ) (e : Entry)
    → (find_entry model register ≡ Ok e) ↔ ((i : ℕ) × (i < length table) × For model register (get_or table i nothing) × (e ≡ entry_of (get_or table i nothing)))
unfolding find_entry find_refusal
found_exactly model register e = (there (named model register table) refl, back)
  where
    there : (b : Bool) → named model register table ≡ b → find_answer (cond (not b) (some NoSuchRow) none) (entry_of (line_for model register table)) ≡ Ok e
        → (i : ℕ) × (i < length table) × For model register (get_or table i nothing) × (e ≡ entry_of (get_or table i nothing))
    there true n a =
        let first = first_for model register table n in
        let is : e ≡ entry_of (line_for model register table) = cc in
        (first.0, first.1, first.2, is ∙ ap entry_of first.3)
    there false n a = clash (cc)

    back : (i : ℕ) × (i < length table) × For model register (get_or table i nothing) × (e ≡ entry_of (get_or table i nothing)) → find_entry model register ≡ Ok e
    back r = row_answered r.0 model register r.1 r.2 ∙ ap Ok (sym r.3)

-- ---- 50: "Each is given exactly when its condition holds"

decides_no_such : (model register : ℕ) → Decides (not (named model register table)) (NoSuch model register)
unfolding NoSuch
decides_no_such model register =
    record {
      so = λ e i h f. true≢false (sym (named_at model register table i h f) ∙ not-true _ e);
      not_so = λ e n. let first = first_for model register table (not-false _ e) in n first.0 first.1 first.2;
    }

pub find_ranked : (model register : ℕ) → Ranked (find_rows model register) (find_refusal model register)
unfolding find_rows find_refusal
find_ranked model register = ranked (find_tests model register) (find_rows model register) (decides_no_such model register otherwise λ n₅₀. tt)

-- and so of the call, by the paper's number
pub find_exactly : (model register : ℕ) {r : Found} → Finds model register r
    → Numbered (passed_up fault_number (find_rows model register)) (50 ∷ []) (find_told r)
unfolding find_rows find_entry
find_exactly model register finds =
    numbered fault_number (find_rows model register) (find_refusal model register) (find_ranked model register)
    (50 ∷ []) refl refl _ (ap find_told finds ∙ told (find_refusal model register) _)
  where
    told : (o : Option Fault) (e : Entry) → find_told (find_answer o e) ≡ raised fault_number o
    told (some f) e = refl
    told none e = refl

-- ---- "Show that any two outcomes allowed by it are equal."

-- the call `number` gives the number that the laws tell
pub number_is : (f : Fault) (r : ℕ) → Numbers f r → r ≡ fault_number f
number_is f r p = p

pub numbers_settled : (fault : Fault) → Settled (Numbers fault)
numbers_settled fault = settled _

pub finds_settled : (model register : ℕ) → Settled (Finds model register)
finds_settled model register = settled _
