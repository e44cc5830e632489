-- Looking a line up: what a search of the rows finds.
-- Assumes nothing.
use Rattle.std.specs.Prelude.{Ok, Err}
use mathlib.Core.Path.{◌≡◌, refl, sym, ap, ◌∙◌}
use mathlib.Core.Bool.{Bool, true, false, cond, not, ◌&&◌, ◌||◌, true≢false}
use mathlib.Core.List.{List, [], ◌∷◌, map}
use mathlib.Core.Option.{some, none}
use Prim.Native.Nat.{ℕ}
use borrow.Author.Tests.{eq-eqb, eqb-true}
use lib.Dec.{eqb}
use Rattle.std.proofs.Common.{Option, Some, None}
use Rattle.std.specs.List.{find}
use Rattle.catalogue.specs.Catalogue.{Line, table, For, row_of, entry_of, is_for, named, line_for, find_refusal, find_answer, find_entry}
use Rattle.catalogue.specs.declared.table.Row.{Row}
use Rattle.catalogue.specs.declared.Fault.TheVariants.{NoSuchRow}
use Rattle.catalogue.specs.Answers.{Found}

pub is_for_lem : (model register : ℕ) (l : Line) → For model register l → is_for model register l ≡ true
unfolding is_for
is_for_lem model register l h = rw (eq-eqb _ _ h.0, eq-eqb _ _ h.1)

pub for_is : (model register : ℕ) (l : Line) → is_for model register l ≡ true → For model register l
unfolding is_for
for_is model register l = both (eqb l.model model) (eqb l.register register) refl refl
  where
    both : (a b : Bool) → eqb l.model model ≡ a → eqb l.register register ≡ b → a && b ≡ true → For model register l
    both true true p q e = (eqb-true _ _ p, eqb-true _ _ q)
    both true false p q e = absurd (true≢false (sym e))
    both false b p q e = absurd (true≢false (sym e))

-- a row of the program is that of this type and register
abbrev pub row_for : ℕ → ℕ → Row → Bool
row_for model register r = eqb r.model model && eqb r.register register

-- the first such row is that of the line which is answered
pub first_row : (model register : ℕ) (ls : List Line)
    → find (row_for model register) (map row_of ls) ≡ cond (named model register ls) (Some (row_of (line_for model register ls))) None
unfolding is_for named line_for
first_row model register [] = refl
first_row model register (l ∷ ls) = go (row_for model register (row_of l)) (first_row model register ls)
  where
    go : (b : Bool) {o : Option Row} → o ≡ cond (named model register ls) (Some (row_of (line_for model register ls))) None
        → cond b (Some (row_of l)) o ≡ cond (b || named model register ls) (Some (row_of (cond b l (line_for model register ls)))) None
    go true e = refl
    go false e = e

-- and so what is answered of what a search of the rows found
abbrev pub answer_of : Option Row → Found
answer_of (Some r) = Ok (record { kind = r.kind; writable = r.writable; lowest = r.lowest; highest = r.highest })
answer_of None = Err NoSuchRow

pub answered : (model register : ℕ) {o : Option Row} → o ≡ find (row_for model register) (map row_of table) → answer_of o ≡ find_entry model register
unfolding find_entry find_refusal
answered model register e = ap answer_of (e ∙ first_row model register table) ∙ go (named model register table)
  where
    go : (b : Bool) → answer_of (cond b (Some (row_of (line_for model register table))) None)
        ≡ find_answer (cond (not b) (some NoSuchRow) none) (entry_of (line_for model register table))
    go true = refl
    go false = refl
