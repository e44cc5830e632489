-- Each bad line has a key of the table: with 240 bytes for its value no line is short of room.
-- Assumes nothing.
use Rattle.std.specs.Prelude.{Ok, Err, None}
use mathlib.Core.Path.{◌≡◌, refl, ap}
use mathlib.Core.Bool.{Bool, true, false, cond, not, ◌&&◌}
use mathlib.Core.List.{List}
use mathlib.Core.Logic.{◌≢◌}
use mathlib.Core.Option.{Option, some, none}
use Prim.Native.Nat.{ℕ, ◌+◌, ◌≤◌}
use native.Mathlib.Omega.{arith}
use borrow.Author.Tests.{le-ltb}
use lib.Dec.{eqb, leb, ltb}
use lib.ListN.{length, get_or}
use Rattle.rows.proofs.Laws.{clash}
use Rattle.setting.specs.Setting.{length_of, some_of, most_elements}
use Rattle.setting.proofs.Laws.{length_allowed}
use Rattle.sheet_line.specs.Words.{words_of}
use Rattle.sheet_line.specs.Line.{small_at, kind_in, head_in, is_no_number, is_unfit, no_number_at, unfit_at, line_refusal, line_answer, said_by}
use Rattle.sheet_line.specs.declared.Fault.{Fault}
use Rattle.sheet_line.specs.declared.Fault.TheVariants.{FewWords, NoNumber, NoModule, NoRegister, NoKind, BadCount, OtherCount, NotFitting, NoRoom}
use Rattle.sheet_line.proofs.Sound.{none_sound}
use Rattle.sheet_maker.specs.Maker.{said, key_of}

-- a test that gives something else did not tell
passed_over : (t : Bool) (f : Fault) (o : Option Fault) → key_of f ≢ 0 → cond t (some f) o ≡ some NoRoom → (t ≡ false) × (o ≡ some NoRoom)
passed_over true f o n e = let same : f ≡ NoRoom = cc in absurd (n (ap key_of same))
passed_over false f o n e = (refl, e)

-- where only the room were too short, what the words name would be allowed, and its value has at most 240 bytes
never_short : (words : List (List ℕ)) → line_refusal words 240 ≡ some NoRoom → ⊥
unfolding line_refusal
never_short words e =
    let few = passed_over (ltb (length words) 4) FewWords _ (λ z. omega arith) e in
    let number = passed_over (some_of (is_no_number words) (length words)) (NoNumber (no_number_at words + 1)) _ (λ z. omega arith) few.1 in
    let unit = passed_over (not (leb 1 (small_at words 0) && leb (small_at words 0) 160)) NoModule _ (λ z. omega arith) number.1 in
    let register = passed_over (ltb 255 (small_at words 1)) NoRegister _ (λ z. omega arith) unit.1 in
    let kind = passed_over (eqb (kind_in words) 0) NoKind _ (λ z. omega arith) register.1 in
    let count = passed_over (not (leb 1 (small_at words 3) && leb (small_at words 3) (get_or most_elements (kind_in words) 0))) BadCount _ (λ z. omega arith) kind.1 in
    let many = passed_over (not (eqb (length words) (4 + small_at words 3))) OtherCount _ (λ z. omega arith) count.1 in
    let fit = passed_over (some_of (is_unfit words) (small_at words 3)) (NotFitting (unfit_at words + 5)) _ (λ z. omega arith) many.1 in
    let long : ℕ = length_of (head_in words) in
    let nothing_else : line_refusal words long ≡ none =
    rw (few.0, number.0, unit.0, register.0, kind.0, count.0, many.0, fit.0, le-ltb long long (omega arith)) refl in
    let most : long ≤ 240 = length_allowed (head_in words) (none_sound words long nothing_else).allowed in
    clash (let z = rw (le-ltb 240 long most) at fit.1 in cc)

said_wrong : (words : List (List ℕ)) (f : Fault) → said_by words 240 ≡ Err f → line_refusal words 240 ≡ some f
unfolding said_by
said_wrong words f e = go (eqb (length words) 0) (line_refusal words 240) e
  where
    go : (t : Bool) (o : Option Fault) → cond t (Ok None) (line_answer o (head_in words)) ≡ Err f → o ≡ some f
    go true o e = clash (cc)
    go false (some g) e = cc
    go false none e = clash (cc)

pub line_keyed : (line : List ℕ) (f : Fault) → said line ≡ Err f → (1 ≤ key_of f) × (key_of f ≤ 8)
line_keyed line f is = go f (said_wrong (words_of line) f is)
  where
    go : (g : Fault) → line_refusal (words_of line) 240 ≡ some g → (1 ≤ key_of g) × (key_of g ≤ 8)
    go FewWords e = (omega arith, omega arith)
    go (NoNumber k) e = (omega arith, omega arith)
    go NoModule e = (omega arith, omega arith)
    go NoRegister e = (omega arith, omega arith)
    go NoKind e = (omega arith, omega arith)
    go BadCount e = (omega arith, omega arith)
    go OtherCount e = (omega arith, omega arith)
    go (NotFitting k) e = (omega arith, omega arith)
    go NoRoom e = absurd (never_short (words_of line) e)
