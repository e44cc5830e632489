-- What is promised of a line: the laws that callers may cite.
-- Assumes nothing.
use Rattle.std.specs.Prelude.{Ok, Err, Some, None}
use mathlib.Core.Path.{◌≡◌, refl, sym, ap, ◌∙◌}
use mathlib.Core.Bool.{Bool, false, not, true≢false}
use mathlib.Core.List.{List, [], ◌∷◌}
use mathlib.Core.Logic.{◌≢◌, ◌↔◌}
use mathlib.Core.Option.{Option, some, none}
use Prim.Native.Nat.{ℕ, ◌+◌}
use native.Mathlib.Omega.{arith}
use borrow.Author.Tests.{not-true, not-false, ne_eqb}
use lib.ListN.{length, get_or}
use Rattle.lent.specs.Lent.{over}
use Rattle.rows.specs.Rows.{First, NoRow, Ranked}
use Rattle.rows.specs.Settled.{Settled}
use Rattle.rows.proofs.Laws.{Decides, decides_lt, decides_le, decides_eq, decides_not, decides_and, ranked, ◌otherwise◌, refused_exactly, done_exactly, clash}
use Rattle.rows.proofs.Settled.{settled, settled_with}
use Rattle.values.specs.Values.{Unfit}
use Rattle.values.proofs.Refusals.{decides_fits}
use Rattle.numerals.specs.Numerals.{is_number, value_of}
use Rattle.setting.specs.Setting.{length_of, most_elements}
use Rattle.setting.specs.declared.Head.{Head}
use Rattle.setting.proofs.Laws.{decides_some}
use Rattle.sheet.specs.declared.Record.{Record}
use Rattle.sheet.specs.Sheet.{record_as}
use Rattle.sheet_line.specs.Words.{words_of}
use Rattle.sheet_line.specs.Line.{word_at, small_at, kind_in, head_in, value_in, AreFew, IsNoNumber, is_no_number, IsNoModule, IsNoRegister, IsBadCount, AreOther}
use Rattle.sheet_line.specs.Line.{IsUnfit, is_unfit, IsNarrow, line_rows, line_tests, line_refusal, line_answer, said_by, room_after, Numbers, Words, Reads}
use Rattle.sheet_line.specs.declared.Fault.{Fault}
use Rattle.sheet_line.specs.Answers.{Line}
use Rattle.sheet_line.proofs.Naming.{decides_kindless}

-- ---- the tests of a line decide its rows

decides_unset : (b : Bool) → Decides (not b) (b ≡ false)
decides_unset b = record { so = not-true b; not_so = λ e h. true≢false (sym (not-false b e) ∙ h) }

decides_no_number : (words : List (List ℕ)) (k : ℕ) → Decides (is_no_number words k) (IsNoNumber words k)
unfolding is_no_number IsNoNumber
decides_no_number words k = decides_and (decides_not (decides_eq k 2)) (decides_unset (is_number (word_at words k)))

decides_unfit : (words : List (List ℕ)) (k : ℕ) → Decides (is_unfit words k) (IsUnfit words k)
unfolding is_unfit IsUnfit Unfit
decides_unfit words k = decides_not (decides_fits (kind_in words) (value_of (word_at words (4 + k))))

pub line_ranked : (words : List (List ℕ)) (room : List ℕ) → Ranked (line_rows words room) (line_refusal words (length room))
unfolding line_rows line_refusal AreFew IsNoModule IsNoRegister IsBadCount AreOther IsNarrow
line_ranked words room =
    ranked (line_tests words (length room)) (line_rows words room)
    (decides_lt (length words) 4 otherwise λ few.
    decides_some _ _ (length words) (decides_no_number words) otherwise λ number.
    decides_not (decides_and (decides_le 1 (small_at words 0)) (decides_le (small_at words 0) 160)) otherwise λ unit.
    decides_lt 255 (small_at words 1) otherwise λ register.
    decides_kindless words otherwise λ kind.
    decides_not (decides_and (decides_le 1 (small_at words 3)) (decides_le (small_at words 3) (get_or most_elements (kind_in words) 0))) otherwise λ count.
    decides_not (decides_eq (length words) (4 + small_at words 3)) otherwise λ values.
    decides_some _ _ (small_at words 3) (decides_unfit words) otherwise λ fit.
    decides_lt (length room) (length_of (head_in words)) otherwise λ narrow. tt)

-- ---- what an answer of `read` says: each exactly where it applies

module _ (o : Option Fault) (h : Head) where
  wrong_answered : (f : Fault) → (line_answer o h ≡ Err f) ↔ (o ≡ some f)
  wrong_answered f = (there o, λ e. ap (λ (p : Option Fault). line_answer p h) e)
    where
      there : (p : Option Fault) → line_answer p h ≡ Err f → p ≡ some f
      there (some g) e = cc
      there none e = clash (cc)

  right_answered : (s : Record) → (line_answer o h ≡ Ok (Some s)) ↔ ((o ≡ none) × (s ≡ record_as h))
  right_answered s = (there o, λ p. ap (λ (q : Option Fault). line_answer q h) p.0 ∙ ap (λ x. Ok (Some x)) (sym p.1))
    where
      there : (p : Option Fault) → line_answer p h ≡ Ok (Some s) → (p ≡ none) × (s ≡ record_as h)
      there (some g) e = clash (cc)
      there none e = (refl, cc)

  never_nothing : line_answer o h ≡ Ok None → ⊥
  never_nothing = there o
    where
      there : (p : Option Fault) → line_answer p h ≡ Ok None → ⊥
      there (some g) e = clash (cc)
      there none e = clash (cc)

-- it says nothing exactly where there is no word; else it is wrong by a fault exactly where that is what the first row that holds gives, and it
-- says a setting exactly where no row holds, and that is the one that its first four words name
abbrev pub Exactly : List (List ℕ) → List ℕ → Line → Type 0
Exactly words room r =
    ((r ≡ Ok None) ↔ (words ≡ []))
    × ((f : Fault) → (r ≡ Err f) ↔ ((words ≢ []) × First (line_rows words room) f))
    × ((s : Record) → (r ≡ Ok (Some s)) ↔ ((words ≢ []) × (NoRow (line_rows words room) × (s ≡ record_as (head_in words)))))

said_exactly : (words : List (List ℕ)) (room : List ℕ) (r : Line) → r ≡ said_by words (length room) → Exactly words room r
unfolding said_by
said_exactly [] room r e = (
  (λ q. refl, λ q. e),
  λ f. (λ q. clash (cc), λ p. absurd (p.0 refl)),
  λ s. (λ q. clash (cc), λ p. absurd (p.0 refl)),
)
said_exactly (word ∷ rest) room r e =
    let words = word ∷ rest in
    let o = line_refusal words (length room) in
    let told : r ≡ line_answer o (head_in words) = e ∙ rw (ne_eqb (length words) 0 (λ z. omega (arith, z))) refl in
    let some_word : words ≢ [] = λ q. clash (cc) in (
      (λ q. absurd (never_nothing o (head_in words) (sym told ∙ q)), λ q. absurd (some_word q)),
      λ f.
          let by = wrong_answered o (head_in words) f in
          let first = refused_exactly (line_rows words room) o (line_ranked words room) f in
          (λ q. (some_word, first.0 (by.0 (sym told ∙ q))), λ p. told ∙ by.1 (first.1 p.1)),
      λ s.
          let by = right_answered o (head_in words) s in
          let done = done_exactly (line_rows words room) o (line_ranked words room) in
          (λ q. let so = by.0 (sym told ∙ q) in (some_word, (done.0 so.0, so.1)), λ p. told ∙ by.1 (done.1 p.1.0, p.1.1)),
    )

pub line_exactly : (text room : List ℕ) (r : Line) (room' : List ℕ) → Reads text room r room' → Exactly (words_of text) room r
line_exactly text room r room' p = said_exactly (words_of text) room r p.0

-- the value of a setting is laid over the buffer; whatever else is answered leaves every byte of it
pub line_laid : (text room : List ℕ) (r : Line) (room' : List ℕ) → Reads text room r room'
    → ((s : Record) → r ≡ Ok (Some s) → room' ≡ over (value_in (words_of text)) room) × ((f : Fault) → r ≡ Err f → room' ≡ room) × (r ≡ Ok None → room' ≡ room)
line_laid text room r room' p = (λ s e. laid ∙ ap after e, λ f e. laid ∙ ap after e, λ e. laid ∙ ap after e)
  where
    after : Line → List ℕ
    after a = room_after a (value_in (words_of text)) room

    laid : room' ≡ room_after r (value_in (words_of text)) room
    laid = p.1 ∙ ap (λ (a : Line). room_after a (value_in (words_of text)) room) (sym p.0)

-- ---- each call is settled

pub numbers_settled : (fault : Fault) → Settled (Numbers fault)
numbers_settled fault = settled _

pub words_settled : (fault : Fault) → Settled (Words fault)
words_settled fault = settled _

pub reads_settled : (text room : List ℕ) → Settled {A = Line × List ℕ} (λ o. Reads text room o.0 o.1)
reads_settled text room = settled_with _ _
