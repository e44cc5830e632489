-- What it means that no line of a text is bad: its settings can be written.
-- Assumes nothing.
use Rattle.std.specs.Prelude.{Ok, Err, Some, None}
use mathlib.Core.Path.{◌≡◌, refl}
use mathlib.Core.Bool.{Bool, true, false, cond}
use mathlib.Core.List.{List, [], ◌∷◌, ◌++◌}
use Prim.Native.Nat.{ℕ, zero, suc, ◌+◌, ◌*◌, ◌≤◌, ◌<◌}
use native.Mathlib.Omega.{arith}
use borrow.Author.Tests.{leb-false, lt-leb}
use lib.Dec.{leb}
use lib.ListN.{length}
use Rattle.rows.proofs.Laws.{clash}
use Rattle.setting.specs.declared.Head.{Head}
use Rattle.setting.specs.Setting.{head, Setting, Above, Allowed, is_above}
use Rattle.setting.proofs.Laws.{decides_above}
use Rattle.sheet.specs.declared.Record.{Record}
use Rattle.sheet.specs.Sheet.{named, Writable}
use Rattle.sheet_editor.proofs.Rising.{Each, each_at}
use Rattle.sheet_line.specs.Words.{words_of}
use Rattle.sheet_line.specs.Line.{setting_in}
use Rattle.sheet_line.specs.Answers.{Line}
use Rattle.sheet_maker.specs.Maker.{lines_of, said, setting_of, settings_from, settings_of, report_of, many_after, nearest, reports_from, reports_of, bad_in}
use Rattle.sheet_maker.proofs.Whole.{said_so, settings_sized}

-- ---- three numbers for each bad line

-- so many times three
abbrev Threes : List ℕ → Type 0
Threes told = (k : ℕ) × (length told ≡ 3 * k)

report_threes : (number many : ℕ) (before : Head) (what : Line) (rest : List ℕ) → Threes rest → Threes (report_of number many before what ++ rest)
report_threes number many before (Ok None) rest t = t
report_threes number many before (Err f) rest t = (suc t.0, omega (arith, t.1))
report_threes number many before (Ok (Some r)) rest t = go (leb 128 many) (is_above before r.head)
  where
    go : (full above : Bool) → Threes (cond full (number ∷ 0 ∷ 9 ∷ []) (cond above [] (number ∷ 0 ∷ 10 ∷ [])) ++ rest)
    go true above = (suc t.0, omega (arith, t.1))
    go false true = t
    go false false = (suc t.0, omega (arith, t.1))

threes : (number many : ℕ) (before : Head) (lines : List (List ℕ)) → Threes (reports_from number many before lines)
unfolding reports_from
threes number many before [] = (0, refl)
threes number many before (line ∷ lines) =
    report_threes number many before (said line) (reports_from (suc number) (many_after many (said line)) (nearest before (said line)) lines)
    (threes (suc number) (many_after many (said line)) (nearest before (said line)) lines)

pub three_each : (text : List ℕ) → length (reports_of text) ≡ 3 * bad_in text
unfolding reports_of
three_each text = let t = threes 1 0 (head 0 0 0 0) (lines_of text) in omega (arith, t.1)

pub none_bad : (text : List ℕ) → bad_in text ≡ 0 → reports_of text ≡ []
none_bad text z = empty (reports_of text) (omega (arith, three_each text, z))
  where
    empty : (l : List ℕ) → length l ≡ 0 → l ≡ []
    empty [] e = refl
    empty (x ∷ l) e = absurd (omega arith)

-- ---- settings that rise from a head on

abbrev pub Climbs : Head → List Setting → Type 0
Climbs before [] = Unit {0}
Climbs before (s ∷ rest) = Above before s.named × Climbs s.named rest

climbs_rise : (before : Head) (settings : List Setting) → Climbs before settings
    → (k : ℕ) → suc k < length settings → Above (named settings k) (named settings (suc k))
unfolding named
climbs_rise before [] c k l = absurd (omega arith)
climbs_rise before (s ∷ []) c k l = absurd (omega arith)
climbs_rise before (s ∷ (t ∷ rest)) c zero l = c.1.0
climbs_rise before (s ∷ (t ∷ rest)) c (suc k) l = climbs_rise s.named (t ∷ rest) c.1 k (omega arith)

pub rise_climbs : (before : Head) (settings : List Setting) → (0 < length settings → Above before (named settings 0))
    → ((k : ℕ) → suc k < length settings → Above (named settings k) (named settings (suc k))) → Climbs before settings
unfolding named
rise_climbs before [] first rise = tt
rise_climbs before (s ∷ rest) first rise = (first (omega arith), rise_climbs s.named rest (λ l. rise 0 (omega arith)) (λ k l. rise (suc k) (omega arith)))

-- ---- where nothing is told, each line that is right in itself has its place

nothing_told : (xs ys : List ℕ) → xs ++ ys ≡ [] → (xs ≡ []) × (ys ≡ [])
nothing_told [] ys e = (refl, e)
nothing_told (x ∷ xs) ys e = clash (cc)

placed : (number many : ℕ) (before : Head) (r : Record) → report_of number many before (Ok (Some r)) ≡ [] → (many < 128) × (is_above before r.head ≡ true)
placed number many before r e = go (leb 128 many) (is_above before r.head) refl refl e
  where
    go : (full above : Bool) → leb 128 many ≡ full → is_above before r.head ≡ above
        → cond full (number ∷ 0 ∷ 9 ∷ []) (cond above [] (number ∷ 0 ∷ 10 ∷ [])) ≡ [] → (many < 128) × (is_above before r.head ≡ true)
    go true above p q e = clash (cc)
    go false true p q e = (leb-false 128 many p, q)
    go false false p q e = clash (cc)

record Fine (many : ℕ) (before : Head) (settings : List Setting) : Type 0 where
  few : many + length settings ≤ 128
  climbs : Climbs before settings
  allowed : Each (λ s. Allowed s.named) settings

fine_more : (many : ℕ) (before : Head) (line : List ℕ) (r : Record) (rest : List Setting) → said line ≡ Ok (Some r) → is_above before r.head ≡ true
    → Fine (suc many) r.head rest → Fine many before (setting_in (words_of line) ∷ rest)
unfolding Each setting_in
fine_more many before line r rest is above f =
    let so = said_so line r is in
    record {
      few = omega (arith, f.few);
      climbs = rw (← so.named) ((decides_above before r.head).so above, f.climbs);
      allowed = (rw (← so.named) so.allowed, f.allowed);
    }

fine : (number many : ℕ) (before : Head) (lines : List (List ℕ)) → many ≤ 128 → reports_from number many before lines ≡ [] → Fine many before (settings_from lines)
unfolding reports_from settings_from Each
fine number many before [] few e = record { few = omega arith; climbs = tt; allowed = tt }
fine number many before (line ∷ lines) few e =
    let two = nothing_told (report_of number many before (said line)) (reports_from (suc number) (many_after many (said line)) (nearest before (said line)) lines) e in
    go (said line) refl two.0 (λ l. fine (suc number) (many_after many (said line)) (nearest before (said line)) lines l two.1)
  where
    go : (what : Line) → said line ≡ what → report_of number many before what ≡ []
        → (many_after many what ≤ 128 → Fine (many_after many what) (nearest before what) (settings_from lines))
        → Fine many before (setting_of what line ++ settings_from lines)
    go (Ok None) is none_here later = later few
    go (Err f) is none_here later = clash (cc)
    go (Ok (Some r)) is none_here later =
        let p = placed number many before r none_here in
        let next : suc many ≤ 128 → Fine (suc many) r.head (settings_from lines) = rw (lt-leb 128 many p.0) at later in
        fine_more many before line r (settings_from lines) is p.1 (next p.0)

pub writable_text : (text : List ℕ) → reports_of text ≡ [] → Writable (settings_of text)
unfolding reports_of settings_of named
writable_text text e =
    let f = fine 1 0 (head 0 0 0 0) (lines_of text) (omega arith) e in
    record {
      few = omega (arith, f.few);
      rise = climbs_rise (head 0 0 0 0) (settings_from (lines_of text)) f.climbs;
      allowed = each_at (λ s. Allowed s.named) (settings_from (lines_of text)) f.allowed;
      whole = settings_sized (lines_of text);
    }
