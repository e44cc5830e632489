-- What is promised of sheets and their texts: the laws that callers may cite. docs/SHEETS.md.
-- Assumes nothing.
use Rattle.std.specs.Prelude.{Ok, Err, Some, None}
use mathlib.Core.Path.{◌≡◌, refl, sym, ap, subst, ◌∙◌}
use mathlib.Core.Bool.{Bool, true, false, cond}
use mathlib.Core.List.{List, [], ◌∷◌, ◌++◌}
use mathlib.Core.Logic.{◌↔◌, ⊎_elim}
use mathlib.Core.Option.{Option, some, none}
use Prim.Native.Nat.{ℕ, zero, suc, ◌*◌, ◌≤◌, ◌<◌}
use native.Mathlib.Decide.{dec_lt}
use native.Mathlib.Omega.{arith}
use borrow.Author.Tests.{le-leb, lt-leb, le-ltb}
use lib.ListN.{length, take, drop, length-append}
use lib.Seq.{take_at, length-take-le}
use Rattle.first.proofs.Laws.{Ended, ended, first-none}
use Rattle.lent.specs.Lent.{over}
use Rattle.lent.proofs.Laws.{take-over}
use Rattle.rows.proofs.Laws.{done_exactly, refused_exactly, told_true, told_false, clash}
use Rattle.values.specs.Values.{Bytes}
use Rattle.setting.specs.declared.Head.{Head}
use Rattle.setting.specs.declared.Fault.{Fault as SheetFault}
use Rattle.setting.specs.declared.Fault.TheVariants.{NoRoom}
use Rattle.setting.specs.Setting.{head, Setting, Above}
use Rattle.setting.proofs.Laws.{decides_above}
use Rattle.sheet.specs.declared.Record.{Record}
use Rattle.sheet.specs.Sheet.{sheet_of, values_for, named, Writable, Right, count_in, held, check_refusal, Checks}
use Rattle.sheet.proofs.Right.{sheet_of_held}
use Rattle.sheet.proofs.Written.{sheet_most, held_writable}
use Rattle.sheet.proofs.Steps.{checked_refused}
use Rattle.sheet_writer.specs.Writer.{rows_for, handed, IsNarrow, write_rows, write_refusal, Writes}
use Rattle.sheet_writer.specs.Promised.{Written}
use Rattle.sheet_writer.proofs.Handed.{write_ranked}
use Rattle.sheet_writer.proofs.Laws.{handed_back, none_refused, write_answered}
use Rattle.sheet_editor.specs.Answers.{Editing}
use Rattle.sheet_editor.specs.declared.Fault.TheVariants.{WrongSheet, NothingThere}
use Rattle.sheet_editor.specs.Editor.{without, SameKey, same_key, remove_refusal, Removes}
use Rattle.sheet_editor.specs.Promised.{Kept}
use Rattle.sheet_editor.proofs.Rising.{Each}
use Rattle.sheet_editor.proofs.Laws.{removes_done, removed_there, remove_kept}
use Rattle.sheet_line.specs.Line.{fault_word}
use Rattle.sheet_line.specs.declared.Fault.{Fault as LineFault}
use Rattle.sheet_line.specs.declared.Fault.TheVariants as line
use Rattle.sheet_line.proofs.There.{Proper}
use Rattle.sheet_teller.specs.Answers.{Telling}
use Rattle.sheet_teller.specs.Teller.{text_of, show_refusal, Shows}
use Rattle.sheet_teller.proofs.Laws.{show_done}
use Rattle.sheet_maker.specs.Answers.{Making}
use Rattle.sheet_maker.specs.declared.NotMade.TheVariants as not_made
use Rattle.sheet_maker.specs.Maker.{in_front, lines_of, said, settings_of, key_of, report_of, many_after, nearest, reports_of, bad_in, number_of_key}
use Rattle.sheet_maker.specs.Maker.{make_answer, make_room, make_refusal, Makes, key_for, Finds}
use Rattle.sheet_maker.proofs.Whole.{said_so, settings_sized}
use Rattle.sheet_texts.specs.Texts.{CanonicalText, MadeOf, besides}
use Rattle.sheet_texts.proofs.Reports.{three_each, none_bad, writable_text}
use Rattle.sheet_texts.proofs.Lines.{lines_end}
use Rattle.sheet_texts.proofs.There.{above_none, text_settings, text_right, text_canonical, held_proper}
use Rattle.sheet_texts.proofs.Back.{text_back}
use Rattle.sheet_texts.proofs.Bytes.{text_proper, bytes_sheet}
use Rattle.sheet_texts.proofs.Register.{is_at, decides_key, none_wrong, found_place, without_found}

-- ---- a sheet made of a text

module _ (sheet room : List ℕ) (n : ℕ) (room' : List ℕ) where
  is_made : (bad : ℕ) (o : Option SheetFault) (size : ℕ) → Ok size ≡ make_answer bad o n → room' ≡ make_room bad o sheet room
      → (bad ≡ 0) × (o ≡ none) × (size ≡ n) × (room' ≡ over sheet room)
  is_made zero none size e q = (refl, refl, (cc), q)
  is_made zero (some f) size e q = clash (cc)
  is_made (suc bad) o size e q = clash (cc)

  is_refused_lem : (bad : ℕ) (o : Option SheetFault) (f : SheetFault) → Err (not_made.Refused f) ≡ make_answer bad o n → room' ≡ make_room bad o sheet room
      → (bad ≡ 0) × (o ≡ some f) × (room' ≡ room)
  is_refused_lem zero none f e q = clash (cc)
  is_refused_lem zero (some g) f e q = (refl, (cc), q)
  is_refused_lem (suc bad) o f e q = clash (cc)

  is_wrong : (bad : ℕ) (o : Option SheetFault) (w : ℕ) → Err (not_made.Wrong w) ≡ make_answer bad o n → room' ≡ make_room bad o sheet room
      → (1 ≤ w) × (w ≡ bad) × (room' ≡ room)
  is_wrong zero none w e q = clash (cc)
  is_wrong zero (some f) w e q = clash (cc)
  is_wrong (suc bad) o w e q = let same : w ≡ suc bad = cc in (omega arith, same, q)

-- nothing is told where nothing is bad
untouched : (text list list' : List ℕ) → reports_of text ≡ [] → list' ≡ over (reports_of text) list → list' ≡ list
unfolding over
untouched text list list' clean e = rw clean at e

handed_text : (text : List ℕ) → handed (rows_for (settings_of text)) (values_for (settings_of text)) ≡ settings_of text
unfolding settings_of
handed_text text = handed_back (settings_of text) (settings_sized (lines_of text))

-- "a text with a bad line makes no sheet": of what was made no line is bad, and it is the sheet of the text's settings
pub made_of : (text list room : List ℕ) (size : ℕ) (list' room' : List ℕ) → Makes text list room (Ok size) list' room'
    → MadeOf text room size room' × (list' ≡ list)
made_of text list room size list' room' p =
    let ss = settings_of text in
    let d = is_made (sheet_of ss) room (length (sheet_of ss)) room' (bad_in text) (make_refusal text room) size p.0 p.2 in
    let clean : reports_of text ≡ [] = none_bad text d.0 in
    let back = handed_text text in
    let wrote : Writes (rows_for ss) (values_for ss) room (Ok size) room' = rw (d.1, back) (ap Ok d.2, d.3) in
    let w : Written (rows_for ss) (values_for ss) room size room' = write_answered (rows_for ss) (values_for ss) room size room' wrote in (
      record {
        no_report = clean;
        can = rw back at w.can;
        long = d.2;
        most = w.most;
        fits = w.fits;
        bytes = rw back at w.bytes;
        is_right = w.is_right;
        holds = rw back at w.holds;
      },
      untouched text list list' clean p.1,
    )

-- settings that can be written are refused only where the room is too short
refused_narrow : (settings : List Setting) (room : List ℕ) (f : SheetFault) → Writable settings → write_refusal (rows_for settings) (values_for settings) room ≡ some f
    → (f ≡ NoRoom) × (length room < length (sheet_of settings))
unfolding write_rows IsNarrow
refused_narrow settings room f w e =
    let rows = rows_for settings in
    let values = values_for settings in
    let unrefused = none_refused settings (sheet_of settings) w (omega arith) in
    let back = handed_back settings w.whole in
    ⊎_elim (λ h. absurd (unrefused.0 h.0))
    (λ h. ⊎_elim (λ h. absurd (unrefused.1.0 h.0))
    (λ h. ⊎_elim (λ h. absurd (unrefused.1.1.0 h.0)) (λ h. ⊎_elim (λ h. (h.1, rw back at h.0)) (λ h. absurd h.1) h.1) h.1) h.1)
    ((refused_exactly (write_rows rows values room) (write_refusal rows values room) (write_ranked rows values room) f).0 e)

pub make_refused : (text list room : List ℕ) (f : SheetFault) (list' room' : List ℕ) → Makes text list room (Err (not_made.Refused f)) list' room'
    → (f ≡ NoRoom) × (length room < length (sheet_of (settings_of text))) × (list' ≡ list) × (room' ≡ room)
make_refused text list room f list' room' p =
    let ss = settings_of text in
    let d = is_refused_lem (sheet_of ss) room (length (sheet_of ss)) room' (bad_in text) (make_refusal text room) f p.0 p.2 in
    let clean : reports_of text ≡ [] = none_bad text d.0 in
    let narrow = refused_narrow ss room f (writable_text text clean) d.1 in
    (narrow.0, narrow.1, untouched text list list' clean p.1, d.2)

-- "Every bad line is told": so many, three numbers for each
pub make_wrong : (text list room : List ℕ) (n : ℕ) (list' room' : List ℕ) → Makes text list room (Err (not_made.Wrong n)) list' room'
    → (1 ≤ n) × (n ≡ bad_in text) × (length (reports_of text) ≡ 3 * n) × (list' ≡ over (reports_of text) list) × (room' ≡ room)
make_wrong text list room n list' room' p =
    let ss = settings_of text in
    let d = is_wrong (sheet_of ss) room (length (sheet_of ss)) room' (bad_in text) (make_refusal text room) n p.0 p.2 in
    (d.0, d.1, rw d.1 (three_each text), p.1, d.2)

-- and the other way round: a text of which no line is bad is made a sheet where there is room for it
pub make_done : (text list room : List ℕ) (r : Making) (list' room' : List ℕ) → reports_of text ≡ [] → length (sheet_of (settings_of text)) ≤ length room
    → Makes text list room r list' room'
    → (r ≡ Ok (length (sheet_of (settings_of text)))) × (list' ≡ list) × (room' ≡ over (sheet_of (settings_of text)) room)
make_done text list room r list' room' clean wide p =
    let ss = settings_of text in
    let rows = rows_for ss in
    let values = values_for ss in
    let bad : bad_in text ≡ 0 = rw clean refl in
    let none_refuses : write_refusal rows values room ≡ none =
    (done_exactly (write_rows rows values room) (write_refusal rows values room) (write_ranked rows values room)).1 (none_refused ss room (writable_text text clean) wide) in
    let answer : r ≡ Ok (length (sheet_of ss)) = rw (bad, none_refuses) at p.0 in
    let bytes : room' ≡ over (sheet_of ss) room = rw (bad, none_refuses) at p.2 in
    (answer, untouched text list list' clean p.1, bytes)

pub make_fits : (text list room : List ℕ) (r : Making) (list' room' : List ℕ) → 31756 ≤ length room → reports_of text ≡ [] → Makes text list room r list' room'
    → (r ≡ Ok (length (sheet_of (settings_of text)))) × (list' ≡ list) × (room' ≡ over (sheet_of (settings_of text)) room)
make_fits text list room r list' room' wide clean p =
    make_done text list room r list' room' clean (omega (arith, wide, sheet_most (settings_of text) (writable_text text clean))) p

-- ---- there: `show` writes what `make` reads

pub shown_made : (sheet room : List ℕ) (n : ℕ) (room' list space : List ℕ) (r : Making) (list' space' : List ℕ) → Bytes sheet
    → Shows sheet room (Ok n) room' → n ≤ length room → Makes (take n room') list space r list' space' → length sheet ≤ length space
    → (r ≡ Ok (length sheet)) × (list' ≡ list) × (space' ≡ over sheet space)
shown_made sheet room n room' list space r list' space' bytes shows fits makes wide =
    let d = show_done sheet room n room' shows in
    let text = text_of (held sheet) in
    let proper = held_proper sheet bytes d.0 in
    let taken : take n room' ≡ text = rw (d.2, d.1) (take-over text room (rw d.1 at fits)) in
    let back : sheet_of (settings_of text) ≡ sheet = ap sheet_of (text_settings (held sheet) proper) ∙ sheet_of_held sheet bytes d.0 in
    rw back at
    (make_done text list space r list' space' (text_right (held sheet) (held_writable sheet d.0) proper) (rw back wide) (rw taken at makes))

pub shown_canonical : (sheet : List ℕ) → Bytes sheet → Right sheet → CanonicalText (text_of (held sheet))
shown_canonical sheet bytes right = text_canonical (held sheet) (held_proper sheet bytes right)

-- ---- back: "Such a text is exactly what `show` writes for the sheet that `make` made of it."

show_right : (sheet : List ℕ) → Right sheet → show_refusal sheet ≡ none
unfolding show_refusal
show_right sheet right = rw (none_wrong sheet right) refl

pub made_shown : (text list room : List ℕ) (size : ℕ) (list' room' space : List ℕ) (r : Telling) (space' : List ℕ) → CanonicalText text
    → Makes text list room (Ok size) list' room' → Shows (take size room') space r space' → (r ≡ Ok (length text)) × (space' ≡ over text space)
made_shown text list room size list' room' space r space' c makes shows =
    let m : MadeOf text room size room' = (made_of text list room size list' room' makes).0 in
    rw (show_right (take size room') m.is_right, m.holds, text_back text c) at shows

pub canonical_once : (a b : List ℕ) → CanonicalText a → CanonicalText b → settings_of a ≡ settings_of b → a ≡ b
canonical_once a b ca cb same = sym (text_back a ca) ∙ (ap text_of same ∙ text_back b cb)

-- the canonical texts are the texts of settings that a line can say, and no others
pub canonical_exactly : (text : List ℕ) → CanonicalText text ↔ ((settings : List Setting) × (Each Proper settings × (text ≡ text_of settings)))
canonical_exactly text = (
  λ c. (settings_of text, (text_proper text, sym (text_back text c))),
  λ s. subst CanonicalText (sym s.1.1) (text_canonical s.0 s.1.0),
)

-- ---- and of any text that made a sheet: what is shown of that sheet makes it again

pub made_bytes : (text list room : List ℕ) (size : ℕ) (list' room' : List ℕ) → Makes text list room (Ok size) list' room' → Bytes (take size room')
made_bytes text list room size list' room' makes =
    let m : MadeOf text room size room' = (made_of text list room size list' room' makes).0 in
    rw (m.bytes, m.long, take_at (sheet_of (settings_of text)) (drop (length (sheet_of (settings_of text))) room) (length (sheet_of (settings_of text))) refl)
    (bytes_sheet (settings_of text) (text_proper text))

pub made_again : (text list room : List ℕ) (size : ℕ) (list' room' space : List ℕ) (n : ℕ) (space' told other : List ℕ) (r : Making) (told' other' : List ℕ)
    → Makes text list room (Ok size) list' room' → Shows (take size room') space (Ok n) space' → n ≤ length space
    → Makes (take n space') told other r told' other' → size ≤ length other
    → (r ≡ Ok size) × (told' ≡ told) × (other' ≡ over (take size room') other)
made_again text list room size list' room' space n space' told other r told' other' makes shows fits again wide =
    let m : MadeOf text room size room' = (made_of text list room size list' room' makes).0 in
    let long : length (take size room') ≡ size =
    length-take-le size room' (omega (arith, ap length m.bytes, length-append (sheet_of (settings_of text)) (drop size room), m.long)) in
    let d = shown_made (take size room') space n space' told other r told' other' (made_bytes text list room size list' room' makes) shows fits again (rw long wide) in
    (d.0 ∙ ap Ok long, d.1, d.2)

-- ---- the sheet without one register

-- some record has that module and register
pub register_removed : (room : List ℕ) (size unit register i : ℕ) (r : Editing) (room' : List ℕ) → size ≤ length room → Right (take size room)
    → (k : ℕ) → k < length (held (take size room)) → (named (held (take size room)) k).unit ≡ unit → (named (held (take size room)) k).register ≡ register
    → Finds (take size room) unit register i → Removes room size i r room'
    → (r ≡ Ok (length (sheet_of (besides unit register (held (take size room))))))
    × (room' ≡ over (sheet_of (besides unit register (held (take size room)))) room)
unfolding SameKey
register_removed room size unit register i r room' fits right k l same_unit same_register finds removes =
    rw (without_found (take size room) unit register i right finds within) at (removes_done room size i r room' fits right within removes)
  where
    there : is_at unit register (held (take size room)) k ≡ true
    there = told_true (decides_key (named (held (take size room)) k) (key_for unit register)) (same_unit, same_register)

    within : i < length (held (take size room))
    within =
        let place = found_place (take size room) unit register i right finds in
        let e : Ended (is_at unit register (held (take size room))) (length (held (take size room))) i =
        rw place (ended (is_at unit register (held (take size room))) (length (held (take size room)))) in
        elim (dec_lt i (length (held (take size room)))) [ yes h ↦ h | no h ↦ clash (let z = sym there ∙ e.before k (omega arith) in cc) ]

-- and then the new sheet is right, and holds all but that one
pub register_kept : (room : List ℕ) (size unit register i n : ℕ) (room' : List ℕ) → Finds (take size room) unit register i → Removes room size i (Ok n) room'
    → Kept room size (besides unit register (held (take size room))) n room'
register_kept room size unit register i n room' finds removes =
    let k : Kept room size (without i (held (take size room))) n room' = remove_kept room size i n room' removes in
    rw (without_found (take size room) unit register i k.was_right finds (removed_there room size i n room' removes).1) at k

-- none has it: 77
pub register_missing : (room : List ℕ) (size unit register i : ℕ) (r : Editing) (room' : List ℕ) → size ≤ length room → Right (take size room)
    → ((k : ℕ) → k < length (held (take size room)) → ((named (held (take size room)) k).unit ≡ unit) × ((named (held (take size room)) k).register ≡ register) → ⊥)
    → Finds (take size room) unit register i → Removes room size i r room' → (r ≡ Err NothingThere) × (room' ≡ room)
unfolding remove_refusal SameKey
register_missing room size unit register i r room' fits right missing finds removes =
    let place = found_place (take size room) unit register i right finds in
    let all : i ≡ length (held (take size room)) =
    place ∙ first-none (is_at unit register (held (take size room))) (length (held (take size room)))
    (λ k l. told_false (decides_key (named (held (take size room)) k) (key_for unit register)) (missing k l)) in
    rw (le-ltb (length room) size fits, none_wrong (take size room) right, le-leb (length (held (take size room))) i (omega (arith, all))) at removes

-- a sheet that is not right is refused as `check` refuses it, whatever was found
pub register_refused : (room : List ℕ) (size i : ℕ) (f : SheetFault) (r : Editing) (room' : List ℕ) → size ≤ length room → Checks (take size room) (Err f)
    → Removes room size i r room' → (r ≡ Err (WrongSheet f)) × (room' ≡ room)
unfolding remove_refusal
register_refused room size i f r room' fits checks removes =
    rw (le-ltb (length room) size fits, checked_refused (check_refusal (take size room)) (count_in (take size room)) f checks) at removes

-- which settings stay, said out: of each part those of that part, and of one setting all or none
pub besides_parts : (unit register : ℕ) (xs ys : List Setting) → besides unit register (xs ++ ys) ≡ besides unit register xs ++ besides unit register ys
unfolding besides
besides_parts unit register [] ys = refl
besides_parts unit register (s ∷ xs) ys = go (same_key s.named (key_for unit register)) (besides_parts unit register xs ys)
  where
    go : (t : Bool) → besides unit register (xs ++ ys) ≡ besides unit register xs ++ besides unit register ys
        → cond t (besides unit register (xs ++ ys)) (s ∷ besides unit register (xs ++ ys))
        ≡ cond t (besides unit register xs) (s ∷ besides unit register xs) ++ besides unit register ys
    go true later = later
    go false later = ap (λ (l : List Setting). s ∷ l) later

pub besides_one : (unit register : ℕ) (s : Setting)
    → ((s.named.unit ≡ unit) × (s.named.register ≡ register) → besides unit register (s ∷ []) ≡ [])
    × (((s.named.unit ≡ unit) × (s.named.register ≡ register) → ⊥) → besides unit register (s ∷ []) ≡ s ∷ [])
unfolding besides SameKey
besides_one unit register s = (
  λ same. rw (told_true (decides_key s.named (key_for unit register)) same) refl,
  λ other. rw (told_false (decides_key s.named (key_for unit register)) other) refl,
)

-- ---- the definitions, said out

-- a text is cut at each newline: `a`, a newline, `b`; nothing; and behind a newline at the end stands an empty line. Lines.antt has it of any text
pub lines_plainly : (lines_of (97 ∷ 10 ∷ 98 ∷ []) ≡ (97 ∷ []) ∷ (98 ∷ []) ∷ []) × (lines_of [] ≡ [] ∷ [])
    × ((text : List ℕ) → lines_of (text ++ (10 ∷ [])) ≡ lines_of text ++ ([] ∷ []))
unfolding lines_of in_front
lines_plainly = (refl, refl, lines_end)

-- what is told of a line that says nothing, of one that is wrong, and of one that is right in itself: where 128 stand before it, where it is above the
-- nearest before it, and where it is not
pub report_plainly : (number many : ℕ) (before : Head) (f : LineFault) (r : Record)
    → (report_of number many before (Ok None) ≡ [])
    × (report_of number many before (Err f) ≡ number ∷ fault_word f ∷ key_of f ∷ [])
    × (128 ≤ many → report_of number many before (Ok (Some r)) ≡ number ∷ 0 ∷ 9 ∷ [])
    × (many < 128 → Above before r.head → report_of number many before (Ok (Some r)) ≡ [])
    × (many < 128 → (Above before r.head → ⊥) → report_of number many before (Ok (Some r)) ≡ number ∷ 0 ∷ 10 ∷ [])
report_plainly number many before f r = (
  refl,
  refl,
  λ l. rw (le-leb 128 many l) refl,
  λ l above. rw (lt-leb 128 many l, told_true (decides_above before r.head) above) refl,
  λ l below. rw (lt-leb 128 many l, told_false (decides_above before r.head) below) refl,
)

-- the first that is right in itself is never out of order
pub first_plainly : (number : ℕ) (line : List ℕ) (r : Record) → said line ≡ Ok (Some r) → report_of number 0 (head 0 0 0 0) (Ok (Some r)) ≡ []
first_plainly number line r is = rw (told_true (decides_above (head 0 0 0 0) r.head) (above_none r.head (said_so line r is).allowed)) refl

-- and how it counts for the lines behind it: only what is right in itself does, whatever else is told of it
pub counts_plainly : (many : ℕ) (before : Head) (f : LineFault) (r : Record)
    → ((many_after many (Ok None) ≡ many) × (nearest before (Ok None) ≡ before))
    × ((many_after many (Err f) ≡ many) × (nearest before (Err f) ≡ before))
    × ((many < 128 → many_after many (Ok (Some r)) ≡ suc many) × (nearest before (Ok (Some r)) ≡ r.head))
counts_plainly many before f r = ((refl, refl), (refl, refl), (λ l. rw (lt-leb 128 many l) refl, refl))

-- the keys of a line that is wrong, in the table's order
pub keys_of_plainly : (k : ℕ) → (key_of line.FewWords ≡ 1) × (key_of (line.NoNumber k) ≡ 2) × (key_of line.NoModule ≡ 3) × (key_of line.NoRegister ≡ 4) × (key_of line.NoKind ≡ 5)
    × (key_of line.BadCount ≡ 6) × (key_of line.OtherCount ≡ 7) × (key_of (line.NotFitting k) ≡ 8)
keys_of_plainly k = (refl, refl, refl, refl, refl, refl, refl, refl)

pub keys_plainly : (number_of_key 1 ≡ 0) × (number_of_key 2 ≡ 0) × (number_of_key 3 ≡ 69) × (number_of_key 4 ≡ 0) × (number_of_key 5 ≡ 69) × (number_of_key 6 ≡ 69)
    × (number_of_key 7 ≡ 69) × (number_of_key 8 ≡ 43) × (number_of_key 9 ≡ 79) × (number_of_key 10 ≡ 68)
unfolding number_of_key
keys_plainly = (refl, refl, refl, refl, refl, refl, refl, refl, refl, refl)
