-- What the laws of texts ask for is met: by the page's example, and by a text that is bad.
-- Assumes nothing.
use Rattle.std.specs.Prelude.{Ok, Err}
use mathlib.Core.Path.{◌≡◌, refl, ap, subst, ◌∙◌}
use mathlib.Core.List.{List, [], ◌∷◌}
use Prim.Native.Nat.{ℕ}
use native.Mathlib.Omega.{arith}
use lib.ListN.{length, replicate}
use Rattle.lent.specs.Lent.{over}
use Rattle.rows.specs.Settled.{Settled}
use Rattle.first.specs.First.{first_place, passed_from}
use Rattle.values.specs.Values.{Bytes, natural, size_of, is_signed, greatest, fits}
use Rattle.numerals.specs.Numerals.{digit_of, are_digits, worth, is_minus, unsigned_at, is_hex, base_of, figures_at, figures_of, is_number, amount_of, below, value_of, under, limited_to}
use Rattle.setting.specs.Setting.{length_of, some_of, is_above, head_of, rows_in, heads}
use Rattle.sheet_line.specs.Words.{plain, is_blank, with_word, onto, parted, words_in, words_of, same}
use Rattle.sheet_line.specs.Line.{name_of, kind_of, small_at, head_in, is_no_number, is_unfit, line_refusal, said_by}
use Rattle.text.specs.Text.{ascii}
use Rattle.setting.specs.declared.Fault.TheVariants.{NoRoom, ShortSheet}
use Rattle.sheet.specs.Sheet.{sheet_of, Right, field_at, count_in, records_in, held, Checks}
use Rattle.sheet.proofs.Steps.{check_short}
use Rattle.sheet_teller.specs.Teller.{text_of, show_refusal, Shows}
use Rattle.sheet_maker.specs.Answers.{Making}
use Rattle.sheet_maker.specs.declared.NotMade.TheVariants as not_made
use Rattle.sheet_maker.specs.Maker.{in_front, lines_of, settings_of, reports_from, reports_of, Makes, Finds}
use Rattle.sheet_maker.proofs.Laws.{makes_settled}
use Rattle.sheet_texts.specs.Texts.{CanonicalText, MadeOf}
use Rattle.sheet_texts.specs.Table.{page_text, page_sheet, page_shown}
use Rattle.sheet_texts.proofs.Bytes.{text_proper, bytes_sheet}
use Rattle.sheet_texts.proofs.There.{text_canonical}
use Rattle.sheet_texts.proofs.Table.{page_right, page_made, page_shown_lem}
use Rattle.sheet_texts.proofs.Laws.{made_of, make_refused, make_wrong, make_done}
use Rattle.sheet_texts.proofs.Register.{none_wrong}

-- ---- the page's text is made its sheet

pub page_makes : Makes page_text [] (replicate 46 0) (Ok 46) [] page_sheet
unfolding over
page_makes =
    let s = makes_settled page_text [] (replicate 46 0) in
    let long : length (sheet_of (settings_of page_text)) ≡ 46 = ap length page_made in
    let d = make_done page_text [] (replicate 46 0) s.outcome.0 s.outcome.1 s.outcome.2 page_right (omega (arith, long)) s.is_allowed_lem in
    let laid : s.outcome.2 ≡ page_sheet = d.2 ∙ ap (λ (l : List ℕ). over l (replicate 46 0)) page_made in
    rw (d.0 ∙ ap Ok long, d.1, laid) at s.is_allowed_lem

-- it is right, it holds the text's settings, and it is of bytes
page_held : MadeOf page_text (replicate 46 0) 46 page_sheet
page_held = (made_of page_text [] (replicate 46 0) 46 [] page_sheet page_makes).0

pub page_sheet_lem : Right page_sheet × (held page_sheet ≡ settings_of page_text) × Bytes page_sheet
page_sheet_lem = (page_held.is_right, page_held.holds, subst Bytes page_made (bytes_sheet (settings_of page_text) (text_proper page_text)))

-- ---- which is shown as a text that is as `show` writes it

pub page_canonical : CanonicalText page_shown
page_canonical = subst CanonicalText page_shown_lem (text_canonical (settings_of page_text) (text_proper page_text))

pub page_shows : Shows page_sheet (replicate 57 0) (Ok 57) page_shown
unfolding over show_refusal
page_shows =
    let text : text_of (held page_sheet) ≡ page_shown = ap text_of page_sheet_lem.1 ∙ page_shown_lem in
    rw (none_wrong page_sheet page_sheet_lem.0, text) (refl, refl)

-- ---- a room that is too short for it

pub page_refused : Makes page_text [] [] (Err (not_made.Refused NoRoom)) [] []
unfolding over
page_refused = go s.outcome.0 s.outcome.1 s.outcome.2 s.is_allowed_lem
  where
    s : Settled {A = Making × List ℕ × List ℕ} (λ o. Makes page_text [] [] o.0 o.1 o.2)
    s = makes_settled page_text [] []

    go : (r : Making) (list room : List ℕ) → Makes page_text [] [] r list room → Makes page_text [] [] (Err (not_made.Refused NoRoom)) [] []
    go (Ok n) list room p =
        let m : MadeOf page_text [] n room = (made_of page_text [] [] n list room p).0 in absurd (omega (arith, m.fits, m.long, ap length page_made))
    go (Err (not_made.Wrong n)) list room p =
        let w = make_wrong page_text [] [] n list room p in absurd (omega (arith, w.0, w.2, ap length page_right))
    go (Err (not_made.Refused f)) list room p =
        let d = make_refused page_text [] [] f list room p in rw (d.0, d.2, d.3) at p

-- ---- a text that is bad

pub bad_told : reports_of (ascii "a") ≡ 1 ∷ 0 ∷ 1 ∷ []
unfolding reports_of reports_from lines_of in_front words_of words_in plain is_blank with_word onto parted same said_by line_refusal some_of first_place passed_from is_no_number is_unfit small_at head_in length_of kind_of name_of digit_of are_digits worth is_minus unsigned_at is_hex base_of figures_at figures_of is_number amount_of below value_of under limited_to fits greatest size_of is_signed is_above
bad_told = refl

pub bad_makes : Makes (ascii "a") (0 ∷ 0 ∷ 0 ∷ []) [] (Err (not_made.Wrong 1)) (1 ∷ 0 ∷ 1 ∷ []) []
unfolding over
bad_makes = rw bad_told (refl, refl, refl)

-- ---- one register of the page's sheet, and none

pub page_found : Finds page_sheet 15 50 1 × Finds page_sheet 15 49 3
unfolding first_place passed_from count_in field_at natural rows_in records_in head_of heads
page_found = rw (none_wrong page_sheet page_sheet_lem.0) (refl, refl)

-- ---- a sheet that is not right

pub no_sheet : Checks [] (Err ShortSheet)
no_sheet = check_short [] (omega arith)
