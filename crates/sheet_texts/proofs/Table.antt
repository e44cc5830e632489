-- The tables of texts, computed.
-- Assumes nothing.
use mathlib.Core.Path.{◌≡◌, refl}
use mathlib.Core.Bool.{Bool, true, false, ◌&&◌}
use mathlib.Core.List.{List, [], ◌∷◌}
use Rattle.first.specs.First.{first_place, passed_from}
use Rattle.text.specs.Text.{decimal, decimal_by}
use Rattle.values.specs.Values.{size_of, is_signed, is_kind, greatest, fits, bytes_of, stored_at, natural, value_at, element_of, read_refusal, read_value}
use Rattle.numerals.specs.Numerals.{digit_of, are_digits, worth, is_minus, unsigned_at, is_hex, base_of, figures_at, figures_of, is_number, amount_of, below, value_of, under, limited_to, spelt}
use Rattle.setting.specs.Setting.{length_of, some_of, is_above}
use Rattle.sheet.specs.Sheet.{header_for, record_for, records_for, values_for, sheet_of}
use Rattle.sheet_line.specs.Words.{plain, is_blank, with_word, onto, parted, words_in, words_of, same}
use Rattle.sheet_line.specs.Line.{name_of, kind_of, small_at, head_in, bytes_in, value_in, setting_in, is_no_number, is_unfit, line_refusal, said_by, element_text, elements_from, line_of}
use Rattle.sheet_teller.specs.Teller.{hex_digit, hex_of, call_of, piece_of, pieces_of, text_of, calls_of}
use Rattle.sheet_maker.specs.Maker.{in_front, lines_of, settings_from, settings_of, reports_from, reports_of}
use Rattle.sheet_texts.specs.Table.{Example, holds, all_hold, right, wrong, several, numbers_table, keys_table, lines_table, page_text, page_sheet, page_shown, page_calls}
use lib.Dec.{T}
use Rattle.sheet_line.proofs.Joined.{Every}
use Rattle.sheet_line.proofs.Naming.{decides_same}

pub numbers_hold : T (all_hold numbers_table)
unfolding reports_of reports_from lines_of in_front words_of words_in plain is_blank with_word onto parted same said_by line_refusal some_of first_place passed_from is_no_number is_unfit small_at head_in length_of kind_of name_of digit_of are_digits worth is_minus unsigned_at is_hex base_of figures_at figures_of is_number amount_of below value_of under limited_to fits greatest size_of is_signed is_above
numbers_hold = tt

pub keys_hold : T (all_hold keys_table)
unfolding reports_of reports_from lines_of in_front words_of words_in plain is_blank with_word onto parted same said_by line_refusal some_of first_place passed_from is_no_number is_unfit small_at head_in length_of kind_of name_of digit_of are_digits worth is_minus unsigned_at is_hex base_of figures_at figures_of is_number amount_of below value_of under limited_to fits greatest size_of is_signed is_above
keys_hold = tt

pub lines_hold : T (all_hold lines_table)
unfolding reports_of reports_from lines_of in_front words_of words_in plain is_blank with_word onto parted same said_by line_refusal some_of first_place passed_from is_no_number is_unfit small_at head_in length_of kind_of name_of digit_of are_digits worth is_minus unsigned_at is_hex base_of figures_at figures_of is_number amount_of below value_of under limited_to fits greatest size_of is_signed is_above
lines_hold = tt

-- the page's text makes this sheet, which is shown and asked for so
pub page_made : sheet_of (settings_of page_text) ≡ page_sheet
unfolding settings_of settings_from lines_of in_front setting_in value_in bytes_in bytes_of stored_at sheet_of header_for records_for record_for values_for words_of words_in plain is_blank with_word onto parted same said_by line_refusal some_of first_place passed_from is_no_number is_unfit small_at head_in length_of kind_of name_of digit_of are_digits worth is_minus unsigned_at is_hex base_of figures_at figures_of is_number amount_of below value_of under limited_to fits greatest size_of is_signed
page_made = refl

pub page_shown_lem : text_of (settings_of page_text) ≡ page_shown
unfolding pieces_of piece_of line_of decimal decimal_by elements_from element_text read_value read_refusal is_kind value_at natural element_of spelt settings_of settings_from lines_of in_front setting_in value_in bytes_in bytes_of stored_at words_of words_in plain is_blank with_word onto parted same said_by line_refusal some_of first_place passed_from is_no_number is_unfit small_at head_in length_of kind_of name_of digit_of are_digits worth is_minus unsigned_at is_hex base_of figures_at figures_of is_number amount_of below value_of under limited_to fits greatest size_of is_signed
page_shown_lem = refl

pub page_asked : calls_of (record { job = 7; wait = 500; clock = 40 }) (settings_of page_text) ≡ page_calls
unfolding pieces_of piece_of call_of hex_of hex_digit decimal decimal_by settings_of settings_from lines_of in_front setting_in value_in bytes_in bytes_of stored_at words_of words_in plain is_blank with_word onto parted same said_by line_refusal some_of first_place passed_from is_no_number is_unfit small_at head_in length_of kind_of name_of digit_of are_digits worth is_minus unsigned_at is_hex base_of figures_at figures_of is_number amount_of below value_of under limited_to fits greatest size_of is_signed
page_asked = refl

-- the page's text has no bad line
pub page_right : reports_of page_text ≡ []
unfolding reports_of reports_from lines_of in_front words_of words_in plain is_blank with_word onto parted same said_by line_refusal some_of first_place passed_from is_no_number is_unfit small_at head_in length_of kind_of name_of digit_of are_digits worth is_minus unsigned_at is_hex base_of figures_at figures_of is_number amount_of below value_of under limited_to fits greatest size_of is_signed is_above
page_right = refl

-- a table that holds says of each of its texts what is told of it
pub table_so : (table : List Example) → T (all_hold table) → Every (λ (e : Example). reports_of e.text ≡ e.told) table
table_so [] t = tt
table_so (e ∷ rest) t = let p = two (holds e) (all_hold rest) t in ((decides_same (reports_of e.text) e.told).so p.0, table_so rest p.1)
  where
    two : (a b : Bool) → T (a && b) → (a ≡ true) × T b
    two true b u = (refl, u)
    two false b u = absurd u

-- and one with a row that is wrong does not hold: of one line, of its word or key, of several lines, behind a row that holds
pub table_refuses : (holds (right "161 48 U8 1 7") ≡ false) × (holds (wrong "161 48 U8 1 7" 2 3) ≡ false) × (holds (wrong "161 48 U8 1 7" 1 4) ≡ false)
    × (holds (several ("" ∷ "a" ∷ []) []) ≡ false) × (all_hold (right "" ∷ right "a" ∷ []) ≡ false)
unfolding reports_of reports_from lines_of in_front words_of words_in plain is_blank with_word onto parted same said_by line_refusal some_of first_place passed_from is_no_number is_unfit small_at head_in length_of kind_of name_of digit_of are_digits worth is_minus unsigned_at is_hex base_of figures_at figures_of is_number amount_of below value_of under limited_to fits greatest size_of is_signed is_above
table_refuses = (refl, refl, refl, refl, refl)
