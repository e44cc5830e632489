-- A sheet that is made of a text is of bytes, and each of its settings is one that a line can say.
-- Assumes nothing.
use Rattle.std.specs.Prelude.{Ok, Err, Some, None}
use mathlib.Core.Path.{◌≡◌, refl, ap, ◌∙◌}
use mathlib.Core.List.{List, [], ◌∷◌, ◌++◌}
use Prim.Native.Nat.{ℕ, zero, suc, ◌+◌, ◌*◌}
use native.Mathlib.Omega.{arith}
use lib.ListN.{length}
use Rattle.values.specs.Values.{Bytes, bytes_of}
use Rattle.values.proofs.Bytes.{bytes_bytes_of}
use Rattle.setting.specs.Setting.{Setting, length_of}
use Rattle.sheet.specs.declared.Record.{Record}
use Rattle.sheet.specs.Sheet.{header_for, record_for, records_for, values_for, sheet_of}
use Rattle.sheet_editor.proofs.Rising.{Each}
use Rattle.sheet_line.proofs.Sound.{bytes_append}
use Rattle.sheet_line.specs.Words.{words_of}
use Rattle.sheet_line.specs.Line.{setting_in}
use Rattle.sheet_line.specs.Answers.{Line}
use Rattle.sheet_line.proofs.There.{Proper, proper_head}
use Rattle.sheet_maker.specs.Maker.{lines_of, said, setting_of, settings_from, settings_of}
use Rattle.sheet_maker.proofs.Whole.{said_so}

-- ---- the settings of a text

said_proper : (line : List ℕ) (r : Record) → said line ≡ Ok (Some r) → Proper (setting_in (words_of line))
unfolding setting_in
said_proper line r is =
    let so = said_so line r is in
    record { allowed = rw so.named at so.allowed; register = rw so.named at so.register; many = so.many ∙ ap length_of so.named; bytes = so.bytes }

settings_proper : (lines : List (List ℕ)) → Each Proper (settings_from lines)
unfolding settings_from Each
settings_proper [] = tt
settings_proper (line ∷ lines) = go (said line) refl (settings_proper lines)
  where
    go : (what : Line) → said line ≡ what → Each Proper (settings_from lines) → Each Proper (setting_of what line ++ settings_from lines)
    go (Ok None) is each = each
    go (Err f) is each = each
    go (Ok (Some r)) is each = (said_proper line r is, each)

pub text_proper : (text : List ℕ) → Each Proper (settings_of text)
unfolding settings_of
text_proper text = settings_proper (lines_of text)

-- ---- their sheet

bytes_header : (n : ℕ) → Bytes (header_for n)
unfolding header_for
bytes_header n =
    bytes_append (bytes_of 2 1) _ (bytes_bytes_of 2 1) (bytes_append (bytes_of 2 n) _ (bytes_bytes_of 2 n)
    (bytes_append (bytes_of 4 12) (bytes_of 4 (12 + 8 * n)) (bytes_bytes_of 4 12) (bytes_bytes_of 4 (12 + 8 * n))))

bytes_record : (s : Setting) (offset : ℕ) → Proper s → Bytes (record_for s.named offset)
unfolding record_for
bytes_record s offset p zero = omega (arith, (proper_head s p).0.1)
bytes_record s offset p (suc zero) = p.register
bytes_record s offset p (suc (suc zero)) = omega (arith, (proper_head s p).1.0.1)
bytes_record s offset p (suc (suc (suc zero))) = omega (arith, (proper_head s p).1.1.1)
bytes_record s offset p (suc (suc (suc (suc i)))) = bytes_bytes_of 4 offset i

bytes_records : (offset : ℕ) (settings : List Setting) → Each Proper settings → Bytes (records_for offset settings)
unfolding records_for Each
bytes_records offset [] each = λ i. omega arith
bytes_records offset (s ∷ rest) each =
    bytes_append (record_for s.named offset) (records_for (offset + length s.value) rest) (bytes_record s offset each.0)
    (bytes_records (offset + length s.value) rest each.1)

bytes_values : (settings : List Setting) → Each Proper settings → Bytes (values_for settings)
unfolding values_for Each
bytes_values [] each = λ i. omega arith
bytes_values (s ∷ rest) each = bytes_append s.value (values_for rest) each.0.bytes (bytes_values rest each.1)

pub bytes_sheet : (settings : List Setting) → Each Proper settings → Bytes (sheet_of settings)
unfolding sheet_of
bytes_sheet settings each =
    bytes_append (header_for (length settings)) (records_for 0 settings ++ values_for settings) (bytes_header (length settings))
    (bytes_append (records_for 0 settings) (values_for settings) (bytes_records 0 settings each) (bytes_values settings each))
