-- And back: a text as `show` writes it is what is shown of its own settings.
-- Assumes nothing.
use Rattle.std.specs.Prelude.{Ok, Some}
use mathlib.Core.Path.{◌≡◌, refl, sym, ap, ◌∙◌}
use mathlib.Core.List.{List, [], ◌∷◌, ◌++◌}
use Prim.Native.Nat.{ℕ}
use lib.ListN.{replicate}
use Rattle.setting.specs.Setting.{Setting}
use Rattle.sheet.specs.declared.Record.{Record}
use Rattle.sheet_line.specs.Words.{words_of}
use Rattle.sheet_line.specs.Line.{setting_in, value_in, room_after, line_of, Canonical, Reads}
use Rattle.sheet_line.proofs.Joined.{Every, at_every}
use Rattle.sheet_line.proofs.Again.{written_again}
use Rattle.sheet_teller.specs.Teller.{text_of}
use Rattle.sheet_maker.specs.Maker.{said, settings_from, settings_of}
use Rattle.sheet_maker.proofs.Steps.{setting_read}
use Rattle.sheet_texts.specs.Texts.{CanonicalText}
use Rattle.sheet_texts.proofs.Lines.{ended, text_ended}
use Rattle.sheet_texts.proofs.There.{Says, said_none, text_none, text-more}

-- a line as it is written is the line of its setting
line_again : (line : List ℕ) (r : Record) → Canonical line → said line ≡ Ok (Some r) → line_of (setting_in (words_of line)) ≡ line
line_again line r c is =
    let bytes : List ℕ = room_after (said line) (value_in (words_of line)) (replicate 240 0) in
    let reads : Reads line (replicate 240 0) (Ok (Some r)) bytes = (sym is, refl) in
    ap line_of (sym (setting_read line (replicate 240 0) (Ok (Some r)) r bytes refl reads)) ∙ written_again line (replicate 240 0) r bytes c reads

settings_none : settings_from ([] ∷ []) ≡ []
unfolding settings_from
settings_none = rw said_none refl

settings_more : (line : List ℕ) (lines : List (List ℕ)) (r : Record) → said line ≡ Ok (Some r) → settings_from (line ∷ lines) ≡ setting_in (words_of line) ∷ settings_from lines
unfolding settings_from
settings_more line lines r is = rw is refl

text_again : (lines : List (List ℕ)) → Every Canonical lines → Every Says lines → text_of (settings_from (lines ++ ([] ∷ []))) ≡ ended lines
text_again [] each says = ap text_of settings_none ∙ text_none
text_again (line ∷ lines) each says =
    let rest : List Setting = settings_from (lines ++ ([] ∷ [])) in
    let later : text_of rest ≡ ended lines = text_again lines each.1 says.1 in
    let here : line_of (setting_in (words_of line)) ≡ line = line_again line says.0.0 each.0 says.0.1 in
    ap text_of (settings_more line (lines ++ ([] ∷ [])) says.0.0 says.0.1)
    ∙ (text-more (setting_in (words_of line)) rest ∙ rw (here, later) refl)

pub text_back : (text : List ℕ) → CanonicalText text → text_of (settings_of text) ≡ text
unfolding settings_of
text_back text c =
    ap (λ (l : List (List ℕ)). text_of (settings_from l)) c.cut
    ∙ (text_again c.lines (at_every Canonical c.lines [] c.each) (at_every Says c.lines [] c.says) ∙ text_ended text c.lines c.cut)
