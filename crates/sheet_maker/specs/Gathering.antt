-- How the settings of a text are gathered: what each line does to what was gathered of the lines before it.
-- Assumes nothing.
use Rattle.std.specs.Prelude.{◌≡◌, List, ◌++◌, ℕ, suc, ◌+◌, ◌*◌, ◌≤◌, ◌<◌, length}
use Rattle.lent.specs.Lent.{over, over_at}
use Rattle.setting.specs.declared.Head.{Head}
use Rattle.setting.specs.Setting.{Setting}
use Rattle.sheet.specs.Sheet.{record_for, values_for}
use Rattle.sheet_writer.specs.Writer.{rows_for}
use Rattle.sheet_line.specs.Answers.{Line}
use Rattle.sheet_maker.specs.Maker.{settings_from, settings_of, report_of, many_after, nearest, reports_from, reports_of}
use Rattle.sheet_maker.specs.declared.gathering.Page.{Page}

-- numbers are told from a place of the list on, as far as it goes: what comes behind them goes on as if it stood there with them
abbrev pub Tells : List ℕ → ℕ → List ℕ → ℕ → List ℕ → Type 0
Tells numbers at list at' list' = (rest : List ℕ) → over_at at' rest list' ≡ over_at at (numbers ++ rest) list

-- a page with one bad line more
pub record Reported (page page' : Page) : Type 0 where
  pub many : page'.many ≡ page.many
  pub size : page'.size ≡ page.size
  pub before : page'.before ≡ page.before
  pub wrong : page'.wrong ≡ page.wrong + 1

-- a page with one setting more, which was put behind the others
pub record Put (page page' : Page) (named : Head) (value rows rows' values values' : List ℕ) : Type 0 where
  pub many : page'.many ≡ page.many + 1
  pub size : page'.size ≡ page.size + length value
  pub before : page'.before ≡ named
  pub wrong : page'.wrong ≡ page.wrong
  pub told : page'.told ≡ page.told
  pub in_rows : rows' ≡ over_at (8 * page.many) (record_for named (length value)) rows
  pub in_values : values' ≡ over_at page.size value values

-- so much was gathered at most when the line of that number comes
pub record Ready (number : ℕ) (page : Page) : Type 0 where
  pub few : page.many ≤ 128
  pub short : page.size ≤ 240 * page.many
  pub wrong : page.wrong < number

-- a line that says this, and these settings, was taken: what comes behind it goes on as if it stood there from the first
pub record Taken (number : ℕ) (what : Line) (settings : List Setting) (page page' : Page) (rows rows' values values' list list' : List ℕ) : Type 0 where
  pub many : page'.many ≡ many_after page.many what
  pub before : page'.before ≡ nearest page.before what
  pub few : page'.many ≤ 128
  pub short : page'.size ≤ 240 * page'.many
  pub wrong : 3 * page'.wrong ≡ 3 * page.wrong + length (report_of number page.many page.before what)
  pub at_most : page'.wrong ≤ number
  pub told : (rest : List ℕ) → over_at page'.told rest list' ≡ over_at page.told (report_of number page.many page.before what ++ rest) list
  pub in_rows : page'.wrong ≡ 0 → (rest : List ℕ) → over_at (8 * page'.many) rest rows' ≡ over_at (8 * page.many) (rows_for settings ++ rest) rows
  pub in_values : page'.wrong ≡ 0 → (rest : List ℕ) → over_at page'.size rest values' ≡ over_at page.size (values_for settings ++ rest) values
  pub counted : page'.wrong ≡ 0 → page'.many ≡ page.many + length settings
  pub long : page'.wrong ≡ 0 → page'.size ≡ page.size + length (values_for settings)

-- what the lines from a place on still give, behind what was gathered, is what all lines give
pub record Gathered (text : List ℕ) (lines : List (List ℕ)) (number : ℕ) (page : Page) (rows₀ rows values₀ values list₀ list : List ℕ) : Type 0 where
  pub few : page.many ≤ 128
  pub short : page.size ≤ 240 * page.many
  pub at_most : page.wrong ≤ number
  pub told : over_at page.told (reports_from (suc number) page.many page.before lines) list ≡ over (reports_of text) list₀
  pub wrong : 3 * page.wrong + length (reports_from (suc number) page.many page.before lines) ≡ length (reports_of text)
  pub in_rows : page.wrong ≡ 0 → over_at (8 * page.many) (rows_for (settings_from lines)) rows ≡ over (rows_for (settings_of text)) rows₀
  pub in_values : page.wrong ≡ 0 → over_at page.size (values_for (settings_from lines)) values ≡ over (values_for (settings_of text)) values₀
  pub counted : page.wrong ≡ 0 → page.many + length (settings_from lines) ≡ length (settings_of text)
  pub long : page.wrong ≡ 0 → page.size + length (values_for (settings_from lines)) ≡ length (values_for (settings_of text))
