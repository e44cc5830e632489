-- What is told of texts: docs/SHEETS.md's table of keys, both sides of each limit, ranking where several apply, and its own example. Computed.
-- Assumes nothing.
use Rattle.std.specs.Prelude.{Bool, true, ◌&&◌, List, [], ◌∷◌, ◌++◌, ℕ}
use Prim.Native.String.{String}
use Rattle.text.specs.Text.{ascii, newline}
use Rattle.sheet_line.specs.Words.{same}
use Rattle.sheet_maker.specs.Maker.{reports_of}

-- a text, and the numbers that are told of it: line, word and key for each bad line
pub record Example : Type 0 where
  pub text : List ℕ
  pub told : List ℕ

abbrev pub lines : List String → List ℕ
lines [] = []
lines (line ∷ rest) = ascii line ++ (newline ++ lines rest)

abbrev pub tells : String → List ℕ → Example
tells line told = record { text = ascii line; told = told }

abbrev pub holds : Example → Bool
holds e = same (reports_of e.text) e.told

abbrev pub all_hold : List Example → Bool
all_hold [] = true
all_hold (e ∷ rest) = holds e && all_hold rest

abbrev pub right : String → Example
right line = tells line []

-- wrong at a word, by a key from 1 on: words number module register kind count values fit many order
abbrev pub wrong : String → ℕ → ℕ → Example
wrong line word key = tells line (1 ∷ word ∷ key ∷ [])

abbrev pub numbers_table : List Example
numbers_table =
    right "15 48 U16 1 4660"
    ∷ right "0x0F 0x30 U16 1 0x1234"
    ∷ right "015 00048 U16 01 004660"
    ∷ right "15 48 I8 1 -0"
    ∷ wrong "15 48 U16 1 0X10" 5 2
    ∷ wrong "15 48 U16 1 0x" 5 2
    ∷ wrong "15 48 U16 1 0xg" 5 2
    ∷ right "15 48 U8 1 0xfF"
    ∷ wrong "15 48 U16 1 +1" 5 2
    ∷ wrong "15 48 U16 1 -" 5 2
    ∷ wrong "15 48 U16 1 1a" 5 2
    ∷ wrong "15 48 I8 1 --1" 5 2
    ∷ right "15 48 I8 1 -0x80"
    ∷ wrong "15 48 U64 1 18446744073709551616" 5 8
    ∷ right "15 48 U64 1 18446744073709551615"
    ∷ []

abbrev pub keys_table : List Example
keys_table =
    right ""
    ∷ right "  \t "
    ∷ right "# 15 48"
    ∷ right "15 48 U8 1 7#8 9"
    ∷ right "\t15  48\tU8 1 7 "
    ∷ wrong "15 48 U8" 0 1
    ∷ wrong "a" 0 1
    ∷ wrong "15 48 U8 1" 0 7
    ∷ wrong "x 48 U8 1 7" 1 2
    ∷ wrong "15 48 U8 y z" 4 2
    ∷ wrong "0 256 x 0 1 +1" 6 2
    ∷ wrong "0 256 x 0 1" 1 3
    ∷ wrong "15 256 x 0 1" 2 4
    ∷ wrong "15 -1 U8 1 1" 2 4
    ∷ wrong "15 48 x 0 1" 3 5
    ∷ wrong "15 48 U8 -1 1" 4 6
    ∷ wrong "15 48 U8 0 256" 4 6
    ∷ wrong "0 48 U8 1 7" 1 3
    ∷ right "1 48 U8 1 7"
    ∷ right "160 48 U8 1 7"
    ∷ wrong "161 48 U8 1 7" 1 3
    ∷ wrong "-1 256 U8 1 7" 1 3
    ∷ right "15 0 U8 1 7"
    ∷ right "15 255 U8 1 7"
    ∷ wrong "15 256 U9 1 7" 2 4
    ∷ wrong "15 48 u8 0 7" 3 5
    ∷ wrong "15 48 8 0 7" 3 5
    ∷ wrong "15 48 U8 0" 4 6
    ∷ wrong "15 48 U8 241" 4 6
    ∷ wrong "15 48 U8 240" 0 7
    ∷ wrong "15 48 I8 241" 4 6
    ∷ wrong "15 48 I8 240" 0 7
    ∷ wrong "15 48 U16 121" 4 6
    ∷ wrong "15 48 U16 120" 0 7
    ∷ wrong "15 48 I16 121" 4 6
    ∷ wrong "15 48 I16 120" 0 7
    ∷ wrong "15 48 U32 61" 4 6
    ∷ wrong "15 48 U32 60" 0 7
    ∷ wrong "15 48 I32 61" 4 6
    ∷ wrong "15 48 I32 60" 0 7
    ∷ wrong "15 48 U64 31" 4 6
    ∷ wrong "15 48 U64 30" 0 7
    ∷ wrong "15 48 U8 1 7 8" 0 7
    ∷ wrong "15 48 U8 2 256" 0 7
    ∷ wrong "15 48 U8 2 255 256" 6 8
    ∷ wrong "15 48 U8 1 -1" 5 8
    ∷ right "15 48 I8 2 -128 127"
    ∷ wrong "15 48 I8 2 -129 128" 5 8
    ∷ right "15 48 U16 1 65535"
    ∷ wrong "15 48 U16 1 65536" 5 8
    ∷ right "15 48 I16 2 -32768 32767"
    ∷ wrong "15 48 I16 1 32768" 5 8
    ∷ right "15 48 U32 1 4294967295"
    ∷ wrong "15 48 U32 1 4294967296" 5 8
    ∷ right "15 48 I32 2 -2147483648 2147483647"
    ∷ wrong "15 48 I32 1 2147483648" 5 8
    ∷ []

-- several lines: every bad one is told, and what is right in itself is compared with the nearest such line before it
abbrev pub several : List String → List ℕ → Example
several text told = record { text = lines text; told = told }

abbrev pub lines_table : List Example
lines_table =
    several ("15 48 U8 1 7" ∷ "15 49 U8 1 7" ∷ "16 0 U8 1 7" ∷ []) []
    ∷ several ("15 48 U8 1 7" ∷ "15 48 U8 1 7" ∷ []) (2 ∷ 0 ∷ 10 ∷ [])
    ∷ several ("16 0 U8 1 7" ∷ "# nothing" ∷ "15 255 U8 1 7" ∷ "15 256 U8 1 7" ∷ "16 0 U8 1 7" ∷ []) (3 ∷ 0 ∷ 10 ∷ 4 ∷ 2 ∷ 4 ∷ [])
    ∷ several ("a" ∷ "" ∷ "15 48 U8 1 b" ∷ []) (1 ∷ 0 ∷ 1 ∷ 3 ∷ 5 ∷ 2 ∷ [])
    ∷ []

-- docs/SHEETS.md's own text, and its sheet
abbrev pub page_text : List ℕ
page_text =
    lines
    ("# evening of the 16th, rig 2" ∷ "15 48 U16 1 4660         # lamp" ∷ "15 0x32 U8 2 1 0xff" ∷ "16 49 I16 3 -1 0 32767" ∷ [])

abbrev pub page_sheet : List ℕ
page_sheet =
    1 ∷ 0 ∷ 3 ∷ 0 ∷ 12 ∷ 0 ∷ 0 ∷ 0 ∷ 36 ∷ 0 ∷ 0 ∷ 0
    ∷ 15 ∷ 48 ∷ 3 ∷ 1 ∷ 0 ∷ 0 ∷ 0 ∷ 0
    ∷ 15 ∷ 50 ∷ 1 ∷ 2 ∷ 2 ∷ 0 ∷ 0 ∷ 0
    ∷ 16 ∷ 49 ∷ 4 ∷ 3 ∷ 4 ∷ 0 ∷ 0 ∷ 0
    ∷ 52 ∷ 18 ∷ 1 ∷ 255 ∷ 255 ∷ 255 ∷ 0 ∷ 0 ∷ 255 ∷ 127 ∷ []

-- as it is written back
abbrev pub page_shown : List ℕ
page_shown = lines ("15 48 U16 1 4660" ∷ "15 50 U8 2 1 255" ∷ "16 49 I16 3 -1 0 32767" ∷ [])

-- and asked for by job 7 at clock 40, with a wait of 500 ms
abbrev pub page_calls : List ℕ
page_calls =
    lines
    ("desk.open 7 15 5 48 3412 500 0 40 000000000000000000000000000000000000"
    ∷ "desk.open 7 15 5 50 01ff 500 0 40 000000000000000000000000000000000000"
    ∷ "desk.open 7 16 5 49 ffff0000ff7f 500 0 40 0000000000000000000000000000000000000000000000000000"
    ∷ [])
