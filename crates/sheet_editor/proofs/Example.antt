-- The sheet of two settings in a buffer of 36 bytes, computed: its first record thrown out and added again, and all of its module thrown out. The
-- bytes behind each new sheet are those that stood there.
-- Assumes nothing.
use Rattle.std.specs.Prelude.{Ok}
use mathlib.Core.Path.{refl}
use mathlib.Core.List.{List, [], ◌∷◌, ◌++◌}
use Prim.Native.Nat.{ℕ}
use lib.ListN.{drop}
use Rattle.first.specs.First.{first_place, passed_from}
use Rattle.lent.specs.Lent.{over}
use Rattle.values.specs.Values.{size_of, bytes_of, natural}
use Rattle.setting.specs.Setting.{head, length_of, lengths_to, head_of, tail_of, rows_in, heads, tails, settings_in, is_above, is_allowed, falls, unfit, some_of}
use Rattle.sheet.specs.Sheet.{header_for, record_for, records_for, values_for, sheet_of, named, field_at, version_in, count_in, records_at, values_at, records_in, values_in, held, is_misplaced, check_refusal}
use Rattle.sheet.proofs.Example.{two_bytes}
use Rattle.sheet_editor.specs.Editor.{without, others, among, remove_refusal, module_refusal, add_refusal, Removes, RemovesModule, Adds}

abbrev pub room : List ℕ
room = two_bytes ++ (9 ∷ 9 ∷ 9 ∷ 9 ∷ [])

-- the second record alone, and behind it what stood there
abbrev pub room_then : List ℕ
room_then =
    1 ∷ 0 ∷ 1 ∷ 0 ∷ 12 ∷ 0 ∷ 0 ∷ 0 ∷ 20 ∷ 0 ∷ 0 ∷ 0
    ∷ 15 ∷ 50 ∷ 1 ∷ 2 ∷ 0 ∷ 0 ∷ 0 ∷ 0
    ∷ 1 ∷ 2 ∷ drop 22 room

pub first_out : Removes room 32 0 (Ok 22) room_then
unfolding without remove_refusal first_place passed_from over natural bytes_of size_of length_of lengths_to head_of tail_of rows_in heads tails settings_in is_above is_allowed falls unfit some_of
    header_for record_for records_for values_for sheet_of field_at version_in count_in records_at values_at records_in values_in held is_misplaced check_refusal
first_out = (refl, refl)

pub first_back : Adds room_then 22 (head 15 48 3 1) (52 ∷ 18 ∷ []) (Ok 32) room
unfolding among named add_refusal first_place passed_from over natural bytes_of size_of length_of lengths_to head_of tail_of rows_in heads tails settings_in is_above is_allowed falls unfit some_of
    header_for record_for records_for values_for sheet_of field_at version_in count_in records_at values_at records_in values_in held is_misplaced check_refusal
first_back = (refl, refl)

pub all_out : RemovesModule room 32 15 (Ok 12) (1 ∷ 0 ∷ 0 ∷ 0 ∷ 12 ∷ 0 ∷ 0 ∷ 0 ∷ 12 ∷ 0 ∷ 0 ∷ 0 ∷ drop 12 room)
unfolding others named module_refusal first_place passed_from over natural bytes_of size_of length_of lengths_to head_of tail_of rows_in heads tails settings_in is_above is_allowed falls unfit some_of
    header_for record_for records_for values_for sheet_of field_at version_in count_in records_at values_at records_in values_in held is_misplaced check_refusal
all_out = (refl, refl)
