-- A sheet of two settings, computed: U16 1234h in register 48 of module 15, and two U8 in register 50.
-- Assumes nothing.
use mathlib.Core.Path.{◌≡◌, refl}
use mathlib.Core.List.{List, [], ◌∷◌}
use mathlib.Core.Logic.{inr}
use Prim.Native.Nat.{ℕ, zero, suc, ◌<◌}
use native.Mathlib.Omega.{arith}
use lib.ListN.{length}
use Rattle.values.specs.Values.{size_of, bytes_of, natural}
use Rattle.setting.specs.Setting.{Setting, head, setting, length_of, Above, Allowed, head_of, settings_in}
use Rattle.sheet.specs.Sheet.{header_for, record_for, records_for, values_for, sheet_of, named, valued, Writable, field_at, count_in, records_in, values_in, held}

abbrev pub two : List Setting
two = setting (head 15 48 3 1) (52 ∷ 18 ∷ []) ∷ setting (head 15 50 1 2) (1 ∷ 2 ∷ []) ∷ []

abbrev pub two_bytes : List ℕ
two_bytes =
    1 ∷ 0 ∷ 2 ∷ 0 ∷ 12 ∷ 0 ∷ 0 ∷ 0 ∷ 28 ∷ 0 ∷ 0 ∷ 0
    ∷ 15 ∷ 48 ∷ 3 ∷ 1 ∷ 0 ∷ 0 ∷ 0 ∷ 0
    ∷ 15 ∷ 50 ∷ 1 ∷ 2 ∷ 2 ∷ 0 ∷ 0 ∷ 0
    ∷ 52 ∷ 18 ∷ 1 ∷ 2 ∷ []

pub two_written : sheet_of two ≡ two_bytes
unfolding sheet_of header_for records_for record_for values_for bytes_of
two_written = refl

pub none_written : sheet_of [] ≡ 1 ∷ 0 ∷ 0 ∷ 0 ∷ 12 ∷ 0 ∷ 0 ∷ 0 ∷ 12 ∷ 0 ∷ 0 ∷ 0 ∷ []
unfolding sheet_of header_for records_for values_for bytes_of
none_written = refl

pub two-held : held two_bytes ≡ two
unfolding held count_in records_in values_in field_at natural settings_in head_of length_of size_of
two-held = refl

-- both can be written: the promises speak of something
pub two_writable : Writable two
unfolding named valued Above Allowed length_of size_of
two_writable =
    record {
      few = omega arith;
      rise = λ k. elim k as (λ n. suc n < length two → Above (named two n) (named two (suc n))) [ zero ↦ λ h. inr (refl, omega arith) | suc j ↦ λ h. absurd (omega arith) ];
      allowed = λ k. elim k as (λ n. n < length two → Allowed (named two n)) [
        | zero ↦ λ h. ((omega arith, omega arith), ((omega arith, omega arith), ((omega arith, omega arith), omega arith)))
        | suc j ↦ elim j as (λ n. suc n < length two → Allowed (named two (suc n))) [
          | zero ↦ λ h. ((omega arith, omega arith), ((omega arith, omega arith), ((omega arith, omega arith), omega arith)))
          | suc i ↦ λ h. absurd (omega arith)
        ]
      ];
      whole = λ k. elim k as (λ n. n < length two → length (valued two n) ≡ length_of (named two n)) [
        | zero ↦ λ h. refl
        | suc j ↦ elim j as (λ n. suc n < length two → length (valued two (suc n)) ≡ length_of (named two (suc n))) [ zero ↦ λ h. refl | suc i ↦ λ h. absurd (omega arith) ]
      ];
    }
