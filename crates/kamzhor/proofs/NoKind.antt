-- A kind that no byte holds is no kind, and neither is 0: a value is refused alike for both.
-- Assumes nothing.
use mathlib.Core.Path.{◌≡◌, refl, sym}
use mathlib.Core.List.{List}
use mathlib.Core.Option.{some}
use Prim.Native.Nat.{ℕ, ◌<◌}
use lib.ListN.{length}
use Rattle.values.specs.Values.{size_of, write_refusal, room_after, Writes}
use Rattle.values.proofs.Sized.{kind_unknown}
use Rattle.values.specs.declared.Fault.TheVariants.{UnknownKind}
use Rattle.values.specs.declared.Value.{Value}
use Rattle.values.specs.Answers.{Writing}
use Rattle.kamzhor.proofs.Laws.{no_size}

zero_size : size_of 0 ≡ 0
unfolding size_of
zero_size = refl

unknown_written : (kind : ℕ) (value : Value) (n : ℕ) → size_of kind ≡ 0 → write_refusal kind value n ≡ some UnknownKind
unfolding write_refusal
unknown_written kind value n e = rw (kind_unknown kind 0 (sym e) refl)

-- so what the writer gives for 0 it gives for any kind over 7
pub zero_for_great : (kind : ℕ) (value : Value) (room : List ℕ) (r : Writing) (room' : List ℕ) → 7 < kind
    → Writes 0 value room r room' → Writes kind value room r room'
unfolding room_after
zero_for_great kind value room r room' great writes =
    rw (unknown_written kind value (length room) (no_size kind great)) (rw (unknown_written 0 value (length room) zero_size) at writes)
