-- `as_stored` is `stored_value`: the tests that led to each answer are those of its rows.
-- Assumes nothing.
use Rattle.std.specs.Prelude.{Ok, Err}
use mathlib.Core.Path.{◌≡◌, sym, ap, ◌∙◌}
use mathlib.Core.Bool.{true, false}
use Prim.Native.Nat.{ℕ, ◌+◌, ◌-◌, ◌*◌, ◌^◌, ◌<◌, ◌≤◌}
use native.Mathlib.Omega.{arith}
use borrow.Author.Tests.{le-leb, lt-leb}
use lib.Pow.{pow_pos}
use Rattle.values.specs.Values.{size_of, is_signed, is_kind, greatest, fits, stored_at, stored_refusal, stored_value}
use Rattle.values.specs.declared.Value.{Value}
use Rattle.values.specs.declared.Value.TheVariants.{Natural, Negative}
use Rattle.values.specs.declared.Fault.TheVariants.{UnknownKind, DoesNotFit}
use Rattle.values.proofs.Sized.{size-le, power_half, half_le, greatest_signed, kind_known, kind_unknown}
use Rattle.values.proofs.as_stored.Goals as goal
use Rattle.values.proofs.as_stored.Goals.{else-signed-via-then-signed+else-below-top, else-signed-via-else-signed}

unknown : (kind : ℕ) (value : Value) → is_kind kind ≡ false → Err UnknownKind ≡ stored_value kind value
unfolding stored_value stored_refusal
unknown kind value k = rw k

unfit : (kind : ℕ) (value : Value) → is_kind kind ≡ true → fits kind value ≡ false → Err DoesNotFit ≡ stored_value kind value
unfolding stored_value stored_refusal
unfit kind value k f = rw (k, f)

kept : (kind : ℕ) (value : Value) (n : ℕ) → is_kind kind ≡ true → fits kind value ≡ true → n ≡ stored_at (size_of kind) value
    → Ok n ≡ stored_value kind value
unfolding stored_value stored_refusal
kept kind value n k f e = rw (k, f, e)

module _ (kind : ℕ) (value : Value) (n top : ℕ) (size : n ≡ size_of kind) (some : n ≡ 0 → ⊥) (high : top ≡ greatest kind) where
  natural-kept : (v : ℕ) → value ≡ Natural v → v ≤ top → Ok v ≡ stored_value kind value
  unfolding fits stored_at
  natural-kept v e h =
      kept kind value v (kind_known kind n size some)
      (ap (fits kind) e ∙ le-leb v (greatest kind) (rw high at h)) (sym (ap (stored_at (size_of kind)) e))

  natural-unfit : (v : ℕ) → value ≡ Natural v → top < v → Err DoesNotFit ≡ stored_value kind value
  unfolding fits
  natural-unfit v e h =
      unfit kind value (kind_known kind n size some) (ap (fits kind) e ∙ lt-leb v (greatest kind) (rw high at h))

  -- the number above the middle that stands for -1 - m
  mirrored : (m : ℕ) → is_signed kind ≡ true → m ≤ top
      → (top + 1 + (top - m) ≡ 2 ^ (8 * size_of kind) - 1 - m) × (top < 2 ^ 63)
  mirrored m s h =
      let pos : 1 ≤ size_of kind = omega arith in (
        omega (arith, power_half (size_of kind) pos, greatest_signed kind s, pow_pos (8 * size_of kind - 1)),
        omega (arith, half_le (size_of kind) (size-le kind pos), greatest_signed kind s, pow_pos (8 * size_of kind - 1)),
      )

  negative-kept : (m : ℕ) → value ≡ Negative m → is_signed kind ≡ true → m ≤ top → Ok (top + 1 + (top - m)) ≡ stored_value kind value
  unfolding fits stored_at
  negative-kept m e s h =
      kept kind value (top + 1 + (top - m)) (kind_known kind n size some)
      (ap (fits kind) e ∙ rw s (le-leb m (greatest kind) (rw high at h)))
      ((mirrored m s h).0 ∙ sym (ap (stored_at (size_of kind)) e))

  negative-unfit : (m : ℕ) → value ≡ Negative m → is_signed kind ≡ true → top < m → Err DoesNotFit ≡ stored_value kind value
  unfolding fits
  negative-unfit m e s h =
      unfit kind value (kind_known kind n size some) (ap (fits kind) e ∙ rw s (lt-leb m (greatest kind) (rw high at h)))

  unsigned-unfit : (m : ℕ) → value ≡ Negative m → is_signed kind ≡ false → Err DoesNotFit ≡ stored_value kind value
  unfolding fits
  unsigned-unfit m e s = unfit kind value (kind_known kind n size some) (ap (fits kind) e ∙ rw s)

pub returns-then-size-eq0 : goal.returns-then-size-eq0
returns-then-size-eq0 c = unknown _ _ (kind_unknown _ _ c.size.ensures c.if-size-eq0.true)

pub returns-then-number-top : goal.returns-then-number-top
returns-then-number-top c =
    natural-kept _ _ _ _ c.size.ensures c.if-size-eq0.false c.highest-top.ensures _
    c.in-Natural.is c.if-number-top.true

-- where a negative number is taken, its kind is signed and the sum stays within 64 bits
pub overflow_add-result : goal.overflow_add-result
overflow_add-result c = omega (
  arith,
  (mirrored _ c.args.value _ _ c.size.ensures c.if-size-eq0.false c.highest-top.ensures _ (sym c.signed.ensures ∙ c.if-signed.true) c.if-below-top.true).1,
)

pub overflow_add-result-then-below-top : goal.overflow_add-result-then-below-top
overflow_add-result-then-below-top c = omega (
  arith,
  (mirrored _ c.args.value _ _ c.size.ensures c.if-size-eq0.false c.highest-top.ensures _ (sym c.signed.ensures ∙ c.if-signed.true) c.if-below-top.true).1,
)

pub returns-then-below-top : goal.returns-then-below-top
returns-then-below-top c =
    negative-kept _ _ _ _ c.size.ensures c.if-size-eq0.false c.highest-top.ensures _ c.in-Negative.is
    (sym c.signed.ensures ∙ c.if-signed.true) c.if-below-top.true

pub returns-else-number-top : goal.returns-else-number-top
returns-else-number-top c =
    natural-unfit _ _ _ _ c.size.ensures c.if-size-eq0.false c.highest-top.ensures _
    c.in-Natural.is c.if-number-top.false

pub returns-else-signed : goal.returns-else-signed
returns-else-signed c =
    let size = c.size.ensures in
    let some = c.if-size-eq0.false in
    let high = c.highest-top.ensures in
    elim c.else-signed.branch [
      | else-signed-via-then-signed+else-below-top w ↦ negative-unfit _ _ _ _ size some high _ c.in-Negative.is (sym c.signed.ensures ∙ w.if-signed.true) w.if-below-top.false
      | else-signed-via-else-signed w ↦ unsigned-unfit _ _ _ _ size some high _ c.in-Negative.is (sym c.signed.ensures ∙ w.if-signed.false)
    ]
