-- `read` tests its rows in their order; what is left is the value of the element's bytes.
-- Assumes nothing.
use Rattle.std.specs.Prelude.{Ok, Err}
use mathlib.Core.Path.{◌≡◌, ap₂, ◌∙◌}
use mathlib.Core.Bool.{Bool}
use mathlib.Core.List.{List}
use Prim.Native.Nat.{ℕ, ◌+◌, ◌-◌, ◌*◌, ◌/◌, ◌%◌, ◌<◌, ◌≤◌}
use native.Mathlib.Nat.{div-lt_iff_lt-mul, le-div_iff_mul-le}
use native.Mathlib.Omega.{arith}
use borrow.Author.Tests.{lt-ltb, le-ltb, ne_eqb}
use lib.ListN.{length, take, drop, length-take}
use lib.Seq.{take_all}
use Rattle.values.specs.Values.{size_of, is_signed, natural, value_at, element_of, read_refusal, read_value}
use Rattle.values.specs.declared.Value.{Value}
use Rattle.values.specs.declared.Fault.TheVariants.{UnknownKind, WrongLength, NoSuchElement}
use Rattle.values.proofs.Bytes.{element_lt}
use Rattle.values.proofs.Sized.{size-le, kind_known, kind_unknown}
use Rattle.values.proofs.read.Goals as goal
use Rattle.values.proofs.read.Goals.{then-len-eq0-via-then-len-eq0, then-len-eq0-via-else-len-eq0+then-len-n-ne0}

-- an element lies within the bytes exactly where it is counted in them
inside : (len n k : ℕ) → (n ≡ 0 → ⊥) → k < len / n → k * n + n ≤ len
inside len n k some h = omega (arith, (le-div_iff_mul-le {k = n} {x = k + 1} {y = len} (omega arith)).0 (omega arith))

outside : (len n k : ℕ) → (n ≡ 0 → ⊥) → len / n ≤ k → len < (k + 1) * n
outside len n k some h = (div-lt_iff_lt-mul {k = n} {x = len} {y = k + 1} (omega arith)).0 (omega arith)

module _ (kind : ℕ) (bytes : List ℕ) (element n : ℕ) (size : n ≡ size_of kind) where
  unknown : n ≡ 0 → Err UnknownKind ≡ read_value kind bytes element
  unfolding read_value read_refusal
  unknown e = rw (kind_unknown kind n size e)

  module _ (some : n ≡ 0 → ⊥) where
    empty : length bytes ≡ 0 → Err WrongLength ≡ read_value kind bytes element
    unfolding read_value read_refusal
    empty e = rw (kind_known kind n size some, e)

    module _ (filled : length bytes ≡ 0 → ⊥) where
      uneven : (length bytes % n ≡ 0 → ⊥) → Err WrongLength ≡ read_value kind bytes element
      unfolding read_value read_refusal
      uneven u = rw (kind_known kind n size some, ne_eqb _ _ filled, ← size, ne_eqb _ _ u)

      module _ (even : length bytes % n ≡ 0) where
        past : length bytes / n ≤ element → Err NoSuchElement ≡ read_value kind bytes element
        unfolding read_value read_refusal
        past h =
            rw (
              kind_known kind n size some,
              ne_eqb _ _ filled,
              ← size,
              even,
              lt-ltb _ _ (outside (length bytes) n element some h),
            )

        found : element < length bytes / n → (v : Value) → v ≡ value_at (is_signed kind) n (natural (element_of n bytes element))
            → Ok v ≡ read_value kind bytes element
        unfolding read_value read_refusal
        found h v e =
            let within : (element + 1) * n ≤ length bytes = omega (arith, inside (length bytes) n element some h) in
            rw (
              kind_known kind n size some,
              ne_eqb _ _ filled,
              ← size,
              even,
              le-ltb _ _ within,
              e,
            )

-- the bytes of an element are so many, and they are what is loaded
part : (bytes : List ℕ) (n k loaded : ℕ) → n ≤ 8 → loaded ≡ natural (take 8 (take (k * n + n - k * n) (drop (k * n) bytes)))
    → loaded ≡ natural (element_of n bytes k)
unfolding element_of
part bytes n k loaded h e =
    let many : k * n + n - k * n ≡ n = omega arith in
    e ∙ rw (many, take_all 8 (take n (drop (k * n) bytes)) (omega (arith, length-take n (drop (k * n) bytes))))

few_bytes : (kind n : ℕ) → n ≡ size_of kind → (n ≡ 0 → ⊥) → n ≤ 8
few_bytes kind n size some = omega (arith, size-le kind (omega arith))

pub returns-then-n-eq0 : goal.returns-then-n-eq0
returns-then-n-eq0 c = unknown _ _ _ _ c.size-n.ensures c.if-n-eq0.true

pub returns-then-len-eq0 : goal.returns-then-len-eq0
returns-then-len-eq0 c =
    let size = c.size-n.ensures in
    let some = c.if-n-eq0.false in
    elim c.then-len-eq0.branch [
      | then-len-eq0-via-then-len-eq0 w ↦ empty _ _ _ _ size some w.if-len-eq0.true
      | then-len-eq0-via-else-len-eq0+then-len-n-ne0 w ↦ uneven _ _ _ _ size some w.if-len-eq0.false w.if-len-n-ne0.true
    ]

pub returns-then-len-n : goal.returns-then-len-n
returns-then-len-n c = past _ _ _ _ c.size-n.ensures c.if-n-eq0.false c.if-len-eq0.false c.if-len-n-ne0.false c.if-len-n.true

-- past the tests, the element lies within the bytes
pub overflow_mul-at : goal.overflow_mul-at
overflow_mul-at c = omega (arith, inside _ _ _ c.if-n-eq0.false c.if-len-n.false)

pub overflow_add-at : goal.overflow_add-at
overflow_add-at c = omega (arith, inside _ _ _ c.if-n-eq0.false c.if-len-n.false)

pub slice_bounds-load-end : goal.slice_bounds-load-end
slice_bounds-load-end c = inside _ _ _ c.if-n-eq0.false c.if-len-n.false

-- what was loaded is the number of the element's bytes
pub value_at-requires : goal.value_at-requires
value_at-requires c =
    let few = few_bytes _ _ c.size-n.ensures c.if-n-eq0.false in (
      omega arith,
      few,
      rw (part c.args.bytes.now _ c.args.element _ few c.load-number.ensures)
          (element_lt _ _ _ (λ i. (c.type_inv.bytes i).fits) (inside _ _ _ c.if-n-eq0.false c.if-len-n.false)),
    )

pub returns : goal.returns
returns c =
    let few = few_bytes _ _ c.size-n.ensures c.if-n-eq0.false in
    found _ _ _ _ c.size-n.ensures c.if-n-eq0.false c.if-len-eq0.false c.if-len-n-ne0.false c.if-len-n.false _
    (c.value_at.ensures
    ∙ ap₂ (λ (b : Bool) (v : ℕ). value_at b c.size-n.result v) c.signed.ensures
    (part c.args.bytes.now _ c.args.element _ few c.load-number.ensures))
