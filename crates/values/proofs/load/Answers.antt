use mathlib.Core.Path.{◌≡◌, sym, ap, ◌∙◌}
use mathlib.Core.List.{List}
use Prim.Native.Nat.{ℕ, ◌+◌, ◌-◌, ◌*◌, ◌^◌, ◌<◌, ◌≤◌}
use native.Mathlib.Omega.{arith}
use lib.ListN.{length, get_or, take, drop, length-take}
use lib.Seq.{drop-length, get_or-take}
use Rattle.values.specs.Values.{Bytes, natural}
use Rattle.values.proofs.Bytes.{bytes_take, natural_from, natural_room}
use Rattle.values.proofs.load.Goals as goal

start : (bytes : List ℕ) (at : ℕ) → at ≡ length (take 8 bytes) → (at ≤ length (take 8 bytes)) × (0 ≡ natural (drop at (take 8 bytes)))
unfolding natural
start bytes at e = (omega arith, rw (e, drop-length (take 8 bytes)))

room : (bytes : List ℕ) (at value : ℕ) → Bytes bytes → 0 < at → value ≡ natural (drop at (take 8 bytes)) → value < 2 ^ 56
room bytes at value b p e = rw e (natural_room (take 8 bytes) at (bytes_take 8 bytes b) p (omega (arith, length-take 8 bytes)))

step : (bytes : List ℕ) (at value byte : ℕ) → 0 < at → at ≤ length (take 8 bytes) → byte ≡ get_or bytes (at - 1) 0
    → value ≡ natural (drop at (take 8 bytes)) → value * 256 + byte ≡ natural (drop (at - 1) (take 8 bytes))
step bytes at value byte p h b e =
    let under : at - 1 < 8 = omega (arith, length-take 8 bytes) in
    ap (λ (x : ℕ). value * 256 + x) (b ∙ sym (get_or-take 8 bytes (at - 1) 0 under)) ∙ natural_from (take 8 bytes) at value p h e

pub loop-at-init : goal.loop-at-init
loop-at-init c = start c.args.bytes.now _ (omega (arith, c.min-at.ensures, length-take 8 c.args.bytes.now))

-- in a turn there is room for one byte more
pub overflow_mul-value : goal.overflow_mul-value
overflow_mul-value c = omega (arith, room c.args.bytes.now _ _ (λ i. (c.type_inv.bytes i).fits) c.loop-at-test.true c.loop-at.invariant.1)

pub overflow_add-value : goal.overflow_add-value
overflow_add-value c = omega (arith, room c.args.bytes.now _ _ (λ i. (c.type_inv.bytes i).fits) c.loop-at-test.true c.loop-at.invariant.1, c.wide.ensures, c.type_inv.bytes (c.loop-at.at - 1))

pub loop-at-preserved : goal.loop-at-preserved
loop-at-preserved c = (
  omega arith,
  step c.args.bytes.now _ _ _ c.loop-at-test.true c.loop-at.invariant.0 c.wide.ensures c.loop-at.invariant.1,
)
