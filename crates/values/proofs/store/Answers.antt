use mathlib.Core.Path.{◌≡◌, refl, sym, ap, ◌∙◌}
use mathlib.Core.List.{List, [], ◌∷◌, ◌++◌}
use Prim.Native.Nat.{ℕ, zero, suc, ◌+◌, ◌-◌, ◌/◌, ◌%◌, ◌<◌, ◌≤◌, min}
use native.Mathlib.Numerals.{add-one}
use native.Mathlib.Omega.{arith}
use lib.ListN.{length, set, take, drop, length-take}
use Rattle.std.proofs.lemmas.List.{take-append-drop}
use Rattle.lent.specs.Lent.{over, over_at}
use Rattle.lent.proofs.Laws.{over_at_past, over_at_set, over_at_zero}
use Rattle.values.specs.Values.{bytes_of}
use Rattle.values.proofs.Bytes.{length-bytes_of}
use Rattle.values.proofs.store.Goals as goal

step : (size i rest : ℕ) (room w : List ℕ) → i < size → i < length room → over_at i (bytes_of (size - i) rest) room ≡ w
    → over_at (i + 1) (bytes_of (size - (i + 1)) (rest / 256)) (set room i (rest % 256)) ≡ w
unfolding bytes_of
step size i rest room w hs hr inv =
    let left : size - i ≡ suc (size - (i + 1)) = omega arith in
    ap (λ (k : ℕ). over_at k (bytes_of (size - (i + 1)) (rest / 256)) (set room i (rest % 256))) (add-one i)
    ∙ over_at_set i (rest % 256) (bytes_of (size - (i + 1)) (rest / 256)) room hr
    ∙ (rw left at inv)

start : (size v : ℕ) (room : List ℕ) → over_at 0 (bytes_of (size - 0) v) room ≡ over (bytes_of size v) room
start size v room =
    let all : size - 0 ≡ size = omega arith in
    rw all (over_at_zero (bytes_of size v) room)

-- what is laid over as much of a room as it takes is laid over the room
laid : (n : ℕ) (xs room : List ℕ) → min (length xs) (length room) ≤ n → over xs (take n room) ++ drop n room ≡ over xs room
unfolding over
laid n [] room h = take-append-drop n room
laid zero (x ∷ xs) [] h = refl
laid (suc n) (x ∷ xs) [] h = refl
laid zero (x ∷ xs) (y ∷ room) h = absurd (omega arith)
laid (suc n) (x ∷ xs) (y ∷ room) h = ap (λ (l : List ℕ). x ∷ l) (laid n xs room (omega arith))

pub loop-byte-init : goal.loop-byte-init
loop-byte-init c = start _ _ _

pub loop-byte-preserved : goal.loop-byte-preserved
loop-byte-preserved c =
    let turn = c.loop-byte in
    let places = length-take c.min-n.result c.args.room.now in
    step _ _ _ _ _ (omega (arith, places, c.loop-byte-test.true, c.min-n.ensures)) (omega (arith, c.loop-byte-test.true, turn.auto.byte-items)) turn.invariant

pub returns : goal.returns
returns c =
    let turn = c.loop-byte in
    let all = sym (over_at_past _ _ _ (omega (arith, c.loop-byte-test.false, turn.auto.byte-items))) ∙ turn.invariant in
    ap (λ (l : List ℕ). l ++ drop c.min-n.result c.args.room.now) all
    ∙ laid c.min-n.result (bytes_of c.args.size c.args.value) c.args.room.now (omega (arith, c.min-n.ensures, length-bytes_of c.args.size c.args.value))
