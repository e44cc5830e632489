use mathlib.Core.Path.{refl, ◌≡◌, sym}
use mathlib.Core.List.{List}
use Prim.Native.Nat.{ℕ, ◌+◌}
use native.Mathlib.Omega.{arith}
use borrow.Author.Tests.{lt-ltb, le-ltb, eq-eqb, ne_eqb}
use lib.ListN.{length}
use Rattle.telegram.specs.Write.{write_refusal, message_for}
use Rattle.telegram.proofs.Judge.{whole_part}
use Rattle.telegram.proofs.Send.{write_sends, length-message_for}
use Rattle.telegram.proofs.writer.write.Goals as goal
use Rattle.telegram.proofs.writer.write.Goals.{then-destination-eq0-via-then-destination-eq0, then-destination-eq0-via-else-destination-eq0+then-source-eq0}

pub returns-then-data-gt-MOST_DATA : goal.returns-then-data-gt-MOST_DATA
unfolding write_refusal
returns-then-data-gt-MOST_DATA c = simp (lt-ltb _ _ c.if-data-gt-MOST_DATA.true) (refl, refl)

pub returns-then-destination-eq0 : goal.returns-then-destination-eq0
unfolding write_refusal
returns-then-destination-eq0 c =
    elim c.then-destination-eq0.branch [
      | then-destination-eq0-via-then-destination-eq0 w ↦ simp (le-ltb _ _ c.if-data-gt-MOST_DATA.false, eq-eqb _ _ w.if-destination-eq0.true) (refl, refl)
      | then-destination-eq0-via-else-destination-eq0+then-source-eq0 w ↦
          simp (le-ltb _ _ c.if-data-gt-MOST_DATA.false, ne_eqb _ _ w.if-destination-eq0.false, eq-eqb _ _ w.if-source-eq0.true) (refl, refl)
    ]

pub returns-then-sort-gt-TOGGLE_BITS : goal.returns-then-sort-gt-TOGGLE_BITS
unfolding write_refusal
returns-then-sort-gt-TOGGLE_BITS c = simp (le-ltb _ _ c.if-data-gt-MOST_DATA.false, ne_eqb _ _ c.if-destination-eq0.false, ne_eqb _ _ c.if-source-eq0.false, lt-ltb _ _ c.if-sort-gt-TOGGLE_BITS.true) (refl, refl)

pub returns : goal.returns
returns c =
    let args = c.args in
    let message : List ℕ = message_for args.destination args.source args.sort args.register args.«data».now in
    let long : length message ≡ length args.«data».now + 6 = length-message_for _ _ _ _ _ in
    let part = whole_part message _ _ _ (sym long) c.compose.ensures (omega arith) in
    rw (write_sends _ _ _ _ _ _ _ c.if-data-gt-MOST_DATA.false c.if-destination-eq0.false c.if-source-eq0.false c.if-sort-gt-TOGGLE_BITS.false part, ← part)
    c.send.ensures
