-- `write` is decided by the stored form and then by the room; a written value is laid over the room's first bytes.
-- Assumes nothing.
use Rattle.std.proofs.lemmas.Result.{err_from_is_err_and}
use Rattle.std.specs.Prelude.{Ok, Err}
use mathlib.Core.Path.{◌≡◌, sym, ap₂, ◌∙◌}
use mathlib.Core.List.{List}
use Prim.Native.Nat.{ℕ, ◌<◌, ◌≤◌}
use borrow.Author.Tests.{lt-ltb, le-ltb}
use lib.ListN.{length}
use Rattle.lent.specs.Lent.{over}
use Rattle.values.specs.Values.{size_of, stored_value, bytes_of, Writes}
use Rattle.values.specs.declared.Value.{Value}
use Rattle.values.specs.declared.Fault.TheVariants.{ShortBuffer}
use Rattle.values.proofs.Refusals.{stored_refused, stored_as, write_refused_so, write_room, write_refused, write_done}
use Rattle.values.proofs.write.Goals as goal

module _ (kind : ℕ) (value : Value) (room : List ℕ) (n v : ℕ) (kept : stored_value kind value ≡ Ok v) (size : n ≡ size_of kind) where
  short : length room < n → Writes kind value room (Err ShortBuffer) room
  short h =
      let k = stored_as kind value v kept in
      write_refused kind value room ShortBuffer
      (write_room kind value (length room) k.0 ∙ rw (lt-ltb (length room) (size_of kind) (rw size at h)))

  laid : (room' : List ℕ) → n ≤ length room → room' ≡ over (bytes_of n v) room → Writes kind value room (Ok tt) room'
  laid room' h e =
      let k = stored_as kind value v kept in
      write_done kind value room room'
      (write_room kind value (length room) k.0 ∙ rw (le-ltb (length room) (size_of kind) (rw size at h)))
      (e ∙ ap₂ (λ (m w : ℕ). over (bytes_of m w) room) size k.1)

pub returns-then-room-n : goal.returns-then-room-n
returns-then-room-n c = short _ _ _ _ _ (sym c.as_stored.ensures ∙ c.in_ok-number.was) c.size-n.ensures c.if-room-n.true

pub returns-in_err-number : goal.returns-in_err-number
returns-in_err-number c =
    let p = err_from_is_err_and c.from_residual.result c.from_residual.ensures.1 in
    rw (p.1, p.2) (write_refused _ _ _ _ (write_refused_so _ _ _ _ (stored_refused _ _ _ (sym c.as_stored.ensures ∙ c.in_err-number.was))))

pub returns : goal.returns
returns c =
    laid _ _ _ _ _ (sym c.as_stored.ensures ∙ c.in_ok-number.was) c.size-n.ensures _ c.if-room-n.false
    c.store.ensures
