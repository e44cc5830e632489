-- 02, #108, over any sequence of calls from a fresh desk: what an opening considered, whatever was called before it.
-- Assumes nothing.
use Rattle.desk.specs.Answers.{opening}
use Rattle.std.specs.Prelude.{Err}
use mathlib.Core.Path.{◌≡◌, refl}
use mathlib.Core.List.{List}
use Prim.Native.Nat.{ℕ, ◌<◌}
use lib.ListN.{length}
use Rattle.request.specs.declared.Request.{Request}
use Rattle.telegram.specs.Write.{telegram_for}
use Rattle.desk.proofs.Count.{opened_considered, no_room_considered}
use Rattle.desk.specs.Desk.{fresh_desk}
use Rattle.desk.specs.Open.{Opens}
use Rattle.desk.specs.Outcome.{Considered}
use Rattle.desk.specs.declared.AfterOpen.{AfterOpen}
use Rattle.desk.specs.declared.Fault.TheVariants.{NoRoom}
use Rattle.nights.proofs.Laws.{any_night}
use Rattle.nights.specs.Night.{Call, after_all}

-- "its turn at 161", and so within the hosts after any calls
pub turn_within_then : (calls : List Call) → (fresh_desk.turn ≡ 0) × ((after_all fresh_desk calls).turn < 95)
turn_within_then calls = (refl, (any_night calls).sound.turn_within)

module _ (calls : List Call) (asked : Request) (bytes : List ℕ) (clock : ℕ) (room : List ℕ) (r : AfterOpen) (room' : List ℕ)
    (opens : Opens (after_all fresh_desk calls) asked bytes clock room r room') where
  pub considered_then : (address n : ℕ) → r.answer ≡ opening address n → Considered (after_all fresh_desk calls) clock address r.count
  considered_then address n e =
      opened_considered (after_all fresh_desk calls) asked bytes clock room r room' opens address n (any_night calls).sound.turn_within e

  pub no_room_considered_then : r.answer ≡ Err NoRoom
      → (address : ℕ)
      × Considered (after_all fresh_desk calls) clock address r.count
      × (length room < length (telegram_for asked.unit address asked.sort asked.register bytes))
  no_room_considered_then e =
      no_room_considered (after_all fresh_desk calls) asked bytes clock room r room' opens (any_night calls).sound.turn_within e
