-- What the lanes hold after one of them was changed, place by place.
-- Assumes nothing.
use mathlib.Core.Path.{◌≡◌, refl, ◌∙◌}
use mathlib.Core.Bool.{Bool, true, false}
use mathlib.Core.Logic.{◌≢◌}
use Prim.Native.Nat.{ℕ, zero, suc, ◌+◌, ◌-◌, ◌≤◌, ◌<◌}
use native.Mathlib.Omega.{arith}
use borrow.Author.Tests.{eqb-true, eqb-false, lt-ltb, le-ltb}
use lib.Dec.{eqb}
use lib.ListN.{length, set}
use lib.Seq.{get_or-set_same, get_or-set_other}
use Rattle.lanes.specs.Lanes.{lane_at, waiting_at, with_last, without, next_at}
use Rattle.lanes.specs.declared.Lane.{Lane}
use Rattle.lanes.specs.declared.Lanes.{Lanes}
use Rattle.lanes.specs.declared.Waiting.{Waiting}

pub same_or_not : (a b : ℕ) → Dec (a ≡ b)
same_or_not a b = go (eqb a b) refl
  where
    go : (t : Bool) → eqb a b ≡ t → Dec (a ≡ b)
    go true e = yes (eqb-true a b e)
    go false e = no (eqb-false a b e)

-- the lanes with another lane at a place, and another one last served
abbrev pub put : Lanes → ℕ → ℕ → Lane → Lanes
put lanes last place lane = record { last = last; lanes = set lanes.lanes place lane }

module _ (lanes : Lanes) (last place : ℕ) (lane : Lane) where
  pub put_there : place < length lanes.lanes → lane_at (put lanes last place lane) place ≡ lane
  put_there h = get_or-set_same lanes.lanes place lane _ h

  pub put_other : (k : ℕ) → k ≢ place → lane_at (put lanes last place lane) k ≡ lane_at lanes k
  put_other k n = get_or-set_other lanes.lanes place k lane _ n

-- one more behind the others
pub last_there : (lane : Lane) (newest : Waiting) → lane.size < length lane.waiting → waiting_at (with_last lane newest) lane.size ≡ newest
last_there lane newest h = get_or-set_same lane.waiting lane.size newest _ h

pub last_other : (lane : Lane) (newest : Waiting) (p : ℕ) → p ≢ lane.size → waiting_at (with_last lane newest) p ≡ waiting_at lane p
last_other lane newest p n = get_or-set_other lane.waiting lane.size p newest _ n

-- one less: what stood before it stays, and what stood behind it moves up
without_at : (lane : Lane) (gone p : ℕ) → p < 4 → waiting_at (without lane gone) p ≡ next_at lane gone p
without_at lane gone zero h = refl
without_at lane gone (suc zero) h = refl
without_at lane gone (suc (suc zero)) h = refl
without_at lane gone (suc (suc (suc zero))) h = refl
without_at lane gone (suc (suc (suc (suc p)))) h = absurd (omega arith)

pub before_gone : (lane : Lane) (gone p : ℕ) → p < gone → p < 4 → waiting_at (without lane gone) p ≡ waiting_at lane p
before_gone lane gone p h l = without_at lane gone p l ∙ rw (lt-ltb p gone h)

pub behind_gone : (lane : Lane) (gone p : ℕ) → gone ≤ p → p < 3 → waiting_at (without lane gone) p ≡ waiting_at lane (p + 1)
behind_gone lane gone p h l = without_at lane gone p (omega arith) ∙ rw (le-ltb p gone h, lt-ltb p 3 l)
