-- What a turn of the program's loop owes the next one, so that it ends.
-- Assumes nothing.
use Rattle.std.specs.Prelude.{◌≡◌, false, List, ℕ, ◌<◌, ◌≤◌}
use Rattle.lister.specs.declared.Listing.{Listing}
use Rattle.lister.specs.Text.{carried}
use Rattle.receiver.specs.Receiver.{largest}
use Rattle.night.specs.declared.Turn.{Turn}

-- where it is not over the place has grown, and the places run out
abbrev pub Onward : Listing → Turn → Type 0
Onward l t = t.over ≡ false → (l.receiver.place < t.listing.receiver.place) × (t.listing.receiver.place ≤ largest)

-- and the listing is the one behind the piece's bytes
abbrev pub Carries : Listing → List ℕ → Turn → Type 0
Carries l piece t = t.over ≡ false → t.listing ≡ carried l piece
