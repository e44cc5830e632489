-- A VARIA filter box: what it keeps, when it refuses, and what it makes of the desk's answers. 02, #104.
-- Assumes nothing.
use Rattle.std.specs.Prelude.{◌≡◌, Bool, true, false, cond, List, [], ◌∷◌, ℕ, ◌<◌, eqb, leb, ltb, Ok, Err, Some, None}
use Rattle.std.proofs.Math.Option.{Option}
use Rattle.rows.specs.Rows.{Row, row, Test, test, first_row_of}
use Rattle.request.specs.declared.Request.{Request}
use Rattle.desk.specs.Desk.{fault_number as desk_number}
use Rattle.desk.specs.Answers.{Booking}
use Rattle.desk.specs.Answers.{Closing}
use Rattle.varia.specs.Answers.{Edge, sent}
use Rattle.varia.specs.declared.Fault.{Fault}
use Rattle.varia.specs.declared.Fault.TheVariants.{EdgeOut, TooMuch, OutOfOrder, AtDesk}
use Rattle.varia.specs.declared.FilterBox.{FilterBox}
use Rattle.varia.specs.Answers.{Out}
use Rattle.varia.specs.declared.Pass.{Pass}
use Rattle.varia.specs.declared.Pass.TheVariants.{Short, Long}

-- an edge is "unknown, as at first"
abbrev pub fresh_box : ℕ → ℕ → FilterBox
fresh_box job unit = record { job = job; unit = unit; short = None; long = None; out = None }

abbrev pub edge_of : FilterBox → Pass → Edge
edge_of box Short = box.short
edge_of box Long = box.long

abbrev pub other : Pass → Pass
other Short = Long
other Long = Short

-- "set short-pass edge (33h), long-pass edge (34h, both in tenths of a nanometre)"
abbrev pub edge_register : Pass → ℕ
edge_register Short = 51
edge_register Long = 52

-- "and attenuation (32h, permille, 0 to 1000), read the monitor (13h), read status (66h)"
abbrev pub attenuation_register : ℕ
attenuation_register = 50

abbrev pub monitor_register : ℕ
monitor_register = 19

abbrev pub status_register : ℕ
status_register = 102

-- a request of the box's
abbrev pub request : FilterBox → ℕ → ℕ → ℕ → Request
request box sort register wait = record { job = box.job; unit = box.unit; sort = sort; register = register; wait = wait; folder = 0 }

-- ---- the refusals "ahead of the desk's"

-- "House rule: the short-pass edge must be above the long-pass edge, else no light passes": of one edge's value and the other's
abbrev pub InOrder : Pass → ℕ → ℕ → Type 0
InOrder Short edge there = there < edge
InOrder Long edge there = edge < there

-- 59: "setting an edge while an edge request is out"
unfoldable pub IsEdgeOut : FilterBox → Type 0
IsEdgeOut box = (address : ℕ) × (pass : Pass) × (tenths : ℕ) × (box.out ≡ sent address pass tenths)

-- 62: "attenuation over 1000"
unfoldable pub IsTooMuch : ℕ → Type 0
IsTooMuch permille = 1000 < permille

-- 63: "edges not in order"; "each new edge is checked against the other one as last acknowledged, unless that is unknown"
unfoldable pub IsOutOfOrder : FilterBox → Pass → ℕ → Type 0
IsOutOfOrder box pass tenths = (there : ℕ) × (edge_of box (other pass) ≡ Some there) × (InOrder pass tenths there → ⊥)

unfoldable pub edge_rows : FilterBox → Pass → ℕ → List (Row Fault)
edge_rows box pass tenths = row (IsEdgeOut box) EdgeOut ∷ row (IsOutOfOrder box pass tenths) OutOfOrder ∷ []

unfoldable pub attenuation_rows : ℕ → List (Row Fault)
attenuation_rows permille = row (IsTooMuch permille) TooMuch ∷ []

-- the paper's number of each refusal; the desk's are told where they are judged
abbrev pub fault_number : Fault → ℕ
fault_number EdgeOut = 59
fault_number TooMuch = 62
fault_number OutOfOrder = 63
fault_number (AtDesk f) = desk_number f

-- ---- how they are tested

abbrev pub is_out : Out → Bool
is_out None = false
is_out (Some was) = true

abbrev pub is_out_of_order : Pass → ℕ → Edge → Bool
is_out_of_order pass tenths None = false
is_out_of_order Short tenths (Some there) = leb tenths there
is_out_of_order Long tenths (Some there) = leb there tenths

abbrev pub edge_tests : FilterBox → Pass → ℕ → List (Test Fault)
edge_tests box pass tenths = test (is_out box.out) EdgeOut ∷ test (is_out_of_order pass tenths (edge_of box (other pass))) OutOfOrder ∷ []

unfoldable pub edge_refusal : FilterBox → Pass → ℕ → Option Fault
edge_refusal box pass tenths = first_row_of (edge_tests box pass tenths)

abbrev pub attenuation_tests : ℕ → List (Test Fault)
attenuation_tests permille = test (ltb 1000 permille) TooMuch ∷ []

unfoldable pub attenuation_refusal : ℕ → Option Fault
attenuation_refusal permille = first_row_of (attenuation_tests permille)

-- ---- what the desk answers is told to the box

abbrev pub with_out : FilterBox → Out → FilterBox
with_out box o = record { job = box.job; unit = box.unit; short = box.short; long = box.long; out = o }

-- that edge, and nothing out any more
abbrev pub with_edge : FilterBox → Pass → Edge → FilterBox
with_edge box Short edge = record { job = box.job; unit = box.unit; short = edge; long = box.long; out = None }
with_edge box Long edge = record { job = box.job; unit = box.unit; short = box.short; long = edge; out = None }

-- an edge "as last acknowledged": by type 3; "after a nack, check error or busy it stays as it was"
abbrev pub booked : Out → FilterBox → ℕ → ℕ → FilterBox
booked None box address sort = box
booked (Some was) box address sort =
    cond (eqb was.address address) (cond (eqb sort 3) (with_edge box was.pass (Some was.tenths)) (with_out box None)) box

-- "an edge whose request expires or is cancelled becomes unknown"
abbrev pub withdrawn : Out → FilterBox → ℕ → FilterBox
withdrawn None box address = box
withdrawn (Some was) box address = cond (eqb was.address address) (with_edge box was.pass None) box

abbrev pub heard_reply : FilterBox → Booking → FilterBox
heard_reply box (Ok told) = booked box.out box told.address told.sort
heard_reply box (Err f) = box

abbrev pub heard_closing : FilterBox → Closing → FilterBox
heard_closing box (Ok closed) = withdrawn box.out box closed.address
heard_closing box (Err f) = box

-- ---- the contracts

-- `make`
abbrev pub Makes : ℕ → ℕ → FilterBox → Type 0
Makes job unit r = r ≡ fresh_box job unit

-- `told_reply`
abbrev pub HearsReply : FilterBox → Booking → FilterBox → Type 0
HearsReply box answer r = r ≡ heard_reply box answer

-- `told_closing`
abbrev pub HearsClosing : FilterBox → Closing → FilterBox → Type 0
HearsClosing box answer r = r ≡ heard_closing box answer

-- `number`
abbrev pub Numbers : Fault → ℕ → Type 0
Numbers fault r = r ≡ fault_number fault
