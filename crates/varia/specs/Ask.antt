-- The box's requests: each goes through the desk's own `open`, unless the box refuses it first. 02, #104.
-- Assumes nothing.
use Rattle.std.specs.Prelude.{◌≡◌, List, [], ℕ, Ok, Err}
use Rattle.std.proofs.Math.Option.{Option, some, none}
use Rattle.request.specs.declared.Request.{Request}
use Rattle.desk.specs.Open.{Opens}
use Rattle.desk.specs.declared.AfterOpen.{AfterOpen}
use Rattle.desk.specs.declared.Desk.{Desk}
use Rattle.desk.specs.Answers.{Opening}
use Rattle.values.specs.Values.{bytes_of}
use Rattle.varia.specs.Box.{edge_register, attenuation_register, monitor_register, status_register, request, with_out, fault_number}
use Rattle.varia.specs.Box.{edge_refusal, attenuation_refusal}
use Rattle.varia.specs.declared.AfterAsk.{AfterAsk}
use Rattle.varia.specs.Answers.{Asking, asking, sent}
use Rattle.varia.specs.declared.Fault.{Fault}
use Rattle.varia.specs.declared.Fault.TheVariants.{AtDesk}
use Rattle.varia.specs.declared.FilterBox.{FilterBox}
use Rattle.varia.specs.declared.Pass.{Pass}

-- the desk's answer, "passed up whole"
abbrev pub from_desk : Opening → Asking
from_desk (Ok opened) = asking opened.address opened.size
from_desk (Err f) = Err (AtDesk f)

-- the number that an answer tells
abbrev pub ask_told : Asking → Option ℕ
ask_told (Err f) = some (fault_number f)
ask_told (Ok opened) = none

-- the box once the desk has answered to a request for an edge: it is out where its ticket was opened
abbrev pub now_out : FilterBox → Pass → ℕ → Opening → FilterBox
now_out box pass tenths (Ok opened) = with_out box (sent opened.address pass tenths)
now_out box pass tenths (Err f) = box

-- refused by the box, "ahead of the desk's": nothing changes, and no address was considered
abbrev pub Stays : Fault → FilterBox → Desk → AfterAsk → Type 0
Stays f box desk r = (r.answer ≡ Err f) × (r.filters ≡ box) × (r.desk ≡ desk) × (r.count ≡ 0)

-- what the desk did, its count of 02, #108 too, with the box as it is afterwards
abbrev pub Passes : FilterBox → AfterOpen → AfterAsk → Type 0
Passes box o r = (r.answer ≡ from_desk o.answer) × (r.filters ≡ box) × (r.desk ≡ o.desk) × (r.count ≡ o.count)

-- a call of the box, by its own refusal: if there is none, the desk opens a ticket or refuses, as it promises, and the box goes by its answer
abbrev pub Asks : Option Fault → FilterBox → (Opening → FilterBox) → Desk → Request → List ℕ → ℕ → List ℕ → AfterAsk → List ℕ → Type 0
Asks (some f) box next desk asked bytes clock room r room' = Stays f box desk r × (room' ≡ room)
Asks none box next desk asked bytes clock room r room' = (o : AfterOpen) × Opens desk asked bytes clock room o room' × Passes (next o.answer) o r

-- ---- the contracts

-- `set_short` and `set_long`: a write, type 5, of the value's two bytes, lowest first
abbrev pub SetsEdge : Pass → FilterBox → Desk → ℕ → ℕ → ℕ → List ℕ → AfterAsk → List ℕ → Type 0
SetsEdge pass box desk tenths wait clock room r room' =
    Asks (edge_refusal box pass tenths) box (now_out box pass tenths) desk (request box 5 (edge_register pass) wait) (bytes_of 2 tenths) clock room r room'

-- `attenuate`
abbrev pub Attenuates : FilterBox → Desk → ℕ → ℕ → ℕ → List ℕ → AfterAsk → List ℕ → Type 0
Attenuates box desk permille wait clock room r room' =
    Asks (attenuation_refusal permille) box (λ a. box) desk (request box 5 attenuation_register wait) (bytes_of 2 permille) clock room r room'

-- `read_monitor` and `read_status`: a read, type 4, without data
abbrev pub ReadsMonitor : FilterBox → Desk → ℕ → ℕ → List ℕ → AfterAsk → List ℕ → Type 0
ReadsMonitor box desk wait clock room r room' = Asks none box (λ a. box) desk (request box 4 monitor_register wait) [] clock room r room'

abbrev pub ReadsStatus : FilterBox → Desk → ℕ → ℕ → List ℕ → AfterAsk → List ℕ → Type 0
ReadsStatus box desk wait clock room r room' = Asks none box (λ a. box) desk (request box 4 status_register wait) [] clock room r room'
