-- Which reply fits a ticket: rows 61 and 17 to 20, of what a telegram says and what stands on its destination.
-- Assumes nothing.
use Rattle.std.specs.Prelude.{◌≡◌, ℕ, zero, suc, ◌≤◌, Bool, true, false, cond, not, ◌&&◌, ◌||◌, ◌≢◌, ◌⊎◌, List, [], ◌∷◌, ◌==◌, nat_le, Ok, Err}
use Rattle.std.proofs.Math.Option.{Option, some, none}
use Rattle.rows.specs.Rows.{Row, row, Test, test, first_row_of}
use Rattle.telegram.specs.declared.Fields.{Fields}
use Rattle.ticket.specs.Ticket.{Open}
use Rattle.ticket.specs.declared.Ticket.{Ticket}
use Rattle.ticket.specs.declared.Fault.{Fault}
use Rattle.ticket.specs.declared.Fault.TheVariants.{Withdrawn, NoTicket, OtherModule, OtherKind, OtherRegister}
use Rattle.ticket.specs.Answers.{Judged}

-- "A read is answered by type 8, 0, 1 or 2, a write of any sort by 3, 0, 1 or 2."
unfoldable pub KindFits : ℕ → ℕ → Type 0
KindFits asked answered =
    ((asked ≡ 4) × (answered ≡ 8)) ⊎ (((asked ≢ 4) × (answered ≡ 3)) ⊎ ((answered ≡ 0) ⊎ ((answered ≡ 1) ⊎ (answered ≡ 2))))

-- "A datagram's register must equal the ticket's. Types 0 to 3 may also carry register 0"
unfoldable pub RegisterFits : ℕ → ℕ → ℕ → Type 0
RegisterFits asked answered register = (register ≡ asked) ⊎ ((answered ≤ 3) × (register ≡ 0))

-- ---- the rows

-- 61: "in place of 17, when the reply's destination has no ticket and its last ticket was cancelled or expired"
unfoldable pub IsWithdrawn : Ticket → Type 0
IsWithdrawn ticket = (Open ticket → ⊥) × (ticket.withdrawn ≡ true)

-- 17: "no ticket open on its destination"
unfoldable pub IsNoTicket : Ticket → Type 0
IsNoTicket ticket = Open ticket → ⊥

-- 18: "source is not the ticket's module"
unfoldable pub IsOtherModule : Ticket → Fields → Type 0
IsOtherModule ticket t = t.source ≢ ticket.asked.unit

-- 19: "kind does not fit"
unfoldable pub IsOtherKind : Ticket → Fields → Type 0
IsOtherKind ticket t = KindFits ticket.asked.sort t.sort → ⊥

-- 20: "register does not fit"
unfoldable pub IsOtherRegister : Ticket → Fields → Type 0
IsOtherRegister ticket t = RegisterFits ticket.asked.register t.sort t.register → ⊥

unfoldable pub fit_rows : Ticket → Fields → List (Row Fault)
fit_rows ticket t =
    row (IsWithdrawn ticket) Withdrawn
    ∷ row (IsNoTicket ticket) NoTicket
    ∷ row (IsOtherModule ticket t) OtherModule
    ∷ row (IsOtherKind ticket t) OtherKind
    ∷ row (IsOtherRegister ticket t) OtherRegister
    ∷ []

-- ---- how they are tested

-- what a request is answered by where nothing is amiss
abbrev pub wanted_for : ℕ → ℕ
wanted_for asked = cond (asked == 4) 8 3

abbrev pub kind_fits : ℕ → ℕ → Bool
kind_fits asked answered = nat_le answered 2 || answered == wanted_for asked

abbrev pub register_fits : ℕ → ℕ → ℕ → Bool
register_fits asked answered register = register == asked || (nat_le answered 3 && register == 0)

abbrev pub fit_tests : Ticket → Fields → List (Test Fault)
fit_tests ticket t =
    test (not ticket.live && ticket.withdrawn) Withdrawn
    ∷ test (not ticket.live) NoTicket
    ∷ test (not (t.source == ticket.asked.unit)) OtherModule
    ∷ test (not (kind_fits ticket.asked.sort t.sort)) OtherKind
    ∷ test (not (register_fits ticket.asked.register t.sort t.register)) OtherRegister
    ∷ []

unfoldable pub fit_refusal : Ticket → Fields → Option Fault
fit_refusal ticket t = first_row_of (fit_tests ticket t)

-- the paper's number of each refusal, and the number that an answer tells
abbrev pub fault_number : Fault → ℕ
fault_number Withdrawn = 61
fault_number NoTicket = 17
fault_number OtherModule = 18
fault_number OtherKind = 19
fault_number OtherRegister = 20

abbrev pub fit_told : Judged → Option ℕ
fit_told (Err f) = some (fault_number f)
fit_told (Ok _) = none

-- ---- the contracts

abbrev pub fit_answer : Option Fault → Judged
fit_answer (some f) = Err f
fit_answer none = Ok tt

abbrev pub Judges : Ticket → Fields → Judged → Type 0
Judges ticket t r = r ≡ fit_answer (fit_refusal ticket t)

abbrev pub Numbers : Fault → ℕ → Type 0
Numbers fault r = r ≡ fault_number fault

-- ---- for the laws that say it type by type

abbrev pub keep : Bool → ℕ → List ℕ → List ℕ
keep true sort rest = sort ∷ rest
keep false sort rest = rest

-- of the n types from one on, those that pass a test
abbrev pub types_from : (ℕ → Bool) → ℕ → ℕ → List ℕ
types_from fits sort zero = []
types_from fits sort (suc n) = keep (fits sort) sort (types_from fits (suc sort) n)

-- of the types 0 to 9
abbrev pub types_that : (ℕ → Bool) → List ℕ
types_that fits = types_from fits 0 10
