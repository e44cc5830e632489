-- What is promised of telling a sheet: the laws that callers may cite.
-- Assumes nothing.
use Rattle.std.specs.Prelude.{Ok, Err}
use mathlib.Core.Path.{◌≡◌, refl, ap, ◌∙◌}
use mathlib.Core.List.{List, [], ◌∷◌}
use mathlib.Core.Logic.{◌⊎◌, inl, inr, ⊎_elim, ◌↔◌, ◌≢◌}
use mathlib.Core.Option.{Option, some, none}
use Prim.Native.Nat.{ℕ, ◌≤◌, ◌<◌}
use native.Mathlib.Decide.{dec_le}
use native.Mathlib.Omega.{arith}
use lib.ListN.{length}
use Rattle.lent.specs.Lent.{over}
use Rattle.rows.specs.Rows.{Row, row, NoRow, Ranked, Numbered, first_row_of, passed_up, raised}
use Rattle.rows.specs.Settled.{Settled}
use Rattle.rows.proofs.Laws.{decides_eq, decides_le, decides_not, decides_and, ranked, ◌otherwise◌, ranked_up, ranked_append, numbered, done_exactly, or-none, raised_none, clash}
use Rattle.rows.proofs.Settled.{settled, settled_with}
use Rattle.request.specs.declared.Request.{Request}
use Rattle.request.specs.Request.{IsNoJob, IsNotAModule, IsNotARequest, IsWrongData, IsWrongWait, ask_rows as request_rows, ask_refusal as request_refusal}
use Rattle.request.proofs.Laws.{ask_ranked as request_ranked}
use Rattle.text.specs.Text.{ascii, decimal_by, decimal}
use Rattle.setting.specs.declared.Head.{Head}
use Rattle.setting.specs.Setting.{head, setting, length_of, Allowed}
use Rattle.sheet.specs.Sheet.{named, valued, Writable, held, check_rows, check_refusal, Right}
use Rattle.sheet.proofs.Right.{check_ranked}
use Rattle.sheet.proofs.Written.{held_writable}
use Rattle.sheet_teller.specs.declared.Order.{Order}
use Rattle.sheet_teller.specs.declared.Form.TheVariants.{Calls}
use Rattle.sheet_teller.specs.declared.Fault.{Fault}
use Rattle.sheet_teller.specs.declared.Fault.TheVariants.{WrongSheet, NoJob, WrongWait}
use Rattle.sheet_teller.specs.Answers.{Telling}
use Rattle.sheet_teller.specs.Teller.{hex_digit, hex_of, call_of, pieces_of, text_of, HasNoJob, HasWrongWait, show_rows, ask_rows, order_tests, show_refusal, ask_refusal}
use Rattle.sheet_teller.specs.Teller.{fault_number, tell_told, tell_answer, Tells, Shows, Asks, Numbers}
use Rattle.sheet_teller.specs.Asked.{request_of}

-- ---- each number exactly when its row holds and no earlier one does

show_ranked : (sheet : List ℕ) → Ranked (show_rows sheet) (show_refusal sheet)
unfolding show_rows show_refusal
show_ranked sheet = ranked_up WrongSheet (check_rows sheet) (check_refusal sheet) (check_ranked sheet)

abbrev order_rows : Order → List (Row Fault)
order_rows order = row (HasNoJob order) NoJob ∷ row (HasWrongWait order) WrongWait ∷ []

order_ranked : (order : Order) → Ranked (order_rows order) (first_row_of (order_tests order))
unfolding HasNoJob HasWrongWait
order_ranked order =
    ranked (order_tests order) (order_rows order)
    (decides_eq order.job 0 otherwise λ n₁₀. decides_not (decides_and (decides_le 1 order.wait) (decides_le order.wait 60000)) otherwise λ n₁₄. tt)

ask_ranked : (sheet : List ℕ) (order : Order) → Ranked (ask_rows sheet order) (ask_refusal sheet order)
unfolding ask_rows ask_refusal
ask_ranked sheet order =
    ranked_append (passed_up WrongSheet (check_rows sheet)) (order_rows order) (raised WrongSheet (check_refusal sheet)) (first_row_of (order_tests order))
    (ranked_up WrongSheet (check_rows sheet) (check_refusal sheet) (check_ranked sheet)) (λ no. order_ranked order)

tells : (o : Option Fault) (text : List ℕ) → tell_told (tell_answer o text) ≡ raised fault_number o
tells none text = refl
tells (some f) text = refl

pub show_exactly : (sheet room : List ℕ) (r : Telling) (room' : List ℕ) → Shows sheet room r room'
    → Numbered (passed_up fault_number (show_rows sheet)) (65 ∷ 66 ∷ 67 ∷ 68 ∷ 69 ∷ 70 ∷ []) (tell_told r)
unfolding show_rows check_rows
show_exactly sheet room r room' p =
    numbered fault_number (show_rows sheet) (show_refusal sheet) (show_ranked sheet) (65 ∷ 66 ∷ 67 ∷ 68 ∷ 69 ∷ 70 ∷ []) refl refl
    (tell_told r) (ap tell_told p.0 ∙ tells (show_refusal sheet) (text_of (held sheet)))

pub ask_exactly : (sheet : List ℕ) (order : Order) (room : List ℕ) (r : Telling) (room' : List ℕ) → Asks sheet order room r room'
    → Numbered (passed_up fault_number (ask_rows sheet order)) (65 ∷ 66 ∷ 67 ∷ 68 ∷ 69 ∷ 70 ∷ 10 ∷ 14 ∷ []) (tell_told r)
unfolding ask_rows check_rows
ask_exactly sheet order room r room' p =
    numbered fault_number (ask_rows sheet order) (ask_refusal sheet order) (ask_ranked sheet order) (65 ∷ 66 ∷ 67 ∷ 68 ∷ 69 ∷ 70 ∷ 10 ∷ 14 ∷ []) refl refl
    (tell_told r) (ap tell_told p.0 ∙ tells (ask_refusal sheet order) (pieces_of (Calls order) (held sheet)))

-- the last two rows, said out
pub order_plainly : (order : Order) → (HasNoJob order ↔ (order.job ≡ 0)) × (HasWrongWait order ↔ ((order.wait ≡ 0) ⊎ (60000 < order.wait)))
unfolding HasNoJob HasWrongWait
order_plainly order = ((λ e. e, λ e. e), (there, ⊎_elim (λ z w. omega (arith, z, w.0)) (λ l w. omega (arith, l, w.1))))
  where
    there : ((1 ≤ order.wait) × (order.wait ≤ 60000) → ⊥) → (order.wait ≡ 0) ⊎ (60000 < order.wait)
    there n = elim (dec_le 1 order.wait) [
      | yes l ↦ elim (dec_le order.wait 60000) [ yes m ↦ absurd (n (l, m)) | no m ↦ inr (omega arith) ]
      | no l ↦ inl (omega arith)
    ]

waits : (order : Order) → (HasWrongWait order → ⊥) → (1 ≤ order.wait) × (order.wait ≤ 60000)
waits order n =
    let back = (order_plainly order).1.1 in (
      elim (dec_le 1 order.wait) [ yes l ↦ l | no l ↦ absurd (n (back (inl (omega arith)))) ],
      elim (dec_le order.wait 60000) [ yes l ↦ l | no l ↦ absurd (n (back (inr (omega arith)))) ],
    )

-- ---- a refusal leaves the room

keeps : (o : Option Fault) (text room : List ℕ) (f : Fault) (room' : List ℕ) → Tells o text room (Err f) room' → room' ≡ room
keeps none text room f room' p = let e = p.0 in clash cc
keeps (some g) text room f room' p = p.1

pub show_refusal_keeps : (sheet room : List ℕ) (f : Fault) (room' : List ℕ) → Shows sheet room (Err f) room' → room' ≡ room
show_refusal_keeps sheet room f room' p = keeps (show_refusal sheet) (text_of (held sheet)) room f room' p

pub ask_refusal_keeps : (sheet : List ℕ) (order : Order) (room : List ℕ) (f : Fault) (room' : List ℕ) → Asks sheet order room (Err f) room' → room' ≡ room
ask_refusal_keeps sheet order room f room' p = keeps (ask_refusal sheet order) (pieces_of (Calls order) (held sheet)) room f room' p

-- ---- where nothing refuses, the sheet is right and its text is told

told : (o : Option Fault) (text : List ℕ) (n : ℕ) → Ok n ≡ tell_answer o text → (o ≡ none) × (n ≡ length text)
told none text n e = (refl, cc)
told (some f) text n e = clash cc

right_sheet : (sheet : List ℕ) → raised WrongSheet (check_refusal sheet) ≡ none → Right sheet
right_sheet sheet e = (done_exactly (check_rows sheet) (check_refusal sheet) (check_ranked sheet)).0 (raised_none WrongSheet (check_refusal sheet) e)

pub show_done : (sheet room : List ℕ) (n : ℕ) (room' : List ℕ) → Shows sheet room (Ok n) room'
    → Right sheet × (n ≡ length (text_of (held sheet))) × (room' ≡ over (text_of (held sheet)) room)
unfolding show_refusal
show_done sheet room n room' p =
    let t = told (show_refusal sheet) (text_of (held sheet)) n p.0 in
    (right_sheet sheet t.0, t.1, rw t.0 at p.1)

pub ask_done : (sheet : List ℕ) (order : Order) (room : List ℕ) (n : ℕ) (room' : List ℕ) → Asks sheet order room (Ok n) room'
    → Right sheet × (order.job ≢ 0) × ((1 ≤ order.wait) × (order.wait ≤ 60000))
    × (n ≡ length (pieces_of (Calls order) (held sheet))) × (room' ≡ over (pieces_of (Calls order) (held sheet)) room)
unfolding ask_refusal HasNoJob
ask_done sheet order room n room' p =
    let t = told (ask_refusal sheet order) (pieces_of (Calls order) (held sheet)) n p.0 in
    let two = or-none (raised WrongSheet (check_refusal sheet)) (first_row_of (order_tests order)) t.0 in
    let none_holds = (done_exactly (order_rows order) (first_row_of (order_tests order)) (order_ranked order)).0 two.1 in
    (right_sheet sheet two.0, none_holds.0, waits order none_holds.1.0, t.1, rw t.0 at p.1)

-- ---- and none of its calls is refused by 10 to 14

none_denies : (order : Order) (h : Head) (bytes : List ℕ) → order.job ≢ 0 → (1 ≤ order.wait) × (order.wait ≤ 60000) → Allowed h → length bytes ≡ length_of h
    → NoRow (request_rows (request_of order h) bytes)
unfolding Allowed request_rows IsNoJob IsNotAModule IsNotARequest IsWrongData IsWrongWait
none_denies order h bytes job wait a long = (
  job,
  (
    λ no. no a.0,
    (λ no. no (inr (inl refl)), (⊎_elim (λ over_long. omega (arith, over_long, long, a.1.1.1)) (λ read. omega (arith, read.0)), (λ no. no wait, tt))),
  ),
)

pub calls_allowed : (sheet : List ℕ) (order : Order) (room : List ℕ) (n : ℕ) (room' : List ℕ) → Asks sheet order room (Ok n) room'
    → (k : ℕ) → k < length (held sheet) → request_refusal (request_of order (named (held sheet) k)) (valued (held sheet) k) ≡ none
calls_allowed sheet order room n room' p k l =
    let d = ask_done sheet order room n room' p in
    let w : Writable (held sheet) = held_writable sheet d.0 in
    (done_exactly (request_rows asked bytes) (request_refusal asked bytes) (request_ranked asked bytes)).1
    (none_denies order (named (held sheet) k) (valued (held sheet) k) d.1 d.2 (w.allowed k l) (w.whole k l))
  where
    asked : Request
    asked = request_of order (named (held sheet) k)

    bytes : List ℕ
    bytes = valued (held sheet) k

-- ---- a call, computed

pub hex_plainly : (hex_digit 0 ≡ 48) × (hex_digit 9 ≡ 57) × (hex_digit 10 ≡ 97) × (hex_digit 15 ≡ 102)
unfolding hex_digit
hex_plainly = (refl, refl, refl, refl)

pub call_spelled : call_of (record { job = 7; wait = 1000; clock = 0 }) (setting (head 15 48 3 1) (52 ∷ 18 ∷ []))
    ≡ ascii "desk.open 7 15 5 48 3412 1000 0 0 000000000000000000000000000000000000"
unfolding call_of hex_of hex_digit decimal decimal_by
call_spelled = refl

-- ---- each call is settled

pub numbers_settled : (f : Fault) → Settled (Numbers f)
numbers_settled f = settled _

pub shows_settled : (sheet room : List ℕ) → Settled {A = Telling × List ℕ} (λ o. Shows sheet room o.0 o.1)
shows_settled sheet room = settled_with _ _

pub asks_settled : (sheet : List ℕ) (order : Order) (room : List ℕ) → Settled {A = Telling × List ℕ} (λ o. Asks sheet order room o.0 o.1)
asks_settled sheet order room = settled_with _ _
