-- Rows 10 to 22, 61 and 75 are tested as the papers word them, in the order of each call: what a call refuses is what its rows give.
-- Assumes nothing.
use mathlib.Core.Path.{◌≡◌, refl, ap, ◌∙◌}
use mathlib.Core.Bool.{true, false}
use mathlib.Core.List.{List, [], ◌∷◌, ◌++◌}
use mathlib.Core.Logic.{◌≢◌, ◌⊎◌}
use mathlib.Core.Option.{Option, some, none}
use Prim.Native.Nat.{ℕ, ◌+◌, ◌-◌, ◌%◌, ◌≤◌, ◌<◌}
use native.Mathlib.Omega.{arith}
use borrow.Author.Tests.{leb-true, leb-false, ltb-true, ltb-false}
use lib.Dec.{leb, ltb}
use lib.ListN.{length}
use Rattle.first.proofs.Laws.{Ended, ended}
use Rattle.request.proofs.Laws.{ask_ranked}
use Rattle.request.specs.Request.{IsNoJob, IsNotAModule, IsNotARequest, IsWrongData, IsWrongWait, ask_rows, ask_refusal}
use Rattle.request.specs.declared.Request.{Request}
use Rattle.rows.proofs.Laws.{Decides, decides_lt, decides_eq, decides_not, decides_and, decides_set, ranked, ◌otherwise◌, ranked_append, ranked_up, numbered}
use Rattle.rows.specs.Rows.{Ranked, Numbered, row, test, first_row_of, passed_up, raised}
use Rattle.telegram.proofs.Ranking.{read_ranked}
use Rattle.telegram.specs.Read.{read_rows, read_refusal, fields_in}
use Rattle.telegram.specs.Read.{fault_number as read_number}
use Rattle.telegram.specs.declared.Fields.{Fields}
use Rattle.ticket.proofs.Laws.{fit_ranked, decides_due, decides_free, decides_barred, open_or_rests, taken_not_free}
use Rattle.ticket.specs.Due.{age, IsDue, is_due}
use Rattle.ticket.specs.Fit.{KindFits, RegisterFits, IsWithdrawn, IsNoTicket, IsOtherModule, IsOtherKind, IsOtherRegister, fit_rows, fit_refusal}
use Rattle.ticket.specs.Folder.{Bars, is_barred}
use Rattle.ticket.specs.Rest.{Rests, is_free}
use Rattle.ticket.specs.Ticket.{Open}
use Rattle.ticket.specs.declared.Ticket.{Ticket}
use Rattle.desk.specs.Close.{IsNotTheirs, cancel_rows, cancel_refusal, IsNothingDue, expire_rows, due_place, expire_refusal, cancel_tests, expire_tests}
use Rattle.desk.specs.Close.{close_answer, close_told, Cancels, Expires}
use Rattle.desk.specs.Folder.{IsFolderHeld, holder_place, is_folder_held}
use Rattle.desk.specs.Open.{place_from, distance_of, given_place, request_at, IsNoneFree, IsNoRoom, place_rows, place_tests, open_refusal, open_rows}
use Rattle.desk.specs.Open.{open_answer, open_told, Opens}
use Rattle.desk.specs.Reply.{book_rows, reply_rows, book_refusal, reply_refusal, book_answer, book_told, Replies}
use Rattle.desk.specs.Desk.{ticket_at, ticket_on, fault_number}
use Rattle.desk.specs.declared.Desk.{Desk}
use Rattle.desk.specs.declared.Fault.{Fault}
use Rattle.desk.specs.declared.Fault.TheVariants.{Denied, FolderHeld, Unread, Misfit}
use Rattle.desk.specs.declared.AfterOpen.{AfterOpen}
use Rattle.desk.specs.declared.AfterReply.{AfterReply}
use Rattle.desk.specs.declared.AfterClose.{AfterClose}

-- ---- 15 and 16

-- each place is at some distance under 95 from the turn
pub reached : (turn place : ℕ) → place < 95 → (k : ℕ) × (k < 95) × (place_from turn k ≡ place)
reached turn place h = ((place + 95 - turn % 95) % 95, omega arith, omega arith)

-- where the search from the turn has ended
pub search_ended : (desk : Desk) (clock : ℕ) → Ended (λ k. is_free clock (ticket_at desk (place_from desk.turn k))) 95 (distance_of desk clock)
unfolding distance_of
search_ended desk clock = ended (λ k. is_free clock (ticket_at desk (place_from desk.turn k))) 95

module _ (desk : Desk) (clock : ℕ) where
  -- what the search passes is open or rests
  pub search_passed : (k : ℕ) → k < distance_of desk clock
      → Open (ticket_at desk (place_from desk.turn k)) ⊎ Rests clock (ticket_at desk (place_from desk.turn k))
  search_passed k h = open_or_rests clock (ticket_at desk (place_from desk.turn k)) ((search_ended desk clock).before k h)

  pub decides_none_free : Decides (leb 95 (distance_of desk clock)) (IsNoneFree desk clock)
  unfolding IsNoneFree
  decides_none_free = record { so = all; not_so = some_free }
    where
      all : leb 95 (distance_of desk clock) ≡ true → (place : ℕ) → place < 95 → Open (ticket_at desk place) ⊎ Rests clock (ticket_at desk place)
      all far place h =
          let k = reached desk.turn place h in
          rw k.2 at (search_passed k.0 (omega (arith, k.1, leb-true 95 (distance_of desk clock) far)))

      some_free : leb 95 (distance_of desk clock) ≡ false
          → ((place : ℕ) → place < 95 → Open (ticket_at desk place) ⊎ Rests clock (ticket_at desk place)) → ⊥
      some_free near taken =
          let h : distance_of desk clock < 95 = leb-false 95 (distance_of desk clock) near in
          let given : ℕ = place_from desk.turn (distance_of desk clock) in
          taken_not_free clock (ticket_at desk given) (taken given (omega arith)) ((decides_free clock (ticket_at desk given)).so ((search_ended desk clock).there h))

-- ---- 75

-- where the search for a holder of the folder has ended
holder_ended : (desk : Desk) (job folder : ℕ) → Ended (λ k. is_barred job folder (ticket_at desk k)) 95 (holder_place desk job folder)
unfolding holder_place
holder_ended desk job folder = ended (λ k. is_barred job folder (ticket_at desk k)) 95

decides_holder : (desk : Desk) (job folder : ℕ)
    → Decides (ltb (holder_place desk job folder) 95) ((place : ℕ) × (place < 95) × Bars job folder (ticket_at desk place))
decides_holder desk job folder = record { so = holder; not_so = nobody }
  where
    holder : ltb (holder_place desk job folder) 95 ≡ true → (place : ℕ) × (place < 95) × Bars job folder (ticket_at desk place)
    holder e =
        let h : holder_place desk job folder < 95 = ltb-true (holder_place desk job folder) 95 e in
        (holder_place desk job folder, h, (decides_barred job folder (ticket_at desk (holder_place desk job folder))).so ((holder_ended desk job folder).there h))

    nobody : ltb (holder_place desk job folder) 95 ≡ false → ((place : ℕ) × (place < 95) × Bars job folder (ticket_at desk place)) → ⊥
    nobody e b =
        let far : 95 ≤ holder_place desk job folder = ltb-false (holder_place desk job folder) 95 e in
        (decides_barred job folder (ticket_at desk b.0)).not_so ((holder_ended desk job folder).before b.0 (omega (arith, b.1, far))) b.2

pub decides_folder_held : (desk : Desk) (asked : Request) → Decides (is_folder_held desk asked) (IsFolderHeld desk asked)
unfolding IsFolderHeld is_folder_held
decides_folder_held desk asked = decides_and (decides_not (decides_eq asked.folder 0)) (decides_holder desk asked.job asked.folder)

pub open_ranked : (desk : Desk) (asked : Request) (bytes : List ℕ) (clock room : ℕ)
    → Ranked (open_rows desk asked bytes clock room) (open_refusal desk asked bytes clock room)
unfolding open_rows open_refusal place_rows IsNoRoom
open_ranked desk asked bytes clock room =
    ranked_append (passed_up Denied (ask_rows asked bytes)) (row (IsFolderHeld desk asked) FolderHeld ∷ place_rows desk clock request room)
    (raised Denied (ask_refusal asked bytes)) (first_row_of (test (is_folder_held desk asked) FolderHeld ∷ place_tests (distance_of desk clock) request room))
    (ranked_up Denied (ask_rows asked bytes) (ask_refusal asked bytes) (ask_ranked asked bytes))
    (λ n. ranked (test (is_folder_held desk asked) FolderHeld ∷ place_tests (distance_of desk clock) request room)
    (row (IsFolderHeld desk asked) FolderHeld ∷ place_rows desk clock request room)
    (decides_folder_held desk asked otherwise λ n₇₅.
    decides_none_free desk clock otherwise λ n₁₅.
    decides_lt room (length request) otherwise λ n₁₆. tt))
  where
    request : List ℕ
    request = request_at (given_place desk clock) asked bytes

-- ---- 61 and 17 to 20

pub book_ranked : (desk : Desk) (t : Fields) → Ranked (book_rows desk t) (book_refusal desk t)
unfolding book_rows book_refusal
book_ranked desk t =
    ranked_up Misfit (fit_rows (ticket_on desk t.destination) t) (fit_refusal (ticket_on desk t.destination) t) (fit_ranked (ticket_on desk t.destination) t)

pub reply_ranked : (desk : Desk) (frame : List ℕ) (room : ℕ) → Ranked (reply_rows desk frame room) (reply_refusal desk frame room)
unfolding reply_rows reply_refusal
reply_ranked desk frame room =
    ranked_append (passed_up Unread (read_rows frame room)) (book_rows desk (fields_in frame)) (raised Unread (read_refusal frame room))
    (book_refusal desk (fields_in frame)) (ranked_up Unread (read_rows frame room) (read_refusal frame room) (read_ranked frame room))
    (λ n. book_ranked desk (fields_in frame))

-- ---- 21 and 22

pub cancel_ranked : (desk : Desk) (job address : ℕ) → Ranked (cancel_rows desk job address) (cancel_refusal desk job address)
unfolding cancel_rows cancel_refusal IsNotTheirs
cancel_ranked desk job address =
    ranked (cancel_tests (ticket_on desk address) job) (cancel_rows desk job address)
    (decides_not (decides_and (decides_set (ticket_on desk address).live) (decides_eq (ticket_on desk address).asked.job job)) otherwise λ n₂₁. tt)

-- where the search for a due ticket has ended
pub due_ended : (desk : Desk) (clock : ℕ) → Ended (λ k. is_due clock (ticket_at desk k)) 95 (due_place desk clock)
unfolding due_place
due_ended desk clock = ended (λ k. is_due clock (ticket_at desk k)) 95

decides_nothing_due : (desk : Desk) (clock : ℕ) → Decides (leb 95 (due_place desk clock)) (IsNothingDue desk clock)
unfolding IsNothingDue
decides_nothing_due desk clock = record { so = nothing; not_so = some_due }
  where
    nothing : leb 95 (due_place desk clock) ≡ true → (place : ℕ) → place < 95 → IsDue clock (ticket_at desk place) → ⊥
    nothing far place h = (decides_due clock (ticket_at desk place)).not_so ((due_ended desk clock).before place (omega (arith, leb-true 95 (due_place desk clock) far)))

    some_due : leb 95 (due_place desk clock) ≡ false → ((place : ℕ) → place < 95 → IsDue clock (ticket_at desk place) → ⊥) → ⊥
    some_due near nowhere =
        let h : due_place desk clock < 95 = leb-false 95 (due_place desk clock) near in
        nowhere (due_place desk clock) h ((decides_due clock (ticket_at desk (due_place desk clock))).so ((due_ended desk clock).there h))

pub expire_ranked : (desk : Desk) (clock : ℕ) → Ranked (expire_rows desk clock) (expire_refusal desk clock)
unfolding expire_rows expire_refusal
expire_ranked desk clock = ranked (expire_tests (due_place desk clock)) (expire_rows desk clock) (decides_nothing_due desk clock otherwise λ n₂₂. tt)

-- ---- and so of the calls' answers, by their contracts and in numbers

open_tells : (o : Option Fault) (address n : ℕ) → open_told (open_answer o address n) ≡ raised fault_number o
open_tells none address n = refl
open_tells (some f) address n = refl

pub open_exactly : (desk : Desk) (asked : Request) (bytes : List ℕ) (clock : ℕ) (room : List ℕ) (r : AfterOpen) (room' : List ℕ)
    → Opens desk asked bytes clock room r room'
    → Numbered (passed_up fault_number (open_rows desk asked bytes clock (length room))) (10 ∷ 11 ∷ 12 ∷ 13 ∷ 14 ∷ 75 ∷ 15 ∷ 16 ∷ []) (open_told r.answer)
unfolding open_rows place_rows ask_rows
open_exactly desk asked bytes clock room r room' o =
    numbered fault_number (open_rows desk asked bytes clock (length room)) (open_refusal desk asked bytes clock (length room))
    (open_ranked desk asked bytes clock (length room)) (10 ∷ 11 ∷ 12 ∷ 13 ∷ 14 ∷ 75 ∷ 15 ∷ 16 ∷ []) refl refl (open_told r.answer)
    (ap open_told o.0 ∙ open_tells (open_refusal desk asked bytes clock (length room)) _ _)

pub book_tells : (o : Option Fault) (ticket : Ticket) (t : Fields) → book_told (book_answer o ticket t) ≡ raised fault_number o
book_tells none ticket t = refl
book_tells (some f) ticket t = refl

pub reply_exactly : (desk : Desk) (frame room : List ℕ) (r : AfterReply) (room' : List ℕ) → Replies desk frame room r room'
    → Numbered (passed_up fault_number (reply_rows desk frame (length room)))
    (1 ∷ 2 ∷ 3 ∷ 4 ∷ 5 ∷ 6 ∷ 7 ∷ 8 ∷ 9 ∷ 61 ∷ 17 ∷ 18 ∷ 19 ∷ 20 ∷ []) (book_told r.answer)
unfolding reply_rows book_rows read_rows fit_rows
reply_exactly desk frame room r room' o =
    numbered fault_number (reply_rows desk frame (length room)) (reply_refusal desk frame (length room)) (reply_ranked desk frame (length room))
    (1 ∷ 2 ∷ 3 ∷ 4 ∷ 5 ∷ 6 ∷ 7 ∷ 8 ∷ 9 ∷ 61 ∷ 17 ∷ 18 ∷ 19 ∷ 20 ∷ []) refl refl (book_told r.answer)
    (ap book_told o.0 ∙ book_tells (reply_refusal desk frame (length room)) _ _)

close_tells : (o : Option Fault) (ticket : Ticket) (address : ℕ) → close_told (close_answer o ticket address) ≡ raised fault_number o
close_tells none ticket address = refl
close_tells (some f) ticket address = refl

pub cancel_exactly : (desk : Desk) (job address clock : ℕ) (r : AfterClose) → Cancels desk job address clock r
    → Numbered (passed_up fault_number (cancel_rows desk job address)) (21 ∷ []) (close_told r.answer)
unfolding cancel_rows
cancel_exactly desk job address clock r o =
    numbered fault_number (cancel_rows desk job address) (cancel_refusal desk job address) (cancel_ranked desk job address)
    (21 ∷ []) refl refl (close_told r.answer) (ap close_told o.0 ∙ close_tells (cancel_refusal desk job address) _ _)

pub expire_exactly : (desk : Desk) (clock : ℕ) (r : AfterClose) → Expires desk clock r
    → Numbered (passed_up fault_number (expire_rows desk clock)) (22 ∷ []) (close_told r.answer)
unfolding expire_rows
expire_exactly desk clock r o =
    numbered fault_number (expire_rows desk clock) (expire_refusal desk clock) (expire_ranked desk clock)
    (22 ∷ []) refl refl (close_told r.answer) (ap close_told o.0 ∙ close_tells (expire_refusal desk clock) _ _)

-- ---- the rows of the calls written out, each with its number; the reader's are those of the crate `telegram`

pub open_plainly : (desk : Desk) (asked : Request) (bytes : List ℕ) (clock : ℕ) (room : List ℕ) (r : AfterOpen) (room' : List ℕ)
    → Opens desk asked bytes clock room r room'
    → Numbered
    (row (asked.job ≡ 0) 10
    ∷ row ((1 ≤ asked.unit) × (asked.unit ≤ 160) → ⊥) 11
    ∷ row ((asked.sort ≡ 4) ⊎ ((asked.sort ≡ 5) ⊎ ((asked.sort ≡ 6) ⊎ ((asked.sort ≡ 7) ⊎ (asked.sort ≡ 9)))) → ⊥) 12
    ∷ row ((240 < length bytes) ⊎ ((asked.sort ≡ 4) × (0 < length bytes))) 13
    ∷ row ((1 ≤ asked.wait) × (asked.wait ≤ 60000) → ⊥) 14
    ∷ row ((asked.folder ≢ 0)
    × ((place : ℕ)
    × (place < 95)
    × (((ticket_at desk place).live ≡ true) × ((ticket_at desk place).asked.folder ≡ asked.folder) × ((ticket_at desk place).asked.job ≢ asked.job)))) 75
    ∷ row ((place : ℕ) → place < 95
    → ((ticket_at desk place).live ≡ true) ⊎ (((ticket_at desk place).withdrawn ≡ true) × (age clock (ticket_at desk place).closed < 1000))) 15
    ∷ row (length room < length (request_at (given_place desk clock) asked bytes)) 16
    ∷ [])
    (10 ∷ 11 ∷ 12 ∷ 13 ∷ 14 ∷ 75 ∷ 15 ∷ 16 ∷ []) (open_told r.answer)
unfolding open_rows place_rows ask_rows IsNoJob IsNotAModule IsNotARequest IsWrongData IsWrongWait IsFolderHeld IsNoneFree IsNoRoom
open_plainly desk asked bytes clock room r room' o = open_exactly desk asked bytes clock room r room' o

pub reply_plainly : (desk : Desk) (frame room : List ℕ) (r : AfterReply) (room' : List ℕ) → Replies desk frame room r room'
    → Numbered
    (passed_up read_number (read_rows frame (length room))
    ++ (row (((ticket_on desk (fields_in frame).destination).live ≡ true → ⊥) × ((ticket_on desk (fields_in frame).destination).withdrawn ≡ true)) 61
    ∷ row ((ticket_on desk (fields_in frame).destination).live ≡ true → ⊥) 17
    ∷ row ((fields_in frame).source ≢ (ticket_on desk (fields_in frame).destination).asked.unit) 18
    ∷ row (KindFits (ticket_on desk (fields_in frame).destination).asked.sort (fields_in frame).sort → ⊥) 19
    ∷ row (RegisterFits (ticket_on desk (fields_in frame).destination).asked.register (fields_in frame).sort (fields_in frame).register → ⊥) 20
    ∷ []))
    (1 ∷ 2 ∷ 3 ∷ 4 ∷ 5 ∷ 6 ∷ 7 ∷ 8 ∷ 9 ∷ 61 ∷ 17 ∷ 18 ∷ 19 ∷ 20 ∷ []) (book_told r.answer)
unfolding reply_rows book_rows read_rows fit_rows IsWithdrawn IsNoTicket IsOtherModule IsOtherKind IsOtherRegister
reply_plainly desk frame room r room' o = reply_exactly desk frame room r room' o

pub cancel_plainly : (desk : Desk) (job address clock : ℕ) (r : AfterClose) → Cancels desk job address clock r
    → Numbered (row (((ticket_on desk address).live ≡ true) × ((ticket_on desk address).asked.job ≡ job) → ⊥) 21 ∷ []) (21 ∷ []) (close_told r.answer)
unfolding cancel_rows IsNotTheirs
cancel_plainly desk job address clock r o = cancel_exactly desk job address clock r o

pub expire_plainly : (desk : Desk) (clock : ℕ) (r : AfterClose) → Expires desk clock r
    → Numbered
    (row ((place : ℕ) → place < 95
    → ((ticket_at desk place).live ≡ true) × ((ticket_at desk place).asked.wait ≤ age clock (ticket_at desk place).opened) → ⊥) 22 ∷ [])
    (22 ∷ []) (close_told r.answer)
unfolding expire_rows IsNothingDue
expire_plainly desk clock r o = expire_exactly desk clock r o
