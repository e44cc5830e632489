-- What is promised of folders at the desk: 02, #110, "One folder, one job".
-- Assumes nothing.
use mathlib.Core.Path.{◌≡◌, refl}
use mathlib.Core.Bool.{Bool, true, false}
use mathlib.Core.List.{List}
use mathlib.Core.Logic.{◌≢◌, ◌↔◌}
use mathlib.Core.Option.{Option, some, none}
use Prim.Native.Nat.{ℕ, ◌+◌, ◌-◌}
use native.Mathlib.Omega.{arith}
use borrow.Author.Tests.{le-leb}
use lib.Dec.{leb, ltb}
use lib.ListN.{length}
use Rattle.request.specs.Request.{ask_refusal}
use Rattle.request.specs.Request.{fault_number as ask_number}
use Rattle.request.specs.declared.Fault.{Fault as Asked}
use Rattle.request.specs.declared.Request.{Request}
use Rattle.rows.proofs.Laws.{told_true}
use Rattle.telegram.specs.declared.Fault.TheVariants as unread
use Rattle.ticket.specs.declared.Fault.TheVariants as fit
use Rattle.desk.proofs.Count.{refusal_of, no_more_than_14}
use Rattle.desk.proofs.Laws.{on_host, open_within}
use Rattle.desk.proofs.Ranking.{decides_folder_held}
use Rattle.desk.specs.Desk.{ticket_at, ticket_on, OpenOn, fault_number}
use Rattle.desk.specs.Folder.{IsFolderHeld, is_folder_held}
use Rattle.desk.specs.Open.{distance_of, given_place, request_at, open_refusal, open_answer, open_told, Opens}
use Rattle.desk.specs.declared.AfterOpen.{AfterOpen}
use Rattle.desk.specs.declared.Desk.{Desk}
use Rattle.desk.specs.declared.Fault.{Fault}
use Rattle.desk.specs.declared.Fault.TheVariants.{Denied, FolderHeld, NoneFree, NoRoom, Unread, Misfit, NotTheirs, NothingDue}

-- ---- what holds a folder, by addresses: on a desk of 95 places, as every call leaves it

pub held_on : (desk : Desk) (asked : Request) → length desk.tickets ≡ 95
    → IsFolderHeld desk asked
    ↔ ((asked.folder ≢ 0)
    × ((address : ℕ)
    × OpenOn desk address
    × ((ticket_on desk address).asked.folder ≡ asked.folder)
    × ((ticket_on desk address).asked.job ≢ asked.job)))
unfolding IsFolderHeld
held_on desk asked places = (
  λ held.
      let place = held.1.0 in
      let there = on_host desk place in
      (held.0, (161 + place, rw there held.1.2.0, rw there held.1.2.1, rw there held.1.2.2)),
  λ by.
      let within = open_within desk by.1.0 by.1.1 in
      let there : ticket_on desk by.1.0 ≡ ticket_at desk (by.1.0 - 161) = rw (le-leb 161 by.1.0 within.0) in
      (by.0, (by.1.0 - 161, omega (arith, within.1, places), (rw there at by.1.1, rw there at by.1.2, rw there at by.1.3))),
)

-- "0 for none": who asks for no folder is kept off none
pub no_folder_lem : (desk : Desk) (asked : Request) → asked.folder ≡ 0 → IsFolderHeld desk asked → ⊥
unfolding IsFolderHeld
no_folder_lem desk asked e held = held.0 e

-- where it is not held, every open ticket on it is the job's own
pub folder_apart : (desk : Desk) (asked : Request) → length desk.tickets ≡ 95 → (IsFolderHeld desk asked → ⊥) → (address : ℕ) → OpenOn desk address
    → (ticket_on desk address).asked.job ≢ asked.job → asked.folder ≢ 0 → (ticket_on desk address).asked.folder ≢ asked.folder
folder_apart desk asked places free address live other used same = free ((held_on desk asked places).1 (used, (address, live, same, other)))

-- ---- "75 folder held by another job, after 14 and before 15": told exactly where it is held and 10 to 14 do not apply

number_of : {m n : ℕ} → ◌≡◌ {A = Option ℕ} (some m) (some n) → m ≡ n
number_of e = cc

by_tests : (o : Option Asked) (held far short : Bool) (address n : ℕ)
    → (open_told (open_answer (refusal_of o held far short) address n) ≡ some 75) ↔ ((o ≡ none) × (held ≡ true))
by_tests (some f) held far short address n =
    (λ e. absurd (omega (arith, no_more_than_14 f, let is : ask_number f ≡ 75 = number_of e in is)), λ p. absurd (let z : ◌≡◌ {A = ℕ} 0 1 = (let q = p.0 in cc) in omega arith))
by_tests none true far short address n = (λ e. (refl, refl), λ p. refl)
by_tests none false true short address n = (λ e. absurd (omega (arith, number_of e)), λ p. absurd (let z : ◌≡◌ {A = ℕ} 0 1 = (let q = p.1 in cc) in omega arith))
by_tests none false false true address n = (λ e. absurd (omega (arith, number_of e)), λ p. absurd (let z : ◌≡◌ {A = ℕ} 0 1 = (let q = p.1 in cc) in omega arith))
by_tests none false false false address n = (λ e. absurd (let z : ◌≡◌ {A = ℕ} 0 1 = cc in omega arith), λ p. absurd (let z : ◌≡◌ {A = ℕ} 0 1 = (let q = p.1 in cc) in omega arith))

-- and of no other refusal
pub only_held : (f : Fault) → fault_number f ≡ 75 → f ≡ FolderHeld
only_held FolderHeld e = refl
only_held (Denied g) e = absurd (omega (arith, e, no_more_than_14 g))
only_held NoneFree e = absurd (omega arith)
only_held NoRoom e = absurd (omega arith)
only_held (Unread unread.NotFramed) e = absurd (omega arith)
only_held (Unread unread.StrayEnd) e = absurd (omega arith)
only_held (Unread (unread.BadSubstitution place)) e = absurd (omega arith)
only_held (Unread unread.ShortMessage) e = absurd (omega arith)
only_held (Unread unread.LongMessage) e = absurd (omega arith)
only_held (Unread unread.NoRoom) e = absurd (omega arith)
only_held (Unread unread.CheckFault) e = absurd (omega arith)
only_held (Unread unread.ZeroAddress) e = absurd (omega arith)
only_held (Unread unread.UnknownType) e = absurd (omega arith)
only_held (Misfit fit.Withdrawn) e = absurd (omega arith)
only_held (Misfit fit.NoTicket) e = absurd (omega arith)
only_held (Misfit fit.OtherModule) e = absurd (omega arith)
only_held (Misfit fit.OtherKind) e = absurd (omega arith)
only_held (Misfit fit.OtherRegister) e = absurd (omega arith)
only_held NotTheirs e = absurd (omega arith)
only_held NothingDue e = absurd (omega arith)

pub held_exactly : (desk : Desk) (asked : Request) (bytes : List ℕ) (clock : ℕ) (room : List ℕ) (r : AfterOpen) (room' : List ℕ)
    → Opens desk asked bytes clock room r room'
    → (open_told r.answer ≡ some 75) ↔ ((ask_refusal asked bytes ≡ none) × IsFolderHeld desk asked)
unfolding open_refusal
held_exactly desk asked bytes clock room r room' opens =
    let request : List ℕ = request_at (given_place desk clock) asked bytes in
    let by =
    by_tests (ask_refusal asked bytes) (is_folder_held desk asked) (leb 95 (distance_of desk clock)) (ltb (length room) (length request))
    (161 + given_place desk clock) (length request) in
    let decides = decides_folder_held desk asked in (
      λ e. let p = by.0 (rw opens.0 at e) in (p.0, decides.so p.1),
      λ p. rw opens.0 (by.1 (p.0, told_true decides p.1)),
    )
