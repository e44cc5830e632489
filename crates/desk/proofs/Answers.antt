-- What an answer tells of the refusal that it was made from.
-- Assumes nothing.
use Rattle.desk.specs.declared.Closed.{Closed}
use Rattle.desk.specs.declared.Booked.{Booked}
use Rattle.desk.specs.declared.Opened.{Opened}
use Rattle.desk.specs.Answers.{booking, closing, opening}
use Rattle.std.specs.Prelude.{Err, Result, Ok}
use mathlib.Core.Path.{◌≡◌, refl, ap}
use mathlib.Core.Option.{Option, some, none}
use Prim.Native.Nat.{ℕ}
use native.Mathlib.Omega.{arith}
use Rattle.telegram.specs.declared.Fields.{Fields}
use Rattle.desk.specs.Close.{close_answer}
use Rattle.desk.specs.Open.{open_answer}
use Rattle.desk.specs.Reply.{book_answer}
use Rattle.ticket.specs.declared.Ticket.{Ticket}
use Rattle.desk.specs.declared.Fault.{Fault}

-- a number of what was answered; 0 of a refusal
abbrev given : {A : Type 0} → (A → ℕ) → Result A Fault → ℕ
given field (Ok a) = field a
given field (Err f) = 0

never : {A : Type 0} → ◌≡◌ {A = ℕ} 0 1 → A
never z = absurd (omega arith)

pub opened_told : (o : Option Fault) (a n address k : ℕ) → opening address k ≡ open_answer o a n → (o ≡ none) × (address ≡ a) × (k ≡ n)
opened_told none a n address k e = (refl, ap (given (λ (o : Opened). o.address)) e, ap (given (λ (o : Opened). o.size)) e)
opened_told (some f) a n address k e = never (cc)

pub open_refused_lem : (o : Option Fault) (a n : ℕ) (f : Fault) → Err f ≡ open_answer o a n → o ≡ some f
open_refused_lem none a n f e = cc
open_refused_lem (some g) a n f e = cc

pub booked_told : (o : Option Fault) (ticket : Ticket) (t : Fields) (job address sort n folder : ℕ)
    → booking job address sort n folder ≡ book_answer o ticket t
    → (o ≡ none) × (job ≡ ticket.asked.job) × (address ≡ t.destination) × (sort ≡ t.sort) × (n ≡ t.size) × (folder ≡ ticket.asked.folder)
booked_told none ticket t job address sort n folder e = (
  refl,
  ap (given (λ (b : Booked). b.job)) e,
  ap (given (λ (b : Booked). b.address)) e,
  ap (given (λ (b : Booked). b.sort)) e,
  ap (given (λ (b : Booked). b.size)) e,
  ap (given (λ (b : Booked). b.folder)) e,
)
booked_told (some f) ticket t job address sort n folder e = never (cc)

pub book_refused : (o : Option Fault) (ticket : Ticket) (t : Fields) (f : Fault) → Err f ≡ book_answer o ticket t → o ≡ some f
book_refused none ticket t f e = cc
book_refused (some g) ticket t f e = cc

pub closed_told : (o : Option Fault) (ticket : Ticket) (a job address folder : ℕ) → closing job address folder ≡ close_answer o ticket a
    → (o ≡ none) × (job ≡ ticket.asked.job) × (address ≡ a) × (folder ≡ ticket.asked.folder)
closed_told none ticket a job address folder e = (
  refl,
  ap (given (λ (c : Closed). c.job)) e,
  ap (given (λ (c : Closed). c.address)) e,
  ap (given (λ (c : Closed). c.folder)) e,
)
closed_told (some f) ticket a job address folder e = never (cc)

pub close_refused : (o : Option Fault) (ticket : Ticket) (a : ℕ) (f : Fault) → Err f ≡ close_answer o ticket a → o ≡ some f
close_refused none ticket a f e = cc
close_refused (some g) ticket a f e = cc
