-- 02, #105: "All that pass the reader's answer on [..] pass the place on": the desk's reply.
-- Assumes nothing.
use Rattle.std.specs.Prelude.{Ok, Err}
use mathlib.Core.Path.{◌≡◌, refl, sym, ap, subst, ◌∙◌}
use mathlib.Core.List.{List}
use mathlib.Core.Logic.{◌≢◌}
use mathlib.Core.Option.{Option, some, none}
use Prim.Native.Nat.{ℕ}
use native.Mathlib.Omega.{arith}
use lib.ListN.{length}
use Rattle.rows.proofs.Laws.{clash}
use Rattle.rows.proofs.Settled.{settled}
use Rattle.rows.specs.Rows.{or_later, raised}
use Rattle.rows.specs.Settled.{Settled}
use Rattle.request.specs.declared.Fault.TheVariants as ask
use Rattle.telegram.proofs.Faulty.{refused_place, fault_no_place}
use Rattle.telegram.specs.Read.{FirstFaulty, read_refusal, fields_in}
use Rattle.telegram.specs.declared.Fault.{Fault as Unreadable}
use Rattle.ticket.specs.Fit.{fit_refusal}
use Rattle.ticket.specs.declared.Fault.{Fault as Unfit}
use Rattle.ticket.specs.declared.Fault.TheVariants as fit
use Rattle.desk.proofs.Answers.{book_refused}
use Rattle.desk.specs.Desk.{ticket_on, fault_number, fault_place, Places}
use Rattle.desk.specs.Reply.{book_refusal, reply_refusal, book_told, book_place, Replies}
use Rattle.desk.specs.declared.AfterReply.{AfterReply}
use Rattle.desk.specs.Answers.{Booking}
use Rattle.desk.specs.declared.Desk.{Desk}
use Rattle.desk.specs.declared.Fault.{Fault}
use Rattle.desk.specs.declared.Fault.TheVariants.{Denied, FolderHeld, NoneFree, NoRoom, Unread, Misfit, NotTheirs, NothingDue}

-- of the desk's refusals only the reader's has number 3
three_unread : (f : Fault) → fault_number f ≡ 3 → (g : Unreadable) × (f ≡ Unread g)
three_unread (Unread g) e = (g, refl)
three_unread (Denied ask.NoJob) e = absurd (omega arith)
three_unread (Denied ask.NotAModule) e = absurd (omega arith)
three_unread (Denied ask.NotARequest) e = absurd (omega arith)
three_unread (Denied ask.WrongData) e = absurd (omega arith)
three_unread (Denied ask.WrongWait) e = absurd (omega arith)
three_unread FolderHeld e = absurd (omega arith)
three_unread NoneFree e = absurd (omega arith)
three_unread NoRoom e = absurd (omega arith)
three_unread (Misfit fit.Withdrawn) e = absurd (omega arith)
three_unread (Misfit fit.NoTicket) e = absurd (omega arith)
three_unread (Misfit fit.OtherModule) e = absurd (omega arith)
three_unread (Misfit fit.OtherKind) e = absurd (omega arith)
three_unread (Misfit fit.OtherRegister) e = absurd (omega arith)
three_unread NotTheirs e = absurd (omega arith)
three_unread NothingDue e = absurd (omega arith)

-- what refused the reply so refused the frame
unread_only : (o : Option Unreadable) (p : Option Unfit) (g : Unreadable) → or_later (raised Unread o) (raised Misfit p) ≡ some (Unread g) → o ≡ some g
unread_only (some h) p g e = cc
unread_only none none g e = clash (cc)
unread_only none (some h) g e = clash (cc)

number_of : {m n : ℕ} → ◌≡◌ {A = Option ℕ} (some m) (some n) → m ≡ n
number_of e = cc

module _ (desk : Desk) (frame room : List ℕ) (r : AfterReply) (room' : List ℕ) (replies : Replies desk frame room r room') where
  -- 3 comes with the place of the first faulty 94 of the reply's frame
  pub reply_place : book_told r.answer ≡ some 3 → FirstFaulty frame (book_place r.answer)
  unfolding reply_refusal book_refusal
  reply_place told = go r.answer refl told
    where
      go : (a : Booking) → r.answer ≡ a → book_told a ≡ some 3 → FirstFaulty frame (book_place a)
      go (Ok booked) is e = clash (cc)
      go (Err f) is e =
          let u = three_unread f (number_of e) in
          let refusal : reply_refusal desk frame (length room) ≡ some (Unread u.0) =
          book_refused (reply_refusal desk frame (length room)) _ _ f (sym is ∙ replies.0) ∙ ap some u.1 in
          subst (λ (x : Fault). FirstFaulty frame (fault_place x)) (sym u.1)
          (refused_place frame (length room) u.0
          (unread_only (read_refusal frame (length room)) (fit_refusal (ticket_on desk (fields_in frame).destination) (fields_in frame)) u.0 refusal)
          (sym (ap fault_number u.1) ∙ number_of e))

  -- and the call `place` tells it
  pub reply_told_place : (f : Fault) (place : ℕ) → r.answer ≡ Err f → fault_number f ≡ 3 → Places f place → FirstFaulty frame place
  reply_told_place f place is number told =
      subst (FirstFaulty frame) (sym told) (subst (λ (a : Booking). book_told a ≡ some 3 → FirstFaulty frame (book_place a)) is reply_place (ap some number))

-- no other answer has a place
pub fault_unplaced : (f : Fault) → fault_number f ≢ 3 → fault_place f ≡ 0
fault_unplaced (Unread g) other = fault_no_place g other
fault_unplaced (Denied g) other = refl
fault_unplaced FolderHeld other = refl
fault_unplaced NoneFree other = refl
fault_unplaced NoRoom other = refl
fault_unplaced (Misfit g) other = refl
fault_unplaced NotTheirs other = refl
fault_unplaced NothingDue other = refl

pub reply_no_place : (a : Booking) → book_told a ≢ some 3 → book_place a ≡ 0
reply_no_place (Ok booked) other = refl
reply_no_place (Err f) other = fault_unplaced f (λ e. other (ap some e))

-- the call `place` gives the place that these laws speak of
pub place_is : (f : Fault) (r : ℕ) → Places f r → r ≡ fault_place f
place_is f r p = p

pub places_settled : (f : Fault) → Settled (Places f)
places_settled f = settled _
