-- End to end: a request that was opened at the desk, the reply of a bench at that module's address, and the ticket that the reply closes.
-- Assumes nothing.
use Rattle.desk.specs.Answers.{booking, opening}
use Rattle.std.specs.Prelude.{Ok, Err}
use mathlib.Core.Path.{◌≡◌, refl, sym, ap, ◌∙◌, subst}
use mathlib.Core.Bool.{Bool, true, false, cond, ◌&&◌}
use mathlib.Core.List.{List}
use mathlib.Core.Logic.{◌≢◌, ◌⊎◌, inl, inr, ⊎_elim}
use mathlib.Core.Option.{some, none}
use Prim.Native.Nat.{ℕ, ◌+◌, ◌≤◌, ◌<◌}
use native.Mathlib.Omega.{arith}
use borrow.Author.Tests.{eqb-true, eqb-false}
use lib.Dec.{eqb}
use lib.ListN.{length, take, replicate, length-replicate}
use Rattle.lent.proofs.Laws.{take-over}
use Rattle.lent.specs.Lent.{over}
use Rattle.rows.proofs.Laws.{told_true, done_exactly, refused_exactly}
use Rattle.rows.specs.Rows.{raised}
use Rattle.telegram.proofs.Judge.{reading_telegram}
use Rattle.telegram.proofs.Laws.{data_of_written}
use Rattle.telegram.proofs.Sound.{message_of_framed}
use Rattle.telegram.specs.Read.{read_refusal, room_after, read_frame, fields_in, data_in}
use Rattle.telegram.specs.Write.{message_for, telegram_for, fields_for}
use Rattle.telegram.specs.declared.Fields.{Fields}
use Rattle.values.specs.Values.{size_of, bytes_of}
use Rattle.deeds.proofs.Laws.{read_deed_lem}
use Rattle.deeds.specs.Deeds.{HasRight, has_right, nack, ack, datagram, read_deed, write_deed, held_deed}
use Rattle.deeds.specs.declared.Deed.{Deed}
use Rattle.deeds.specs.declared.Register.{Register}
use Rattle.bench.proofs.Laws.{decides_held}
use Rattle.bench.proofs.Rules.{no_refusal, reply_reads}
use Rattle.bench.specs.Register.{Held, named, is_held}
use Rattle.bench.specs.Take.{deed_of, reply_of, IsNotARequest, Takes, Answerable}
use Rattle.bench.specs.declared.Bench.{Bench}
use Rattle.bench.specs.declared.AfterTake.{AfterTake}
use Rattle.request.proofs.Laws.{ask_ranked, allowed_writable}
use Rattle.request.specs.Request.{IsWrongData, ask_rows, ask_refusal}
use Rattle.ticket.proofs.Laws.{fit_ranked}
use Rattle.ticket.specs.Fit.{KindFits, RegisterFits, IsWithdrawn, IsNoTicket, IsOtherModule, IsOtherKind, IsOtherRegister, fit_rows, fit_refusal}
use Rattle.ticket.specs.declared.Fault.TheVariants.{OtherModule}
use Rattle.ticket.specs.declared.Ticket.{Ticket}
use Rattle.desk.proofs.Laws.{opened_fit, opened_given, fit_to_open, answers_alone, request_reads_back}
use Rattle.desk.specs.Outcome.{ClosedAlone}
use Rattle.desk.specs.Open.{given_place, request_at, open_refusal, Opens}
use Rattle.ticket.specs.Ticket.{no_ticket, new_ticket}
use Rattle.request.specs.declared.Request.{Request}
use Rattle.desk.specs.Reply.{book_refusal, reply_refusal, answered_on, Replies}
use Rattle.desk.specs.Desk.{ticket_on, OpenOn}
use Rattle.desk.specs.declared.Desk.{Desk}
use Rattle.desk.specs.declared.Fault.TheVariants.{Misfit}
use Rattle.desk.specs.declared.AfterOpen.{AfterOpen}
use Rattle.desk.specs.declared.AfterReply.{AfterReply}
use Rattle.kamzhor.specs.Desk.{GivesReply, reply_given}
use Rattle.kamzhor.specs.declared.host_desk.AfterDeskReply.{AfterDeskReply}
use Rattle.nights.proofs.Laws.{allowed_sound}
use Rattle.nights.specs.Night.{SoundDesk}

-- ---- what a bench answers is of a kind that fits what was asked

abbrev FitsAsked : ℕ → Deed → Type 0
FitsAsked sort deed = KindFits sort deed.sort

by_test : {A : Type 0} (P : A → Type 0) (b : Bool) (x y : A) → (b ≡ true → P x) → (b ≡ false → P y) → P (cond b x y)
by_test P true x y p q = p refl
by_test P false x y p q = q refl

module _ (register : Register) (sort : ℕ) where
  nacked : (v : ℕ) → FitsAsked sort (nack v)
  unfolding KindFits
  nacked v = inr (inr (inl refl))

  acked : (right n v : ℕ) → sort ≢ 4 → FitsAsked sort (write_deed register right n v)
  unfolding write_deed KindFits
  acked right n v other =
      by_test (FitsAsked sort) (has_right register right && eqb n (size_of register.kind)) (ack v) (nack register.value)
      (λ e. inr (inl (other, refl))) (λ e. nacked register.value)

  read : (n : ℕ) → sort ≡ 4 → FitsAsked sort (read_deed register n)
  unfolding read_deed KindFits
  read n is =
      by_test (FitsAsked sort) (has_right register 1 && eqb n 0) (datagram register) (nack register.value)
      (λ e. inl (is, refl)) (λ e. nacked register.value)

  held : (bytes : List ℕ) → FitsAsked sort (held_deed register sort bytes)
  unfolding held_deed
  held bytes =
      by_test (FitsAsked sort) (eqb sort 4) _ _ (λ e. read (length bytes) (eqb-true sort 4 e))
      (λ other. by_test (FitsAsked sort) (eqb sort 5) _ _ (λ e. acked 2 (length bytes) _ (eqb-false sort 4 other))
      (λ e. by_test (FitsAsked sort) (eqb sort 6) _ _ (λ e. acked 4 (length bytes) _ (eqb-false sort 4 other))
      (λ e. by_test (FitsAsked sort) (eqb sort 7) _ _ (λ e. acked 4 (length bytes) _ (eqb-false sort 4 other))
      (λ e. by_test (FitsAsked sort) (eqb sort 9) _ _ (λ e. acked 4 (length bytes) _ (eqb-false sort 4 other))
      (λ e. nacked register.value)))))

answer_fits : (bench : Bench) (t : Fields) (bytes : List ℕ) → FitsAsked t.sort (deed_of bench t bytes)
unfolding deed_of
answer_fits bench t bytes =
    by_test (FitsAsked t.sort) (is_held bench t.register) (held_deed (named bench t.register) t.sort bytes) (nack 0)
    (λ e. held (named bench t.register) t.sort bytes) (λ e. nacked (named bench t.register) t.sort 0)

-- ---- the request, as the bench reads it

-- of a desk as any calls leave it, and an opening there that was not refused
module _ (desk : Desk) (sound : SoundDesk desk) (asked : Request) (bytes : List ℕ) (clock : ℕ) (room : List ℕ) (o : AfterOpen) (room' : List ℕ)
    (opens : Opens desk asked bytes clock room o room') (address n : ℕ) (opened : o.answer ≡ opening address n) where
  -- the request on the line
  abbrev request : List ℕ
  request = take n room'

  abbrev fields : Fields
  fields = fields_for asked.unit address asked.sort asked.register bytes

  abbrev ticket : Ticket
  ticket = new_ticket asked clock

  told : (open_refusal desk asked bytes clock (length room) ≡ none)
      × (address ≡ 161 + given_place desk clock)
      × (n ≡ length (request_at (given_place desk clock) asked bytes))
  told = opened_fit desk asked bytes clock room o room' opens address n opened

  allowed : ask_refusal asked bytes ≡ none
  allowed = (fit_to_open desk asked bytes clock (length room) told.0).0

  -- the ticket stands on the address that was given
  pub ticket_stands : ticket_on o.desk address ≡ ticket
  ticket_stands = (opened_given desk asked bytes clock room o room' opens address n sound.places opened).stands

  -- on the line stands the telegram of the request
  request_is : request ≡ telegram_for asked.unit address asked.sort asked.register bytes
  request_is =
      let there : room' ≡ over (request_at (given_place desk clock) asked bytes) room = opens.2 ∙ rw told.0 in
      rw (there, told.2, told.1) (take-over (request_at (given_place desk clock) asked bytes) room (fit_to_open desk asked bytes clock (length room) told.0).2)

  request_data : data_in request ≡ bytes
  request_data = rw request_is (rw (message_of_framed (message_for asked.unit address asked.sort asked.register bytes))
      (data_of_written asked.unit address asked.sort asked.register bytes))

  -- read with the bench's own 240 bytes of room it is what was asked
  space : List ℕ
  space = replicate 240 0

  wide : length space ≡ 240
  unfolding space
  wide = length-replicate {A = ℕ} 240 0

  request_read : read_frame request 240 ≡ Ok fields
  request_read = rw wide at (request_reads_back desk asked bytes clock room o room' opens address n opened
      space (read_frame request (length space)) (room_after (read_refusal request (length space)) (data_in request) space)
      (rw wide (allowed_writable asked bytes allowed).0) (refl, refl)).0

  asks_something : IsNotARequest fields → ⊥
  unfolding IsNotARequest
  asks_something answers =
      let asks : (4 ≤ asked.sort) × (asked.sort ≢ 8) =
      five (λ e. (omega arith, λ z. omega arith)) (λ e. (omega arith, λ z. omega arith)) (λ e. (omega arith, λ z. omega arith)) (λ e. (omega arith, λ z. omega arith))
      (λ e. (omega arith, λ z. omega arith)) (allowed_sound asked bytes allowed).has_request in
      five (λ e. omega (arith, asks.0)) (λ e. omega (arith, asks.0)) (λ e. omega (arith, asks.0)) (λ e. omega (arith, asks.0)) asks.1 answers
    where
      five : {A B C D E R : Type 0} → (A → R) → (B → R) → (C → R) → (D → R) → (E → R) → A ⊎ (B ⊎ (C ⊎ (D ⊎ E))) → R
      five a b c d e = ⊎_elim a (⊎_elim b (⊎_elim c (⊎_elim d e)))

  -- ---- a bench at that module's address, with room for its reply
  module _ (bench : Bench) (here : bench.address ≡ asked.unit) (buffer : List ℕ) (q : AfterTake) (buffer' : List ℕ) (takes : Takes bench request buffer q buffer')
      (roomy : length (reply_of bench fields bytes) ≤ length buffer) where
    abbrev deed : Deed
    deed = deed_of bench fields bytes

    may : Answerable bench request fields (length buffer)
    may =
        record {
          read = request_read;
          ours = sym here;
          asks = asks_something;
          roomy = rw request_data roomy;
        }

    -- it gives a reply
    pub is_replied : q.answer ≡ Ok (length (reply_of bench fields bytes))
    is_replied =
        let is = (reading_telegram request 240 fields request_read).1 in
        takes.0 ∙ rw (no_refusal bench request fields buffer may, ← is, request_data)

    -- the reply on the line
    abbrev reply : List ℕ
    reply = take (length (reply_of bench fields bytes)) buffer'

    abbrev answer : Fields
    answer = record { destination = address; source = bench.address; sort = deed.sort; register = asked.register; size = deed.size }

    -- a read never has data (13), so a read with the right is answered by the value
    datagram_of : asked.sort ≡ 4 → Held bench asked.register → HasRight (named bench asked.register) 1 → deed ≡ datagram (named bench asked.register)
    unfolding deed_of ask_rows IsWrongData
    datagram_of is there right =
        let none_of = (done_exactly (ask_rows asked bytes) _ (ask_ranked asked bytes)).0 allowed in
        let no_data : 0 < length bytes → ⊥ = λ h. none_of.1.1.1.0 (inr (is, h)) in
        let empty : length bytes ≡ 0 = omega (arith, no_data) in
        rw (told_true (decides_held bench asked.register) there) (read_deed_lem (named bench asked.register) asked.sort bytes (is, right, empty))

    -- ---- the reply offered to a desk, with 8 bytes of room or more
    module _ (desk₂ : Desk) (room₂ : List ℕ) (enough : 8 ≤ length room₂) (b : AfterReply) (room₂' : List ℕ) (replies : Replies desk₂ reply room₂ b room₂') where
      reply_read : (read_frame reply (length room₂) ≡ Ok answer)
          × (room_after (read_refusal reply (length room₂)) (data_in reply) room₂ ≡ over (bytes_of deed.size deed.value) room₂)
      reply_read =
          reply_reads bench request fields buffer may takes (length (reply_of bench fields bytes)) is_replied room₂ (read_frame reply (length room₂))
          (room_after (read_refusal reply (length room₂)) (data_in reply) room₂) enough (refl, refl) deed (rw request_data refl)

      no_fault : read_refusal reply (length room₂) ≡ none
      no_fault = (reading_telegram reply (length room₂) answer reply_read.0).0

      is_answer_lem : answer ≡ fields_in reply
      is_answer_lem = (reading_telegram reply (length room₂) answer reply_read.0).1

      judged : reply_refusal desk₂ reply (length room₂) ≡ raised Misfit (fit_refusal (ticket_on desk₂ address) answer)
      unfolding reply_refusal book_refusal
      judged = rw (no_fault, ← is_answer_lem)

      -- it fits the ticket that was opened
      fits : fit_refusal ticket answer ≡ none
      unfolding fit_rows IsWithdrawn IsNoTicket IsOtherModule IsOtherKind IsOtherRegister RegisterFits
      fits =
          (done_exactly (fit_rows ticket answer) (fit_refusal ticket answer) (fit_ranked ticket answer)).1
          ((λ gone. gone.0 refl), ((λ shut. shut refl), ((λ other. other here), ((λ unfit. unfit (answer_fits bench fields bytes)), ((λ unfit. unfit (inl refl)), tt)))))

      -- a request opened at the desk, taken by a bench at that module's address with room, gives a reply that the desk books on that very
      -- ticket, while the ticket stands, whatever else was opened and closed since
      pub booked_there : ticket_on desk₂ address ≡ ticket
          → (b.answer ≡ booking asked.job address deed.sort deed.size asked.folder)
          × ClosedAlone desk₂ address no_ticket b.desk
          × (room₂' ≡ over (bytes_of deed.size deed.value) room₂)
      booked_there on =
          let none_of : reply_refusal desk₂ reply (length room₂) ≡ none = judged ∙ rw (on, fits) in
          let closing : b.desk ≡ answered_on desk₂ address = replies.1 ∙ rw (none_of, ← is_answer_lem) in (
            replies.0 ∙ rw (none_of, ← is_answer_lem, on),
            rw closing (answers_alone desk₂ address (rw on refl)),
            replies.2 ∙ rw none_of (rw no_fault at reply_read.1),
          )

      -- offered to a desk whose ticket on that address is another module's, it is 18, and nothing changes
      pub crossed_refused : OpenOn desk₂ address → (ticket_on desk₂ address).asked.unit ≢ asked.unit
          → (b.answer ≡ Err (Misfit OtherModule)) × (b.desk ≡ desk₂) × (room₂' ≡ room₂)
      unfolding fit_rows IsWithdrawn IsNoTicket IsOtherModule
      crossed_refused live other =
          let there : Ticket = ticket_on desk₂ address in
          let misfit : fit_refusal there answer ≡ some OtherModule =
          (refused_exactly (fit_rows there answer) (fit_refusal there answer) (fit_ranked there answer) OtherModule).1
          (inr ((λ gone. gone.0 live), inr ((λ shut. shut live), inl ((λ same. other (sym same ∙ here)), refl)))) in
          let eighteen : reply_refusal desk₂ reply (length room₂) ≡ some (Misfit OtherModule) = judged ∙ rw misfit in
          (replies.0 ∙ rw eighteen, replies.1 ∙ rw eighteen, replies.2 ∙ rw eighteen)

      -- for a read with the right the data are the register's bytes
      pub read_booked : ticket_on desk₂ address ≡ ticket → asked.sort ≡ 4 → Held bench asked.register → HasRight (named bench asked.register) 1
          → (b.answer ≡ booking asked.job address 8 (size_of (named bench asked.register).kind) asked.folder)
          × ClosedAlone desk₂ address no_ticket b.desk
          × (room₂' ≡ over (bytes_of (size_of (named bench asked.register).kind) (named bench asked.register).value) room₂)
      read_booked on is held_there right = rw (datagram_of is held_there right) at (booked_there on)

    -- and so at the desk that opened it, at once
    pub end_to_end : (room₂ : List ℕ) → 8 ≤ length room₂ → (b : AfterReply) (room₂' : List ℕ) → Replies o.desk reply room₂ b room₂'
        → (b.answer ≡ booking asked.job address deed.sort deed.size asked.folder)
        × ClosedAlone o.desk address no_ticket b.desk
        × (room₂' ≡ over (bytes_of deed.size deed.value) room₂)
    end_to_end room₂ enough b room₂' replies = booked_there o.desk room₂ enough b room₂' replies ticket_stands

    -- the same in C's numbers: there are replies that a C host is told as booked
    pub host_end_to_end : (room₂ : List ℕ) → 8 ≤ length room₂ → (b : AfterDeskReply) (room₂' : List ℕ) → GivesReply o.desk reply room₂ b room₂'
        → (b.answer
        ≡ record { refusal = 0; job = asked.job; folder = asked.folder; address = address; sort = deed.sort; size = deed.size; place = 0 })
        × ClosedAlone o.desk address no_ticket b.desk
        × (room₂' ≡ over (bytes_of deed.size deed.value) room₂)
    host_end_to_end room₂ enough b room₂' g =
        let e = end_to_end room₂ enough g.0 room₂' g.1 in (
          ap (λ (a : AfterDeskReply). a.answer) g.2 ∙ ap reply_given e.0,
          subst (ClosedAlone o.desk address no_ticket) (sym (ap (λ (a : AfterDeskReply). a.desk) g.2)) e.1,
          e.2,
        )
