-- What is promised of a ticket that waits, each law under the sentence that it keeps.
-- Assumes nothing.
use Rattle.std.specs.Prelude.{Ok, Err}
use Rattle.std.proofs.Common.{◌≡◌, ℕ, zero, suc, ◌+◌, ◌-◌, ◌%◌, ◌^◌, ◌<◌, ◌≤◌, Bool, true, false, cond, not, ◌&&◌, eqb, ◌≢◌, ◌⊎◌, ◌↔◌, [], ◌∷◌, sym, refl, ap, ◌∙◌, inl, inr, ⊎_elim, true≢false, arith, ne_eqb, eqb-true}
use mathlib.Core.Option.{Option, some, none}
use native.Mathlib.Decide.{dec_le}
use borrow.Author.Tests.{not-true, not-false}
use Rattle.rows.proofs.Settled.{settled}
use Rattle.rows.specs.Settled.{Settled}
use Rattle.rows.proofs.Laws.{Decides, decides_le, decides_lt, decides_eq, decides_not, decides_or, decides_and, decides_set, decides_as}
use Rattle.rows.proofs.Laws.{clash, told_true, ranked, ◌otherwise◌, first_false, numbered}
use Rattle.rows.specs.Rows.{Ranked, Numbered, row, passed_up, raised}
use Rattle.telegram.specs.declared.Fields.{Fields}
use Rattle.ticket.specs.Due.{age, IsDue, is_due, TellsDue}
use Rattle.ticket.specs.Fit.{KindFits, RegisterFits, IsWithdrawn, IsNoTicket, IsOtherModule, IsOtherKind, IsOtherRegister, fit_rows, kind_fits, register_fits}
use Rattle.ticket.specs.Fit.{fit_tests, fit_refusal, fit_answer, fit_told, fault_number, Judges, Numbers, types_that}
use Rattle.ticket.specs.Folder.{Bars, is_barred, TellsBarred}
use Rattle.ticket.specs.Rest.{Rests, is_resting, Free, is_free, TellsResting}
use Rattle.ticket.specs.Ticket.{Open, withdrawn_at}
use Rattle.ticket.specs.declared.Ticket.{Ticket}
use Rattle.ticket.specs.declared.Fault.{Fault}
use Rattle.ticket.specs.declared.Fault.TheVariants.{Withdrawn, NoTicket, OtherModule, OtherKind, OtherRegister}
use Rattle.ticket.specs.Answers.{Judged}

-- ---- 02, #102: "an address closed by cancel or expiry rests: it is not given out exactly while the clock minus its closing, modulo
-- 4294967296, is under 1000 ms"

pub decides_resting : (clock : ℕ) (ticket : Ticket) → Decides (is_resting clock ticket) (Rests clock ticket)
decides_resting clock ticket = decides_and (decides_set ticket.withdrawn) (decides_lt (age clock ticket.closed) 1000)

pub decides_off : (b : Bool) → Decides (not b) (b ≡ false)
decides_off b = record { so = not-true b; not_so = λ e off. true≢false (sym (not-false b e) ∙ off) }

-- an address is free exactly where no ticket is open and it does not rest
pub decides_free : (clock : ℕ) (ticket : Ticket) → Decides (is_free clock ticket) (Free clock ticket)
decides_free clock ticket = decides_and (decides_off ticket.live) (decides_not (decides_resting clock ticket))

-- one that is not free is open or rests
pub open_or_rests : (clock : ℕ) (ticket : Ticket) → is_free clock ticket ≡ false → Open ticket ⊎ Rests clock ticket
open_or_rests clock ticket = go ticket.live (is_resting clock ticket) (decides_resting clock ticket)
  where
    go : (live resting : Bool) → Decides resting (Rests clock ticket) → (not live && not resting) ≡ false → (live ≡ true) ⊎ Rests clock ticket
    go true resting d e = inl refl
    go false true d e = inr (d.so refl)
    go false false d e = absurd (true≢false e)

pub taken_not_free : (clock : ℕ) (ticket : Ticket) → Open ticket ⊎ Rests clock ticket → Free clock ticket → ⊥
taken_not_free clock ticket taken free = ⊎_elim (λ live. true≢false (sym live ∙ free.0)) free.1 taken

-- one that is free after a cancel or an expiry has rested
pub rested : (clock closed : ℕ) → Free clock (withdrawn_at closed) → 1000 ≤ age clock closed
rested clock closed free = go (dec_le 1000 (age clock closed))
  where
    go : Dec (1000 ≤ age clock closed) → 1000 ≤ age clock closed
    go (yes h) = h
    go (no h) = absurd (free.1 (refl, omega arith))

-- ---- rows 61 and 17 to 20: "Each is given exactly when its condition holds and no earlier one does."

to_two : (n : ℕ) → n ≤ 2 → (n ≡ 0) ⊎ ((n ≡ 1) ⊎ (n ≡ 2))
to_two zero h = inl refl
to_two (suc zero) h = inr (inl refl)
to_two (suc (suc zero)) h = inr (inr refl)
to_two (suc (suc (suc n))) h = absurd (omega arith)

-- the answer of a read, or of a write
decides_choice : (asked answered : ℕ) → Decides (eqb answered (cond (eqb asked 4) 8 3)) (((asked ≡ 4) × (answered ≡ 8)) ⊎ ((asked ≢ 4) × (answered ≡ 3)))
decides_choice asked answered = go (eqb asked 4) (decides_eq asked 4)
  where
    go : (b : Bool) → Decides b (asked ≡ 4) → Decides (eqb answered (cond b 8 3)) (((asked ≡ 4) × (answered ≡ 8)) ⊎ ((asked ≢ 4) × (answered ≡ 3)))
    go true d =
        decides_as (decides_eq answered 8) (λ e. inl (d.so refl, e)) (⊎_elim (λ p. p.1) (λ p. absurd (p.0 (d.so refl))))
    go false d =
        decides_as (decides_eq answered 3) (λ e. inr (d.not_so refl, e)) (⊎_elim (λ p. absurd (d.not_so refl p.0)) (λ p. p.1))

pub decides_kind : (asked answered : ℕ) → Decides (kind_fits asked answered) (KindFits asked answered)
unfolding KindFits
decides_kind asked answered =
    decides_as (decides_or (decides_le answered 2) (decides_choice asked answered))
    (⊎_elim (λ a. inr (inr (to_two answered a))) (⊎_elim (λ a. inl a) (λ a. inr (inl a))))
    (⊎_elim (λ a. inr (inl a)) (⊎_elim (λ a. inr (inr a)) (λ a. inl (⊎_elim (λ e. omega arith) (⊎_elim (λ e. omega arith) (λ e. omega arith)) a))))

pub decides_register : (asked answered register : ℕ) → Decides (register_fits asked answered register) (RegisterFits asked answered register)
unfolding RegisterFits
decides_register asked answered register = decides_or (decides_eq register asked) (decides_and (decides_le answered 3) (decides_eq register 0))

pub fit_ranked : (ticket : Ticket) (t : Fields) → Ranked (fit_rows ticket t) (fit_refusal ticket t)
unfolding fit_rows fit_refusal IsWithdrawn IsNoTicket IsOtherModule IsOtherKind IsOtherRegister
fit_ranked ticket t =
    ranked (fit_tests ticket t) (fit_rows ticket t)
    (decides_and (decides_not (decides_set ticket.live)) (decides_set ticket.withdrawn) otherwise λ n₆₁.
    decides_not (decides_set ticket.live) otherwise λ n₁₇.
    decides_not (decides_eq t.source ticket.asked.unit) otherwise λ n₁₈.
    decides_not (decides_kind ticket.asked.sort t.sort) otherwise λ n₁₉.
    decides_not (decides_register ticket.asked.register t.sort t.register) otherwise λ n₂₀. tt)

tells : (o : Option Fault) → fit_told (fit_answer o) ≡ raised fault_number o
tells none = refl
tells (some f) = refl

-- and so of the answer, by numbers
pub fit_exactly : (ticket : Ticket) (t : Fields) (r : Judged) → Judges ticket t r
    → Numbered (passed_up fault_number (fit_rows ticket t)) (61 ∷ 17 ∷ 18 ∷ 19 ∷ 20 ∷ []) (fit_told r)
unfolding fit_rows
fit_exactly ticket t r p =
    numbered fault_number (fit_rows ticket t) (fit_refusal ticket t) (fit_ranked ticket t) (61 ∷ 17 ∷ 18 ∷ 19 ∷ 20 ∷ []) refl refl
    (fit_told r) (ap fit_told p ∙ tells (fit_refusal ticket t))

-- the rows written out, each with its number
pub fit_plainly : (ticket : Ticket) (t : Fields) (r : Judged) → Judges ticket t r
    → Numbered
    (row ((ticket.live ≡ true → ⊥) × (ticket.withdrawn ≡ true)) 61
    ∷ row (ticket.live ≡ true → ⊥) 17
    ∷ row (t.source ≢ ticket.asked.unit) 18
    ∷ row (((ticket.asked.sort ≡ 4) × (t.sort ≡ 8))
    ⊎ (((ticket.asked.sort ≢ 4) × (t.sort ≡ 3)) ⊎ ((t.sort ≡ 0) ⊎ ((t.sort ≡ 1) ⊎ (t.sort ≡ 2)))) → ⊥) 19
    ∷ row ((t.register ≡ ticket.asked.register) ⊎ ((t.sort ≤ 3) × (t.register ≡ 0)) → ⊥) 20
    ∷ [])
    (61 ∷ 17 ∷ 18 ∷ 19 ∷ 20 ∷ []) (fit_told r)
unfolding fit_rows IsWithdrawn IsNoTicket IsOtherModule IsOtherKind IsOtherRegister KindFits RegisterFits
fit_plainly ticket t r p = fit_exactly ticket t r p

-- 01: "A read is answered by type 8, 0, 1 or 2, a write of any sort by 3, 0, 1 or 2."
pub read_answered_by : types_that (kind_fits 4) ≡ 0 ∷ 1 ∷ 2 ∷ 8 ∷ []
read_answered_by = refl

pub write_answered_by : (asked : ℕ) → asked ≢ 4 → types_that (kind_fits asked) ≡ 0 ∷ 1 ∷ 2 ∷ 3 ∷ []
write_answered_by asked other = rw (ne_eqb asked 4 other)

-- 01: "A datagram's register must equal the ticket's. Types 0 to 3 may also carry register 0": of a ticket on register 48
pub zero_carried_by : types_that (λ sort. register_fits 48 sort 0) ≡ 0 ∷ 1 ∷ 2 ∷ 3 ∷ []
zero_carried_by = refl

pub own_carried_by : types_that (λ sort. register_fits 48 sort 48) ≡ 0 ∷ 1 ∷ 2 ∷ 3 ∷ 4 ∷ 5 ∷ 6 ∷ 7 ∷ 8 ∷ 9 ∷ []
own_carried_by = refl

pub other_carried_by : types_that (λ sort. register_fits 48 sort 49) ≡ []
other_carried_by = refl

-- what no row refuses fits
pub fitting : (ticket : Ticket) (t : Fields) → fit_refusal ticket t ≡ none
    → (Open ticket) × (t.source ≡ ticket.asked.unit) × KindFits ticket.asked.sort t.sort × RegisterFits ticket.asked.register t.sort t.register
unfolding fit_refusal
fitting ticket t e =
    let kept = first_false (not ticket.live && ticket.withdrawn) Withdrawn _ e in
    let on = first_false (not ticket.live) NoTicket _ kept.1 in
    let unit = first_false (not (eqb t.source ticket.asked.unit)) OtherModule _ on.1 in
    let kind = first_false (not (kind_fits ticket.asked.sort t.sort)) OtherKind _ unit.1 in
    let register = first_false (not (register_fits ticket.asked.register t.sort t.register)) OtherRegister _ kind.1 in (
      not-false _ on.0,
      eqb-true _ _ (not-false _ unit.0),
      (decides_kind ticket.asked.sort t.sort).so (not-false _ kind.0),
      (decides_register ticket.asked.register t.sort t.register).so (not-false _ register.0),
    )

-- on an open ticket only 18, 19 and 20 are given
pub open_told_lem : (ticket : Ticket) (t : Fields) → Open ticket → (n : ℕ) → raised fault_number (fit_refusal ticket t) ≡ some n → (18 ≤ n) × (n ≤ 20)
unfolding fit_refusal
open_told_lem ticket t live n e =
    go (not (eqb t.source ticket.asked.unit)) (not (kind_fits ticket.asked.sort t.sort))
    (not (register_fits ticket.asked.register t.sort t.register)) (rw live at e)
  where
    within : (m : ℕ) → (18 ≤ m) × (m ≤ 20) → ◌≡◌ {A = Option ℕ} (some m) (some n) → (18 ≤ n) × (n ≤ 20)
    within m h p = let same : m ≡ n = cc in rw (← same) h

    go : (module_differs kind_differs register_differs : Bool)
        → raised fault_number (cond module_differs (some OtherModule) (cond kind_differs (some OtherKind) (cond register_differs (some OtherRegister) none))) ≡ some n
        → (18 ≤ n) × (n ≤ 20)
    go true b d p = within 18 (omega arith, omega arith) p
    go false true d p = within 19 (omega arith, omega arith) p
    go false false true p = within 20 (omega arith, omega arith) p
    go false false false p = clash (cc)

-- what an answer tells of the refusal that it was made from
pub judged_misfit : (o : Option Fault) (f : Fault) → Err f ≡ fit_answer o → o ≡ some f
judged_misfit none f e = cc
judged_misfit (some g) f e = cc

pub judged_fits : (o : Option Fault) → Ok tt ≡ fit_answer o → o ≡ none
judged_fits none e = refl
judged_fits (some g) e = cc

-- ---- 01: "A ticket's age is the clock minus its opening, reduced modulo 4294967296 [..]. A clock set back past a ticket's opening can
-- therefore make it due."

pub age_after : (clock opened : ℕ) → clock < 2 ^ 32 → opened ≤ clock → age clock opened ≡ clock - opened
unfolding age
age_after clock opened hc h = omega arith

pub age_set_back : (clock opened : ℕ) → opened < 2 ^ 32 → clock < opened → age clock opened ≡ 2 ^ 32 - (opened - clock)
unfolding age
age_set_back clock opened ho h = omega arith

pub set_back_due : (clock : ℕ) (ticket : Ticket) → Open ticket → ticket.opened < 2 ^ 32 → clock < ticket.opened
    → ticket.opened - clock + ticket.asked.wait ≤ 2 ^ 32 → IsDue clock ticket
set_back_due clock ticket live ho h far = (live, omega (arith, age_set_back clock ticket.opened ho h))

-- T11: "opened 4294967290, wait 100: not due at 93, due at 94"
pub clock_wraps : (ticket : Ticket) → Open ticket → ticket.opened ≡ 4294967290 → ticket.asked.wait ≡ 100 → (IsDue 93 ticket → ⊥) × IsDue 94 ticket
clock_wraps ticket live opened wait =
    (λ due. omega (arith, due.1, age_set_back 93 ticket.opened (omega arith) (omega arith)), set_back_due 94 ticket live (omega arith) (omega arith) (omega arith))

pub decides_due : (clock : ℕ) (ticket : Ticket) → Decides (is_due clock ticket) (IsDue clock ticket)
decides_due clock ticket = decides_and (decides_set ticket.live) (decides_le ticket.asked.wait (age clock ticket.opened))

pub decides_barred : (job folder : ℕ) (ticket : Ticket) → Decides (is_barred job folder ticket) (Bars job folder ticket)
decides_barred job folder ticket = record { so = λ e. ((both.so e).0, (both.so e).1.0, (both.so e).1.1); not_so = λ e b. both.not_so e (b.0, (b.1, b.2)) }
  where
    both : Decides (is_barred job folder ticket) ((ticket.live ≡ true) × ((ticket.asked.folder ≡ folder) × (ticket.asked.job ≢ job)))
    both = decides_and (decides_set ticket.live) (decides_and (decides_eq ticket.asked.folder folder) (decides_not (decides_eq ticket.asked.job job)))

-- what wrapping subtraction gives is the age
pub age_is : (clock since r : ℕ) → (r + since) % 2 ^ 32 ≡ clock → r < 2 ^ 32 → since < 2 ^ 32 → r ≡ age clock since
unfolding age
age_is clock since r e hr hs = omega arith

-- ---- 02, #102: both sides of 1000 ms, with the clock going round or not; "A clock gone round can start a rest again and one set back can end
-- it early; we accept both"

-- the clock that comes so many milliseconds after another
abbrev later : ℕ → ℕ → ℕ
later since ms = (since + ms) % 2 ^ 32

age_later : (since ms : ℕ) → since < 2 ^ 32 → ms < 2 ^ 32 → age (later since ms) since ≡ ms
unfolding age
age_later since ms hs hm = omega arith

pub rests_under_1000 : (closed ms : ℕ) → closed < 2 ^ 32 → ms < 1000 → Rests ((closed + ms) % 2 ^ 32) (withdrawn_at closed)
rests_under_1000 closed ms hc h = (refl, omega (arith, age_later closed ms hc (omega arith)))

pub free_from_1000 : (closed ms : ℕ) → closed < 2 ^ 32 → 1000 ≤ ms → ms < 2 ^ 32 → Free ((closed + ms) % 2 ^ 32) (withdrawn_at closed)
free_from_1000 closed ms hc h hm = (refl, λ rests. omega (arith, rests.1, age_later closed ms hc hm))

-- gone round: 4294967296 ms after it was closed, and up to 999 more, it rests again
pub rests_again : (closed ms : ℕ) → closed < 2 ^ 32 → ms < 1000 → Rests ((closed + 2 ^ 32 + ms) % 2 ^ 32) (withdrawn_at closed)
rests_again closed ms hc h =
    let same : (closed + 2 ^ 32 + ms) % 2 ^ 32 ≡ (closed + ms) % 2 ^ 32 = omega arith in rw same (rests_under_1000 closed ms hc h)

-- set back before the closing, by up to 4294966296 ms, it is free
pub set_back_free : (closed clock : ℕ) → closed < 2 ^ 32 → clock < closed → closed - clock + 1000 ≤ 2 ^ 32 → Free clock (withdrawn_at closed)
set_back_free closed clock hc h near = (refl, λ rests. omega (arith, rests.1, age_set_back clock closed hc h))

-- the call `number` gives the number that the laws above tell
pub number_is : (f : Fault) (r : ℕ) → Numbers f r → r ≡ fault_number f
number_is f r p = p

-- which address may be given out, said out
pub free_plainly : (ticket : Ticket) (clock : ℕ)
    → (is_free clock ticket ≡ true) ↔ ((ticket.live ≡ false) × ((ticket.withdrawn ≡ true) × (age clock ticket.closed < 1000) → ⊥))
free_plainly ticket clock = ((decides_free clock ticket).so, told_true (decides_free clock ticket))

-- what `is_resting`, `is_due` and `bars` tell, said out
pub tells_resting : (ticket : Ticket) (clock : ℕ) (r : Bool) → TellsResting ticket clock r
    → (r ≡ true) ↔ ((ticket.withdrawn ≡ true) × (age clock ticket.closed < 1000))
tells_resting ticket clock r p =
    (λ e. (decides_resting clock ticket).so (sym p ∙ e), λ rests. p ∙ told_true (decides_resting clock ticket) rests)

pub tells_due : (ticket : Ticket) (clock : ℕ) (r : Bool) → TellsDue ticket clock r
    → (r ≡ true) ↔ ((ticket.live ≡ true) × (ticket.asked.wait ≤ age clock ticket.opened))
tells_due ticket clock r p = (λ e. (decides_due clock ticket).so (sym p ∙ e), λ due. p ∙ told_true (decides_due clock ticket) due)

pub tells_barred : (ticket : Ticket) (job folder : ℕ) (r : Bool) → TellsBarred ticket job folder r
    → (r ≡ true) ↔ ((ticket.live ≡ true) × (ticket.asked.folder ≡ folder) × (ticket.asked.job ≢ job))
tells_barred ticket job folder r p =
    (λ e. (decides_barred job folder ticket).so (sym p ∙ e), λ barred. p ∙ told_true (decides_barred job folder ticket) barred)

-- ---- 01: "Show that any two outcomes allowed by it are equal."

pub judges_settled : (ticket : Ticket) (t : Fields) → Settled (Judges ticket t)
judges_settled ticket t = settled _

pub tells_resting_settled : (ticket : Ticket) (clock : ℕ) → Settled (TellsResting ticket clock)
tells_resting_settled ticket clock = settled _

pub tells_due_settled : (ticket : Ticket) (clock : ℕ) → Settled (TellsDue ticket clock)
tells_due_settled ticket clock = settled _

pub tells_barred_settled : (ticket : Ticket) (job folder : ℕ) → Settled (TellsBarred ticket job folder)
tells_barred_settled ticket job folder = settled _

pub numbers_settled : (f : Fault) → Settled (Numbers f)
numbers_settled f = settled _
