-- The turn is fair: an address comes back only after every other one was given, or passed over because it was open or rested.
-- Assumes nothing.
use Rattle.desk.specs.Answers.{opening}
use mathlib.Core.Path.{◌≡◌, refl, sym, ◌∙◌, subst, ap}
use mathlib.Core.Bool.{Bool, true, false, true≢false}
use mathlib.Core.List.{List, [], ◌∷◌, ◌++◌}
use mathlib.Core.Logic.{◌≢◌, ◌⊎◌, inl, inr, ⊎_elim}
use mathlib.Core.Option.{Option, some, none}
use Prim.Native.Nat.{ℕ, ◌+◌, ◌-◌, ◌%◌, ◌≤◌, ◌<◌}
use native.Mathlib.Omega.{arith}
use native.Mathlib.Decide.{dec_le}
use borrow.Author.Tests.{eqb-true, eqb-false, le-leb}
use lib.Dec.{eqb}
use lib.ListN.{length}
use Rattle.rows.proofs.Laws.{clash}
use Rattle.desk.proofs.Laws.{open_within, put_other, fit_to_open, fit_to_book, fit_to_cancel, fit_to_expire, opened_fit}
use Rattle.desk.proofs.Ranking.{search_passed}
use Rattle.desk.specs.Close.{cancel_refusal, due_place, expire_refusal, close_answer, close_desk}
use Rattle.desk.specs.Desk.{ticket_at, ticket_on, OpenOn, put_at}
use Rattle.desk.specs.Open.{place_from, distance_of, given_place, request_at, open_refusal, open_answer, open_desk, Opens}
use Rattle.desk.specs.Reply.{reply_refusal, book_answer, book_desk}
use Rattle.desk.specs.declared.Desk.{Desk}
use Rattle.desk.specs.declared.Fault.{Fault}
use Rattle.desk.specs.declared.AfterOpen.{AfterOpen}
use Rattle.request.specs.declared.Request.{Request}
use Rattle.telegram.specs.Read.{fields_in}
use Rattle.telegram.specs.declared.Fields.{Fields}
use Rattle.ticket.proofs.Laws.{taken_not_free}
use Rattle.ticket.specs.Rest.{Free}
use Rattle.ticket.specs.Ticket.{Open, new_ticket}
use Rattle.ticket.specs.declared.Ticket.{Ticket}
use Rattle.nights.specs.Night.{Call, after, after_all, event_of, of_opening, of_booking, of_closing}
use Rattle.nights.specs.Round.{GivesAt, Gives, PassesOver, Among, Each, Met, GivenIn, OpensWhile, one_opening}
use Rattle.nights.specs.Night.{asks, brings, cancels, expires, opened}

-- ---- what a caller saw, and what the desk did

opening_told : (o : Option Fault) (address n : ℕ) (asked : Request) (clock x : ℕ) (asked' : Request) (clock' : ℕ)
    → of_opening (open_answer o address n) asked clock ≡ opened x asked' clock' → (o ≡ none) × (x ≡ address) × (clock' ≡ clock)
opening_told none address n asked clock x asked' clock' e = (refl, cc, cc)
opening_told (some f) address n asked clock x asked' clock' e = clash (cc)

booking_told : (o : Option Fault) (there : Ticket) (t : Fields) (frame : List ℕ) (x : ℕ) (asked : Request) (clock : ℕ)
    → of_booking (book_answer o there t) frame ≡ opened x asked clock → ⊥
booking_told none there t frame x asked clock e = clash (cc)
booking_told (some f) there t frame x asked clock e = clash (cc)

closing_told : (o : Option Fault) (there : Ticket) (address at x : ℕ) (asked : Request) (clock : ℕ)
    → of_closing (close_answer o there address) at ≡ opened x asked clock → ⊥
closing_told none there address at x asked clock e = clash (cc)
closing_told (some f) there address at x asked clock e = clash (cc)

-- a call gives one place at most
pub one_place : (desk : Desk) (call : Call) (p q : ℕ) → Gives desk call p → Gives desk call q → p ≡ q
unfolding GivesAt
one_place desk call p q g h =
    let e = g.1.1 in
    let f = h.1.1 in
    let same : 161 + p ≡ 161 + q = cc in
    omega arith

-- a place within an opening's sweep is given or passed over
swept : (desk : Desk) (call : Call) (clock k : ℕ) → GivesAt desk call (given_place desk clock) clock → k ≤ distance_of desk clock
    → Gives desk call (place_from desk.turn k) ⊎ PassesOver desk call (place_from desk.turn k)
unfolding PassesOver given_place
swept desk call clock k g h = go (eqb k (distance_of desk clock)) refl
  where
    go : (t : Bool) → eqb k (distance_of desk clock) ≡ t
        → Gives desk call (place_from desk.turn k) ⊎ PassesOver desk call (place_from desk.turn k)
    go true e = inl (clock, rw (eqb-true k (distance_of desk clock) e) g)
    go false e =
        let under : k < distance_of desk clock = omega (arith, eqb-false k (distance_of desk clock) e) in
        inr (clock, g, (k, under, refl), search_passed desk clock k under)

-- an opening at a clock that is not refused: where it gives, and the turn after it
pub record Sweep (desk : Desk) (call : Call) (clock : ℕ) : Type 0 where
  pub gives : GivesAt desk call (given_place desk clock) clock
  pub near : distance_of desk clock < 95
  pub turn_after : (after desk call).turn ≡ (given_place desk clock + 1) % 95

-- a call that gives no address
pub record Stays (desk : Desk) (call : Call) : Type 0 where
  pub gives_none : (place : ℕ) → Gives desk call place → ⊥
  pub counts_none : one_opening (event_of desk call) ≡ 0
  pub turn_kept : (after desk call).turn ≡ desk.turn

booking_counts : (o : Option Fault) (there : Ticket) (t : Fields) (frame : List ℕ) → one_opening (of_booking (book_answer o there t) frame) ≡ 0
booking_counts none there t frame = refl
booking_counts (some f) there t frame = refl

closing_counts : (o : Option Fault) (there : Ticket) (address at : ℕ) → one_opening (of_closing (close_answer o there address) at) ≡ 0
closing_counts none there address at = refl
closing_counts (some f) there address at = refl

closing_stays : (o : Option Fault) (desk : Desk) (address clock : ℕ) → (close_desk o desk address clock).turn ≡ desk.turn
closing_stays none desk address clock = refl
closing_stays (some f) desk address clock = refl

booking_stays : (o : Option Fault) (desk : Desk) (t : Fields) → (book_desk o desk t).turn ≡ desk.turn
booking_stays none desk t = refl
booking_stays (some f) desk t = refl

opening_sweeps : (desk : Desk) (asked : Request) (bytes : List ℕ) (clock : ℕ) (room : List ℕ) → open_refusal desk asked bytes clock (length room) ≡ none
    → Sweep desk (asks asked bytes clock room) clock
unfolding GivesAt after event_of
opening_sweeps desk asked bytes clock room e =
    record { gives = (asked, rw e); near = (fit_to_open desk asked bytes clock (length room) e).1; turn_after = rw e }

-- an opening that was answered with an address gives its place, so that what follows is said of every opening
pub opened_gives : (desk : Desk) (asked : Request) (bytes : List ℕ) (clock : ℕ) (room : List ℕ) (r : AfterOpen) (room' : List ℕ)
    → Opens desk asked bytes clock room r room' → (place n : ℕ) → r.answer ≡ opening (161 + place) n → GivesAt desk (asks asked bytes clock room) place clock
opened_gives desk asked bytes clock room r room' opens place n e =
    let o = opened_fit desk asked bytes clock room r room' opens (161 + place) n e in
    let same : place ≡ given_place desk clock = omega (arith, o.1) in
    rw same (opening_sweeps desk asked bytes clock room o.0).gives

pub gives_opening : (desk : Desk) (call : Call) (place clock : ℕ) → GivesAt desk call place clock → Sweep desk call clock × (place ≡ given_place desk clock)
unfolding GivesAt event_of
gives_opening desk (asks asked bytes at room) place clock g =
    let o : Option Fault = open_refusal desk asked bytes at (length room) in
    let told =
    opening_told o (161 + given_place desk at) (length (request_at (given_place desk at) asked bytes)) asked at (161 + place) g.0 clock g.1 in
    rw told.2 (opening_sweeps desk asked bytes at room told.0, omega (arith, told.1))
gives_opening desk (brings frame room) place clock g =
    absurd (booking_told (reply_refusal desk frame (length room)) (ticket_on desk (fields_in frame).destination) (fields_in frame) frame _ _ _ g.1)
gives_opening desk (cancels job address at) place clock g =
    absurd (closing_told (cancel_refusal desk job address) (ticket_on desk address) address at _ _ _ g.1)
gives_opening desk (expires at) place clock g =
    absurd (closing_told (expire_refusal desk at) (ticket_on desk (161 + due_place desk at)) (161 + due_place desk at) at _ _ _ g.1)

-- a call either opens, or gives no address and leaves the turn
pub opens_or_stays : (desk : Desk) (call : Call) → ((clock : ℕ) × Sweep desk call clock) ⊎ Stays desk call
unfolding GivesAt after event_of
opens_or_stays desk (asks asked bytes clock room) = go (open_refusal desk asked bytes clock (length room)) refl
  where
    go : (o : Option Fault) → open_refusal desk asked bytes clock (length room) ≡ o
        → ((at : ℕ) × Sweep desk (asks asked bytes clock room) at) ⊎ Stays desk (asks asked bytes clock room)
    go none e = inl (clock, opening_sweeps desk asked bytes clock room e)
    go (some f) e =
        inr
        (record {
          gives_none = λ place g. clash (let z : none ≡ some f = sym (opening_told _ _ _ asked clock (161 + place) _ _ g.1.1).0 ∙ e in cc);
          counts_none = rw e;
          turn_kept = rw e;
        })
opens_or_stays desk (brings frame room) =
    inr
    (record {
      gives_none = λ place g. booking_told (reply_refusal desk frame (length room)) _ (fields_in frame) frame _ _ _ g.1.1;
      counts_none = booking_counts (reply_refusal desk frame (length room)) _ (fields_in frame) frame;
      turn_kept = booking_stays (reply_refusal desk frame (length room)) desk (fields_in frame);
    })
opens_or_stays desk (cancels job address clock) =
    inr
    (record {
      gives_none = λ place g. closing_told (cancel_refusal desk job address) _ address clock _ _ _ g.1.1;
      counts_none = closing_counts (cancel_refusal desk job address) _ address clock;
      turn_kept = closing_stays (cancel_refusal desk job address) desk address clock;
    })
opens_or_stays desk (expires clock) =
    inr
    (record {
      gives_none = λ place g. closing_told (expire_refusal desk clock) _ (161 + due_place desk clock) clock _ _ _ g.1.1;
      counts_none = closing_counts (expire_refusal desk clock) _ (161 + due_place desk clock) clock;
      turn_kept = closing_stays (expire_refusal desk clock) desk (161 + due_place desk clock) clock;
    })

-- ---- the sweep of the turn from the place after p on, of which s places are done

along : (p s j turn : ℕ) → s ≤ j → turn ≡ (p + 1 + s) % 95 → (turn + (j - s)) % 95 ≡ (p + 1 + j) % 95
along p s j turn h e = omega arith

reaches : (p s j d turn : ℕ) → p < 95 → d < 95 → s ≤ j → j < 94 → turn ≡ (p + 1 + s) % 95 → p ≡ (turn + d) % 95 → j - s ≤ d
reaches p s j d turn hp hd lo hi e f = omega arith

moved : (p s d turn : ℕ) → turn ≡ (p + 1 + s) % 95 → ((turn + d) % 95 + 1) % 95 ≡ (p + 1 + (s + d + 1)) % 95
moved p s d turn e = omega arith

meets : (p s j : ℕ) (desk : Desk) (call : Call) (clock : ℕ) → Sweep desk call clock → s ≤ j → desk.turn ≡ (p + 1 + s) % 95
    → j - s ≤ distance_of desk clock → Gives desk call ((p + 1 + j) % 95) ⊎ PassesOver desk call ((p + 1 + j) % 95)
meets p s j desk call clock o lo turn h =
    subst (λ (place : ℕ). Gives desk call place ⊎ PassesOver desk call place) (along p s j desk.turn lo turn)
    (swept desk call clock (j - s) o.gives h)

sweep : (p : ℕ) → p < 95 → (calls : List Call) (last : Call) (desk : Desk) (s j : ℕ) → desk.turn ≡ (p + 1 + s) % 95 → s ≤ j → j < 94
    → Gives (after_all desk calls) last p → Met desk (calls ++ (last ∷ [])) ((p + 1 + j) % 95)
unfolding Among after_all given_place
sweep p hp [] last desk s j turn lo hi g =
    let o = gives_opening desk last p g.0 g.1 in
    inl (meets p s j desk last g.0 o.0 lo turn (reaches p s j (distance_of desk g.0) desk.turn hp o.0.near lo hi turn o.1))
sweep p hp (call ∷ calls) last desk s j turn lo hi g =
    ⊎_elim
    (λ o. by o.0 o.1 (dec_le (j - s) (distance_of desk o.0))
    (λ h. sweep p hp calls last (after desk call) (s + distance_of desk o.0 + 1) j
    (o.1.turn_after ∙ moved p s (distance_of desk o.0) desk.turn turn) h hi g))
    (λ stays. inr (sweep p hp calls last (after desk call) s j (stays.turn_kept ∙ turn) lo hi g)) (opens_or_stays desk call)
  where
    by : (clock : ℕ) → Sweep desk call clock → Dec (j - s ≤ distance_of desk clock)
        → (s + distance_of desk clock + 1 ≤ j → Met (after desk call) (calls ++ (last ∷ [])) ((p + 1 + j) % 95))
        → (Gives desk call ((p + 1 + j) % 95) ⊎ PassesOver desk call ((p + 1 + j) % 95)) ⊎ Met (after desk call) (calls ++ (last ∷ [])) ((p + 1 + j) % 95)
    by clock o (yes h) later = inl (meets p s j desk call clock o lo turn h)
    by clock o (no h) later = inr (later (omega arith))

round : (p q : ℕ) → p < 95 → q < 95 → q ≢ p → ((q + 94 - p) % 95 < 94) × ((p + 1 + (q + 94 - p) % 95) % 95 ≡ q)
round p q hp hq n = (omega arith, omega arith)

-- if an address is given at two openings and not between them, then for every other address some opening after the first, up to and
-- including the second, gave it or passed it over because it was open or rested at that opening's clock. It holds of any two openings that
-- give the address, on any desk.
pub turn_fair : (desk : Desk) (first : Call) (p : ℕ) → Gives desk first p → (calls : List Call) (second : Call)
    → Gives (after_all (after desk first) calls) second p → (q : ℕ) → q < 95 → q ≢ p → Met (after desk first) (calls ++ (second ∷ [])) q
unfolding given_place
turn_fair desk first p g calls second again q hq other =
    let o = gives_opening desk first p g.0 g.1 in
    let hp : p < 95 = omega (arith, o.1) in
    let r = round p q hp hq other in
    let turn : (after desk first).turn ≡ (p + 1 + 0) % 95 = o.0.turn_after ∙ rw (← o.1) (omega arith) in
    subst (λ (place : ℕ). Met (after desk first) (calls ++ (second ∷ [])) place) r.1
    (sweep p hp calls second (after desk first) 0 ((q + 94 - p) % 95) turn (omega arith) r.0 again)

-- ---- so an address comes back only after every other one that was free all the while has been given, which excludes a desk that gives the
-- lowest free one

-- a store where a ticket is open is elsewhere
put_elsewhere : (desk : Desk) (address : ℕ) (left : Ticket) (place : ℕ) → OpenOn desk address → (ticket_at desk place).live ≡ false
    → ticket_at (put_at desk (address - 161) left) place ≡ ticket_at desk place
put_elsewhere desk address left place live shut =
    let open_there : Open (ticket_at desk (address - 161)) = rw (le-leb 161 address (open_within desk address live).0) at live in
    put_other desk (address - 161) left place
    (λ e. true≢false (sym open_there ∙ ap (λ (i : ℕ). (ticket_at desk i).live) (sym e) ∙ shut))

closing_elsewhere : (o : Option Fault) (desk : Desk) (address clock place : ℕ) → (o ≡ none → OpenOn desk address) → (ticket_at desk place).live ≡ false
    → ticket_at (close_desk o desk address clock) place ≡ ticket_at desk place
closing_elsewhere none desk address clock place live shut = put_elsewhere desk address _ place (live refl) shut
closing_elsewhere (some f) desk address clock place live shut = refl

booking_elsewhere : (o : Option Fault) (desk : Desk) (t : Fields) (place : ℕ) → (o ≡ none → OpenOn desk t.destination) → (ticket_at desk place).live ≡ false
    → ticket_at (book_desk o desk t) place ≡ ticket_at desk place
booking_elsewhere none desk t place live shut = put_elsewhere desk t.destination _ place (live refl) shut
booking_elsewhere (some f) desk t place live shut = refl

-- a place without a ticket is given, or what stands there stays
pub given_or_stays : (desk : Desk) (call : Call) (place : ℕ) → (ticket_at desk place).live ≡ false
    → Gives desk call place ⊎ (ticket_at (after desk call) place ≡ ticket_at desk place)
unfolding after
given_or_stays desk (asks asked bytes clock room) place shut =
    go (open_refusal desk asked bytes clock (length room)) refl (eqb place (given_place desk clock)) refl
  where
    ticket : Ticket
    ticket = new_ticket asked clock

    go : (o : Option Fault) → open_refusal desk asked bytes clock (length room) ≡ o → (t : Bool) → eqb place (given_place desk clock) ≡ t
        → Gives desk (asks asked bytes clock room) place
        ⊎ (ticket_at (open_desk (open_refusal desk asked bytes clock (length room)) desk (given_place desk clock) ticket) place ≡ ticket_at desk place)
    go (some f) e t p = inr (rw e)
    go none e true p = inl (clock, rw (eqb-true place (given_place desk clock) p) (opening_sweeps desk asked bytes clock room e).gives)
    go none e false p =
        inr (rw e (put_other desk (given_place desk clock) ticket place (eqb-false place (given_place desk clock) p)))
given_or_stays desk (brings frame room) place shut =
    inr (booking_elsewhere (reply_refusal desk frame (length room)) desk (fields_in frame) place (λ e. (fit_to_book desk frame (length room) e).1) shut)
given_or_stays desk (cancels job address clock) place shut =
    inr (closing_elsewhere (cancel_refusal desk job address) desk address clock place (λ e. (fit_to_cancel desk job address e).0) shut)
given_or_stays desk (expires clock) place shut =
    inr (closing_elsewhere (expire_refusal desk clock) desk (161 + due_place desk clock) clock place (λ e. (fit_to_expire desk clock e).1.0) shut)

free_given : (calls : List Call) (desk : Desk) (place : ℕ) (there : Ticket) → ticket_at desk place ≡ there → there.live ≡ false
    → OpensWhile (λ clock. Free clock there) desk calls → Met desk calls place → GivenIn desk calls place
unfolding Among Each PassesOver
free_given [] desk place there same shut while met = met
free_given (call ∷ calls) desk place there same shut while met =
    ⊎_elim (⊎_elim (λ g. inl g) (λ over. absurd (taken_not_free over.0 there (rw same at over.3) (while.0 _ over.0 over.1))))
    (λ later.
    ⊎_elim (λ g. inl g) (λ still. inr (free_given calls (after desk call) place there (still ∙ same) shut while.1 later))
    (given_or_stays desk call place (ap (λ (t : Ticket). t.live) same ∙ shut)))
    met

-- every other place without a ticket after the first opening, that is free at the clock of each opening from then on, is given before the
-- second is over
pub free_before_again : (desk : Desk) (first : Call) (p : ℕ) → Gives desk first p → (calls : List Call) (second : Call)
    → Gives (after_all (after desk first) calls) second p → (q : ℕ) → q < 95 → q ≢ p → (ticket_at (after desk first) q).live ≡ false
    → OpensWhile (λ clock. Free clock (ticket_at (after desk first) q)) (after desk first) (calls ++ (second ∷ []))
    → GivenIn (after desk first) (calls ++ (second ∷ [])) q
free_before_again desk first p g calls second again q hq other shut while =
    free_given (calls ++ (second ∷ [])) (after desk first) q (ticket_at (after desk first) q) refl shut while
    (turn_fair desk first p g calls second again q hq other)
