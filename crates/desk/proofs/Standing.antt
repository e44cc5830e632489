-- What stands at each place, by the marks: 02, #112.
-- Assumes nothing.
use mathlib.Core.Path.{◌≡◌, refl, sym, ap, ap₂, ◌∙◌}
use mathlib.Core.Bool.{Bool, true, false, not, ◌&&◌}
use mathlib.Core.List.{List, [], ◌∷◌}
use mathlib.Core.Logic.{◌≢◌, inl, inr, ⊎_elim}
use Prim.Native.Nat.{ℕ, zero, suc, ◌+◌, ◌-◌, ◌≤◌, ◌<◌}
use native.Mathlib.Nat.{add-zero, zero-add, add-suc, suc-add}
use native.Mathlib.Decide.{dec_lt}
use native.Mathlib.Omega.{arith}
use borrow.Author.Tests.{le-leb, lt-leb}
use lib.ListN.{length, get_or, set}
use Rattle.first.proofs.Laws.{first-same}
use Rattle.marks.proofs.Laws.{changed_mark, other_mark, cleared_mark, run_marked, run_none}
use Rattle.marks.specs.Marks.{is_marked, with_mark, run_from}
use Rattle.marks.specs.declared.Marks.{Marks}
use Rattle.ticket.specs.Rest.{is_resting, is_free}
use Rattle.ticket.specs.Ticket.{no_ticket}
use Rattle.ticket.specs.declared.Ticket.{Ticket}
use Rattle.desk.specs.Desk.{live_as, standing_from, ticket_at, ticket_on, Stands}
use Rattle.desk.specs.Open.{place_from, distance_of, PassesBy}
use Rattle.desk.specs.declared.Desk.{Desk}

pub length-standing : (k : ℕ) (marks : Marks) (tickets : List Ticket) → length (standing_from k marks tickets) ≡ length tickets
unfolding standing_from
length-standing k marks [] = refl
length-standing k marks (t ∷ tickets) = ap suc (length-standing (suc k) marks tickets)

-- what stands at a place is its ticket, open where the place is marked
standing_from_lem : (k : ℕ) (marks : Marks) (tickets : List Ticket) (i : ℕ) → i < length tickets
    → get_or (standing_from k marks tickets) i no_ticket ≡ live_as (is_marked marks (k + i)) (get_or tickets i no_ticket)
unfolding standing_from
standing_from_lem k marks [] i h = absurd (omega arith)
standing_from_lem k marks (t ∷ tickets) zero h = rw (add-zero k)
standing_from_lem k marks (t ∷ tickets) (suc i) h =
    standing_from_lem (suc k) marks tickets i (omega arith)
    ∙ ap (λ (j : ℕ). live_as (is_marked marks j) (get_or tickets i no_ticket)) (suc-add k i ∙ sym (add-suc k i))

pub standing_at : (marks : Marks) (tickets : List Ticket) (place : ℕ) → place < length tickets
    → get_or (standing_from 0 marks tickets) place no_ticket ≡ live_as (is_marked marks place) (get_or tickets place no_ticket)
standing_at marks tickets place h =
    standing_from_lem 0 marks tickets place h ∙ ap (λ (j : ℕ). live_as (is_marked marks j) (get_or tickets place no_ticket)) (zero-add place)

-- a ticket that was taken by its mark is the one that stands there
pub standing_is : (desk : Desk) (place : ℕ) (ticket : Ticket) → length desk.tickets ≡ 95 → place < 95
    → ticket ≡ live_as (is_marked desk.marks place) (get_or desk.tickets place no_ticket) → ticket_at desk place ≡ ticket
standing_is desk place ticket places h is = standing_at desk.marks desk.tickets place (omega arith) ∙ sym is

-- only the marks of its places are looked at
standing_alike : (k : ℕ) (a b : Marks) (tickets : List Ticket) → ((i : ℕ) → i < length tickets → is_marked a (k + i) ≡ is_marked b (k + i))
    → standing_from k a tickets ≡ standing_from k b tickets
unfolding standing_from
standing_alike k a b [] same = refl
standing_alike k a b (t ∷ tickets) same =
    ap₂ (λ (m : Bool) (rest : List Ticket). live_as m t ∷ rest) (rw (add-zero k) at (same 0 (omega arith)))
    (standing_alike (suc k) a b tickets (λ i h. rw (suc-add k i ∙ sym (add-suc k i)) (same (suc i) (omega arith))))

-- another ticket at a place, and another mark for it: every other place is as before
standing_set : (k : ℕ) (a b : Marks) (tickets : List Ticket) (i : ℕ) (t : Ticket) → ((j : ℕ) → j ≢ k + i → is_marked b j ≡ is_marked a j)
    → standing_from k b (set tickets i t) ≡ set (standing_from k a tickets) i (live_as (is_marked b (k + i)) t)
unfolding standing_from
standing_set k a b [] i t same = refl
standing_set k a b (x ∷ tickets) zero t same =
    ap₂ (λ (m : Bool) (rest : List Ticket). live_as m t ∷ rest) (ap (is_marked b) (sym (add-zero k)))
    (standing_alike (suc k) b a tickets (λ j h. same (suc k + j) (λ e. omega (arith, e))))
standing_set k a b (x ∷ tickets) (suc i) t same =
    ap₂ (λ (m : Bool) (rest : List Ticket). live_as m x ∷ rest) (same k (λ e. omega (arith, e)))
    (standing_set (suc k) a b tickets i t (λ j n. same j (λ e. n (omega (arith, e))))
    ∙ ap (λ (j : ℕ). set (standing_from (suc k) a tickets) i (live_as (is_marked b j) t)) (suc-add k i ∙ sym (add-suc k i)))

pub standing_with : (marks : Marks) (tickets : List Ticket) (place : ℕ) (t : Ticket)
    → standing_from 0 (with_mark marks place t.live) (set tickets place t)
    ≡ set (standing_from 0 marks tickets) place (live_as (is_marked (with_mark marks place t.live) place) t)
standing_with marks tickets place t =
    standing_set 0 marks (with_mark marks place t.live) tickets place t
    (λ j n. other_mark marks place t.live j (λ e. n (e ∙ sym (zero-add place))))
    ∙ ap (λ (j : ℕ). set (standing_from 0 marks tickets) place (live_as (is_marked (with_mark marks place t.live) j) t)) (zero-add place)

-- "set while it holds a ticket": what is put at a place stands there. Places from 128 on have no mark, so nothing is open there
pub standing_put : (marks : Marks) (tickets : List Ticket) (place : ℕ) (t : Ticket) → (t.live ≡ true → place < 128)
    → standing_from 0 (with_mark marks place t.live) (set tickets place t) ≡ set (standing_from 0 marks tickets) place t
standing_put marks tickets place t near =
    standing_with marks tickets place t ∙ ap (λ (m : Bool). set (standing_from 0 marks tickets) place (live_as m t)) (here t.live near)
  where
    here : (live : Bool) → (live ≡ true → place < 128) → is_marked (with_mark marks place live) place ≡ live
    here true h = changed_mark marks place true (h refl)
    here false h = cleared_mark marks place

-- the tickets alone say it where a place is marked exactly while it holds one
standing_agreed : (k : ℕ) (marks : Marks) (tickets : List Ticket) → ((i : ℕ) → i < length tickets → is_marked marks (k + i) ≡ (get_or tickets i no_ticket).live)
    → standing_from k marks tickets ≡ tickets
unfolding standing_from
standing_agreed k marks [] same = refl
standing_agreed k marks (t ∷ tickets) same =
    ap₂ (λ (m : Bool) (rest : List Ticket). live_as m t ∷ rest) (rw (add-zero k) at (same 0 (omega arith)))
    (standing_agreed (suc k) marks tickets (λ i h. rw (suc-add k i ∙ sym (add-suc k i)) (same (suc i) (omega arith))))

pub standing_alone : (marks : Marks) (tickets : List Ticket) → ((place : ℕ) → place < length tickets → is_marked marks place ≡ (get_or tickets place no_ticket).live)
    → standing_from 0 marks tickets ≡ tickets
standing_alone marks tickets same = standing_agreed 0 marks tickets (λ i h. rw (zero-add i) (same i h))

-- ---- how many places a search passes by at once: a run of marks, or one that rests

module _ (marks : Marks) (ticket : Ticket) (place clock : ℕ) where
  pub passed_marked : (n : ℕ) → 0 < n → n ≤ run_from marks place → place + n ≤ 95 → PassesBy marks ticket place clock n
  passed_marked n some run within = (within, λ none. absurd (omega arith), λ k l. inl (run_marked marks place k (omega arith)))

  pub passed_resting : place < 95 → is_resting clock ticket ≡ true → PassesBy marks ticket place clock 1
  passed_resting h rests = (omega arith, λ none. absurd (omega arith), λ k l. inr (omega arith, rests))

  pub passed_none : place < 95 → run_from marks place ≡ 0 → is_resting clock ticket ≡ false → PassesBy marks ticket place clock 0
  passed_none h run rested = (omega arith, λ none. (run_none marks place run, rested), λ k l. absurd (omega arith))

-- of a desk's places
module _ (desk : Desk) (clock : ℕ) (places : length desk.tickets ≡ 95) where
  free_by : (place : ℕ) → place < 95
      → is_free clock (ticket_at desk place) ≡ (not (is_marked desk.marks place) && not (is_resting clock (get_or desk.tickets place no_ticket)))
  free_by place h = ap (is_free clock) (standing_at desk.marks desk.tickets place (omega arith))

  shut : (m : Bool) → (m && not true) ≡ false
  shut true = refl
  shut false = refl

  module _ (k n : ℕ)
      (passes : PassesBy desk.marks (get_or desk.tickets (place_from desk.turn k) no_ticket) (place_from desk.turn k) clock n) where
    -- the search has come to a free place
    pub passed_free : n ≡ 0 → is_free clock (ticket_at desk (place_from desk.turn k)) ≡ true
    passed_free none = free_by (place_from desk.turn k) (omega arith) ∙ rw ((passes.1 none).0, (passes.1 none).1)

    taken : (i : ℕ) → i < n → is_free clock (ticket_at desk (place_from desk.turn k + i)) ≡ false
    taken i l =
        free_by (place_from desk.turn k + i) (omega (arith, passes.0))
        ∙ ⊎_elim (λ marked. rw marked)
        (λ rests.
        let here : place_from desk.turn k + i ≡ place_from desk.turn k = omega (arith, rests.0) in
        rw (here, rests.1) (shut (not (is_marked desk.marks (place_from desk.turn k)))))
        (passes.2 i l)

    -- or it goes on
    pub passed_more : ((i : ℕ) → i < k → is_free clock (ticket_at desk (place_from desk.turn i)) ≡ false)
        → (i : ℕ) → i < k + n → is_free clock (ticket_at desk (place_from desk.turn i)) ≡ false
    passed_more before i l = elim (dec_lt i k) [
      | yes h ↦ before i h
      | no h ↦
          let there : place_from desk.turn k + (i - k) ≡ place_from desk.turn i = omega (arith, passes.0) in
          ap (λ (p : ℕ). is_free clock (ticket_at desk p)) (sym there) ∙ taken (i - k) (omega arith)
    ]

-- ---- what stands on an address, said out, on any desk: its ticket, open exactly where its place is marked; all else of it as it is kept

pub stands_plainly : (desk : Desk) (place : ℕ) (r : Ticket) → place < length desk.tickets → Stands desk (161 + place) r
    → (r.live ≡ is_marked desk.marks place)
    × (r.asked ≡ (get_or desk.tickets place no_ticket).asked)
    × (r.opened ≡ (get_or desk.tickets place no_ticket).opened)
    × (r.withdrawn ≡ (get_or desk.tickets place no_ticket).withdrawn)
    × (r.closed ≡ (get_or desk.tickets place no_ticket).closed)
stands_plainly desk place r h s =
    let p : 161 + place - 161 ≡ place = omega arith in
    let on : ticket_on desk (161 + place) ≡ ticket_at desk place = rw (le-leb 161 (161 + place) (omega arith), p) in
    let e : r ≡ live_as (is_marked desk.marks place) (get_or desk.tickets place no_ticket) = s ∙ on ∙ standing_at desk.marks desk.tickets place h in
    (ap (λ (t : Ticket). t.live) e, ap (λ (t : Ticket). t.asked) e, ap (λ (t : Ticket). t.opened) e, ap (λ (t : Ticket). t.withdrawn) e, ap (λ (t : Ticket). t.closed) e)

pub stands_none : (desk : Desk) (address : ℕ) (r : Ticket) → address < 161 → Stands desk address r → r ≡ no_ticket
stands_none desk address r h s = s ∙ rw (lt-leb 161 address h)

-- and it is what every call goes by
pub stands_is : (desk : Desk) (address : ℕ) (r : Ticket) → Stands desk address r → r ≡ ticket_on desk address
stands_is desk address r s = s

-- "and choose from those and the rest times": desks with the same turn, the same marks and the same rests at the clock give the same place, whatever
-- else their tickets hold
pub chosen_by_marks : (a b : Desk) (clock : ℕ) → length a.tickets ≡ 95 → length b.tickets ≡ 95 → a.turn ≡ b.turn
    → ((place : ℕ) → place < 95 → is_marked a.marks place ≡ is_marked b.marks place)
    → ((place : ℕ) → place < 95 → is_resting clock (get_or a.tickets place no_ticket) ≡ is_resting clock (get_or b.tickets place no_ticket))
    → distance_of a clock ≡ distance_of b clock
unfolding distance_of
chosen_by_marks a b clock places_a places_b turns marks rests =
    first-same (λ k. is_free clock (ticket_at a (place_from a.turn k))) (λ k. is_free clock (ticket_at b (place_from b.turn k))) 95
    (λ k h. rw (← turns) (one (place_from a.turn k) (omega arith)))
  where
    one : (place : ℕ) → place < 95 → is_free clock (ticket_at a place) ≡ is_free clock (ticket_at b place)
    one place h =
        ap (is_free clock) (standing_at a.marks a.tickets place (omega (arith, places_a)))
        ∙ ap₂ (λ (m r : Bool). not m && not r) (marks place h) (rests place h)
        ∙ sym (ap (is_free clock) (standing_at b.marks b.tickets place (omega (arith, places_b))))
