-- One pass over the addresses does what single expiries do: below the address that is looked at nothing is due any more, so the next
-- single expiry would close the next due ticket from there on.
-- Assumes nothing.
use Rattle.desk.specs.Answers.{closing}
use Rattle.std.specs.Prelude.{Err}
use mathlib.Core.Path.{◌≡◌, refl, sym, ap, ap₂, subst, ◌∙◌}
use mathlib.Core.Bool.{Bool, true, false, ◌&&◌, true≢false}
use mathlib.Core.List.{List, [], ◌∷◌}
use mathlib.Core.Option.{none}
use Prim.Native.Nat.{ℕ, zero, suc, ◌+◌, ◌-◌, ◌*◌, ◌/◌, ◌≤◌, ◌<◌}
use native.Mathlib.Decide.{dec_lt}
use native.Mathlib.Omega.{arith}
use borrow.Author.Count.{below_more}
use borrow.Author.Tests.{lt-leb, eq-eqb}
use lib.ListN.{length, get_or, set, length-set, get_or-eq_default}
use lib.Seq.{get_or-set_same, set_out}
use Rattle.lent.specs.Lent.{over, over_at}
use Rattle.lent.proofs.Laws.{length-over_at, over_at_none, over_at_set, over_at_append, over_at_zero}
use Rattle.first.proofs.Laws.{first_at, first-none}
use Rattle.desk.specs.Close.{due_place, expire_refusal, cancel_refusal, withdrawn_on, Cancels}
use Rattle.desk.specs.Desk.{standing, place_in, ticket_at, ticket_on, put_at}
use Rattle.desk.proofs.Laws.{on_host, put_other}
use Rattle.desk.proofs.Standing.{standing_put}
use Rattle.ticket.specs.Due.{is_due}
use Rattle.ticket.specs.Ticket.{no_ticket, withdrawn_at}
use Rattle.ticket.specs.declared.Ticket.{Ticket}
use Rattle.desk.specs.declared.Desk.{Desk}
use Rattle.desk.specs.declared.AfterClose.{AfterClose}
use Rattle.desk.specs.declared.Fault.TheVariants.{NothingDue}
use Rattle.overdue.specs.declared.Swept.{Swept}
use Rattle.overdue.specs.Overdue.{expired, entries, how_many, desk_after, room_in, closed_at, entered_at, ExpiresAll, LooksAt}

-- nothing is due at the places under k
abbrev pub NoneUnder : Desk → ℕ → ℕ → Type 0
NoneUnder desk clock k = (j : ℕ) → j < k → is_due clock (ticket_at desk j) ≡ false

-- ---- a single expiry, from there

due_here : (desk : Desk) (clock k : ℕ) → k < 95 → NoneUnder desk clock k → is_due clock (ticket_at desk k) ≡ true → due_place desk clock ≡ k
unfolding due_place
due_here desk clock k h before due = first_at (λ place. is_due clock (ticket_at desk place)) 95 k h before due

none_here : (desk : Desk) (clock : ℕ) → NoneUnder desk clock 95 → due_place desk clock ≡ 95
unfolding due_place
none_here desk clock before = first-none (λ place. is_due clock (ticket_at desk place)) 95 before

pub expired_here : (desk : Desk) (clock k : ℕ) → k < 95 → NoneUnder desk clock k → is_due clock (ticket_at desk k) ≡ true
    → expired desk clock ≡ record { desk = withdrawn_on desk (161 + k) clock; answer = closing (ticket_at desk k).asked.job (161 + k) (ticket_at desk k).asked.folder }
unfolding expired expire_refusal
expired_here desk clock k h before due = rw (due_here desk clock k h before due, lt-leb 95 k h, on_host desk k)

pub expired_none : (desk : Desk) (clock : ℕ) → NoneUnder desk clock 95 → expired desk clock ≡ record { desk = desk; answer = Err NothingDue }
unfolding expired expire_refusal
expired_none desk clock before = rw (none_here desk clock before)

-- a ticket that was closed is not due, and no other has changed
withdrawn_not_due : (desk : Desk) (clock k : ℕ) → is_due clock (ticket_at (put_at desk k (withdrawn_at clock)) k) ≡ false
withdrawn_not_due desk clock k =
    ap (λ (ts : List Ticket). is_due clock (place_in ts k)) (standing_put desk.marks desk.tickets k (withdrawn_at clock) (λ l. absurd (true≢false (sym l))))
    ∙ go (dec_lt k (length (standing desk)))
  where
    go : Dec (k < length (standing desk)) → is_due clock (get_or (set (standing desk) k (withdrawn_at clock)) k no_ticket) ≡ false
    go (yes h) = ap (is_due clock) (get_or-set_same (standing desk) k (withdrawn_at clock) no_ticket h)
    go (no h) =
        ap (is_due clock) (ap (λ (ts : List Ticket). get_or ts k no_ticket) (set_out (standing desk) k (withdrawn_at clock) (omega arith))
        ∙ get_or-eq_default (standing desk) no_ticket {n = k} (omega arith))

pub withdrawn_at_lem : (desk : Desk) (clock k : ℕ) → withdrawn_on desk (161 + k) clock ≡ put_at desk k (withdrawn_at clock)
withdrawn_at_lem desk clock k = let e : 161 + k - 161 ≡ k = omega arith in rw e

pub none_on : (desk : Desk) (clock k : ℕ) → NoneUnder desk clock k → NoneUnder (withdrawn_on desk (161 + k) clock) clock (k + 1)
none_on desk clock k before =
    subst (λ (d : Desk). NoneUnder d clock (k + 1)) (sym (withdrawn_at_lem desk clock k))
    (below_more _ k (λ j h. ap (is_due clock) (put_other desk k (withdrawn_at clock) j (λ e. omega (arith, e, h))) ∙ before j h)
    (withdrawn_not_due desk clock k))

-- ---- where nothing is due, no single call does anything

pub nothing_more : (n : ℕ) (desk : Desk) (clock : ℕ) → NoneUnder desk clock 95
    → (entries n desk clock ≡ []) × (how_many n desk clock ≡ 0) × (desk_after n desk clock ≡ desk)
unfolding entries how_many desk_after
nothing_more zero desk clock before = (refl, refl, refl)
nothing_more (suc n) desk clock before =
    let one = expired_none desk clock before in
    rw one (refl, refl, (nothing_more n desk clock before).2)

-- ---- the pass

pub record Going (desk₀ : Desk) (list₀ : List ℕ) (clock : ℕ) (swept : Swept) (k : ℕ) (list : List ℕ) : Type 0 where
  pub passed : NoneUnder swept.desk clock k
  pub within : swept.count ≤ room_in list₀
  pub same : length list ≡ length list₀
  pub desk : desk_after (room_in list₀ - swept.count) swept.desk clock ≡ desk_after (room_in list₀) desk₀ clock
  pub count : swept.count + how_many (room_in list₀ - swept.count) swept.desk clock ≡ how_many (room_in list₀) desk₀ clock
  pub entered : over_at (3 * swept.count) (entries (room_in list₀ - swept.count) swept.desk clock) list ≡ over (entries (room_in list₀) desk₀ clock) list₀

pub start : (desk : Desk) (list : List ℕ) (clock : ℕ) → Going desk list clock (record { desk = desk; count = 0 }) 0 list
start desk list clock =
    let all : room_in list - 0 ≡ room_in list = omega arith in
    record {
      passed = λ j h. absurd (omega arith);
      within = omega arith;
      same = refl;
      desk = rw all;
      count = rw all (omega arith);
      entered = rw all (over_at_zero (entries (room_in list) desk clock) list);
    }

-- one more of the single calls
pub one_more : (m : ℕ) (desk next : Desk) (clock job address folder : ℕ) → expired desk clock ≡ record { desk = next; answer = closing job address folder }
    → (entries (suc m) desk clock ≡ job ∷ address ∷ folder ∷ entries m next clock) × (how_many (suc m) desk clock ≡ suc (how_many m next clock))
    × (desk_after (suc m) desk clock ≡ desk_after m next clock)
unfolding entries how_many desk_after
one_more m desk next clock job address folder e = rw e (refl, refl, refl)

by_due : (desk₀ : Desk) (list₀ : List ℕ) (clock : ℕ) (swept : Swept) (k : ℕ) (list : List ℕ) → Going desk₀ list₀ clock swept k list → k < 95
    → swept.count < room_in list₀ → (due : Bool) → is_due clock (ticket_at swept.desk k) ≡ due
    → Going desk₀ list₀ clock (closed_at due swept k clock) (k + 1) (over_at (3 * swept.count) (entered_at due swept k) list)
by_due desk₀ list₀ clock swept k list g h room false e =
    rw (over_at_none (3 * swept.count) list)
    (record {
      passed = below_more _ k g.passed e;
      within = g.within;
      same = g.same;
      desk = g.desk;
      count = g.count;
      entered = g.entered;
    })
by_due desk₀ list₀ clock swept k list g h room true e =
    let m = room_in list₀ - (swept.count + 1) in
    let next = withdrawn_on swept.desk (161 + k) clock in
    let job = (ticket_at swept.desk k).asked.job in
    let folder = (ticket_at swept.desk k).asked.folder in
    let left : room_in list₀ - swept.count ≡ suc (room_in list₀ - (swept.count + 1)) = omega arith in
    let more = one_more m swept.desk next clock job (161 + k) folder (expired_here swept.desk clock k h g.passed e) in
    let place : 3 * swept.count + 3 ≡ 3 * (swept.count + 1) = omega arith in
    record {
      passed = none_on swept.desk clock k g.passed;
      within = omega arith;
      same = length-over_at (3 * swept.count) (job ∷ (161 + k) ∷ folder ∷ []) list ∙ g.same;
      desk = sym more.2 ∙ (rw left at g.desk);
      count = let c = rw left at g.count in omega (arith, c, more.1);
      entered =
          ap (λ (i : ℕ). over_at i (entries m next clock) (over_at (3 * swept.count) (job ∷ (161 + k) ∷ folder ∷ []) list)) (sym place)
          ∙ (over_at_append (3 * swept.count) (job ∷ (161 + k) ∷ folder ∷ []) (entries m next clock) list
          ∙ (ap (λ (l : List ℕ). over_at (3 * swept.count) l list) (sym more.0) ∙ (rw left at g.entered)));
    }

pub going_on : {desk₀ : Desk} {list₀ : List ℕ} {clock : ℕ} {swept next : Swept} {k : ℕ} {list list' : List ℕ} → Going desk₀ list₀ clock swept k list
    → k < 95 → swept.count < room_in list₀ → LooksAt swept k clock list next list' → Going desk₀ list₀ clock next (k + 1) list'
going_on {desk₀} {list₀} {clock} {swept} {next} {k} {list} {list'} g h room p =
    rw (p.0, p.1) (by_due desk₀ list₀ clock swept k list g h room (is_due clock (ticket_at swept.desk k)) refl)

-- ---- it ends where the list is full, or past the last address

no_more : (desk : Desk) (clock : ℕ) → (entries 0 desk clock ≡ []) × (how_many 0 desk clock ≡ 0) × (desk_after 0 desk clock ≡ desk)
unfolding entries how_many desk_after
no_more desk clock = (refl, refl, refl)

ends : (desk₀ : Desk) (list₀ : List ℕ) (clock : ℕ) (swept : Swept) (k n : ℕ) (list : List ℕ) → Going desk₀ list₀ clock swept k list
    → room_in list₀ - swept.count ≡ n
    → (entries n swept.desk clock ≡ []) × (how_many n swept.desk clock ≡ 0) × (desk_after n swept.desk clock ≡ swept.desk)
    → ExpiresAll desk₀ clock list₀ swept list
ends desk₀ list₀ clock swept k n list g e rest = (
  sym rest.2 ∙ (rw e at g.desk),
  (let c = rw e at g.count in omega (arith, c, rest.1)),
  (sym (over_at_none (3 * swept.count) list) ∙ (ap (λ (l : List ℕ). over_at (3 * swept.count) l list) (sym rest.0) ∙ (rw e at g.entered))),
)

pub full : {desk₀ : Desk} {list₀ : List ℕ} {clock : ℕ} {swept : Swept} {k : ℕ} {list : List ℕ} → Going desk₀ list₀ clock swept k list
    → room_in list₀ ≤ swept.count → ExpiresAll desk₀ clock list₀ swept list
full {desk₀} {list₀} {clock} {swept} {k} {list} g h =
    let e : room_in list₀ - swept.count ≡ 0 = omega arith in
    ends desk₀ list₀ clock swept k 0 list g e (no_more swept.desk clock)

pub past_all : {desk₀ : Desk} {list₀ : List ℕ} {clock : ℕ} {swept : Swept} {k : ℕ} {list : List ℕ} → Going desk₀ list₀ clock swept k list
    → 95 ≤ k → ExpiresAll desk₀ clock list₀ swept list
past_all {desk₀} {list₀} {clock} {swept} {k} {list} g h =
    ends desk₀ list₀ clock swept k (room_in list₀ - swept.count) list g refl
    (nothing_more (room_in list₀ - swept.count) swept.desk clock (λ j l. g.passed j (omega arith)))

-- ---- one address

-- a ticket that is due is its own job's, so the desk closes it for that job
cancel_due : (desk : Desk) (clock place : ℕ) → is_due clock (ticket_at desk place) ≡ true → cancel_refusal desk (ticket_at desk place).asked.job (161 + place) ≡ none
unfolding cancel_refusal
cancel_due desk clock place due =
    let live : (ticket_at desk place).live ≡ true = both_left (ticket_at desk place).live _ due in
    rw (on_host desk place, live, eq-eqb (ticket_at desk place).asked.job (ticket_at desk place).asked.job refl)
  where
    both_left : (a b : Bool) → a && b ≡ true → a ≡ true
    both_left true b e = refl
    both_left false b e = e

three_stored : (list : List ℕ) (k x y z : ℕ) → k + 2 < length list → set (set (set list k x) (k + 1) y) (k + 2) z ≡ over_at k (x ∷ y ∷ z ∷ []) list
three_stored list k x y z h =
    sym (sym (over_at_set k x (y ∷ z ∷ []) list (omega arith))
    ∙ (sym (over_at_set (suc k) y (z ∷ []) (set list k x) (omega (arith, length-set list k x)))
    ∙ (sym (over_at_set (suc (suc k)) z [] (set (set list k x) (suc k) y) (omega (arith, length-set (set list k x) (suc k) y, length-set list k x)))
    ∙ (over_at_none (suc (suc (suc k))) (set (set (set list k x) (suc k) y) (suc (suc k)) z)
    ∙ ap₂ (λ (i j : ℕ). set (set (set list k x) i y) j z) (omega arith) (omega arith)))))

-- of what stands on the address that is looked at
module _ (before : Swept) (place clock : ℕ) (list : List ℕ) (ticket : Ticket) (due : Bool) (on : ticket ≡ ticket_on before.desk (161 + place))
    (e : due ≡ is_due clock ticket) where
  stands : ticket ≡ ticket_at before.desk place
  stands = on ∙ on_host before.desk place

  told : due ≡ is_due clock (ticket_at before.desk place)
  told = e ∙ ap (is_due clock) stands

  pub looked_due : (after : AfterClose) → due ≡ true → 3 * before.count + 2 < length list
      → Cancels before.desk ticket.asked.job (161 + place) clock after
      → LooksAt before place clock list (record { desk = after.desk; count = before.count + 1 })
      (set (set (set list (3 * before.count) ticket.asked.job) (3 * before.count + 1) (161 + place)) (3 * before.count + 2) ticket.asked.folder)
  looked_due after t room p =
      let is : is_due clock (ticket_at before.desk place) ≡ true = sym told ∙ t in
      let q : Cancels before.desk (ticket_at before.desk place).asked.job (161 + place) clock after = rw (← stands) p in
      let closed : after.desk ≡ withdrawn_on before.desk (161 + place) clock = rw (cancel_due before.desk clock place is) at q.1 in
      rw (stands, is, closed)
      (refl, three_stored list (3 * before.count) (ticket_at before.desk place).asked.job (161 + place) (ticket_at before.desk place).asked.folder room)

  pub looked_not : due ≡ false → LooksAt before place clock list before list
  looked_not t = rw (sym told ∙ t) (refl, sym (over_at_none (3 * before.count) list))

pub room_is : (list : List ℕ) → room_in list ≡ length list / 3
unfolding room_in
room_is list = refl
