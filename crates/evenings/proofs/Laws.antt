-- What holds of a filter box over any evening. 02, #104.
-- Assumes nothing.
use Rattle.std.specs.Prelude.{Ok, Err, Some, None}
use mathlib.Core.Path.{◌≡◌, refl, sym, ap, subst, ◌∙◌}
use mathlib.Core.Bool.{Bool, true, false, cond, true≢false}
use mathlib.Core.List.{List, [], ◌∷◌}
use mathlib.Core.Logic.{◌≢◌, ◌⊎◌, inl, inr, ⊎_elim, ◌↔◌}
use mathlib.Core.Option.{Option, some, none}
use Prim.Native.Nat.{ℕ, ◌<◌}
use native.Mathlib.Omega.{arith}
use borrow.Author.Tests.{eqb-true, eqb-false}
use lib.Dec.{eqb}
use Rattle.rows.proofs.Laws.{clash}
use Rattle.desk.proofs.Laws.{opened_given, booked_right, cancelled_right, expired_right, open_refusal_keeps, reply_refusal_keeps, cancel_refusal_keeps, expire_refusal_keeps}
use Rattle.desk.specs.Close.{Cancels, Expires}
use Rattle.desk.specs.Desk.{fresh_desk, ticket_on}
use Rattle.desk.specs.Open.{Opens}
use Rattle.desk.specs.Outcome.{Given, ClosedAlone}
use Rattle.desk.specs.Reply.{Replies}
use Rattle.desk.specs.declared.AfterClose.{AfterClose}
use Rattle.desk.specs.declared.AfterOpen.{AfterOpen}
use Rattle.desk.specs.declared.AfterReply.{AfterReply}
use Rattle.desk.specs.Answers.{Booking, booking, closing, opening}
use Rattle.desk.specs.Answers.{Closing}
use Rattle.desk.specs.declared.Desk.{Desk}
use Rattle.desk.specs.Answers.{Opening}
use Rattle.nights.proofs.Laws.{step, any_night, opens_after, replies_after, cancels_after, expires_after}
use Rattle.nights.specs.Night.{Night, event_of, answered_all, asks, brings, cancels as cancels_at, expires as expires_at}
use Rattle.nights.specs.Night.{Event as Seen}
use Rattle.request.specs.declared.Request.{Request}
use Rattle.ticket.specs.Ticket.{no_ticket, new_ticket, withdrawn_at}
use Rattle.ticket.specs.declared.Ticket.{Ticket}
use Rattle.varia.proofs.Laws.{edge_allowed, edge_set, reply_same_box, closing_same_box}
use Rattle.values.specs.Values.{bytes_of}
use Rattle.varia.specs.Ask.{from_desk, now_out, Asks, SetsEdge}
use Rattle.varia.specs.Box.{fresh_box, edge_of, other, edge_register, request, InOrder, edge_refusal, attenuation_refusal, with_out, with_edge, HearsReply, HearsClosing}
use Rattle.varia.specs.Box.{booked as after_booked, withdrawn as after_withdrawn}
use Rattle.varia.specs.declared.AfterAsk.{AfterAsk}
use Rattle.varia.specs.declared.Fault.{Fault}
use Rattle.varia.specs.declared.FilterBox.{FilterBox}
use Rattle.varia.specs.Answers.{Out, sent}
use Rattle.varia.specs.declared.Pass.{Pass}
use Rattle.varia.specs.declared.Pass.TheVariants.{Short, Long}
use Rattle.evenings.specs.Evening.{Event, Evening, OutOn, Acknowledged, GivenUp, KnownAs, Promised, of_edge, of_asking, of_opening, of_booking, of_closing}
use Rattle.evenings.specs.Evening.{asked, opened, booked, withdrawn, nothing}
use Rattle.evenings.specs.Evening.{begins, sets, attenuates, reads_monitor, reads_status, opens, replies, cancels, expires}

-- ---- an edge, by one event more

-- an event that neither acknowledges nor gives up an edge leaves it known as it was
quiet : (e : Event) (past : List Event) (p : Pass) → ((w : ℕ) → Acknowledged e past p w → ⊥) → (GivenUp e past p → ⊥)
    → {A : Type 0} (v : ℕ) → A ↔ KnownAs past p v → A ↔ KnownAs (e ∷ past) p v
unfolding KnownAs
quiet e past p no_ack kept v k =
    (λ a. inr (no_ack, kept, k.0 a), λ h. ⊎_elim (λ ack. absurd (no_ack v ack)) (λ later. k.1 later.2) h)

-- the parts of what is out
abbrev address_of : Out → ℕ
address_of (Some s) = s.address
address_of None = 0

abbrev pass_of : Out → Pass
pass_of (Some s) = s.pass
pass_of None = Short

abbrev tenths_of : Out → ℕ
tenths_of (Some s) = s.tenths
tenths_of None = 0

-- the requests that are out are equal part by part
edge_is : {a b : ℕ} {p q : Pass} {v w : ℕ} → sent a p v ≡ sent b q w → (a ≡ b) × (p ≡ q) × (v ≡ w)
edge_is e = (ap address_of e, ap pass_of e, ap tenths_of e)

edge_same : {a b : ℕ} {p q : Pass} {v w : ℕ} → a ≡ b → p ≡ q → v ≡ w → sent a p v ≡ sent b q w
edge_same x y z = cc

known_is : {v w : ℕ} → Some v ≡ Some w → v ≡ w
known_is e = cc

-- nothing is out, so no request is
none_out : {A : Type 0} {o : Out} {a : ℕ} {p : Pass} {v : ℕ} → o ≡ None → o ≡ sent a p v → A
none_out e q = clash (cc)

-- this edge or the other
which : (pass p : Pass) → (p ≡ pass) ⊎ (p ≡ other pass)
which Short Short = inl refl
which Short Long = inr refl
which Long Short = inr refl
which Long Long = inl refl

not_other : (pass : Pass) → other pass ≡ pass → ⊥
not_other Short e = clash (cc)
not_other Long e = clash (cc)

-- ---- the box alone: it knows what was answered, and keeps the house rule, of what is out too

record Follows (box : FilterBox) (past : List Event) : Type 0 where
  known : (p : Pass) (v : ℕ) → (edge_of box p ≡ Some v) ↔ KnownAs past p v
  is_out_lem : (a : ℕ) (p : Pass) (v : ℕ) → (box.out ≡ sent a p v) ↔ OutOn past a p v
  ordered : (s l : ℕ) → box.short ≡ Some s → box.long ≡ Some l → l < s
  will_be : (a : ℕ) (p : Pass) (v there : ℕ) → box.out ≡ sent a p v → edge_of box (other p) ≡ Some there → InOrder p v there

-- the edges are those of the box whatever is out
same_edges : (box : FilterBox) (o : Out) (p : Pass) → edge_of (with_out box o) p ≡ edge_of box p
same_edges box o Short = refl
same_edges box o Long = refl

module _ (box : FilterBox) (past : List Event) (f : Follows box past) where
  follows_nothing : Follows box (nothing ∷ past)
  unfolding OutOn Acknowledged GivenUp
  follows_nothing =
      record {
        known = λ p v. quiet nothing past p (λ w a. a) (λ g. g) v (f.known p v);
        is_out_lem = f.is_out_lem;
        ordered = f.ordered;
        will_be = f.will_be;
      }

  -- something happens on an address where no request for an edge is out
  elsewhere : (e : Event) (address : ℕ) → ((a : ℕ) (p : Pass) (v : ℕ) → OutOn (e ∷ past) a p v ↔ ((a ≢ address) × OutOn past a p v))
      → ((p : Pass) (w : ℕ) → Acknowledged e past p w → OutOn past address p w) → ((p : Pass) → GivenUp e past p → (w : ℕ) × OutOn past address p w)
      → ((p : Pass) (v : ℕ) → box.out ≡ sent address p v → ⊥) → Follows box (e ∷ past)
  elsewhere e address out_after ack up free =
      record {
        known = λ p v.
            quiet e past p (λ w a. free p w ((f.is_out_lem address p w).1 (ack p w a))) (λ g. free p (up p g).0 ((f.is_out_lem address p (up p g).0).1 (up p g).1)) v (f.known p v);
        is_out_lem = λ a p v. (
          λ e. (out_after a p v).1 (λ same. free p v (e ∙ edge_same same refl refl), (f.is_out_lem a p v).0 e),
          λ h. (f.is_out_lem a p v).1 ((out_after a p v).0 h).1,
        );
        ordered = f.ordered;
        will_be = f.will_be;
      }

  follows_opened : (address : ℕ) → ((p : Pass) (v : ℕ) → box.out ≡ sent address p v → ⊥) → Follows box (opened address ∷ past)
  unfolding OutOn Acknowledged GivenUp
  follows_opened address = elsewhere (opened address) address (λ a p v. (λ h. h, λ h. h)) (λ p w a. absurd a) (λ p g. absurd g)

  follows_asked : (pass : Pass) (tenths address : ℕ) → box.out ≡ None → ((there : ℕ) → edge_of box (other pass) ≡ Some there → InOrder pass tenths there)
      → Follows (with_out box (sent address pass tenths)) (asked pass tenths address ∷ past)
  unfolding OutOn Acknowledged GivenUp
  follows_asked pass tenths address free order =
      record {
        known = λ p v.
            quiet (asked pass tenths address) past p (λ w a. a) (λ g. g) v
            (λ e. (f.known p v).0 (sym (same_edges box (sent address pass tenths) p) ∙ e), λ h. same_edges box (sent address pass tenths) p ∙ (f.known p v).1 h);
        is_out_lem = λ a p v. (
          λ e. let t = edge_is e in inl (sym t.0, sym t.1, sym t.2),
          λ h. ⊎_elim (λ t. edge_same (sym t.0) (sym t.1) (sym t.2)) (λ t. none_out free ((f.is_out_lem a p v).1 t.1)) h,
        );
        ordered = f.ordered;
        will_be = λ a p v there e k. let t = edge_is e in will p v there t.1 t.2 (sym (same_edges box (sent address pass tenths) (other p)) ∙ k);
      }
    where
      will : (p : Pass) (v there : ℕ) → pass ≡ p → tenths ≡ v → edge_of box (other p) ≡ Some there → InOrder p v there
      will p v there same_pass same_value_lem =
          subst (λ (x : Pass). edge_of box (other x) ≡ Some there → InOrder x v there) same_pass (λ k. subst (λ (x : ℕ). InOrder pass x there) same_value_lem (order there k))

  -- what was out is closed: nothing is out any more
  module _ (pass : Pass) (tenths address : ℕ) (out : box.out ≡ sent address pass tenths) where
    here : (p : Pass) (w : ℕ) → OutOn past address p w → (p ≡ pass) × (w ≡ tenths)
    here p w o = let t = edge_is (sym ((f.is_out_lem address p w).1 o) ∙ out) in (t.1, t.2)

    here_out : OutOn past address pass tenths
    here_out = (f.is_out_lem address pass tenths).0 out

    none_left : (a : ℕ) (p : Pass) (v : ℕ) → (a ≢ address) × OutOn past a p v → ⊥
    none_left a p v h = h.0 (edge_is (sym ((f.is_out_lem a p v).1 h.1) ∙ out)).0

    -- the other edge is as it was
    other_edge : (e : Event) → ((w : ℕ) → Acknowledged e past (other pass) w → OutOn past address (other pass) w)
        → (GivenUp e past (other pass) → (w : ℕ) × OutOn past address (other pass) w)
        → (box' : FilterBox) → edge_of box' (other pass) ≡ edge_of box (other pass)
        → (v : ℕ) → (edge_of box' (other pass) ≡ Some v) ↔ KnownAs (e ∷ past) (other pass) v
    other_edge e ack up box' same v =
        quiet e past (other pass)
        (λ w a. not_other pass (here (other pass) w (ack w a)).0) (λ g. not_other pass (here (other pass) (up g).0 (up g).1).0) v
        (λ k. (f.known (other pass) v).0 (sym same ∙ k), λ h. same ∙ (f.known (other pass) v).1 h)

    -- of both edges
    both : (box' : FilterBox) (past' : List Event) (v : ℕ) → (edge_of box' pass ≡ Some v) ↔ KnownAs past' pass v
        → (edge_of box' (other pass) ≡ Some v) ↔ KnownAs past' (other pass) v
        → (p : Pass) → (edge_of box' p ≡ Some v) ↔ KnownAs past' p v
    both box' past' v this that p =
        ⊎_elim
        (λ same. subst (λ (x : Pass). (edge_of box' x ≡ Some v) ↔ KnownAs past' x v) (sym same) this)
        (λ same. subst (λ (x : Pass). (edge_of box' x ≡ Some v) ↔ KnownAs past' x v) (sym same) that)
        (which pass p)

    -- an ack: the edge is known with what was asked
    follows_ack : Follows (with_edge box pass (Some tenths)) (booked address 3 ∷ past)
    unfolding OutOn Acknowledged GivenUp KnownAs
    follows_ack =
        let set = edge_set box pass (Some tenths) in
        record {
          known = λ p v.
              both (with_edge box pass (Some tenths)) (booked address 3 ∷ past) v (
                λ e. inl (refl, subst (λ (x : ℕ). OutOn past address pass x) (known_is (sym set.0 ∙ e)) here_out),
                λ h. ⊎_elim (λ a. set.0 ∙ ap Some (sym (here pass v a.1).1)) (λ later. absurd (later.0 tenths (refl, here_out))) h,
              )
              (other_edge (booked address 3) (λ w a. a.1) (λ g. absurd g) (with_edge box pass (Some tenths)) set.1 v)
              p;
          is_out_lem = λ a p v. (λ e. none_out set.2 e, λ h. absurd (none_left a p v h));
          ordered = order pass out;
          will_be = λ a p v there e k. none_out set.2 e;
        }
      where
        order : (x : Pass) → box.out ≡ sent address x tenths → (s l : ℕ) → (with_edge box x (Some tenths)).short ≡ Some s
            → (with_edge box x (Some tenths)).long ≡ Some l → l < s
        order Short o s l is_s is_l = let under = f.will_be address Short tenths l o is_l in let same = known_is is_s in omega arith
        order Long o s l is_s is_l = let under = f.will_be address Long tenths s o is_s in let same = known_is is_l in omega arith

    follows_nack : (sort : ℕ) → sort ≢ 3 → Follows (with_out box None) (booked address sort ∷ past)
    unfolding OutOn Acknowledged GivenUp
    follows_nack sort other_type =
        record {
          known = λ p v.
              quiet (booked address sort) past p (λ w a. other_type a.0) (λ g. g) v
              (λ e. (f.known p v).0 (sym (same_edges box None p) ∙ e), λ h. same_edges box None p ∙ (f.known p v).1 h);
          is_out_lem = λ a p v. (λ e. none_out refl e, λ h. absurd (none_left a p v h));
          ordered = f.ordered;
          will_be = λ a p v there e k. none_out refl e;
        }

    -- an expiry or a cancel: the edge is unknown
    follows_given_up : Follows (with_edge box pass None) (withdrawn address ∷ past)
    unfolding OutOn Acknowledged GivenUp KnownAs
    follows_given_up =
        let set = edge_set box pass None in
        record {
          known = λ p v.
              both (with_edge box pass None) (withdrawn address ∷ past) v
              (λ e. never (sym set.0 ∙ e), λ h. ⊎_elim (λ a. absurd a) (λ later. absurd (later.1 (tenths, here_out))) h)
              (other_edge (withdrawn address) (λ w a. absurd a) (λ g. g) (with_edge box pass None) set.1 v)
              p;
          is_out_lem = λ a p v. (λ e. none_out set.2 e, λ h. absurd (none_left a p v h));
          ordered = order pass;
          will_be = λ a p v there e k. none_out set.2 e;
        }
      where
        never : {A : Type 0} {v : ℕ} → None ≡ Some v → A
        never e = clash (cc)

        order : (x : Pass) (s l : ℕ) → (with_edge box x None).short ≡ Some s → (with_edge box x None).long ≡ Some l → l < s
        order Short s l is_s is_l = never is_s
        order Long s l is_s is_l = never is_l

  -- a reply that was booked, and a ticket that was given up, on any address
  follows_booked : (address sort : ℕ) → Follows (after_booked box.out box address sort) (booked address sort ∷ past)
  unfolding OutOn Acknowledged GivenUp
  follows_booked address sort = go box.out refl
    where
      away : ((p : Pass) (v : ℕ) → box.out ≡ sent address p v → ⊥) → Follows box (booked address sort ∷ past)
      away = elsewhere (booked address sort) address (λ a p v. (λ h. h, λ h. h)) (λ p w a. a.1) (λ p g. absurd g)

      go : (o : Out) → box.out ≡ o → Follows (after_booked o box address sort) (booked address sort ∷ past)
      go None e = away (λ p v o. none_out e o)
      go (Some was) e = at_it (eqb was.address address) refl (eqb sort 3) refl
        where
          at_it : (b : Bool) → eqb was.address address ≡ b → (c : Bool) → eqb sort 3 ≡ c
              → Follows (cond b (cond c (with_edge box was.pass (Some was.tenths)) (with_out box None)) box) (booked address sort ∷ past)
          at_it false x c y = away (λ p v o. eqb-false was.address address x (edge_is (sym e ∙ o)).0)
          at_it true x true y =
              subst (λ (k : ℕ). Follows (with_edge box was.pass (Some was.tenths)) (booked address k ∷ past)) (sym (eqb-true sort 3 y))
              (follows_ack was.pass was.tenths address (e ∙ edge_same (eqb-true was.address address x) refl refl))
          at_it true x false y = follows_nack was.pass was.tenths address (e ∙ edge_same (eqb-true was.address address x) refl refl) sort (eqb-false sort 3 y)

  follows_withdrawn : (address : ℕ) → Follows (after_withdrawn box.out box address) (withdrawn address ∷ past)
  unfolding OutOn Acknowledged GivenUp
  follows_withdrawn address = go box.out refl
    where
      away : ((p : Pass) (v : ℕ) → box.out ≡ sent address p v → ⊥) → Follows box (withdrawn address ∷ past)
      away = elsewhere (withdrawn address) address (λ a p v. (λ h. h, λ h. h)) (λ p w a. absurd a) (λ p g. g)

      go : (o : Out) → box.out ≡ o → Follows (after_withdrawn o box address) (withdrawn address ∷ past)
      go None e = away (λ p v o. none_out e o)
      go (Some was) e = at_it (eqb was.address address) refl
        where
          at_it : (b : Bool) → eqb was.address address ≡ b → Follows (cond b (with_edge box was.pass None) box) (withdrawn address ∷ past)
          at_it false x = away (λ p v o. eqb-false was.address address x (edge_is (sym e ∙ o)).0)
          at_it true x = follows_given_up was.pass was.tenths address (e ∙ edge_same (eqb-true was.address address x) refl refl)

-- ---- with the desk: the box follows what was answered, and the ticket of what is out stands open, as it was asked

record Stands (job unit : ℕ) (box : FilterBox) (desk : Desk) (past : List Event) : Type 0 where
  seen : List Seen
  night : Night desk seen
  follows : Follows box past
  of_box : (box.job ≡ job) × (box.unit ≡ unit)
  ticket : (a : ℕ) (p : Pass) (v : ℕ) → box.out ≡ sent a p v
      → (wait : ℕ) × (clock : ℕ)
      × (ticket_on desk a ≡ new_ticket (record { job = job; unit = unit; sort = 5; register = edge_register p; wait = wait; folder = 0 }) clock)

module _ (job unit : ℕ) (box : FilterBox) (desk : Desk) (past : List Event) (s : Stands job unit box desk past) where
  -- a call that was refused
  stands_nothing : Stands job unit box desk (nothing ∷ past)
  stands_nothing = record { seen = s.seen; night = s.night; follows = follows_nothing box past s.follows; of_box = s.of_box; ticket = s.ticket }

  -- an opening at the desk, by its contract
  module _ (what : Request) (bytes : List ℕ) (clock : ℕ) (room : List ℕ) (o : AfterOpen) (room' : List ℕ) (opens : Opens desk what bytes clock room o room') where
    night_then : Night o.desk (event_of desk (asks what bytes clock room) ∷ s.seen)
    night_then =
        let was = opens_after desk what bytes clock room o room' opens in
        subst (λ (d : Desk). Night d (event_of desk (asks what bytes clock room) ∷ s.seen)) (sym was.0) (step desk s.seen s.night (asks what bytes clock room))

    -- no request for an edge is out where a ticket is opened, and the others' tickets stand as they stood
    module _ (address n : ℕ) (is : o.answer ≡ opening address n) where
      given : Given desk what clock address o.desk
      given = opened_given desk what bytes clock room o room' opens address n s.night.sound.places is

      not_there : (p : Pass) (v : ℕ) → box.out ≡ sent address p v → ⊥
      not_there p v out =
          let t = s.ticket address p v out in
          true≢false (sym (ap (λ (x : Ticket). x.live) t.2) ∙ given.free.0)

      still : (a : ℕ) (p : Pass) (v : ℕ) → box.out ≡ sent a p v
          → (wait : ℕ) × (clock' : ℕ)
          × (ticket_on o.desk a ≡ new_ticket (record { job = job; unit = unit; sort = 5; register = edge_register p; wait = wait; folder = 0 }) clock')
      still a p v out =
          let t = s.ticket a p v out in
          (t.0, t.1, given.others a (λ same. not_there p v (out ∙ edge_same same refl refl)) ∙ t.2)

    -- of any request but the box's own for an edge
    stands_opening : Stands job unit box o.desk (of_opening o.answer ∷ past)
    stands_opening = go o.answer refl
      where
        go : (a : Opening) → o.answer ≡ a → Stands job unit box o.desk (of_opening a ∷ past)
        go (Ok told) is =
            record {
              seen = _;
              night = night_then;
              follows = follows_opened box past s.follows told.address (not_there told.address told.size is);
              of_box = s.of_box;
              ticket = still told.address told.size is;
            }
        go (Err f) is =
            subst (λ (d : Desk). Stands job unit box d (nothing ∷ past)) (sym (open_refusal_keeps desk what bytes clock room o room' opens f is).0) stands_nothing

  -- a ticket was closed alone: the box goes by what it is told, and a ticket that is out elsewhere stands as it stood
  stands_closed : (e : Event) (address : ℕ) (left : Ticket) (desk' : Desk) (seen' : List Seen) (box' : FilterBox) → Night desk' seen'
      → ClosedAlone desk address left desk' → Follows box' (e ∷ past) → (box'.job ≡ box.job) × (box'.unit ≡ box.unit)
      → ((a : ℕ) (p : Pass) (v : ℕ) → OutOn (e ∷ past) a p v → (a ≢ address) × OutOn past a p v) → Stands job unit box' desk' (e ∷ past)
  stands_closed e address left desk' seen' box' night' alone follows' same out_before =
      record {
        seen = seen';
        night = night';
        follows = follows';
        of_box = (same.0 ∙ s.of_box.0, same.1 ∙ s.of_box.1);
        ticket = λ a p v out.
            let was = out_before a p v ((follows'.is_out_lem a p v).0 out) in
            let t = s.ticket a p v ((s.follows.is_out_lem a p v).1 was.1) in
            (t.0, t.1, alone.others a was.0 ∙ t.2);
      }

  -- a reply
  stands_reply : (frame room : List ℕ) (r : AfterReply) (room' : List ℕ) (box' : FilterBox) → Replies desk frame room r room' → HearsReply box r.answer box'
      → Stands job unit box' r.desk (of_booking r.answer ∷ past)
  unfolding OutOn
  stands_reply frame room r room' box' replying hears = go r.answer refl hears
    where
      go : (a : Booking) → r.answer ≡ a → HearsReply box a box' → Stands job unit box' r.desk (of_booking a ∷ past)
      go (Ok heard) is told =
          let was = replies_after desk frame room r room' replying in
          stands_closed (booked heard.address heard.sort) heard.address no_ticket r.desk (event_of desk (brings frame room) ∷ s.seen) box'
          (subst (λ (d : Desk). Night d (event_of desk (brings frame room) ∷ s.seen)) (sym was.0) (step desk s.seen s.night (brings frame room)))
          (booked_right desk frame room r room' replying heard.job heard.address heard.sort heard.size heard.folder is).0.closes
          (subst (λ (b : FilterBox). Follows b (booked heard.address heard.sort ∷ past)) (sym told) (follows_booked box past s.follows heard.address heard.sort))
          (reply_same_box box (booking heard.job heard.address heard.sort heard.size heard.folder) box' told)
          (λ a p v out. out)
      go (Err f) is told =
          subst (λ (b : FilterBox). Stands job unit b r.desk (nothing ∷ past)) (sym told)
          (subst (λ (d : Desk). Stands job unit box d (nothing ∷ past)) (sym (reply_refusal_keeps desk frame room r room' replying f is).0) stands_nothing)

  -- a cancel or an expiry
  stands_withdrawn : (address clock : ℕ) (desk' : Desk) (seen' : List Seen) (box' : FilterBox) (job' folder : ℕ) → Night desk' seen'
      → ClosedAlone desk address (withdrawn_at clock) desk' → HearsClosing box (closing job' address folder) box' → Stands job unit box' desk' (withdrawn address ∷ past)
  unfolding OutOn
  stands_withdrawn address clock desk' seen' box' job' folder night' alone told =
      stands_closed (withdrawn address) address (withdrawn_at clock) desk' seen' box' night' alone
      (subst (λ (b : FilterBox). Follows b (withdrawn address ∷ past)) (sym told) (follows_withdrawn box past s.follows address))
      (closing_same_box box (closing job' address folder) box' told)
      (λ a p v out. out)

  stands_cancel : (theirs address clock : ℕ) (r : AfterClose) (box' : FilterBox) → Cancels desk theirs address clock r → HearsClosing box r.answer box'
      → Stands job unit box' r.desk (of_closing r.answer ∷ past)
  stands_cancel theirs address clock r box' cancelling hears = go r.answer refl hears
    where
      go : (a : Closing) → r.answer ≡ a → HearsClosing box a box' → Stands job unit box' r.desk (of_closing a ∷ past)
      go (Ok closed) is told =
          let was = cancels_after desk theirs address clock r cancelling in
          let right = cancelled_right desk theirs address clock r closed.job closed.address closed.folder cancelling is in
          stands_withdrawn closed.address clock r.desk (event_of desk (cancels_at theirs address clock) ∷ s.seen) box' closed.job closed.folder
          (subst (λ (d : Desk). Night d (event_of desk (cancels_at theirs address clock) ∷ s.seen)) (sym was.0) (step desk s.seen s.night (cancels_at theirs address clock)))
          (subst (λ (x : ℕ). ClosedAlone desk x (withdrawn_at clock) r.desk) (sym right.1) right.3)
          told
      go (Err f) is told =
          subst (λ (b : FilterBox). Stands job unit b r.desk (nothing ∷ past)) (sym told)
          (subst (λ (d : Desk). Stands job unit box d (nothing ∷ past)) (sym (cancel_refusal_keeps desk theirs address clock r f cancelling is)) stands_nothing)

  stands_expire : (clock : ℕ) (r : AfterClose) (box' : FilterBox) → Expires desk clock r → HearsClosing box r.answer box'
      → Stands job unit box' r.desk (of_closing r.answer ∷ past)
  stands_expire clock r box' expiring hears = go r.answer refl hears
    where
      go : (a : Closing) → r.answer ≡ a → HearsClosing box a box' → Stands job unit box' r.desk (of_closing a ∷ past)
      go (Ok closed) is told =
          let was = expires_after desk clock r expiring in
          stands_withdrawn closed.address clock r.desk (event_of desk (expires_at clock) ∷ s.seen) box' closed.job closed.folder
          (subst (λ (d : Desk). Night d (event_of desk (expires_at clock) ∷ s.seen)) (sym was.0) (step desk s.seen s.night (expires_at clock)))
          (expired_right desk clock r closed.job closed.address closed.folder expiring is).closes
          told
      go (Err f) is told =
          subst (λ (b : FilterBox). Stands job unit b r.desk (nothing ∷ past)) (sym told)
          (subst (λ (d : Desk). Stands job unit box d (nothing ∷ past)) (sym (expire_refusal_keeps desk clock r f expiring is)) stands_nothing)

  -- a request of the box that leaves it as it was
  stands_asking : (own : Option Fault) (what : Request) (bytes : List ℕ) (clock : ℕ) (room : List ℕ) (r : AfterAsk) (room' : List ℕ)
      → Asks own box (λ a. box) desk what bytes clock room r room' → Stands job unit r.filters r.desk (of_asking r.answer ∷ past)
  stands_asking (some f) what bytes clock room r room' a = rw (a.0.0, a.0.1, a.0.2) stands_nothing
  stands_asking none what bytes clock room r room' a =
      rw (a.2.0, a.2.1, a.2.2, as_opened a.0.answer) (stands_opening what bytes clock room a.0 room' a.1)
    where
      as_opened : (o : Opening) → of_asking (from_desk o) ≡ of_opening o
      as_opened (Ok told) = refl
      as_opened (Err f) = refl

  -- a request of the box for an edge
  stands_setting : (pass : Pass) (tenths wait clock : ℕ) (room : List ℕ) (r : AfterAsk) (room' : List ℕ) → SetsEdge pass box desk tenths wait clock room r room'
      → Stands job unit r.filters r.desk (of_edge pass tenths r.answer ∷ past)
  stands_setting pass tenths wait clock room r room' = go (edge_refusal box pass tenths) refl
    where
      what : Request
      what = request box 5 (edge_register pass) wait

      go : (own : Option Fault) → edge_refusal box pass tenths ≡ own
          → Asks own box (now_out box pass tenths) desk what (bytes_of 2 tenths) clock room r room'
          → Stands job unit r.filters r.desk (of_edge pass tenths r.answer ∷ past)
      go (some f) own a = rw (a.0.0, a.0.1, a.0.2) stands_nothing
      go none own a = rw (a.2.0, a.2.1, a.2.2) (by_answer a.0.answer refl)
        where
          by_answer : (x : Opening) → a.0.answer ≡ x → Stands job unit (now_out box pass tenths x) a.0.desk (of_edge pass tenths (from_desk x) ∷ past)
          by_answer (Err f) is =
              subst (λ (d : Desk). Stands job unit box d (nothing ∷ past)) (sym (open_refusal_keeps desk what (bytes_of 2 tenths) clock room a.0 room' a.1 f is).0) stands_nothing
          by_answer (Ok told) is =
              let allowed = edge_allowed box pass tenths own in
              let stood = given what (bytes_of 2 tenths) clock room a.0 room' a.1 told.address told.size is in
              record {
                seen = event_of desk (asks what (bytes_of 2 tenths) clock room) ∷ s.seen;
                night = night_then what (bytes_of 2 tenths) clock room a.0 room' a.1;
                follows = follows_asked box past s.follows pass tenths told.address allowed.0 allowed.1;
                of_box = s.of_box;
                ticket = λ b p v out. let t = edge_is out in
                    subst (λ (x : ℕ). (w : ℕ) × (k : ℕ) × (ticket_on a.0.desk x ≡ new_ticket (record { job = job; unit = unit; sort = 5; register = edge_register p; wait = w; folder = 0 }) k))
                    t.0
                    (subst (λ (x : Pass). (w : ℕ) × (k : ℕ) × (ticket_on a.0.desk told.address ≡ new_ticket (record { job = job; unit = unit; sort = 5; register = edge_register x; wait = w; folder = 0 }) k))
                    t.1
                    (wait, clock, stood.stands ∙ rw (s.of_box.0, s.of_box.1)));
              }

-- ---- any evening

stands_any : {job unit : ℕ} {box : FilterBox} {desk : Desk} {past : List Event} → Evening job unit box desk past → Stands job unit box desk past
unfolding OutOn KnownAs
stands_any {job} {unit} (begins calls) =
    record {
      seen = answered_all fresh_desk [] calls;
      night = any_night calls;
      follows =
          record {
            known = λ p v. (λ e. unknown p v e, λ h. absurd h);
            is_out_lem = λ a p v. (λ e. none_out refl e, λ h. absurd h);
            ordered = λ s l e f. unknown Short s e;
            will_be = λ a p v there e f. none_out refl e;
          };
      of_box = (refl, refl);
      ticket = λ a p v e. none_out refl e;
    }
  where
    unknown : {A : Type 0} (p : Pass) (v : ℕ) → edge_of (fresh_box job unit) p ≡ Some v → A
    unknown Short v e = clash (cc)
    unknown Long v e = clash (cc)
stands_any (sets evening pass tenths wait clock room r room' c) = stands_setting _ _ _ _ _ (stands_any evening) pass tenths wait clock room r room' c
stands_any (attenuates evening permille wait clock room r room' c) =
    stands_asking _ _ _ _ _ (stands_any evening) (attenuation_refusal permille) _ _ clock room r room' c
stands_any (reads_monitor evening wait clock room r room' c) = stands_asking _ _ _ _ _ (stands_any evening) none _ _ clock room r room' c
stands_any (reads_status evening wait clock room r room' c) = stands_asking _ _ _ _ _ (stands_any evening) none _ _ clock room r room' c
stands_any (opens evening what bytes clock room r room' c) = stands_opening _ _ _ _ _ (stands_any evening) what bytes clock room r room' c
stands_any (replies evening frame room r room' box' c told) = stands_reply _ _ _ _ _ (stands_any evening) frame room r room' box' c told
stands_any (cancels evening theirs address clock r box' c told) = stands_cancel _ _ _ _ _ (stands_any evening) theirs address clock r box' c told
stands_any (expires evening clock r box' c told) = stands_expire _ _ _ _ _ (stands_any evening) clock r box' c told

-- over any calls of the box and at the desk, whoever made them, every answer told: an edge is known with v exactly if a request for v was
-- acknowledged and no later request of that edge expired or was cancelled since, later acks replacing it; at most one request for an edge is
-- out, and its ticket stands open; and whenever both edges are known, the short-pass edge is above the long-pass edge
pub any_evening : {job unit : ℕ} {box : FilterBox} {desk : Desk} {past : List Event} → Evening job unit box desk past → Promised job unit box desk past
any_evening evening =
    let s = stands_any evening in
    let f = s.follows in
    record {
      known = f.known;
      is_out_lem = f.is_out_lem;
      stands = λ a p v out. s.ticket a p v ((f.is_out_lem a p v).1 out);
      one_out = λ a b p q v w this that. edge_is (sym ((f.is_out_lem a p v).1 this) ∙ (f.is_out_lem b q w).1 that);
      in_order = λ x y short long. f.ordered x y ((f.known Short x).1 short) ((f.known Long y).1 long);
    }

-- the desk beside the box is that of a night: what its callers saw there, and all that a night keeps to
pub night_beside : {job unit : ℕ} {box : FilterBox} {desk : Desk} {past : List Event} → Evening job unit box desk past → (seen : List Seen) × Night desk seen
night_beside evening = let s = stands_any evening in (s.seen, s.night)

-- 02, #110, with the box's calls among them: "No two open tickets of different jobs may hold the same folder other than 0"
pub folders_apart_beside : {job unit : ℕ} {box : FilterBox} {desk : Desk} {past : List Event} → Evening job unit box desk past → (a b : ℕ)
    → (ticket_on desk a).live ≡ true → (ticket_on desk b).live ≡ true → (ticket_on desk a).asked.job ≢ (ticket_on desk b).asked.job
    → (ticket_on desk a).asked.folder ≢ 0 → (ticket_on desk a).asked.folder ≢ (ticket_on desk b).asked.folder
folders_apart_beside evening = (stands_any evening).night.apart
