-- What the definitions of an evening say, said out. 02, #104.
-- Assumes nothing.
use Rattle.varia.specs.Answers.{asking, sent}
use Rattle.desk.specs.Answers.{booking, closing, opening}
use Rattle.std.specs.Prelude.{Err, Some, None}
use mathlib.Core.Path.{◌≡◌, refl, sym, ap, subst, ◌∙◌}
use mathlib.Core.Bool.{true, false}
use mathlib.Core.List.{List, [], ◌∷◌, ◌++◌}
use mathlib.Core.Logic.{◌≢◌, ◌⊎◌, inl, inr, ⊎_elim, ◌↔◌}
use Prim.Native.Nat.{ℕ, ◌<◌}
use Rattle.rows.proofs.Laws.{clash}
use Rattle.desk.specs.Close.{Cancels, Expires}
use Rattle.desk.specs.Desk.{fresh_desk, ticket_on}
use Rattle.desk.specs.Open.{Opens}
use Rattle.desk.specs.Reply.{Replies}
use Rattle.desk.specs.declared.AfterClose.{AfterClose}
use Rattle.desk.specs.declared.AfterOpen.{AfterOpen}
use Rattle.desk.specs.declared.AfterReply.{AfterReply}
use Rattle.desk.specs.declared.Desk.{Desk}
use Rattle.nights.specs.Night.{Call, after_all}
use Rattle.request.specs.declared.Request.{Request}
use Rattle.varia.specs.Ask.{SetsEdge, Attenuates, ReadsMonitor, ReadsStatus}
use Rattle.varia.specs.Box.{edge_register, HearsReply, HearsClosing}
use Rattle.varia.specs.declared.AfterAsk.{AfterAsk}
use Rattle.varia.specs.declared.FilterBox.{FilterBox}
use Rattle.varia.specs.declared.Pass.{Pass}
use Rattle.varia.specs.declared.Pass.TheVariants.{Short, Long}
use Rattle.evenings.specs.Evening.{Event, Evening, OutOn, Acknowledged, GivenUp, KnownAs, Promised, of_edge, of_asking, of_opening, of_booking, of_closing}
use Rattle.evenings.specs.Evening.{asked, opened, booked, withdrawn, nothing}
use Rattle.evenings.specs.Evening.{begins, sets, attenuates, reads_monitor, reads_status, opens, replies, cancels, expires}

-- ---- an evening begins with a box that knows neither edge, at any time of any night

pub begins_plainly : (job unit : ℕ) (calls : List Call)
    → Evening job unit (record { job = job; unit = unit; short = None; long = None; out = None }) (after_all fresh_desk calls) []
begins_plainly job unit calls = begins calls

-- ---- and whatever is an evening began so, or came by one call from an evening: one of the box, an opening, a reply, a cancel or an expiry, as
-- its contract allows it, with that answer told to the box and written down

pub evening_only : {job unit : ℕ} {box : FilterBox} {desk : Desk} {past : List Event} → Evening job unit box desk past
    → ((box ≡ record { job = job; unit = unit; short = None; long = None; out = None })
    × ((calls : List Call) × (desk ≡ after_all fresh_desk calls))
    × (past ≡ []))
    ⊎ ((b : FilterBox) × (d : Desk) × (earlier : List Event) × Evening job unit b d earlier
    × (((pass : Pass) × (tenths : ℕ) × (wait : ℕ) × (clock : ℕ) × (room : List ℕ) × (r : AfterAsk) × (room' : List ℕ)
    × SetsEdge pass b d tenths wait clock room r room' × (box ≡ r.filters) × (desk ≡ r.desk) × (past ≡ of_edge pass tenths r.answer ∷ earlier))
    ⊎ (((wait : ℕ) × (clock : ℕ) × (room : List ℕ) × (r : AfterAsk) × (room' : List ℕ)
    × (((permille : ℕ) × Attenuates b d permille wait clock room r room')
    ⊎ (ReadsMonitor b d wait clock room r room' ⊎ ReadsStatus b d wait clock room r room'))
    × (box ≡ r.filters) × (desk ≡ r.desk) × (past ≡ of_asking r.answer ∷ earlier))
    ⊎ (((what : Request) × (bytes : List ℕ) × (clock : ℕ) × (room : List ℕ) × (r : AfterOpen) × (room' : List ℕ) × Opens d what bytes clock room r room'
    × (box ≡ b) × (desk ≡ r.desk) × (past ≡ of_opening r.answer ∷ earlier))
    ⊎ (((frame : List ℕ) × (room : List ℕ) × (r : AfterReply) × (room' : List ℕ) × Replies d frame room r room' × HearsReply b r.answer box
    × (desk ≡ r.desk) × (past ≡ of_booking r.answer ∷ earlier))
    ⊎ ((r : AfterClose)
    × (((theirs : ℕ) × (address : ℕ) × (clock : ℕ) × Cancels d theirs address clock r) ⊎ ((clock : ℕ) × Expires d clock r))
    × HearsClosing b r.answer box × (desk ≡ r.desk) × (past ≡ of_closing r.answer ∷ earlier)))))))
evening_only (begins calls) = inl (refl, (calls, refl), refl)
evening_only (sets evening pass tenths wait clock room r room' c) =
    inr (_, _, _, evening, inl (pass, tenths, wait, clock, room, r, room', c, refl, refl, refl))
evening_only (attenuates evening permille wait clock room r room' c) =
    inr (_, _, _, evening, inr (inl (wait, clock, room, r, room', inl (permille, c), refl, refl, refl)))
evening_only (reads_monitor evening wait clock room r room' c) =
    inr (_, _, _, evening, inr (inl (wait, clock, room, r, room', inr (inl c), refl, refl, refl)))
evening_only (reads_status evening wait clock room r room' c) =
    inr (_, _, _, evening, inr (inl (wait, clock, room, r, room', inr (inr c), refl, refl, refl)))
evening_only (opens evening what bytes clock room r room' c) =
    inr (_, _, _, evening, inr (inr (inl (what, bytes, clock, room, r, room', c, refl, refl, refl))))
evening_only (replies evening frame room r room' box' c told) =
    inr (_, _, _, evening, inr (inr (inr (inl (frame, room, r, room', c, told, refl, refl)))))
evening_only (cancels evening theirs address clock r box' c told) =
    inr (_, _, _, evening, inr (inr (inr (inr (r, inl (theirs, address, clock, c), told, refl, refl)))))
evening_only (expires evening clock r box' c told) =
    inr (_, _, _, evening, inr (inr (inr (inr (r, inr (clock, c), told, refl, refl)))))

by_asking : {job unit : ℕ} {past : List Event} (r : AfterAsk) → Evening job unit r.filters r.desk (of_asking r.answer ∷ past)
    → ((address n : ℕ) → r.answer ≡ asking address n → Evening job unit r.filters r.desk (opened address ∷ past))
    × ((f : _) → r.answer ≡ Err f → Evening job unit r.filters r.desk (nothing ∷ past))
by_asking {job} {unit} {past} r next = (
  λ address n e. subst (λ a. Evening job unit r.filters r.desk (of_asking a ∷ past)) e next,
  λ f e. subst (λ a. Evening job unit r.filters r.desk (of_asking a ∷ past)) e next,
)

by_closing : {job unit : ℕ} {past : List Event} (r : AfterClose) (box' : FilterBox) → Evening job unit box' r.desk (of_closing r.answer ∷ past)
    → ((theirs there folder : ℕ) → r.answer ≡ closing theirs there folder → Evening job unit box' r.desk (withdrawn there ∷ past))
    × ((f : _) → r.answer ≡ Err f → Evening job unit box' r.desk (nothing ∷ past))
by_closing {job} {unit} {past} r box' next = (
  λ theirs there folder e. subst (λ a. Evening job unit box' r.desk (of_closing a ∷ past)) e next,
  λ f e. subst (λ a. Evening job unit box' r.desk (of_closing a ∷ past)) e next,
)

-- ---- and goes on with any call of the box, or of anybody at the desk, whatever comes of it; the desk's answers are told to the box

module _ {job unit : ℕ} {box : FilterBox} {desk : Desk} {past : List Event} (evening : Evening job unit box desk past) where
  pub goes_on_set : (pass : Pass) (tenths wait clock : ℕ) (room : List ℕ) (r : AfterAsk) (room' : List ℕ) → SetsEdge pass box desk tenths wait clock room r room'
      → ((address n : ℕ) → r.answer ≡ asking address n → Evening job unit r.filters r.desk (asked pass tenths address ∷ past))
      × ((f : _) → r.answer ≡ Err f → Evening job unit r.filters r.desk (nothing ∷ past))
  goes_on_set pass tenths wait clock room r room' c =
      let next = sets evening pass tenths wait clock room r room' c in (
        λ address n e. subst (λ a. Evening job unit r.filters r.desk (of_edge pass tenths a ∷ past)) e next,
        λ f e. subst (λ a. Evening job unit r.filters r.desk (of_edge pass tenths a ∷ past)) e next,
      )

  -- the box's other requests
  pub goes_on_attenuate : (permille wait clock : ℕ) (room : List ℕ) (r : AfterAsk) (room' : List ℕ) → Attenuates box desk permille wait clock room r room'
      → ((address n : ℕ) → r.answer ≡ asking address n → Evening job unit r.filters r.desk (opened address ∷ past))
      × ((f : _) → r.answer ≡ Err f → Evening job unit r.filters r.desk (nothing ∷ past))
  goes_on_attenuate permille wait clock room r room' c = by_asking r (attenuates evening permille wait clock room r room' c)

  pub goes_on_monitor : (wait clock : ℕ) (room : List ℕ) (r : AfterAsk) (room' : List ℕ) → ReadsMonitor box desk wait clock room r room'
      → ((address n : ℕ) → r.answer ≡ asking address n → Evening job unit r.filters r.desk (opened address ∷ past))
      × ((f : _) → r.answer ≡ Err f → Evening job unit r.filters r.desk (nothing ∷ past))
  goes_on_monitor wait clock room r room' c = by_asking r (reads_monitor evening wait clock room r room' c)

  pub goes_on_status : (wait clock : ℕ) (room : List ℕ) (r : AfterAsk) (room' : List ℕ) → ReadsStatus box desk wait clock room r room'
      → ((address n : ℕ) → r.answer ≡ asking address n → Evening job unit r.filters r.desk (opened address ∷ past))
      × ((f : _) → r.answer ≡ Err f → Evening job unit r.filters r.desk (nothing ∷ past))
  goes_on_status wait clock room r room' c = by_asking r (reads_status evening wait clock room r room' c)

  -- anybody's request at the desk
  pub goes_on_open : (what : Request) (bytes : List ℕ) (clock : ℕ) (room : List ℕ) (r : AfterOpen) (room' : List ℕ) → Opens desk what bytes clock room r room'
      → ((address n : ℕ) → r.answer ≡ opening address n → Evening job unit box r.desk (opened address ∷ past))
      × ((f : _) → r.answer ≡ Err f → Evening job unit box r.desk (nothing ∷ past))
  goes_on_open what bytes clock room r room' c =
      let next = opens evening what bytes clock room r room' c in (
        λ address n e. subst (λ a. Evening job unit box r.desk (of_opening a ∷ past)) e next,
        λ f e. subst (λ a. Evening job unit box r.desk (of_opening a ∷ past)) e next,
      )

  -- any reply
  pub goes_on_reply : (frame room : List ℕ) (r : AfterReply) (room' : List ℕ) (box' : FilterBox) → Replies desk frame room r room' → HearsReply box r.answer box'
      → ((theirs address sort n folder : ℕ) → r.answer ≡ booking theirs address sort n folder → Evening job unit box' r.desk (booked address sort ∷ past))
      × ((f : _) → r.answer ≡ Err f → Evening job unit box' r.desk (nothing ∷ past))
  goes_on_reply frame room r room' box' c told =
      let next = replies evening frame room r room' box' c told in (
        λ theirs address sort n folder e. subst (λ a. Evening job unit box' r.desk (of_booking a ∷ past)) e next,
        λ f e. subst (λ a. Evening job unit box' r.desk (of_booking a ∷ past)) e next,
      )

  -- anybody's cancel, and any expiry
  pub goes_on_cancel : (job' address clock : ℕ) (r : AfterClose) (box' : FilterBox) → Cancels desk job' address clock r → HearsClosing box r.answer box'
      → ((theirs there folder : ℕ) → r.answer ≡ closing theirs there folder → Evening job unit box' r.desk (withdrawn there ∷ past))
      × ((f : _) → r.answer ≡ Err f → Evening job unit box' r.desk (nothing ∷ past))
  goes_on_cancel job' address clock r box' c told = by_closing r box' (cancels evening job' address clock r box' c told)

  pub goes_on_expire : (clock : ℕ) (r : AfterClose) (box' : FilterBox) → Expires desk clock r → HearsClosing box r.answer box'
      → ((theirs there folder : ℕ) → r.answer ≡ closing theirs there folder → Evening job unit box' r.desk (withdrawn there ∷ past))
      × ((f : _) → r.answer ≡ Err f → Evening job unit box' r.desk (nothing ∷ past))
  goes_on_expire clock r box' c told = by_closing r box' (expires evening clock r box' c told)

-- ---- what is out under an address: the last to go out there decides, and what happens elsewhere does not

pub out_there : (past : List Event) (a : ℕ) (p : Pass) (v : ℕ)
    → OutOn (asked p v a ∷ past) a p v
    × (OutOn (opened a ∷ past) a p v → ⊥)
    × ((sort : ℕ) → OutOn (booked a sort ∷ past) a p v → ⊥)
    × (OutOn (withdrawn a ∷ past) a p v → ⊥)
    × (OutOn [] a p v → ⊥)
unfolding OutOn
out_there past a p v = (inl (refl, refl, refl), λ h. h.0 refl, λ sort h. h.0 refl, λ h. h.0 refl, λ h. h)

pub out_asked_only : (past : List Event) (a : ℕ) (p q : Pass) (v w : ℕ) → OutOn (asked q w a ∷ past) a p v → (p ≡ q) × (v ≡ w)
unfolding OutOn
out_asked_only past a p q v w h = ⊎_elim (λ t. (t.1, t.2)) (λ t. absurd (t.0 refl)) h

pub out_elsewhere : (past : List Event) (a b : ℕ) (p q : Pass) (v w sort : ℕ) → a ≢ b
    → (OutOn (asked q w b ∷ past) a p v ↔ OutOn past a p v)
    × (OutOn (opened b ∷ past) a p v ↔ OutOn past a p v)
    × (OutOn (booked b sort ∷ past) a p v ↔ OutOn past a p v)
    × (OutOn (withdrawn b ∷ past) a p v ↔ OutOn past a p v)
    × (OutOn (nothing ∷ past) a p v ↔ OutOn past a p v)
unfolding OutOn
out_elsewhere past a b p q v w sort apart = (
  (λ h. ⊎_elim (λ t. absurd (apart t.0)) (λ t. t.1) h, λ h. inr (apart, h)),
  (λ h. h.1, λ h. (apart, h)),
  (λ h. h.1, λ h. (apart, h)),
  (λ h. h.1, λ h. (apart, h)),
  (λ h. h, λ h. h),
)

-- ---- an edge is known as v exactly if somewhere type 3 was booked on the address of a request for it with v, and since then no request for
-- that edge was acknowledged, nor cancelled or expired

-- none of the events since, each with what was answered before it, acknowledges or gives up the edge
abbrev Untouched : List Event → List Event → Pass → Type 0
Untouched later earlier p =
    ((newer : List Event) (a : ℕ) (older : List Event) (w : ℕ) → later ≡ newer ++ (booked a 3 ∷ older) → OutOn (older ++ earlier) a p w → ⊥)
    × ((newer : List Event) (a : ℕ) (older : List Event) (w : ℕ) → later ≡ newer ++ (withdrawn a ∷ older) → OutOn (older ++ earlier) a p w → ⊥)

-- what acknowledges, and what gives up
acks : (e : Event) (past : List Event) (p : Pass) (w : ℕ) → Acknowledged e past p w → (a : ℕ) × (e ≡ booked a 3) × OutOn past a p w
unfolding Acknowledged
acks (asked pass tenths address) past p w h = absurd h
acks (opened address) past p w h = absurd h
acks (booked address sort) past p w h = (address, ap (booked address) h.0, h.1)
acks (withdrawn address) past p w h = absurd h
acks nothing past p w h = absurd h

gives_up : (e : Event) (past : List Event) (p : Pass) → GivenUp e past p → (a : ℕ) × (w : ℕ) × (e ≡ withdrawn a) × OutOn past a p w
unfolding GivenUp
gives_up (asked pass tenths address) past p h = absurd h
gives_up (opened address) past p h = absurd h
gives_up (booked address sort) past p h = absurd h
gives_up (withdrawn address) past p h = (address, h.0, refl, h.1)
gives_up nothing past p h = absurd h

acked : (e : Event) (a : ℕ) (past : List Event) (p : Pass) (w : ℕ) → e ≡ booked a 3 → OutOn past a p w → Acknowledged e past p w
unfolding Acknowledged
acked e a past p w is out = subst (λ (x : Event). Acknowledged x past p w) (sym is) (refl, out)

given_up_lem : (e : Event) (a : ℕ) (past : List Event) (p : Pass) (w : ℕ) → e ≡ withdrawn a → OutOn past a p w → GivenUp e past p
unfolding GivenUp
given_up_lem e a past p w is out = subst (λ (x : Event). GivenUp x past p) (sym is) (w, out)

-- the first of a list, and the rest
head_is : {x y : Event} {xs ys : List Event} → x ∷ xs ≡ y ∷ ys → (x ≡ y) × (xs ≡ ys)
head_is e = (cc, cc)

untouched_more : (e : Event) (later earlier : List Event) (p : Pass) → ((w : ℕ) → Acknowledged e (later ++ earlier) p w → ⊥)
    → (GivenUp e (later ++ earlier) p → ⊥) → Untouched later earlier p → Untouched (e ∷ later) earlier p
untouched_more e later earlier p no_ack kept rest = (ack, up)
  where
    ack : (newer : List Event) (a : ℕ) (older : List Event) (w : ℕ) → e ∷ later ≡ newer ++ (booked a 3 ∷ older) → OutOn (older ++ earlier) a p w → ⊥
    ack [] a older w is out =
        let t = head_is is in
        no_ack w (acked e a (later ++ earlier) p w t.0 (subst (λ (x : List Event). OutOn (x ++ earlier) a p w) (sym t.1) out))
    ack (n ∷ newer) a older w is out = rest.0 newer a older w (head_is is).1 out

    up : (newer : List Event) (a : ℕ) (older : List Event) (w : ℕ) → e ∷ later ≡ newer ++ (withdrawn a ∷ older) → OutOn (older ++ earlier) a p w → ⊥
    up [] a older w is out =
        let t = head_is is in
        kept (given_up_lem e a (later ++ earlier) p w t.0 (subst (λ (x : List Event). OutOn (x ++ earlier) a p w) (sym t.1) out))
    up (n ∷ newer) a older w is out = rest.1 newer a older w (head_is is).1 out

pub known_plainly : (past : List Event) (p : Pass) (v : ℕ)
    → KnownAs past p v
    ↔ ((later : List Event) × (address : ℕ) × (earlier : List Event)
    × (past ≡ later ++ (booked address 3 ∷ earlier))
    × OutOn earlier address p v
    × Untouched later (booked address 3 ∷ earlier) p)
unfolding KnownAs
known_plainly past p v = (there past, λ h. back h.0 h.1 h.2 past h.3 h.4 h.5)
  where
    there : (past : List Event) → KnownAs past p v
        → (later : List Event) × (address : ℕ) × (earlier : List Event)
        × (past ≡ later ++ (booked address 3 ∷ earlier))
        × OutOn earlier address p v
        × Untouched later (booked address 3 ∷ earlier) p
    there [] h = absurd h
    there (e ∷ past) h = ⊎_elim at_once (λ k. later_on k (there past k.2)) h
      where
        at_once : Acknowledged e past p v
            → (later : List Event) × (address : ℕ) × (earlier : List Event)
            × (e ∷ past ≡ later ++ (booked address 3 ∷ earlier))
            × OutOn earlier address p v
            × Untouched later (booked address 3 ∷ earlier) p
        at_once a =
            let t = acks e past p v a in (
              [],
              t.0,
              past,
              ap (λ (x : Event). x ∷ past) t.1,
              t.2,
              (λ newer b older w is. absurd (none (booked b 3) older newer is), λ newer b older w is. absurd (none (withdrawn b) older newer is)),
            )
          where
            none : (x : Event) (older newer : List Event) → [] ≡ newer ++ (x ∷ older) → ⊥
            none x older [] is = clash (cc)
            none x older (n ∷ newer) is = clash (cc)

        later_on : ((w : ℕ) → Acknowledged e past p w → ⊥) × (GivenUp e past p → ⊥) × KnownAs past p v
            → ((later : List Event) × (address : ℕ) × (earlier : List Event)
            × (past ≡ later ++ (booked address 3 ∷ earlier))
            × OutOn earlier address p v
            × Untouched later (booked address 3 ∷ earlier) p)
            → (later : List Event) × (address : ℕ) × (earlier : List Event)
            × (e ∷ past ≡ later ++ (booked address 3 ∷ earlier))
            × OutOn earlier address p v
            × Untouched later (booked address 3 ∷ earlier) p
        later_on k t = (
          e ∷ t.0,
          t.1,
          t.2,
          ap (λ (x : List Event). e ∷ x) t.3,
          t.4,
          untouched_more e t.0 (booked t.1 3 ∷ t.2) p
              (λ w a. k.0 w (subst (λ (x : List Event). Acknowledged e x p w) (sym t.3) a))
              (λ g. k.1 (subst (λ (x : List Event). GivenUp e x p) (sym t.3) g)) t.5,
        )

    back : (later : List Event) (address : ℕ) (earlier past : List Event) → past ≡ later ++ (booked address 3 ∷ earlier) → OutOn earlier address p v
        → Untouched later (booked address 3 ∷ earlier) p → KnownAs past p v
    back [] address earlier past is out untouched =
        subst (λ (x : List Event). KnownAs x p v) (sym is) (inl (acked (booked address 3) address earlier p v refl out))
    back (e ∷ later) address earlier past is out untouched =
        subst (λ (x : List Event). KnownAs x p v) (sym is)
        (inr (
          λ w a. let t = acks e (later ++ (booked address 3 ∷ earlier)) p w a in untouched.0 [] t.0 later w (ap (λ (x : Event). x ∷ later) t.1) t.2,
          λ g. let t = gives_up e (later ++ (booked address 3 ∷ earlier)) p g in untouched.1 [] t.0 later t.1 (ap (λ (x : Event). x ∷ later) t.2) t.3,
          back later address earlier (later ++ (booked address 3 ∷ earlier)) refl out (
            λ newer a older w e'. untouched.0 (e ∷ newer) a older w (ap (λ (x : List Event). e ∷ x) e'),
            λ newer a older w e'. untouched.1 (e ∷ newer) a older w (ap (λ (x : List Event). e ∷ x) e'),
          ),
        ))

-- one request at most is out under an address, so a later ack replaces the value
pub out_once : (past : List Event) (a : ℕ) (p q : Pass) (v w : ℕ) → OutOn past a p v → OutOn past a q w → (p ≡ q) × (v ≡ w)
unfolding OutOn
out_once [] a p q v w this that = absurd this
out_once (asked pass tenths address ∷ past) a p q v w this that =
    ⊎_elim
    (λ t. ⊎_elim (λ u. (t.1 ∙ sym u.1, t.2 ∙ sym u.2)) (λ u. absurd (u.0 t.0)) that)
    (λ t. ⊎_elim (λ u. absurd (t.0 u.0)) (λ u. out_once past a p q v w t.1 u.1) that)
    this
out_once (opened address ∷ past) a p q v w this that = out_once past a p q v w this.1 that.1
out_once (booked address sort ∷ past) a p q v w this that = out_once past a p q v w this.1 that.1
out_once (withdrawn address ∷ past) a p q v w this that = out_once past a p q v w this.1 that.1
out_once (nothing ∷ past) a p q v w this that = out_once past a p q v w this that

pub ack_replaces : (past : List Event) (a : ℕ) (p : Pass) (v w : ℕ) → OutOn past a p v → KnownAs (booked a 3 ∷ past) p w → w ≡ v
unfolding KnownAs Acknowledged
ack_replaces past a p v w out h = ⊎_elim (λ ack. (out_once past a p p w v ack.1 out).1) (λ later. absurd (later.0 v (refl, out))) h

-- by one event more: an ack makes it known, giving up makes it unknown, and nothing else touches it
pub known_by_one : (past : List Event) (a : ℕ) (p : Pass) (v : ℕ) → OutOn past a p v
    → KnownAs (booked a 3 ∷ past) p v × ((w : ℕ) → KnownAs (withdrawn a ∷ past) p w → ⊥)
    × ((sort w : ℕ) → sort ≢ 3 → KnownAs (booked a sort ∷ past) p w ↔ KnownAs past p w)
unfolding KnownAs Acknowledged GivenUp
known_by_one past a p v out = (
  inl (refl, out),
  λ w h. ⊎_elim (λ ack. ack) (λ later. later.1 (v, out)) h,
  λ sort w other_type. (
    λ h. ⊎_elim (λ ack. absurd (other_type ack.0)) (λ later. later.2) h,
    λ h. inr (λ x ack. other_type ack.0, λ g. g, h),
  ),
)

pub known_otherwise : (past : List Event) (a tenths sort w : ℕ) (p q : Pass) → ((v : ℕ) → OutOn past a p v → ⊥)
    → (KnownAs (asked q tenths a ∷ past) p w ↔ KnownAs past p w)
    × (KnownAs (opened a ∷ past) p w ↔ KnownAs past p w)
    × (KnownAs (booked a sort ∷ past) p w ↔ KnownAs past p w)
    × (KnownAs (withdrawn a ∷ past) p w ↔ KnownAs past p w)
    × (KnownAs (nothing ∷ past) p w ↔ KnownAs past p w)
unfolding KnownAs Acknowledged GivenUp
known_otherwise past a tenths sort w p q not_out = (
  (λ h. ⊎_elim (λ ack. absurd ack) (λ later. later.2) h, λ h. inr (λ x ack. ack, λ g. g, h)),
  (λ h. ⊎_elim (λ ack. absurd ack) (λ later. later.2) h, λ h. inr (λ x ack. ack, λ g. g, h)),
  (λ h. ⊎_elim (λ ack. absurd (not_out w ack.1)) (λ later. later.2) h, λ h. inr (λ x ack. not_out x ack.1, λ g. g, h)),
  (λ h. ⊎_elim (λ ack. absurd ack) (λ later. later.2) h, λ h. inr (λ x ack. ack, λ g. not_out g.0 g.1, h)),
  (λ h. ⊎_elim (λ ack. absurd ack) (λ later. later.2) h, λ h. inr (λ x ack. ack, λ g. g, h)),
)

-- ---- the promises of an evening, said out

module _ {job unit : ℕ} {box : FilterBox} {desk : Desk} {past : List Event} (p : Promised job unit box desk past) where
  pub short-known : (v : ℕ) → (box.short ≡ Some v) ↔ KnownAs past Short v
  short-known = p.known Short

  pub long_known : (v : ℕ) → (box.long ≡ Some v) ↔ KnownAs past Long v
  long_known = p.known Long

  -- "the short-pass edge must be above the long-pass edge"
  pub known_in_order : (s l : ℕ) → box.short ≡ Some s → box.long ≡ Some l → l < s
  known_in_order s l is_s is_l = p.in_order s l ((p.known Short s).0 is_s) ((p.known Long l).0 is_l)

  -- what the box has out is the one request for an edge that is out, and its ticket stands open
  pub out_stands : (a : ℕ) (q : Pass) (v : ℕ) → box.out ≡ sent a q v
      → OutOn past a q v
      × ((b : ℕ) (x : Pass) (w : ℕ) → OutOn past b x w → (b ≡ a) × (x ≡ q) × (w ≡ v))
      × ((wait : ℕ) × (clock : ℕ)
      × (ticket_on desk a
      ≡ record {
        live = true;
        asked = record { job = job; unit = unit; sort = 5; register = edge_register q; wait = wait; folder = 0 };
        opened = clock;
        withdrawn = false;
        closed = 0;
      }))
  out_stands a q v is =
      let out = (p.is_out_lem a q v).0 is in
      (out, λ b x w other. p.one_out b a x q w v other out, p.stands a q v out)

  -- and where the box has nothing out, nothing is
  pub none_is_out : box.out ≡ None → (a : ℕ) (q : Pass) (v : ℕ) → OutOn past a q v → ⊥
  none_is_out is a q v out = clash_of (sym is ∙ (p.is_out_lem a q v).1 out)
    where
      clash_of : None ≡ sent a q v → ⊥
      clash_of e = clash (cc)
