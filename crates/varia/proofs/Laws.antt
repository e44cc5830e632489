-- What operators and callers may cite of the filter box. 02, #104.
-- Assumes nothing.
use Rattle.std.specs.Prelude.{Ok, Err, Some, None}
use mathlib.Core.Path.{◌≡◌, refl, sym, ap, ap₂, subst, ◌∙◌}
use mathlib.Core.Bool.{Bool, true, false, cond, true≢false}
use mathlib.Core.List.{List, [], ◌∷◌}
use mathlib.Core.Logic.{◌⊎◌, ◌≢◌, ◌↔◌}
use mathlib.Core.Option.{Option, some, none}
use Prim.Native.Nat.{ℕ, ◌*◌, ◌+◌, ◌%◌, ◌/◌, ◌^◌, ◌≤◌, ◌<◌}
use native.Mathlib.Omega.{arith}
use borrow.Author.Tests.{leb-true, leb-false, le-leb, eq-eqb, ne_eqb}
use lib.Dec.{eqb, leb, ltb}
use lib.ListN.{length, take}
use lib.Seq.{take_all}
use Rattle.rows.proofs.Laws.{decides_eq, decides_or, told_true, first_false, clash}
use Rattle.rows.proofs.Settled.{settled}
use Rattle.rows.specs.Settled.{Settled}
use Rattle.lent.specs.Lent.{over}
use Rattle.telegram.specs.Read.{Reads}
use Rattle.telegram.specs.Answers.{Reading}
use Rattle.desk.proofs.Count.{refused_count_lem}
use Rattle.desk.proofs.Laws.{opens_settled, open_refusal_keeps, request_reads_back}
use Rattle.desk.specs.Open.{Opens, open_told, distance_of}
use Rattle.desk.specs.declared.AfterOpen.{AfterOpen}
use Rattle.desk.specs.Answers.{Booking, booking, closing, opening}
use Rattle.desk.specs.Answers.{Closing}
use Rattle.desk.specs.Desk.{fault_number as desk_number}
use Rattle.desk.specs.declared.Desk.{Desk}
use Rattle.desk.specs.declared.Fault.{Fault as DeskFault}
use Rattle.desk.specs.Answers.{Opening}
use Rattle.request.specs.declared.Request.{Request}
use Rattle.values.specs.Values.{bytes_of, bit_at}
use Rattle.varia.proofs.Calls.{out_refused, order_refused, attenuation_refused}
use Rattle.varia.specs.Ask.{from_desk, ask_told, now_out, Asks, SetsEdge, Attenuates, ReadsMonitor, ReadsStatus}
use Rattle.varia.specs.Box.{edge_of, other, edge_register, attenuation_register, request, InOrder, is_out, is_out_of_order, edge_refusal, attenuation_refusal, with_out, with_edge, booked, withdrawn}
use Rattle.varia.specs.Box.{Makes, HearsReply, HearsClosing, Numbers}
use Rattle.varia.specs.Display.{Displays, TellsMoving}
use Rattle.varia.specs.declared.AfterAsk.{AfterAsk}
use Rattle.varia.specs.Answers.{Asking, asking, sent}
use Rattle.varia.specs.Answers.{Edge}
use Rattle.varia.specs.declared.Fault.{Fault}
use Rattle.varia.specs.declared.Fault.TheVariants.{EdgeOut, TooMuch, OutOfOrder, AtDesk}
use Rattle.varia.specs.declared.FilterBox.{FilterBox}
use Rattle.varia.specs.Answers.{Out}
use Rattle.varia.specs.declared.Pass.{Pass}
use Rattle.varia.specs.declared.Pass.TheVariants.{Short, Long}

-- ---- what the box's own rows let through

-- nothing is out, and the new edge keeps the house rule against the other one, if that is known
pub edge_allowed : (box : FilterBox) (pass : Pass) (tenths : ℕ) → edge_refusal box pass tenths ≡ none
    → (box.out ≡ None) × ((there : ℕ) → edge_of box (other pass) ≡ Some there → InOrder pass tenths there)
unfolding edge_refusal
edge_allowed box pass tenths e =
    let a = first_false (is_out box.out) EdgeOut _ e in
    let b = first_false (is_out_of_order pass tenths (edge_of box (other pass))) OutOfOrder _ a.1 in
    (free box.out a.0, λ there k. order pass there (rw k at b.0))
  where
    free : (o : Out) → is_out o ≡ false → o ≡ None
    free None n = refl
    free (Some was) n = absurd (true≢false n)

    order : (x : Pass) (there : ℕ) → is_out_of_order x tenths (Some there) ≡ false → InOrder x tenths there
    order Short there n = leb-false tenths there n
    order Long there n = leb-false there tenths n

-- "short-pass edge (33h), long-pass edge (34h ..)"
pub edge_registers : (edge_register Short ≡ 3 * 16 + 3) × (edge_register Long ≡ 3 * 16 + 4)
edge_registers = (refl, refl)

-- ---- what a call of the box comes to, by its contract

-- an outcome, part by part
same : (s : AfterAsk) (m : List ℕ) (x : Asking) (y : FilterBox) (z : Desk) (k : ℕ) (w : List ℕ)
    → s.answer ≡ x → s.filters ≡ y → s.desk ≡ z → s.count ≡ k → m ≡ w
    → ◌≡◌ {A = AfterAsk × List ℕ} (s, m) (record { answer = x; filters = y; desk = z; count = k }, w)
same s m x y z k w p q t c u = rw (sym p, sym q, sym t, sym c, sym u) refl

-- the desk's answer, where it was opened
opened_at_lem : (a : Opening) (address n : ℕ) → asking address n ≡ from_desk a → a ≡ opening address n
opened_at_lem (Ok opened) address n e = cc
opened_at_lem (Err f) address n e = clash (cc)

module _ (box : FilterBox) (next : Opening → FilterBox) (desk : Desk) (asked : Request) (bytes : List ℕ) (clock : ℕ) (room : List ℕ)
    (r : AfterAsk) (room' : List ℕ) where
  -- where a ticket was opened, the box did not refuse, and the desk opened it, as it promises
  went : (own : Option Fault) → Asks own box next desk asked bytes clock room r room' → (address n : ℕ) → r.answer ≡ asking address n
      → (own ≡ none)
      × ((o : AfterOpen)
      × Opens desk asked bytes clock room o room'
      × (o.answer ≡ opening address n)
      × (r.desk ≡ o.desk)
      × (r.filters ≡ next (opening address n))
      × (r.count ≡ o.count))
  went (some f) a address n e = let both : asking address n ≡ Err f = sym e ∙ a.0.0 in clash (cc)
  went none a address n e =
      let opened = opened_at_lem a.0.answer address n (sym e ∙ a.2.0) in
      (refl, (a.0, a.1, opened, a.2.2, a.2.1 ∙ ap next opened, a.2.3))

  -- "a refusal changes no ticket [..] and no byte of a buffer we lent", and nothing of the box
  stays : (own : Option Fault) → ((f : _) → next (Err f) ≡ box) → Asks own box next desk asked bytes clock room r room' → (f : Fault) → r.answer ≡ Err f
      → (r.filters ≡ box) × (r.desk ≡ desk) × (room' ≡ room)
  stays (some g) same a f e = (a.0.1, a.0.2, a.1)
  stays none same a f e = go a.0.answer refl
    where
      go : (o : Opening) → a.0.answer ≡ o → (r.filters ≡ box) × (r.desk ≡ desk) × (room' ≡ room)
      go (Ok opened) p = let both : Err f ≡ asking opened.address opened.size = sym e ∙ a.2.0 ∙ ap from_desk p in clash (cc)
      go (Err g) p =
          let kept = open_refusal_keeps desk asked bytes clock room a.0 room' a.1 g p in
          (a.2.1 ∙ ap next p ∙ same g, a.2.2 ∙ kept.0, kept.1)

  -- what was written, read with room for the data, gives back module, address, type, register and data
  reads_back : (own : Option Fault) → Asks own box next desk asked bytes clock room r room' → (address n : ℕ) → r.answer ≡ asking address n
      → (buffer : List ℕ) (a : Reading) (buffer' : List ℕ) → length bytes ≤ length buffer → Reads (take n room') buffer a buffer'
      → (a ≡ Ok (record { destination = asked.unit; source = address; sort = asked.sort; register = asked.register; size = length bytes }))
      × (buffer' ≡ over bytes buffer)
  reads_back own a address n e buffer reading buffer' h reads =
      let o = (went own a address n e).1 in
      request_reads_back desk asked bytes clock room o.0 room' o.1 address n o.2 buffer reading buffer' h reads

module _ (box : FilterBox) (next : Opening → FilterBox) (desk : Desk) (asked : Request) (bytes : List ℕ) (clock : ℕ) (room : List ℕ) where
  asks_settled : (own : Option Fault) → Settled {A = AfterAsk × List ℕ} (λ o. Asks own box next desk asked bytes clock room o.0 o.1)
  asks_settled (some f) =
      record {
        outcome = (record { answer = Err f; filters = box; desk = desk; count = 0 }, room);
        is_allowed_lem = ((refl, refl, refl, refl), refl);
        only = λ p a. same p.0 p.1 (Err f) box desk 0 room a.0.0 a.0.1 a.0.2 a.0.3 a.1;
      }
  asks_settled none =
      let opens = opens_settled desk asked bytes clock room in
      let o : AfterOpen = opens.outcome.0 in
      record {
        outcome = (record { answer = from_desk o.answer; filters = next o.answer; desk = o.desk; count = o.count }, opens.outcome.1);
        is_allowed_lem = (o, opens.is_allowed_lem, (refl, refl, refl, refl));
        only = λ p a.
            let is = opens.only (a.0, p.1) a.1 in
            same p.0 p.1 (from_desk o.answer) (next o.answer) o.desk o.count opens.outcome.1
            (a.2.0 ∙ ap (λ (x : AfterOpen × List ℕ). from_desk x.0.answer) is)
            (a.2.1 ∙ ap (λ (x : AfterOpen × List ℕ). next x.0.answer) is)
            (a.2.2 ∙ ap (λ (x : AfterOpen × List ℕ). x.0.desk) is)
            (a.2.3 ∙ ap (λ (x : AfterOpen × List ℕ). x.0.count) is)
            (ap (λ (x : AfterOpen × List ℕ). x.1) is);
      }

-- ---- each call

module _ (box : FilterBox) (desk : Desk) (wait clock : ℕ) (room : List ℕ) (r : AfterAsk) (room' : List ℕ) where
  -- the telegram asks that module for that register with those two bytes, lowest first; the registers are 33h and 34h (`edge_registers`)
  pub set_telegram : (pass : Pass) (tenths : ℕ) → SetsEdge pass box desk tenths wait clock room r room' → (address n : ℕ) → r.answer ≡ asking address n
      → (buffer : List ℕ) (a : Reading) (buffer' : List ℕ) → 2 ≤ length buffer → Reads (take n room') buffer a buffer'
      → (a ≡ Ok (record { destination = box.unit; source = address; sort = 5; register = edge_register pass; size = 2 }))
      × (buffer' ≡ over (tenths % 256 ∷ tenths / 256 % 256 ∷ []) buffer)
  unfolding bytes_of
  set_telegram pass tenths a address n e buffer reading buffer' h reads =
      reads_back box (now_out box pass tenths) desk (request box 5 (edge_register pass) wait) (bytes_of 2 tenths) clock room r room'
      (edge_refusal box pass tenths) a address n e buffer reading buffer' h reads

  pub attenuate_telegram : (permille : ℕ) → Attenuates box desk permille wait clock room r room' → (address n : ℕ) → r.answer ≡ asking address n
      → (buffer : List ℕ) (a : Reading) (buffer' : List ℕ) → 2 ≤ length buffer → Reads (take n room') buffer a buffer'
      → (a ≡ Ok (record { destination = box.unit; source = address; sort = 5; register = 50; size = 2 }))
      × (buffer' ≡ over (permille % 256 ∷ permille / 256 % 256 ∷ []) buffer)
  unfolding bytes_of
  attenuate_telegram permille a address n e buffer reading buffer' h reads =
      reads_back box (λ o. box) desk (request box 5 attenuation_register wait) (bytes_of 2 permille) clock room r room'
      (attenuation_refusal permille) a address n e buffer reading buffer' h reads

  pub monitor_telegram : ReadsMonitor box desk wait clock room r room' → (address n : ℕ) → r.answer ≡ asking address n
      → (buffer : List ℕ) (a : Reading) (buffer' : List ℕ) → Reads (take n room') buffer a buffer'
      → (a ≡ Ok (record { destination = box.unit; source = address; sort = 4; register = 19; size = 0 })) × (buffer' ≡ over [] buffer)
  monitor_telegram a address n e buffer reading buffer' reads =
      reads_back box (λ o. box) desk (request box 4 19 wait) [] clock room r room' none a address n e buffer reading buffer' (omega arith) reads

  pub status_telegram : ReadsStatus box desk wait clock room r room' → (address n : ℕ) → r.answer ≡ asking address n
      → (buffer : List ℕ) (a : Reading) (buffer' : List ℕ) → Reads (take n room') buffer a buffer'
      → (a ≡ Ok (record { destination = box.unit; source = address; sort = 4; register = 102; size = 0 })) × (buffer' ≡ over [] buffer)
  status_telegram a address n e buffer reading buffer' reads =
      reads_back box (λ o. box) desk (request box 4 102 wait) [] clock room r room' none a address n e buffer reading buffer' (omega arith) reads

  -- what was opened: the ticket of the box's job at its module, by the desk's own promise; the box's edges stay as they are until it is told
  pub set_opened : (pass : Pass) (tenths : ℕ) → SetsEdge pass box desk tenths wait clock room r room' → (address n : ℕ) → r.answer ≡ asking address n
      → (edge_refusal box pass tenths ≡ none)
      × ((o : AfterOpen)
      × Opens desk (record { job = box.job; unit = box.unit; sort = 5; register = edge_register pass; wait = wait; folder = 0 })
      (tenths % 256 ∷ tenths / 256 % 256 ∷ []) clock room o room'
      × (o.answer ≡ opening address n)
      × (r.desk ≡ o.desk)
      × (r.filters ≡ record { job = box.job; unit = box.unit; short = box.short; long = box.long; out = sent address pass tenths })
      × (r.count ≡ o.count))
  unfolding bytes_of
  set_opened pass tenths a =
      went box (now_out box pass tenths) desk (request box 5 (edge_register pass) wait) (bytes_of 2 tenths) clock room r room' (edge_refusal box pass tenths) a

  -- any other request of the box leaves it as it was
  pub attenuate_opened : (permille : ℕ) → Attenuates box desk permille wait clock room r room' → (address n : ℕ) → r.answer ≡ asking address n
      → (attenuation_refusal permille ≡ none)
      × ((o : AfterOpen)
      × Opens desk (record { job = box.job; unit = box.unit; sort = 5; register = 50; wait = wait; folder = 0 })
      (permille % 256 ∷ permille / 256 % 256 ∷ []) clock room o room'
      × (o.answer ≡ opening address n)
      × (r.desk ≡ o.desk)
      × (r.filters ≡ box)
      × (r.count ≡ o.count))
  unfolding bytes_of
  attenuate_opened permille a =
      went box (λ o. box) desk (request box 5 attenuation_register wait) (bytes_of 2 permille) clock room r room' (attenuation_refusal permille) a

  pub monitor_opened : ReadsMonitor box desk wait clock room r room' → (address n : ℕ) → r.answer ≡ asking address n
      → (o : AfterOpen)
      × Opens desk (record { job = box.job; unit = box.unit; sort = 4; register = 19; wait = wait; folder = 0 }) [] clock room o room'
      × (o.answer ≡ opening address n)
      × (r.desk ≡ o.desk)
      × (r.filters ≡ box)
      × (r.count ≡ o.count)
  monitor_opened a address n e = (went box (λ o. box) desk (request box 4 19 wait) [] clock room r room' none a address n e).1

  pub status_opened : ReadsStatus box desk wait clock room r room' → (address n : ℕ) → r.answer ≡ asking address n
      → (o : AfterOpen)
      × Opens desk (record { job = box.job; unit = box.unit; sort = 4; register = 102; wait = wait; folder = 0 }) [] clock room o room'
      × (o.answer ≡ opening address n)
      × (r.desk ≡ o.desk)
      × (r.filters ≡ box)
      × (r.count ≡ o.count)
  status_opened a address n e = (went box (λ o. box) desk (request box 4 102 wait) [] clock room r room' none a address n e).1

  -- "It returns its number only, and every buffer, ticket and register and the desk's turn are as before", and so is the box
  pub set_refusal_keeps : (pass : Pass) (tenths : ℕ) → SetsEdge pass box desk tenths wait clock room r room' → (f : Fault) → r.answer ≡ Err f
      → (r.filters ≡ box) × (r.desk ≡ desk) × (room' ≡ room)
  set_refusal_keeps pass tenths =
      stays box (now_out box pass tenths) desk (request box 5 (edge_register pass) wait) (bytes_of 2 tenths) clock room r room' (edge_refusal box pass tenths) (λ f. refl)

  pub attenuate_refusal_keeps : (permille : ℕ) → Attenuates box desk permille wait clock room r room' → (f : Fault) → r.answer ≡ Err f
      → (r.filters ≡ box) × (r.desk ≡ desk) × (room' ≡ room)
  attenuate_refusal_keeps permille =
      stays box (λ o. box) desk (request box 5 attenuation_register wait) (bytes_of 2 permille) clock room r room' (attenuation_refusal permille) (λ f. refl)

  pub monitor_refusal_keeps : ReadsMonitor box desk wait clock room r room' → (f : Fault) → r.answer ≡ Err f
      → (r.filters ≡ box) × (r.desk ≡ desk) × (room' ≡ room)
  monitor_refusal_keeps = stays box (λ o. box) desk (request box 4 19 wait) [] clock room r room' none (λ f. refl)

  pub status_refusal_keeps : ReadsStatus box desk wait clock room r room' → (f : Fault) → r.answer ≡ Err f
      → (r.filters ≡ box) × (r.desk ≡ desk) × (room' ≡ room)
  status_refusal_keeps = stays box (λ o. box) desk (request box 4 102 wait) [] clock room r room' none (λ f. refl)

-- ---- numbers: each call's answer tells the number of its refusal, and the desk's refusal is passed up whole, with the desk's number

pub numbers_are : (r : ℕ)
    → (Numbers EdgeOut r → r ≡ 59)
    × (Numbers TooMuch r → r ≡ 62)
    × (Numbers OutOfOrder r → r ≡ 63)
    × ((f : DeskFault) → Numbers (AtDesk f) r → r ≡ desk_number f)
numbers_are r = (λ p. p, λ p. p, λ p. p, λ f p. p)

pub told_number : (f : Fault) (n address : ℕ) (k : ℕ) → (Numbers f k → ask_told (Err f) ≡ some k) × (ask_told (asking address n) ≡ none)
told_number f n address k = (λ p. ap some (sym p), refl)

own_answer : (box : FilterBox) (next : Opening → FilterBox) (desk : Desk) (asked : Request) (bytes : List ℕ) (clock : ℕ) (room : List ℕ)
    (r : AfterAsk) (room' : List ℕ) (own : Option Fault) → Asks own box next desk asked bytes clock room r room' → (f : Fault) → own ≡ some f → r.answer ≡ Err f
own_answer box next desk asked bytes clock room r room' own a f is = (subst (λ (o : Option Fault). Asks o box next desk asked bytes clock room r room') is a).0.0

-- which refusal it is, by name: the box's own
pub set_refused : (box : FilterBox) (desk : Desk) (pass : Pass) (tenths wait clock : ℕ) (room : List ℕ) (r : AfterAsk) (room' : List ℕ)
    → SetsEdge pass box desk tenths wait clock room r room'
    → ((address : ℕ) (which : Pass) (value : ℕ) → box.out ≡ sent address which value → r.answer ≡ Err EdgeOut)
    × ((there : ℕ) → box.out ≡ None → edge_of box (other pass) ≡ Some there → (InOrder pass tenths there → ⊥) → r.answer ≡ Err OutOfOrder)
set_refused box desk pass tenths wait clock room r room' a = (
  λ address which value is. answer EdgeOut (out_refused box pass tenths true (ap is_out (sym is)) refl),
  λ there free is against.
      answer OutOfOrder (order_refused box pass tenths false (ap is_out (sym free)) refl (Some there) (sym is) true (sym (not_in_order pass there against)) refl),
)
  where
    answer : (f : Fault) → edge_refusal box pass tenths ≡ some f → r.answer ≡ Err f
    answer = own_answer box (now_out box pass tenths) desk (request box 5 (edge_register pass) wait) (bytes_of 2 tenths) clock room r room' (edge_refusal box pass tenths) a

    not_under : (x y : ℕ) → (x < y → ⊥) → y ≤ x
    not_under x y against = go (leb y x) refl
      where
        go : (b : Bool) → leb y x ≡ b → y ≤ x
        go true e = leb-true y x e
        go false e = absurd (against (leb-false y x e))

    not_in_order : (x : Pass) (there : ℕ) → (InOrder x tenths there → ⊥) → is_out_of_order x tenths (Some there) ≡ true
    not_in_order Short there against = le-leb tenths there (not_under there tenths against)
    not_in_order Long there against = le-leb there tenths (not_under tenths there against)

pub attenuate_refused : (box : FilterBox) (desk : Desk) (permille wait clock : ℕ) (room : List ℕ) (r : AfterAsk) (room' : List ℕ)
    → Attenuates box desk permille wait clock room r room' → 1000 < permille → r.answer ≡ Err TooMuch
attenuate_refused box desk permille wait clock room r room' a over_it =
    own_answer box (λ o. box) desk (request box 5 attenuation_register wait) (bytes_of 2 permille) clock room r room' (attenuation_refusal permille) a TooMuch
    (attenuation_refused permille over_it)

-- 02, #108: the desk was not asked, so that 59, 62 and 63 come with no count
own_count : (box : FilterBox) (next : Opening → FilterBox) (desk : Desk) (asked : Request) (bytes : List ℕ) (clock : ℕ) (room : List ℕ)
    (r : AfterAsk) (room' : List ℕ) (own : Option Fault) → Asks own box next desk asked bytes clock room r room'
    → (f : Fault) → r.answer ≡ Err f → ((g : DeskFault) → f ≡ AtDesk g → ⊥) → r.count ≡ 0
own_count box next desk asked bytes clock room r room' (some g) a f is apart = a.0.3
own_count box next desk asked bytes clock room r room' none a f is apart = go a.0.answer (sym a.2.0 ∙ is)
  where
    go : (o : Opening) → from_desk o ≡ Err f → r.count ≡ 0
    go (Ok opened) e = clash (cc)
    go (Err g) e = absurd (apart g (let same_fault : f ≡ AtDesk g = cc in same_fault))

pub set_own_count : (box : FilterBox) (desk : Desk) (pass : Pass) (tenths wait clock : ℕ) (room : List ℕ) (r : AfterAsk) (room' : List ℕ)
    → SetsEdge pass box desk tenths wait clock room r room'
    → (r.answer ≡ Err EdgeOut → r.count ≡ 0) × (r.answer ≡ Err OutOfOrder → r.count ≡ 0)
set_own_count box desk pass tenths wait clock room r room' a = (λ is. count EdgeOut is (λ g e. clash (cc)), λ is. count OutOfOrder is (λ g e. clash (cc)))
  where
    count : (f : Fault) → r.answer ≡ Err f → ((g : DeskFault) → f ≡ AtDesk g → ⊥) → r.count ≡ 0
    count = own_count box (now_out box pass tenths) desk (request box 5 (edge_register pass) wait) (bytes_of 2 tenths) clock room r room' (edge_refusal box pass tenths) a

pub attenuate_own_count : (box : FilterBox) (desk : Desk) (permille wait clock : ℕ) (room : List ℕ) (r : AfterAsk) (room' : List ℕ)
    → Attenuates box desk permille wait clock room r room' → r.answer ≡ Err TooMuch → r.count ≡ 0
attenuate_own_count box desk permille wait clock room r room' a is =
    own_count box (λ o. box) desk (request box 5 attenuation_register wait) (bytes_of 2 permille) clock room r room' (attenuation_refusal permille) a TooMuch is (λ g e. clash (cc))

-- and the desk's
module _ (box : FilterBox) (desk : Desk) (wait clock : ℕ) (room : List ℕ) (r : AfterAsk) (room' : List ℕ) (f : DeskFault) (is : r.answer ≡ Err (AtDesk f)) where
  -- the desk refused that request so, and its count is passed up
  abbrev DeskRefused : Request → List ℕ → Type 0
  DeskRefused asked bytes = (o : AfterOpen) × Opens desk asked bytes clock room o room' × (o.answer ≡ Err f) × (r.count ≡ o.count)

  passed_up_lem : (next : Opening → FilterBox) (asked : Request) (bytes : List ℕ) (own : Option Fault) → (own ≡ some (AtDesk f) → ⊥)
      → Asks own box next desk asked bytes clock room r room' → DeskRefused asked bytes
  passed_up_lem next asked bytes (some g) not_own a = absurd (not_own (ap some (same_refusal (sym a.0.0 ∙ is))))
    where
      same_refusal : ◌≡◌ {A = Asking} (Err g) (Err (AtDesk f)) → g ≡ AtDesk f
      same_refusal e = cc
  passed_up_lem next asked bytes none not_own a = (a.0, a.1, back a.0.answer (sym a.2.0 ∙ is), a.2.3)
    where
      back : (o : Opening) → from_desk o ≡ Err (AtDesk f) → o ≡ Err f
      back (Ok opened) e = clash (cc)
      back (Err g) e = cc

  pub set_passed_up : (pass : Pass) (tenths : ℕ) → SetsEdge pass box desk tenths wait clock room r room'
      → DeskRefused (record { job = box.job; unit = box.unit; sort = 5; register = edge_register pass; wait = wait; folder = 0 }) (tenths % 256 ∷ tenths / 256 % 256 ∷ [])
  unfolding edge_refusal bytes_of
  set_passed_up pass tenths a =
      passed_up_lem (now_out box pass tenths) (request box 5 (edge_register pass) wait) (bytes_of 2 tenths) (edge_refusal box pass tenths)
      (own (is_out box.out) (is_out_of_order pass tenths (edge_of box (other pass)))) a
    where
      own : (b c : Bool) → cond b (some EdgeOut) (cond c (some OutOfOrder) none) ≡ some (AtDesk f) → ⊥
      own true c e = clash (cc)
      own false true e = clash (cc)
      own false false e = clash (cc)

  pub attenuate_passed_up : (permille : ℕ) → Attenuates box desk permille wait clock room r room'
      → DeskRefused (record { job = box.job; unit = box.unit; sort = 5; register = 50; wait = wait; folder = 0 }) (permille % 256 ∷ permille / 256 % 256 ∷ [])
  unfolding attenuation_refusal bytes_of
  attenuate_passed_up permille a =
      passed_up_lem (λ o. box) (request box 5 attenuation_register wait) (bytes_of 2 permille) (attenuation_refusal permille) (own (ltb 1000 permille)) a
    where
      own : (b : Bool) → cond b (some TooMuch) none ≡ some (AtDesk f) → ⊥
      own true e = clash (cc)
      own false e = clash (cc)

  pub monitor_passed_up : ReadsMonitor box desk wait clock room r room'
      → DeskRefused (record { job = box.job; unit = box.unit; sort = 4; register = 19; wait = wait; folder = 0 }) []
  monitor_passed_up a = passed_up_lem (λ o. box) (request box 4 19 wait) [] none (λ e. clash (cc)) a

  pub status_passed_up : ReadsStatus box desk wait clock room r room'
      → DeskRefused (record { job = box.job; unit = box.unit; sort = 4; register = 102; wait = wait; folder = 0 }) []
  status_passed_up a = passed_up_lem (λ o. box) (request box 4 102 wait) [] none (λ e. clash (cc)) a

  -- 02, #108: and so the count that comes with it, by the desk's number
  by_number : (asked : Request) (bytes : List ℕ) → DeskRefused asked bytes → (n : ℕ) → desk_number f ≡ n
      → (n ≤ 14 → r.count ≡ 0) × (n ≡ 15 → r.count ≡ 95) × (n ≡ 16 → r.count ≡ distance_of desk clock + 1)
  by_number asked bytes d n e =
      let told = refused_count_lem desk asked bytes clock room d.0 room' d.1 n (ap open_told d.2 ∙ ap some e) in
      (λ h. d.3 ∙ told.0 h, λ h. d.3 ∙ told.1 h, λ h. d.3 ∙ told.2 h)

  pub passed_count : (n : ℕ) → desk_number f ≡ n
      → ((pass : Pass) (tenths : ℕ) → SetsEdge pass box desk tenths wait clock room r room'
      → (n ≤ 14 → r.count ≡ 0) × (n ≡ 15 → r.count ≡ 95) × (n ≡ 16 → r.count ≡ distance_of desk clock + 1))
      × ((permille : ℕ) → Attenuates box desk permille wait clock room r room'
      → (n ≤ 14 → r.count ≡ 0) × (n ≡ 15 → r.count ≡ 95) × (n ≡ 16 → r.count ≡ distance_of desk clock + 1))
      × (ReadsMonitor box desk wait clock room r room'
      → (n ≤ 14 → r.count ≡ 0) × (n ≡ 15 → r.count ≡ 95) × (n ≡ 16 → r.count ≡ distance_of desk clock + 1))
      × (ReadsStatus box desk wait clock room r room'
      → (n ≤ 14 → r.count ≡ 0) × (n ≡ 15 → r.count ≡ 95) × (n ≡ 16 → r.count ≡ distance_of desk clock + 1))
  passed_count n e = (
    λ pass tenths a. by_number _ _ (set_passed_up pass tenths a) n e,
    λ permille a. by_number _ _ (attenuate_passed_up permille a) n e,
    λ a. by_number _ _ (monitor_passed_up a) n e,
    λ a. by_number _ _ (status_passed_up a) n e,
  )

-- ---- what the box makes of the desk's answers

-- a refusal of the desk's tells it nothing, and neither does an answer while nothing is out
pub refusals_tell_nothing : (box r : FilterBox) (f : DeskFault) → (HearsReply box (Err f) r → r ≡ box) × (HearsClosing box (Err f) r → r ≡ box)
refusals_tell_nothing box r f = (λ p. p, λ p. p)

pub nothing_out_stays : (box r : FilterBox) → box.out ≡ None
    → ((job address sort n folder : ℕ) → HearsReply box (booking job address sort n folder) r → r ≡ box)
    × ((job address folder : ℕ) → HearsClosing box (closing job address folder) r → r ≡ box)
nothing_out_stays box r free = (λ job address sort n folder p. p ∙ rw free, λ job address folder p. p ∙ rw free)

-- one edge is set, and nothing is out any more
pub edge_set : (box : FilterBox) (pass : Pass) (edge : Edge)
    → (edge_of (with_edge box pass edge) pass ≡ edge)
    × (edge_of (with_edge box pass edge) (other pass) ≡ edge_of box (other pass))
    × ((with_edge box pass edge).out ≡ None)
    × ((with_edge box pass edge).job ≡ box.job)
    × ((with_edge box pass edge).unit ≡ box.unit)
edge_set box Short edge = (refl, refl, refl, refl, refl)
edge_set box Long edge = (refl, refl, refl, refl, refl)

-- whose box it is never changes
pub reply_same_box : (box : FilterBox) (answer : Booking) (r : FilterBox) → HearsReply box answer r → (r.job ≡ box.job) × (r.unit ≡ box.unit)
reply_same_box box (Err f) r p = rw p (refl, refl)
reply_same_box box (Ok told) r p = rw p (by_out box.out)
  where
    by_out : (o : Out) → ((booked o box told.address told.sort).job ≡ box.job) × ((booked o box told.address told.sort).unit ≡ box.unit)
    by_out None = (refl, refl)
    by_out (Some was) = go (eqb was.address told.address) (eqb told.sort 3)
      where
        go : (b c : Bool) → ((cond b (cond c (with_edge box was.pass (Some was.tenths)) (with_out box None)) box).job ≡ box.job)
            × ((cond b (cond c (with_edge box was.pass (Some was.tenths)) (with_out box None)) box).unit ≡ box.unit)
        go true true = let set = edge_set box was.pass (Some was.tenths) in (set.3, set.4)
        go true false = (refl, refl)
        go false c = (refl, refl)

pub closing_same_box : (box : FilterBox) (answer : Closing) (r : FilterBox) → HearsClosing box answer r → (r.job ≡ box.job) × (r.unit ≡ box.unit)
closing_same_box box (Err f) r p = rw p (refl, refl)
closing_same_box box (Ok closed) r p = rw p (by_out box.out)
  where
    by_out : (o : Out) → ((withdrawn o box closed.address).job ≡ box.job) × ((withdrawn o box closed.address).unit ≡ box.unit)
    by_out None = (refl, refl)
    by_out (Some was) = go (eqb was.address closed.address)
      where
        go : (b : Bool) → ((cond b (with_edge box was.pass None) box).job ≡ box.job) × ((cond b (with_edge box was.pass None) box).unit ≡ box.unit)
        go true = let set = edge_set box was.pass None in (set.3, set.4)
        go false = (refl, refl)

module _ (box : FilterBox) (address : ℕ) (pass : Pass) (tenths : ℕ) (is_out_lem : box.out ≡ sent address pass tenths) where
  -- an ack sets the edge to what was asked, and that edge alone
  pub ack_sets : (job n folder : ℕ) (r : FilterBox) → HearsReply box (booking job address 3 n folder) r
      → (edge_of r pass ≡ Some tenths) × (edge_of r (other pass) ≡ edge_of box (other pass)) × (r.out ≡ None) × (r.job ≡ box.job) × (r.unit ≡ box.unit)
  ack_sets job n folder r p = let is : r ≡ with_edge box pass (Some tenths) = p ∙ rw (is_out_lem, eq-eqb address address refl) in rw is (edge_set box pass (Some tenths))

  -- "after a nack, check error or busy it stays as it was"
  pub nack_keeps : (job sort n folder : ℕ) (r : FilterBox) → sort ≢ 3 → HearsReply box (booking job address sort n folder) r
      → r ≡ record { job = box.job; unit = box.unit; short = box.short; long = box.long; out = None }
  nack_keeps job sort n folder r other_type p = p ∙ rw (is_out_lem, eq-eqb address address refl, ne_eqb sort 3 other_type)

  -- "An edge whose request expires or is cancelled becomes unknown", and that edge alone
  pub giving_up_forgets : (job folder : ℕ) (r : FilterBox) → HearsClosing box (closing job address folder) r
      → (edge_of r pass ≡ None) × (edge_of r (other pass) ≡ edge_of box (other pass)) × (r.out ≡ None) × (r.job ≡ box.job) × (r.unit ≡ box.unit)
  giving_up_forgets job folder r p = let is : r ≡ with_edge box pass None = p ∙ rw (is_out_lem, eq-eqb address address refl) in rw is (edge_set box pass None)

  -- an answer about another address leaves the box as it was
  pub elsewhere_booked : (job other_address sort n folder : ℕ) (r : FilterBox) → address ≢ other_address → HearsReply box (booking job other_address sort n folder) r → r ≡ box
  elsewhere_booked job other_address sort n folder r apart p = p ∙ rw (is_out_lem, ne_eqb address other_address apart)

  pub elsewhere_given_up : (job other_address folder : ℕ) (r : FilterBox) → address ≢ other_address → HearsClosing box (closing job other_address folder) r → r ≡ box
  elsewhere_given_up job other_address folder r apart p = p ∙ rw (is_out_lem, ne_eqb address other_address apart)

-- ---- the display

all : (xs : List ℕ) → length xs ≡ 2 → take 2 xs ≡ xs
all xs two = take_all 2 xs (omega (arith, two))

-- exactly the two bytes of the fresh one, or of the kept one, or none
pub display_fresh : (fresh kept part : List ℕ) (which : ℕ) → Displays fresh kept part which → length fresh ≡ 2 → (part ≡ fresh) × (which ≡ 1)
display_fresh fresh kept part which d two =
    (d.0 ∙ rw (eq-eqb (length fresh) 2 two) (all fresh two), d.1 ∙ rw (eq-eqb (length fresh) 2 two))

pub display_kept : (fresh kept part : List ℕ) (which : ℕ) → Displays fresh kept part which → length fresh ≢ 2 → length kept ≡ 2 → (part ≡ kept) × (which ≡ 2)
display_kept fresh kept part which d other_length two =
    (d.0 ∙ rw (ne_eqb (length fresh) 2 other_length, eq-eqb (length kept) 2 two) (all kept two), d.1 ∙ rw (ne_eqb (length fresh) 2 other_length, eq-eqb (length kept) 2 two))

pub display_neither : (fresh kept part : List ℕ) (which : ℕ) → Displays fresh kept part which → length fresh ≢ 2 → length kept ≢ 2 → (part ≡ []) × (which ≡ 64)
display_neither fresh kept part which d a b =
    (d.0 ∙ rw (ne_eqb (length fresh) 2 a, ne_eqb (length kept) 2 b), d.1 ∙ rw (ne_eqb (length fresh) 2 a, ne_eqb (length kept) 2 b))

-- ---- "say whether any of filters 1 to 3 is moving (status bits 12 to 14)"

pub moving_exactly : (status : ℕ) (r : Bool) → TellsMoving status r
    → (r ≡ true) ↔ ((status / 2 ^ 12 % 2 ≡ 1) ⊎ ((status / 2 ^ 13 % 2 ≡ 1) ⊎ (status / 2 ^ 14 % 2 ≡ 1)))
moving_exactly status r t =
    let d = decides_or (decides_eq (bit_at status 12) 1) (decides_or (decides_eq (bit_at status 13) 1) (decides_eq (bit_at status 14) 1)) in
    (λ e. d.so (sym t ∙ e), λ h. t ∙ told_true d h)

-- ---- an edge is "unknown, as at first"

pub make_is : (job unit : ℕ) (r : FilterBox) → Makes job unit r → r ≡ record { job = job; unit = unit; short = None; long = None; out = None }
make_is job unit r p = p

-- ---- "Show that any two outcomes allowed by it are equal."

pub makes_settled : (job unit : ℕ) → Settled (Makes job unit)
makes_settled job unit = settled _

pub numbers_settled : (f : Fault) → Settled (Numbers f)
numbers_settled f = settled _

pub sets_settled : (pass : Pass) (box : FilterBox) (desk : Desk) (tenths wait clock : ℕ) (room : List ℕ)
    → Settled {A = AfterAsk × List ℕ} (λ o. SetsEdge pass box desk tenths wait clock room o.0 o.1)
sets_settled pass box desk tenths wait clock room = asks_settled box (now_out box pass tenths) desk _ _ clock room (edge_refusal box pass tenths)

pub attenuates_settled : (box : FilterBox) (desk : Desk) (permille wait clock : ℕ) (room : List ℕ)
    → Settled {A = AfterAsk × List ℕ} (λ o. Attenuates box desk permille wait clock room o.0 o.1)
attenuates_settled box desk permille wait clock room = asks_settled box (λ a. box) desk _ _ clock room (attenuation_refusal permille)

pub reads_monitor_settled : (box : FilterBox) (desk : Desk) (wait clock : ℕ) (room : List ℕ)
    → Settled {A = AfterAsk × List ℕ} (λ o. ReadsMonitor box desk wait clock room o.0 o.1)
reads_monitor_settled box desk wait clock room = asks_settled box (λ a. box) desk _ _ clock room none

pub reads_status_settled : (box : FilterBox) (desk : Desk) (wait clock : ℕ) (room : List ℕ)
    → Settled {A = AfterAsk × List ℕ} (λ o. ReadsStatus box desk wait clock room o.0 o.1)
reads_status_settled box desk wait clock room = asks_settled box (λ a. box) desk _ _ clock room none

pub hears_reply_settled : (box : FilterBox) (answer : Booking) → Settled (HearsReply box answer)
hears_reply_settled box answer = settled _

pub hears_closing_settled : (box : FilterBox) (answer : Closing) → Settled (HearsClosing box answer)
hears_closing_settled box answer = settled _

pub displays_settled : (fresh kept : List ℕ) → Settled {A = List ℕ × ℕ} (λ o. Displays fresh kept o.0 o.1)
displays_settled fresh kept = record { outcome = (_, _); is_allowed_lem = (refl, refl); only = λ p d. ap₂ (λ (a : List ℕ) (b : ℕ). (a, b)) d.0 d.1 }

pub tells_moving_settled : (status : ℕ) → Settled (TellsMoving status)
tells_moving_settled status = settled _
