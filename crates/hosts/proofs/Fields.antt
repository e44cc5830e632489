-- Every field that C is told: where nothing was refused, each is what the call below answered, and the number says which answer it was.
-- Assumes nothing.
use Rattle.varia.specs.declared.Pass.{Pass}
use Rattle.std.specs.Prelude.{Ok, Err, Some, None}
use mathlib.Core.Path.{◌≡◌, refl, sym, ap, ◌∙◌}
use mathlib.Core.Bool.{Bool, true, false, cond}
use mathlib.Core.Option.{some, none}
use mathlib.Core.Logic.{◌≢◌}
use Prim.Native.Nat.{ℕ, ◌-◌}
use lib.Dec.{eqb}
use native.Mathlib.Omega.{arith}
use borrow.Author.Tests.{ne_eqb}
use lib.IntN.{pos}
use Rattle.rows.proofs.Laws.{clash}
use Rattle.bench.specs.declared.AfterBuild.{AfterBuild}
use Rattle.bench.specs.declared.AfterTake.{AfterTake}
use Rattle.bench.specs.Answers.{Building, Taking}
use Rattle.deeds.specs.declared.Register.{Register}
use Rattle.desk.specs.declared.AfterClose.{AfterClose}
use Rattle.desk.specs.declared.AfterOpen.{AfterOpen}
use Rattle.desk.specs.declared.AfterReply.{AfterReply}
use Rattle.desk.specs.Answers.{Booking, booking, closing, opening, Closing, Opening}
use Rattle.desk.specs.declared.Fault.TheVariants.{NothingDue}
use Rattle.lanes.specs.declared.AfterGrant.{AfterGrant}
use Rattle.lanes.specs.declared.AfterJoin.{AfterJoin}
use Rattle.lanes.specs.declared.AfterWithdraw.{AfterWithdraw}
use Rattle.lanes.specs.Answers.{Granting}
use Rattle.lanes.specs.Answers.{Joining, joining}
use Rattle.overdue.specs.declared.Swept.{Swept}
use Rattle.scan.specs.declared.AfterStep.{AfterStep}
use Rattle.scan.specs.declared.Found.TheVariants.{NotYet, Absent, Present}
use Rattle.scan.specs.declared.Scan.{Scan}
use Rattle.scan.specs.Answers.{Stepping}
use Rattle.sheet.specs.Answers.{Checked}
use Rattle.sheet.specs.declared.Record.{Record}
use Rattle.sheet_editor.specs.Answers.{Editing}
use Rattle.sheet_writer.specs.Answers.{Writing as SheetWriting}
use Rattle.telegram.specs.Answers.{Writing as FrameWriting}
use Rattle.ticket.specs.declared.Ticket.{Ticket}
use Rattle.values.specs.Values.{integer}
use Rattle.values.specs.declared.Value.TheVariants.{Natural, Negative}
use Rattle.varia.specs.Box.{heard_reply, heard_closing}
use Rattle.varia.specs.declared.AfterAsk.{AfterAsk}
use Rattle.varia.specs.Answers.{Asking, asking, Edge, sent}
use Rattle.varia.specs.declared.FilterBox.{FilterBox}
use Rattle.varia.specs.Answers.{Out}
use Rattle.varia.specs.declared.Pass.TheVariants.{Short, Long}
use Rattle.kamzhor.specs.Bench.{build_told, build_given, take_told, take_given, register_given}
use Rattle.kamzhor.specs.Desk.{open_told, open_given, reply_told, reply_given, close_told, close_given, sweep_told, seen_given, booking_meant, closing_meant}
use Rattle.kamzhor.specs.Filters.{ask_told, ask_given, edge_meant, edge_told, out_meant, out_told, box_meant, box_told}
use Rattle.kamzhor.specs.Host.{told}
use Rattle.kamzhor.specs.Lanes.{join_told, join_given, grant_told, grant_given, withdraw_told, withdraw_given}
use Rattle.kamzhor.specs.Scan.{scan_told, scan_given, found_given}
use Rattle.kamzhor.specs.Sheet.{sheet_given, check_given, record_given, edit_given}
use Rattle.kamzhor.specs.Values.{written_given, entry_given, value_meant, yes_told}
use Rattle.kamzhor.specs.declared.host_box.HostEdge.{HostEdge}
use Rattle.kamzhor.specs.declared.host_box.HostOut.{HostOut}
use Rattle.kamzhor.specs.declared.host_desk.CloseAnswer.{CloseAnswer}
use Rattle.kamzhor.specs.declared.host_desk.ReplyAnswer.{ReplyAnswer}
use Rattle.hosts.proofs.Numbers.{unread, at_desk_lem, in_lanes, at_box, at_bench, of_setting, of_edit}
use Rattle.bench.specs.Take as bench_take
use Rattle.catalogue.specs.declared.Entry as entry
use Rattle.desk.specs.Reply as desk_reply
use Rattle.desk.specs.declared.Seen.TheVariants as desk_seens
use Rattle.lanes.specs.declared.Fault as lanes_fault
use Rattle.lanes.specs.declared.Turn.TheVariants as grantings
use Rattle.scan.specs.Scan as scanning
use Rattle.scan.specs.declared.Stage.TheVariants as steppings

-- a refusal's number is not 0
never_0 : (n : ℕ) → told n ≡ some n → n ≡ 0 → ⊥
never_0 n p e = clash (let q : none ≡ some n = sym (ap told e) ∙ p in cc)

-- nor does it equal it
numbered : {n : ℕ} → told n ≡ some n → eqb n 0 ≡ false
numbered {n} p = by (eqb n 0) p
  where
    by : (zero : Bool) → cond zero none (some n) ≡ some n → zero ≡ false
    by true e = clash (cc)
    by false e = refl

-- ---- the desk

pub open_means : (a : Opening) (k : ℕ) → (open_given a k).refusal ≡ 0 → a ≡ opening (open_given a k).address (open_given a k).size
open_means (Err f) k e = absurd (never_0 _ (at_desk_lem f) e)
open_means (Ok opened) k e = refl

pub open_count_lem : (a : Opening) (k : ℕ) → (open_given a k).considered ≡ k
open_count_lem (Err f) k = refl
open_count_lem (Ok opened) k = refl

pub reply_means : (a : Booking) → (reply_given a).refusal ≡ 0
    → a ≡ booking (reply_given a).job (reply_given a).address (reply_given a).sort (reply_given a).size (reply_given a).folder
reply_means (Err f) e = absurd (never_0 _ (at_desk_lem f) e)
reply_means (Ok booked) e = refl

-- the place is the reader's, with 3 and with nothing else
pub reply_place : (a : Booking) → (reply_given a).place ≡ desk_reply.book_place a
reply_place (Err f) = refl
reply_place (Ok booked) = refl

pub close_means : (a : Closing) → (close_given a).refusal ≡ 0 → a ≡ closing (close_given a).job (close_given a).address (close_given a).folder
close_means (Err f) e = absurd (never_0 _ (at_desk_lem f) e)
close_means (Ok closed) e = refl

-- 1 is an open ticket with all that is kept of it, 2 a clock, 0 nothing
pub seen_means : (ticket : Ticket) (clock : ℕ)
    → (seen_given (desk_seens.Open ticket) ≡ record { state = 1; asked = ticket.asked; opened = ticket.opened; closed = 0 })
    × (seen_given (desk_seens.Withdrawn clock)
    ≡ record { state = 2; asked = record { job = 0; unit = 0; sort = 0; register = 0; wait = 0; folder = 0 }; opened = 0; closed = clock })
    × (seen_given desk_seens.Nothing
    ≡ record { state = 0; asked = record { job = 0; unit = 0; sort = 0; register = 0; wait = 0; folder = 0 }; opened = 0; closed = 0 })
seen_means ticket clock = (refl, refl, refl)

-- the desk comes back as the desk's own call left it
pub desk_comes_back : (o : AfterOpen) (b : AfterReply) (c : AfterClose) (s : Swept)
    → ((open_told o).desk ≡ o.desk)
    × ((open_told o).answer ≡ open_given o.answer o.count)
    × ((reply_told b).desk ≡ b.desk)
    × ((reply_told b).answer ≡ reply_given b.answer)
    × ((close_told c).desk ≡ c.desk)
    × ((close_told c).answer ≡ close_given c.answer)
    × ((sweep_told s).desk ≡ s.desk)
    × ((sweep_told s).count ≡ s.count)
desk_comes_back o b c s = (refl, refl, refl, refl, refl, refl, refl, refl)

-- ---- the lanes

pub join_means : (a : Joining) → (join_given a).refusal ≡ 0 → a ≡ joining (join_given a).lane (join_given a).place
join_means (Err f) e = absurd (never_0 _ (in_lanes f) e)
join_means (Ok joined) e = refl

pub grant_means : (a : Granting) (k : ℕ) → (grant_given a k).refusal ≡ 0
    → a ≡ Ok (grantings.Granted (grant_given a k).job (grant_given a k).address (grant_given a k).size)
grant_means (Err f) k e = absurd (never_0 _ (in_lanes f) e)
grant_means (Ok (grantings.TakenOut job)) k e = absurd (omega (arith, e))
grant_means (Ok (grantings.Granted job address n)) k e = refl

-- one that was taken out is told with 75 and its job
pub taken_out_means : (job k : ℕ) → grant_given (Ok (grantings.TakenOut job)) k ≡ record { refusal = 75; job = job; address = 0; considered = k; size = 0 }
taken_out_means job k = refl

pub grant_no_job : (f : lanes_fault.Fault) (k : ℕ) → (grant_given (Err f) k).job ≡ 0
grant_no_job f k = refl

pub grant_count : (a : Granting) (k : ℕ) → (grant_given a k).considered ≡ k
grant_count (Err f) k = refl
grant_count (Ok (grantings.TakenOut job)) k = refl
grant_count (Ok (grantings.Granted job address n)) k = refl

pub lanes_come_back : (j : AfterJoin) (g : AfterGrant) (w : AfterWithdraw)
    → ((join_told j).lanes ≡ j.lanes)
    × ((join_told j).answer ≡ join_given j.answer)
    × ((grant_told g).lanes ≡ g.lanes)
    × ((grant_told g).desk ≡ g.desk)
    × ((grant_told g).answer ≡ grant_given g.answer g.count)
    × ((withdraw_told w).lanes ≡ w.lanes)
    × ((withdraw_told w).refusal ≡ withdraw_given w.answer)
lanes_come_back j g w = (refl, refl, refl, refl, refl, refl, refl)

-- ---- the box: its numbers mean the box they were told of

edge_back : (e : Edge) → edge_meant (edge_told e) ≡ e
edge_back None = refl
edge_back (Some tenths) = refl

out_back : (o : Out) → out_meant (out_told o) ≡ o
out_back None = refl
out_back (Some was) = by was.pass was.address was.tenths
  where
    by : (pass : Pass) (address tenths : ℕ) → out_meant (out_told (sent address pass tenths)) ≡ sent address pass tenths
    by Short address tenths = refl
    by Long address tenths = refl

pub box_back : (b : FilterBox) → box_meant (box_told b) ≡ b
box_back b = rw (edge_back b.short, edge_back b.long, out_back b.out)

-- any other numbers mean a box too
pub edge_plainly : (e : HostEdge) → (e.known ≡ 0 → edge_meant e ≡ None) × (e.known ≢ 0 → edge_meant e ≡ Some e.tenths)
edge_plainly e = (λ zero. rw zero, λ other. rw (ne_eqb e.known 0 other))

pub out_plainly : (o : HostOut)
    → (o.edge ≡ 1 → out_meant o ≡ sent o.address Short o.tenths)
    × (o.edge ≡ 2 → out_meant o ≡ sent o.address Long o.tenths)
    × (o.edge ≢ 1 → o.edge ≢ 2 → out_meant o ≡ None)
out_plainly o = (λ short. rw short, λ long. rw long, λ a b. rw (ne_eqb o.edge 1 a, ne_eqb o.edge 2 b))

-- and they are these
pub box_numbers : (job unit s l address tenths : ℕ)
    → (box_told (record { job = job; unit = unit; short = Some s; long = None; out = None })
    ≡ record {
      job = job;
      unit = unit;
      short = record { known = 1; tenths = s };
      long = record { known = 0; tenths = 0 };
      out = record { edge = 0; address = 0; tenths = 0 };
    })
    × (box_told (record { job = job; unit = unit; short = None; long = Some l; out = sent address Short tenths })
    ≡ record {
      job = job;
      unit = unit;
      short = record { known = 0; tenths = 0 };
      long = record { known = 1; tenths = l };
      out = record { edge = 1; address = address; tenths = tenths };
    })
    × (out_told (sent address Long tenths) ≡ record { edge = 2; address = address; tenths = tenths })
box_numbers job unit s l address tenths = (refl, refl, refl)

pub ask_means : (a : Asking) (k : ℕ) → (ask_given a k).refusal ≡ 0 → a ≡ asking (ask_given a k).address (ask_given a k).size
ask_means (Err f) k e = absurd (never_0 _ (at_box f) e)
ask_means (Ok opened) k e = refl

pub ask_count : (a : Asking) (k : ℕ) → (ask_given a k).considered ≡ k
ask_count (Err f) k = refl
ask_count (Ok opened) k = refl

pub box_comes_back : (o : AfterAsk)
    → (box_meant (ask_told o).filters ≡ o.filters) × ((ask_told o).desk ≡ o.desk) × ((ask_told o).answer ≡ ask_given o.answer o.count)
box_comes_back o = (box_back o.filters, refl, refl)

-- what the desk told C, told on to a box or a scan, is what the desk answered, or a refusal, which neither heeds
pub booking_back : (job address sort n folder : ℕ)
    → booking_meant (reply_given (booking job address sort n folder)) ≡ booking job address sort n folder
booking_back job address sort n folder = refl

pub closing_back : (job address folder : ℕ) → closing_meant (close_given (closing job address folder)) ≡ closing job address folder
closing_back job address folder = refl

pub booking_plainly : (a : ReplyAnswer)
    → (a.refusal ≡ 0 → booking_meant a ≡ booking a.job a.address a.sort a.size a.folder)
    × (a.refusal ≢ 0 → booking_meant a ≡ Err NothingDue)
booking_plainly a = (λ zero. rw zero, λ other. rw (ne_eqb a.refusal 0 other))

pub closing_plainly : (a : CloseAnswer)
    → (a.refusal ≡ 0 → closing_meant a ≡ closing a.job a.address a.folder)
    × (a.refusal ≢ 0 → closing_meant a ≡ Err NothingDue)
closing_plainly a = (λ zero. rw zero, λ other. rw (ne_eqb a.refusal 0 other))

pub box_hears_reply : (b : FilterBox) (a : Booking) → heard_reply b (booking_meant (reply_given a)) ≡ heard_reply b a
box_hears_reply b (Err f) = by (eqb (reply_given (Err f)).refusal 0) (numbered (at_desk_lem f))
  where
    by : (zero : Bool) → zero ≡ false → heard_reply b (cond zero (booking 0 0 0 0 0) (Err NothingDue)) ≡ b
    by true e = clash (cc)
    by false e = refl
box_hears_reply b (Ok booked) = refl

pub box_hears_closing : (b : FilterBox) (a : Closing) → heard_closing b (closing_meant (close_given a)) ≡ heard_closing b a
box_hears_closing b (Err f) = by (eqb (close_given (Err f)).refusal 0) (numbered (at_desk_lem f))
  where
    by : (zero : Bool) → zero ≡ false → heard_closing b (cond zero (closing 0 0 0) (Err NothingDue)) ≡ b
    by true e = clash (cc)
    by false e = refl
box_hears_closing b (Ok closed) = refl

-- ---- the scan

pub scan_hears_reply : (s : Scan) (a : Booking) → scanning.heard_reply s (booking_meant (reply_given a)) ≡ scanning.heard_reply s a
scan_hears_reply s (Err f) = by (eqb (reply_given (Err f)).refusal 0) (numbered (at_desk_lem f))
  where
    by : (zero : Bool) → zero ≡ false → scanning.heard_reply s (cond zero (booking 0 0 0 0 0) (Err NothingDue)) ≡ s
    by true e = clash (cc)
    by false e = refl
scan_hears_reply s (Ok booked) = refl

pub scan_hears_closing : (s : Scan) (a : Closing) → scanning.heard_closing s (closing_meant (close_given a)) ≡ scanning.heard_closing s a
scan_hears_closing s (Err f) = by (eqb (close_given (Err f)).refusal 0) (numbered (at_desk_lem f))
  where
    by : (zero : Bool) → zero ≡ false → scanning.heard_closing s (cond zero (closing 0 0 0) (Err NothingDue)) ≡ s
    by true e = clash (cc)
    by false e = refl
scan_hears_closing s (Ok closed) = refl

-- 1 a module was asked, 2 its ticket is out, 3 all turns are over; with a refusal 0
pub scan_means : (address unit n k : ℕ)
    → (scan_given (Ok (steppings.Asked address unit n)) k ≡ record { refusal = 0; state = 1; address = address; unit = unit; considered = k; size = n })
    × (scan_given (Ok (steppings.Waiting address)) k ≡ record { refusal = 0; state = 2; address = address; unit = 0; considered = k; size = 0 })
    × (scan_given (Ok steppings.Done) k ≡ record { refusal = 0; state = 3; address = 0; unit = 0; considered = k; size = 0 })
scan_means address unit n k = (refl, refl, refl)

pub scan_count : (a : Stepping) (k : ℕ) → (scan_given a k).considered ≡ k
scan_count (Err f) k = refl
scan_count (Ok (steppings.Asked address unit n)) k = refl
scan_count (Ok (steppings.Waiting address)) k = refl
scan_count (Ok steppings.Done) k = refl

pub scan_comes_back : (o : AfterStep) → ((scan_told o).scan ≡ o.scan) × ((scan_told o).desk ≡ o.desk) × ((scan_told o).answer ≡ scan_given o.answer o.count)
scan_comes_back o = (refl, refl, refl)

pub found_means : (result : ℕ) → (found_given Absent ≡ 0) × (found_given (Present result) ≡ result) × (found_given NotYet ≡ 3)
found_means result = (refl, refl, refl)

-- ---- the bench

pub build_means : (a : Building) → build_given a ≡ 0 → a ≡ Ok tt
build_means (Err f) e = absurd (never_0 _ (at_bench f) e)
build_means (Ok _) e = refl

pub take_means : (a : Taking) → (take_given a).refusal ≡ 0 → a ≡ Ok (take_given a).size
take_means (Err f) e = absurd (never_0 _ (at_bench f) e)
take_means (Ok n) e = refl

pub take_place_lem : (a : Taking) → (take_given a).place ≡ bench_take.take_place a
take_place_lem (Err f) = refl
take_place_lem (Ok n) = refl

pub register_means : (g : Register)
    → (register_given (Some g) ≡ record { held = 1; number = g.number; kind = g.kind; rights = g.rights; value = g.value })
    × (register_given None ≡ record { held = 0; number = 0; kind = 0; rights = 0; value = 0 })
register_means g = (refl, refl)

pub bench_comes_back : (b : AfterBuild) (t : AfterTake)
    → ((build_told b).bench ≡ b.bench) × ((build_told b).refusal ≡ build_given b.answer) × ((take_told t).bench ≡ t.bench) × ((take_told t).answer ≡ take_given t.answer)
bench_comes_back b t = (refl, refl, refl, refl)

-- ---- writing

pub written_means : (w : FrameWriting) → (written_given w).refusal ≡ 0 → w ≡ Ok (written_given w).size
written_means (Err f) e = absurd (never_0 _ (unread f) e)
written_means (Ok n) e = refl

-- a sign and a magnitude mean that integer: no number is lost, and minus 0 is 0
pub value_meant_lem : (magnitude : ℕ) → integer (value_meant 0 magnitude) ≡ pos magnitude
unfolding integer
value_meant_lem magnitude = refl

pub minus_0 : (negative : ℕ) → value_meant negative 0 ≡ Natural 0
minus_0 negative = by (eqb negative 0)
  where
    by : (b : Bool) → cond b (Natural 0) (Natural 0) ≡ Natural 0
    by true = refl
    by false = refl

pub negative_meant : (negative magnitude : ℕ) → negative ≢ 0 → magnitude ≢ 0 → value_meant negative magnitude ≡ Negative (magnitude - 1)
negative_meant negative magnitude n m = rw (ne_eqb negative 0 n, ne_eqb magnitude 0 m) refl

pub entry_means : (e : entry.Entry)
    → entry_given (Ok e) ≡ record { refusal = 0; kind = e.kind; writable = yes_told e.writable; lowest = e.lowest; highest = e.highest }
entry_means e = refl

pub yes_means : (yes_told true ≡ 1) × (yes_told false ≡ 0)
yes_means = (refl, refl)

-- ---- sheets

pub sheet_means : (w : SheetWriting) → (sheet_given w).refusal ≡ 0 → w ≡ Ok (sheet_given w).size
sheet_means (Err f) e = absurd (never_0 _ (of_setting f) e)
sheet_means (Ok n) e = refl

pub check_means : (a : Checked) → (check_given a).refusal ≡ 0 → a ≡ Ok (check_given a).count
check_means (Err f) e = absurd (never_0 _ (of_setting f) e)
check_means (Ok n) e = refl

pub record_means : (r : Record) → record_given (Ok r) ≡ record { refusal = 0; head = r.head; size = r.size }
record_means r = refl

pub edit_means : (a : Editing) → (edit_given a).refusal ≡ 0 → a ≡ Ok (edit_given a).size
edit_means (Err f) e = absurd (never_0 _ (of_edit f) e)
edit_means (Ok n) e = refl
