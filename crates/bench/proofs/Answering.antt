-- From a telegram that was read to the reply, or to silence.
-- Assumes nothing.
use Rattle.std.specs.Prelude.{Ok, Err}
use mathlib.Core.Path.{◌≡◌, refl, sym, ap, ◌∙◌}
use mathlib.Core.Bool.{Bool, true, false, cond}
use mathlib.Core.List.{List}
use mathlib.Core.Logic.{◌≢◌, inl, inr}
use mathlib.Core.Option.{Option, some, none}
use Prim.Native.Nat.{ℕ, ◌-◌, ◌≤◌}
use native.Mathlib.Omega.{arith}
use borrow.Author.Tests.{le-ltb, eq-eqb, ne_eqb}
use lib.Dec.{ltb}
use lib.ListN.{length, take, drop, length-drop}
use lib.Seq.{length-take-le}
use Rattle.telegram.specs.declared.Fault.{Fault as Unreadable, Fault as Unwritten}
use Rattle.frame.specs.Frame.{message_of}
use Rattle.rows.proofs.Laws.{done_exactly, clash}
use Rattle.telegram.proofs.Judge.{reading_refused, reading_telegram, telegram_facts, whole_part}
use Rattle.telegram.proofs.Laws.{accepted_framed}
use Rattle.telegram.specs.Read.{read_rows, read_refusal, room_after, HasZeroAddress, fields_of, data_of, read_frame, why_not, fields_in, data_in}
use Rattle.telegram.specs.Write.{telegram_for, Writes, write_refusal, write_answer}
use Rattle.telegram.specs.Answers.{Writing}
use Rattle.telegram.specs.Answers.{Reading}
use Rattle.telegram.proofs.Ranking.{read_ranked}
use Rattle.values.proofs.Bytes.{length-bytes_of}
use Rattle.values.specs.Values.{bytes_of}
use Rattle.telegram.specs.declared.Fields.{Fields}
use Rattle.lent.specs.Lent.{over}
use Rattle.deeds.specs.Deeds.{Small}
use Rattle.bench.proofs.Deeds.{deed_small}
use Rattle.bench.specs.Take.{deed_of, reply_for, reply_of, is_answer, request_refusal, room_refusal, take_refusal, done_to, Answers, Requests, Takes}
use Rattle.bench.specs.declared.Fault.TheVariants.{NoRoom, Unread, OtherAddress, NotARequest}
use Rattle.bench.specs.declared.Bench.{Bench}
use Rattle.bench.specs.declared.Fault.{Fault}
use Rattle.deeds.specs.declared.Deed.{Deed}
use Rattle.bench.specs.declared.AfterTake.{AfterTake}
use Rattle.telegram.specs.declared.Fault.TheVariants as unwritten

pub silenced : (o : Option Fault) (f : Fault) (bench after : Bench) (reply room : List ℕ) (r : AfterTake) → o ≡ some f
    → (r.answer ≡ Err f) × (r.bench ≡ bench) → Answers o bench after reply room r room
silenced o f bench after reply room r e g = rw e (g.0, g.1, refl)

-- ---- the reply

-- what the writer is handed and what it answered
module _ (bench : Bench) (t : Fields) (deed : Deed) (hs : t.source ≢ 0) (ha : bench.address ≢ 0) (small : Small deed)
    (bytes : List ℕ) (is : bytes ≡ bytes_of deed.size deed.value) (room room' : List ℕ) where
  abbrev reply : List ℕ
  reply = reply_for bench t deed

  abbrev Wrote : Writing → Type 0
  Wrote w = Writes t.source bench.address deed.sort t.register bytes room w room'

  abbrev Replied : AfterTake → Type 0
  Replied r = Answers (room_refusal reply (length room)) bench (done_to bench t.register deed) reply room r room'

  few : length bytes ≤ 240
  few = omega (arith, ap length is ∙ length-bytes_of deed.size deed.value, small.1)

  is_reply : telegram_for t.source bench.address deed.sort t.register bytes ≡ reply
  unfolding reply_for
  is_reply = ap (λ (b : List ℕ). telegram_for t.source bench.address deed.sort t.register b) is

  by_room : write_refusal t.source bench.address deed.sort t.register bytes (length room)
      ≡ cond (ltb (length room) (length reply)) (some unwritten.NoRoom) none
  unfolding write_refusal
  by_room = rw (le-ltb 240 (length bytes) few, ne_eqb t.source 0 hs, ne_eqb bench.address 0 ha, le-ltb 9 deed.sort small.0, is_reply)

  told : (w : Writing) → Wrote w
      → (w ≡ write_answer (cond (ltb (length room) (length reply)) (some unwritten.NoRoom) none) (length reply))
      × (room' ≡ room_after (cond (ltb (length room) (length reply)) (some unwritten.NoRoom) none) reply room)
  told w wrote = ((rw (by_room, is_reply) at wrote.0), (rw (by_room, is_reply) at wrote.1))

  abbrev Answered_so : Bool → AfterTake → Type 0
  Answered_so short r = Answers (cond short (some NoRoom) none) bench (done_to bench t.register deed) reply room r room'

  pub no_room : (w : Writing) (f : Unwritten) (r : AfterTake) → Wrote w → w ≡ Err f → (r.answer ≡ Err NoRoom) × (r.bench ≡ bench) → Replied r
  no_room w f r wrote is_w g = go (ltb (length room) (length reply)) (sym is_w ∙ (told w wrote).0) (told w wrote).1
    where
      go : (b : Bool) → Err f ≡ write_answer (cond b (some unwritten.NoRoom) none) (length reply)
          → room' ≡ room_after (cond b (some unwritten.NoRoom) none) reply room → Answered_so b r
      go true a e = (g.0, g.1, e)
      go false a e = clash (cc)

  pub with_room : (w : Writing) (n : ℕ) (r : AfterTake) → Wrote w → w ≡ Ok n → (r.answer ≡ Ok n) × (r.bench ≡ done_to bench t.register deed) → Replied r
  with_room w n r wrote is_w g = go (ltb (length room) (length reply)) (sym is_w ∙ (told w wrote).0) (told w wrote).1
    where
      go : (b : Bool) → Ok n ≡ write_answer (cond b (some unwritten.NoRoom) none) (length reply)
          → room' ≡ room_after (cond b (some unwritten.NoRoom) none) reply room → Answered_so b r
      go true a e = clash (cc)
      go false a e = (g.0 ∙ (cc), g.1, e)

  -- what the contract's room says is what the writer's says
  pub wrote_so : length reply ≤ length room → room' ≡ over reply room → Wrote (Ok (length reply))
  wrote_so h e = rw (by_room, is_reply, le-ltb (length room) (length reply) h) (refl, e)

-- ---- rows 35 to 37

module _ (bench : Bench) (t : Fields) (bytes : List ℕ) (room : ℕ) where
  pub for_another : (t.destination ≡ bench.address → ⊥) → request_refusal bench t bytes room ≡ some OtherAddress
  unfolding request_refusal
  for_another n = rw (ne_eqb t.destination bench.address n)

  pub no_request_lem : (b : Bool) → t.destination ≡ bench.address → b ≡ is_answer t.sort → b ≡ true → request_refusal bench t bytes room ≡ some NotARequest
  unfolding request_refusal
  no_request_lem b e is a = rw (eq-eqb t.destination bench.address e, ← is, a)

  pub by_reply : (b : Bool) → t.destination ≡ bench.address → b ≡ is_answer t.sort → b ≡ false
      → request_refusal bench t bytes room ≡ room_refusal (reply_of bench t bytes) room
  unfolding request_refusal
  by_reply b e is a = rw (eq-eqb t.destination bench.address e, ← is, a)

pub requested : (bench : Bench) (t : Fields) (bytes room room' : List ℕ) (b : Bool) (deed : Deed) (r : AfterTake)
    → t.destination ≡ bench.address → b ≡ is_answer t.sort → b ≡ false → deed ≡ deed_of bench t bytes
    → Answers (room_refusal (reply_for bench t deed) (length room)) bench (done_to bench t.register deed) (reply_for bench t deed) room r room'
    → Requests bench t bytes room r room'
unfolding reply_of
requested bench t bytes room room' b deed r e is a d g = rw (by_reply bench t bytes (length room) b e is a) (rw d at g)

pub reply_ready : (bench : Bench) (t : Fields) (bytes : List ℕ) (deed : Deed) → t.destination ≢ 0 → t.source ≢ 0 → t.destination ≡ bench.address
    → deed ≡ deed_of bench t bytes → (t.source ≢ 0) × (bench.address ≢ 0) × (deed.sort ≤ 9) × (deed.size ≤ 8)
reply_ready bench t bytes deed hd hs e d =
    let small = deed_small bench t bytes in
    rw d (hs, (λ z. hd (e ∙ z)), small.0, small.1)

-- ---- the whole call

pub refused_up : (bench : Bench) (frame : List ℕ) (room : ℕ) (f : Unreadable) → read_refusal frame 240 ≡ some f → take_refusal bench frame room ≡ some (Unread f)
unfolding take_refusal
refused_up bench frame room f e = rw e

pub not_read : (bench : Bench) (frame : List ℕ) (room : ℕ) (said : Reading) (f g : Unreadable) → said ≡ read_frame frame 240 → said ≡ Err f
    → g ≡ why_not said → take_refusal bench frame room ≡ some (Unread g)
not_read bench frame room said f g is refused why =
    refused_up bench frame room f (reading_refused frame 240 f (sym is ∙ refused)) ∙ ap (λ (h : Unreadable). some (Unread h)) (sym (why ∙ ap why_not refused))

module _ (frame : List ℕ) (t : Fields) (read : read_frame frame 240 ≡ Ok t) where
  accepted : read_refusal frame 240 ≡ none
  accepted = (reading_telegram frame 240 t read).0

  sizes : (read_refusal frame 240 ≡ none) × (t.size ≡ length (message_of frame) - 6) × (6 ≤ length (message_of frame)) × (length (message_of frame) ≤ 246)
  sizes = telegram_facts frame 240 t read

  pub data_size : t.size ≡ length (data_in frame)
  unfolding data_of
  data_size =
      sizes.1
      ∙ sym (length-take-le (length (message_of frame) - 6) (drop 4 (message_of frame)) (omega (arith, length-drop 4 (message_of frame), sizes.2)))

  pub size_fits : t.size ≤ 240
  size_fits = omega (arith, sizes.1, sizes.3)

  pub data_read : (d last : List ℕ) → length d ≡ 240 → last ≡ room_after (read_refusal frame 240) (data_in frame) d → take (t.size - 0) last ≡ data_in frame
  data_read d last many e =
      whole_part (data_in frame) d last t.size data_size (rw accepted at e) (omega (arith, data_size, size_fits))

  -- "Address 0 is refused at either end."
  pub addressed : (t.destination ≢ 0) × (t.source ≢ 0)
  unfolding fields_of read_rows HasZeroAddress
  addressed =
      let is : t ≡ fields_in frame = (reading_telegram frame 240 t read).1 in
      let no = (done_exactly (read_rows frame 240) (read_refusal frame 240) (read_ranked frame 240)).0 accepted in
      let framed_so = accepted_framed frame 240 t read in (
        λ z. no.1.1.1.1.1.1.1.0 (message_of frame, framed_so, inl (sym (ap (λ (u : Fields). u.destination) is) ∙ z)),
        λ z. no.1.1.1.1.1.1.1.0 (message_of frame, framed_so, inr (sym (ap (λ (u : Fields). u.source) is) ∙ z)),
      )

  pub taken : (bench : Bench) (bytes room room' : List ℕ) (r : AfterTake) → bytes ≡ data_in frame
      → Requests bench t bytes room r room' → Takes bench frame room r room'
  unfolding take_refusal
  taken bench bytes room room' r b g = rw accepted (rw (b, (reading_telegram frame 240 t read).1) at g)
