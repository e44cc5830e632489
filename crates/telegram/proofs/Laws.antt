-- What is promised of telegrams, each law under the sentence that it keeps: M is the mission's, 01 the specification's.
-- Rows 1 to 9 are in Ranking.antt: `read_ranked` and `write_ranked`.
-- Assumes nothing.
use Rattle.std.specs.Prelude.{Ok, Err}
use mathlib.Core.Path.{◌≡◌, refl, ap, ◌∙◌, sym, ap₂}
use mathlib.Core.List.{List, [], ◌∷◌, ◌++◌, append_assoc}
use mathlib.Core.Logic.{◌≢◌, inl, inr}
use mathlib.Core.Option.{none, Option, some}
use mathlib.Core.Bool.{Bool, true, false, cond}
use Prim.Native.Nat.{ℕ, ◌+◌, ◌-◌, ◌≤◌, zero, suc, ◌*◌, ◌/◌, ◌%◌, ◌<◌}
use native.Mathlib.Omega.{arith}
use lib.ListN.{length, take, drop, length-drop}
use lib.Seq.{take-append_seam, take-suc, take_all, length-take-le}
use lib.Dec.{eqb}
use Rattle.rows.proofs.Settled.{settled, settled_with}
use Rattle.rows.specs.Settled.{Settled}
use Rattle.lent.specs.Lent.{over}
use Rattle.lent.proofs.Laws.{take-over, over_is}
use Rattle.remainder.proofs.Laws.{sealed_right, whole, burst_seen, altered_seen, nearby_burst}
use Rattle.frame.proofs.Laws.{all_bytes}
use Rattle.rows.proofs.Laws.{done_exactly}
use Rattle.remainder.specs.Remainder.{remainder_of, combined, AlteredNearby}
use Rattle.frame.specs.Frame.{framed, message_of, between, AllBytes, restore, opens, restored}
use Rattle.telegram.specs.declared.Fields.{Fields}
use Rattle.telegram.specs.declared.Fault.{Fault}
use Rattle.telegram.specs.declared.Fault.TheVariants.{NotFramed, StrayEnd, CheckFault}
use Rattle.telegram.specs.Write.{sealed, message_for, unsealed, fields_for, Writes, telegram_for, IsTooMuch, IsZeroAddress, IsUnknownType, IsOverRoom, write_rows, write_refusal, write_answer}
use Rattle.telegram.proofs.Send.{length-message_for, telegram_long, write_passes}
use Rattle.telegram.specs.Read.{message_refusal, fields_of, data_of, read_refusal, Reads, read_frame, byte, Between}
use Rattle.telegram.specs.Read.{HasStrayEnd, not_framed, has_stray_end, Judges, Numbers, Tells, fields_in, data_in, fault_number}
use Rattle.telegram.proofs.Judge.{sized_passes, message_passes, first_false, reading_telegram, accepted_groups, refused_reading, accepted_sized, message_wrong, accepted_message}
use Rattle.telegram.proofs.Sound.{message_of_framed, framed_sound, sound_framed}
use Rattle.telegram.specs.Answers.{Reading}
use Rattle.telegram.specs.Answers.{Writing}
use Rattle.telegram.proofs.Ranking.{write_ranked, decides_ends, decides_stray}

-- ---- M 2: "Every message written reads back the same, given room for its data."

-- a telegram is judged by its message
pub read_of_framed : (m : List ℕ) (room : ℕ) → read_refusal (framed m) room ≡ message_refusal m room
unfolding read_refusal
read_of_framed m room = rw (framed_sound m, message_of_framed m)

answer_written : (o : Option Fault) (n k : ℕ) → Ok k ≡ write_answer o n → (o ≡ none) × (k ≡ n)
answer_written none n k e = (refl, cc)
answer_written (some f) n k e = absurd (let z : ◌≡◌ {A = ℕ} 0 1 = cc in omega arith)

read_accepted : (frame : List ℕ) (room : ℕ) → read_refusal frame room ≡ none → read_frame frame room ≡ Ok (fields_in frame)
unfolding read_frame
read_accepted frame room e = rw e

module _ (d s t r : ℕ) (bytes : List ℕ) where
  size_of_written : length (message_for d s t r bytes) - 6 ≡ length bytes
  size_of_written = let e : length (message_for d s t r bytes) ≡ length bytes + 6 = length-message_for d s t r bytes in omega arith

  -- "destination, source, type, register": the first four bytes, in this order
  pub fields_stand : (byte (message_for d s t r bytes) 0 ≡ d) × (byte (message_for d s t r bytes) 1 ≡ s)
      × (byte (message_for d s t r bytes) 2 ≡ t) × (byte (message_for d s t r bytes) 3 ≡ r)
  unfolding sealed
  fields_stand = (refl, refl, refl, refl)

  -- what was written has these fields and these data
  pub fields_of_written : fields_of (message_for d s t r bytes) ≡ fields_for d s t r bytes
  unfolding fields_of sealed
  fields_of_written = rw size_of_written

  pub data_of_written : data_of (message_for d s t r bytes) ≡ bytes
  unfolding data_of sealed
  data_of_written = rw size_of_written (take-append_seam bytes _)

  written_accepted : (room : ℕ) → length bytes ≤ 240 → d ≢ 0 → s ≢ 0 → t ≤ 9 → length bytes ≤ room → message_refusal (message_for d s t r bytes) room ≡ none
  unfolding message_refusal sealed
  written_accepted room long hd hs ht h =
      let e : length (message_for d s t r bytes) ≡ length bytes + 6 = length-message_for d s t r bytes in
      rw (sized_passes (length (message_for d s t r bytes)) room (omega arith) (omega arith) (omega arith))
      (message_passes (message_for d s t r bytes) (sealed_right (unsealed d s t r bytes)) hd hs ht)

  -- what is written has no address 0, a type up to 9 and up to 240 data bytes, and stands in the room's first bytes
  pub written_fields : (room : List ℕ) (n : ℕ) (room' : List ℕ) → Writes d s t r bytes room (Ok n) room'
      → (d ≢ 0) × (s ≢ 0) × (t ≤ 9) × (length bytes ≤ 240) × (n ≡ length (telegram_for d s t r bytes)) × (take n room' ≡ telegram_for d s t r bytes)
  unfolding write_rows IsTooMuch IsZeroAddress IsUnknownType IsOverRoom
  written_fields room n room' w =
      let done = answer_written (write_refusal d s t r bytes (length room)) (length (telegram_for d s t r bytes)) n w.0 in
      let no = (done_exactly (write_rows d s t r bytes (length room)) _ (write_ranked d s t r bytes (length room))).0 done.0 in
      let there : take n room' ≡ telegram_for d s t r bytes =
      rw (done.1, w.1, done.0) (take-over (telegram_for d s t r bytes) room (omega (arith, no.1.1.1.0))) in
      (λ e. no.1.0 (inl e), λ e. no.1.0 (inr e), omega (arith, no.1.1.0), omega (arith, no.0), done.1, there)

  -- and whatever has these is written, given room for the telegram
  pub fields_written : (room : List ℕ) (w : Writing) (room' : List ℕ) → d ≢ 0 → s ≢ 0 → t ≤ 9 → length bytes ≤ 240
      → length (telegram_for d s t r bytes) ≤ length room → Writes d s t r bytes room w room'
      → (w ≡ Ok (length (telegram_for d s t r bytes))) × (room' ≡ over (telegram_for d s t r bytes) room)
  fields_written room w room' hd hs ht long fits writes =
      let clear = write_passes d s t r bytes (length room) long hd hs ht fits in
      (writes.0 ∙ rw clear refl, writes.1 ∙ rw clear refl)

  -- of the contracts: whatever telegram was written, read with room for the data it gives the message back
  pub reads_back : (room : List ℕ) (n : ℕ) (room' : List ℕ) → Writes d s t r bytes room (Ok n) room'
      → (buffer : List ℕ) (a : Reading) (buffer' : List ℕ) → length bytes ≤ length buffer → Reads (take n room') buffer a buffer'
      → (a ≡ Ok (fields_for d s t r bytes)) × (buffer' ≡ over bytes buffer)
  reads_back room n room' w buffer a buffer' h reads =
      let told = written_fields room n room' w in
      let there : take n room' ≡ telegram_for d s t r bytes = told.5 in
      let accepted : read_refusal (take n room') (length buffer) ≡ none =
      rw there (read_of_framed (message_for d s t r bytes) (length buffer)
      ∙ written_accepted (length buffer) told.3 told.0 told.1 told.2 h) in
      let message : message_of (take n room') ≡ message_for d s t r bytes = ap message_of there ∙ message_of_framed (message_for d s t r bytes) in (
        reads.0 ∙ read_accepted (take n room') (length buffer) accepted ∙ ap (λ (m : List ℕ). Ok (fields_of m)) message ∙ ap Ok fields_of_written,
        reads.1 ∙ rw (accepted, message, data_of_written),
      )

-- ---- M 2: "no start or end byte stands inside a frame"

pub no_end_inside : (m : List ℕ) (i : ℕ) → Between (framed m) i → (byte (framed m) i ≢ 10) × (byte (framed m) i ≢ 13)
unfolding HasStrayEnd
no_end_inside m i there =
    let a = first_false (not_framed (framed m)) NotFramed _ (framed_sound m) in
    let b = first_false (has_stray_end (between (framed m))) StrayEnd _ a.1 in
    let none = (decides_stray (framed m) ((decides_ends (framed m)).not_so a.0)).not_so b.0 in
    (λ p. none (i, there, inl p), λ p. none (i, there, inr p))

-- ---- M 2: "only that frame means that message"

-- an accepted frame is the frame of its message
pub accepted_framed : (frame : List ℕ) (room : ℕ) (t : Fields) → read_frame frame room ≡ Ok t → frame ≡ framed (message_of frame)
accepted_framed frame room t e = sound_framed frame (accepted_groups frame room (reading_telegram frame room t e).0).0

last_two : (xs : List ℕ) (k : ℕ) → length xs ≡ suc (suc k) → xs ≡ take k xs ++ (byte xs k ∷ byte xs (suc k) ∷ [])
last_two xs k e =
    sym (take_all (suc (suc k)) xs (omega arith)) ∙ take-suc xs (suc k) 0 (omega arith)
    ∙ ap (λ (l : List ℕ). l ++ (byte xs (suc k) ∷ [])) (take-suc xs k 0 (omega arith))
    ∙ append_assoc (take k xs) (byte xs k ∷ []) (byte xs (suc k) ∷ [])

-- a message of 6 bytes or more is its four fields, its data and two bytes
message_parts : (m : List ℕ) → 6 ≤ length m
    → m ≡ unsealed (byte m 0) (byte m 1) (byte m 2) (byte m 3) (data_of m) ++ (byte m (length m - 2) ∷ byte m (length m - 1) ∷ [])
unfolding data_of
message_parts [] h = absurd (omega arith)
message_parts (a ∷ []) h = absurd (omega arith)
message_parts (a ∷ b ∷ []) h = absurd (omega arith)
message_parts (a ∷ b ∷ c ∷ []) h = absurd (omega arith)
message_parts (a ∷ b ∷ c ∷ d ∷ xs) h =
    let k : ℕ = length xs - 2 in
    let data_size : suc (suc (suc (suc (length xs)))) - 6 ≡ k = omega arith in
    let high : suc (suc (suc (suc (length xs)))) - 2 ≡ suc (suc (suc (suc k))) = omega arith in
    let low : suc (suc (suc (suc (length xs)))) - 1 ≡ suc (suc (suc (suc (suc k)))) = omega arith in
    rw (data_size, high, low) (ap (λ (l : List ℕ). a ∷ b ∷ c ∷ d ∷ l) (last_two xs k (omega arith)))

-- ---- bytes of a frame make bytes of a message

all_append : (xs ys : List ℕ) → AllBytes xs → AllBytes ys → AllBytes (xs ++ ys)
all_append [] ys p q = q
all_append (x ∷ xs) ys p q = (p.0, all_append xs ys p.1 q)

all_take : (n : ℕ) (xs : List ℕ) → AllBytes xs → AllBytes (take n xs)
all_take zero xs p = tt
all_take (suc n) [] p = tt
all_take (suc n) (x ∷ xs) p = (p.0, all_take n xs p.1)

all_tail : (xs : List ℕ) → AllBytes xs → AllBytes (drop 1 xs)
all_tail [] p = tt
all_tail (x ∷ xs) p = p.1

pub all-at : (xs : List ℕ) (i : ℕ) → AllBytes xs → byte xs i < 256
all-at xs i p = (all_bytes xs).0 p i

all_restored : (after : Bool) (xs : List ℕ) → AllBytes xs → AllBytes (restored after xs)
unfolding restored
all_restored after [] p = tt
all_restored after (x ∷ xs) p = all_append (restore after x) (restored (opens after x) xs) (one after) (all_restored (opens after x) xs p.1)
  where
    plain : (t : Bool) → AllBytes (cond t [] (x ∷ []))
    plain true = tt
    plain false = (p.0, tt)

    one : (t : Bool) → AllBytes (restore t x)
    one true = (omega (arith, p.0), tt)
    one false = plain (eqb x 94)

pub all_message : (frame : List ℕ) → AllBytes frame → AllBytes (message_of frame)
unfolding message_of between
all_message frame p = all_restored false _ (all_take (length frame - 2) (drop 1 frame) (all_tail frame p))

-- a right message of 6 bytes or more is the one that the writer makes of its fields and data
right_message : (m : List ℕ) → AllBytes m → 6 ≤ length m → remainder_of m ≡ 0 → m ≡ message_for (byte m 0) (byte m 1) (byte m 2) (byte m 3) (data_of m)
unfolding sealed
right_message m p h e =
    let front : List ℕ = unsealed (byte m 0) (byte m 1) (byte m 2) (byte m 3) (data_of m) in
    let high : ℕ = byte m (length m - 2) in
    let low : ℕ = byte m (length m - 1) in
    let last : remainder_of front ≡ high % 256 * 256 + low % 256 = (whole front high low).0 (sym (ap remainder_of (message_parts m h)) ∙ e) in
    let hb : high < 256 = all-at m (length m - 2) p in
    let lb : low < 256 = all-at m (length m - 1) p in
    let he : high ≡ remainder_of front / 256 = omega arith in
    let le : low ≡ remainder_of front % 256 = omega arith in
    message_parts m h ∙ ap₂ (λ (x y : ℕ). front ++ (x ∷ y ∷ [])) he le

-- an accepted frame is the telegram that the writer makes of what was answered
pub accepted_telegram : (frame : List ℕ) (room : ℕ) (t : Fields) → AllBytes frame → read_frame frame room ≡ Ok t
    → frame ≡ telegram_for t.destination t.source t.sort t.register (data_in frame)
unfolding fields_of
accepted_telegram frame room t p e =
    let a = reading_telegram frame room t e in
    let m = right_message (message_of frame) (all_message frame p) (accepted_sized frame room a.0).0 (accepted_message frame room a.0).0 in
    accepted_framed frame room t e ∙ ap framed m
    ∙ ap (λ (u : Fields). telegram_for u.destination u.source u.sort u.register (data_in frame)) (sym a.1)

-- two accepted frames with the same answer and the same data are one
pub one_frame : (f g : List ℕ) (room room' : ℕ) (t : Fields) → AllBytes f → AllBytes g → read_frame f room ≡ Ok t → read_frame g room' ≡ Ok t
    → data_in f ≡ data_in g → f ≡ g
one_frame f g room room' t pf pg ef eg same =
    accepted_telegram f room t pf ef
    ∙ ap (λ (bytes : List ℕ). telegram_for t.destination t.source t.sort t.register bytes) same
    ∙ sym (accepted_telegram g room' t pg eg)

-- what an accepted frame says, the writer takes
pub accepted_fields : (frame : List ℕ) (room : ℕ) (t : Fields) → read_frame frame room ≡ Ok t
    → (t.destination ≢ 0) × (t.source ≢ 0) × (t.sort ≤ 9) × (t.size ≡ length (data_in frame)) × (t.size ≤ 240) × (t.size ≤ room)
unfolding fields_of data_of
accepted_fields frame room t e =
    let a = reading_telegram frame room t e in
    let sized = accepted_sized frame room a.0 in
    let named = accepted_message frame room a.0 in
    let long : length (data_in frame) ≡ length (message_of frame) - 6 =
    length-take-le (length (message_of frame) - 6) (drop 4 (message_of frame)) (omega (arith, length-drop 4 (message_of frame), sized.0)) in
    rw a.1 (named.1, named.2, named.3, sym long, omega (arith, sized.1), sized.2)

-- 01: "puts the data in the first bytes of the lent buffer. The rest of that buffer stays."
pub read_lays : (frame room : List ℕ) (t : Fields) (room' : List ℕ) → Reads frame room (Ok t) room' → room' ≡ data_in frame ++ drop t.size room
read_lays frame room t room' reads =
    let a = reading_telegram frame (length room) t (sym reads.0) in
    let f = accepted_fields frame (length room) t (sym reads.0) in
    let laid : room' ≡ over (data_in frame) room = rw a.0 at reads.1 in
    rw f.3 (laid ∙ over_is (data_in frame) room (omega (arith, f.3, f.5)))

-- the converse of `reads_back`: an accepted frame, written again from its answer and its data, is that very frame
pub written_again : (frame room : List ℕ) (t : Fields) (room' : List ℕ) → AllBytes frame → Reads frame room (Ok t) room'
    → (buffer : List ℕ) (w : Writing) (buffer' : List ℕ) → length frame ≤ length buffer
    → Writes t.destination t.source t.sort t.register (take t.size room') buffer w buffer'
    → (w ≡ Ok (length frame)) × (buffer' ≡ over frame buffer)
written_again frame room t room' bytes reads buffer w buffer' fits writes =
    let e : read_frame frame (length room) ≡ Ok t = sym reads.0 in
    let told = accepted_fields frame (length room) t e in
    let laid : room' ≡ over (data_in frame) room = reads.1 ∙ rw (reading_telegram frame (length room) t e).0 refl in
    let there : take t.size room' ≡ data_in frame = rw (laid, told.3) (take-over (data_in frame) room (omega (arith, told.3, told.5))) in
    let again : frame ≡ telegram_for t.destination t.source t.sort t.register (take t.size room') =
    rw there (accepted_telegram frame (length room) t bytes e) in
    let done = fields_written t.destination t.source t.sort t.register (take t.size room') buffer w buffer'
    told.0 told.1 told.2 (rw there (omega (arith, told.3, told.4))) (omega (arith, ap length again)) writes in
    (done.0 ∙ ap (λ (f : List ℕ). Ok (length f)) (sym again), done.1 ∙ ap (λ (f : List ℕ). over f buffer) (sym again))

-- ---- 01: "A telegram is at most 494 bytes.": whatever is written or accepted

pub written_long : (d s t r : ℕ) (bytes room : List ℕ) (n : ℕ) (room' : List ℕ) → Writes d s t r bytes room (Ok n) room' → n ≤ 494
written_long d s t r bytes room n room' w =
    let told = written_fields d s t r bytes room n room' w in
    rw told.4 (telegram_long (message_for d s t r bytes) (omega (arith, length-message_for d s t r bytes, told.3)))

pub accepted_long : (frame : List ℕ) (room : ℕ) (t : Fields) → read_frame frame room ≡ Ok t → length frame ≤ 494
accepted_long frame room t e =
    let a = reading_telegram frame room t e in
    rw (accepted_framed frame room t e) (telegram_long (message_of frame) (accepted_sized frame room a.0).1)

-- ---- M 3: "Take any accepted message and alter one or more bits, all within 16 neighbouring bits [..]. Frame it again and offer it with 240
-- bytes of room. It is refused as a check fault"

-- any alteration of the same length whose own remainder is not 0
pub altered_refused : (frame : List ℕ) (room : ℕ) (t : Fields) → read_frame frame room ≡ Ok t
    → (m : List ℕ) → length (message_of frame) ≡ length m → remainder_of (combined (message_of frame) m) ≢ 0
    → (room' : ℕ) → 240 ≤ room' → read_refusal (framed m) room' ≡ some CheckFault
altered_refused frame room t e m same odd room' h =
    let a = (reading_telegram frame room t e).0 in
    let sized = accepted_sized frame room a in
    read_of_framed m room'
    ∙ message_wrong m room' (omega (arith, sized.0)) (omega (arith, sized.1)) (omega (arith, sized.1))
    (altered_seen (message_of frame) m same odd (accepted_message frame room a).0)

-- so by the reader's contract the answer is number 7, and the buffer stays
pub altered_reads : (frame : List ℕ) (room : ℕ) (t : Fields) → read_frame frame room ≡ Ok t
    → (m : List ℕ) → length (message_of frame) ≡ length m → remainder_of (combined (message_of frame) m) ≢ 0
    → (buffer : List ℕ) (a : Reading) (buffer' : List ℕ) → 240 ≤ length buffer → Reads (framed m) buffer a buffer' → (a ≡ Err CheckFault) × (buffer' ≡ buffer)
altered_reads frame room t e m same odd buffer a buffer' h reads =
    let seven = altered_refused frame room t e m same odd (length buffer) h in
    (reads.0 ∙ sym (refused_reading (framed m) (length buffer) CheckFault seven), reads.1 ∙ rw seven)

-- the mission's burst
pub nearby_reads : (frame : List ℕ) (room : ℕ) (t : Fields) → read_frame frame room ≡ Ok t → (m : List ℕ) → AlteredNearby (message_of frame) m
    → (buffer : List ℕ) (a : Reading) (buffer' : List ℕ) → 240 ≤ length buffer → Reads (framed m) buffer a buffer' → (a ≡ Err CheckFault) × (buffer' ≡ buffer)
nearby_reads frame room t e m near = altered_reads frame room t e m near.same_length (burst_seen (combined (message_of frame) m) (nearby_burst near))

-- ---- 01: "Show that any two outcomes allowed by it are equal."

pub reads_settled : (frame room : List ℕ) → Settled {A = Reading × List ℕ} (λ o. Reads frame room o.0 o.1)
reads_settled frame room = settled_with _ _

pub judges_settled : (frame : List ℕ) (room : ℕ) → Settled (Judges frame room)
judges_settled frame room = settled _

pub writes_settled : (d s t r : ℕ) (bytes room : List ℕ) → Settled {A = Writing × List ℕ} (λ o. Writes d s t r bytes room o.0 o.1)
writes_settled d s t r bytes room = settled_with _ _

-- the call `number` gives the number that the laws tell
pub number_is : (f : Fault) (r : ℕ) → Numbers f r → r ≡ fault_number f
number_is f r p = p

pub numbers_settled : (f : Fault) → Settled (Numbers f)
numbers_settled f = settled _

pub tells_settled : (r : Reading) → Settled (Tells r)
tells_settled r = settled _
