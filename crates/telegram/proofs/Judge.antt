-- What the groups of tests tell, and how the reader's answer is put together from them.
-- Assumes nothing.
use Rattle.std.specs.Prelude.{Ok, Err}
use mathlib.Core.Path.{◌≡◌, refl, sym, ap, ◌∙◌}
use mathlib.Core.Bool.{Bool, true, false, cond, not, ◌||◌, true≢false}
use mathlib.Core.List.{List}
use mathlib.Core.Option.{Option, some, none}
use mathlib.Core.Logic.{◌≢◌, inl, inr}
use Prim.Native.Nat.{ℕ, ◌-◌, ◌≤◌, ◌+◌}
use native.Mathlib.Omega.{arith}
use native.Mathlib.Nat.{sub-zero}
use borrow.Author.Tests.{ltb-false, eqb-true, not-false, le-ltb, eq-eqb, ne_eqb}
use lib.Dec.{eqb, ltb}
use lib.ListN.{length, take, drop, length-drop}
use lib.Seq.{take-append-le, drop-append-le}
use Rattle.rows.specs.Rows.{first_row_of}
use Rattle.rows.proofs.Laws.{or-none, decides_eq, decides_or}
use Rattle.lent.proofs.Laws.{over_is, take-over}
use Rattle.lent.specs.Lent.{over}
use Rattle.remainder.specs.Remainder.{remainder_of}
use Rattle.frame.specs.Frame.{between, restored, message_of}
use Rattle.telegram.specs.declared.Fault.{Fault}
use Rattle.telegram.specs.declared.Fault.TheVariants.{NotFramed, BadSubstitution, ShortMessage, LongMessage, NoRoom, CheckFault, ZeroAddress, UnknownType}
use Rattle.telegram.specs.declared.Fields.{Fields}
use Rattle.telegram.specs.Answers.{Reading}
use Rattle.telegram.specs.Read.{byte, not_framed, has_stray_end, has_bad_substitution, bad_place, frame_tests, length_tests, message_tests, judged}
use Rattle.telegram.specs.Read.{read_refusal, fields_of, read_answer, read_frame, message_refusal, data_of, fields_in}
-- both are of the rows, and whoever judges telegrams wants them too
pub use Rattle.rows.proofs.Laws.{first_false, never_both}

-- ---- one group

pub judged_sound : (o : Option Fault) → Ok tt ≡ judged o → o ≡ none
judged_sound none e = refl
judged_sound (some f) e = cc

pub judged_unsound : (o : Option Fault) (f : Fault) → Err f ≡ judged o → o ≡ some f
judged_unsound none f e = cc
judged_unsound (some g) f e = cc

-- what is left to ask of a frame that begins and ends right, with no end byte between
pub past_2 : (frame : List ℕ) {ends stray : Bool} {bytes : List ℕ} → ends ≡ not_framed frame → ends ≡ false → bytes ≡ between frame
    → stray ≡ has_stray_end bytes → stray ≡ false
    → first_row_of (frame_tests frame) ≡ cond (has_bad_substitution false bytes) (some (BadSubstitution (bad_place frame))) none
past_2 frame told ends inside found None-found = rw (← told, ends, ← inside, ← found, None-found)

pub or_two : (n : ℕ) (rest : Bool) → (ltb n 2 || rest) ≡ false → 2 ≤ n
or_two n rest e = go (ltb n 2) refl e
  where
    go : (t : Bool) → ltb n 2 ≡ t → (t || rest) ≡ false → 2 ≤ n
    go true p q = absurd (true≢false q)
    go false p q = ltb-false n 2 p

pub framed_two : (frame : List ℕ) → not_framed frame ≡ false → 2 ≤ length frame
framed_two frame e = or_two (length frame) _ e

-- the frame's first two tests told by a flag
module _ (frame : List ℕ) (flag : Bool) (told : flag ≡ (ltb (length frame) 2 || not (eqb (byte frame 0) 13))) where
  pub flag_true : flag ≡ true → flag ≡ not_framed frame
  flag_true t = go (ltb (length frame) 2) (not (eqb (byte frame 0) 13)) told
    where
      go : (a b : Bool) → flag ≡ (a || b) → flag ≡ (a || (b || not (eqb (byte frame (length frame - 1)) 10)))
      go true b e = e
      go false true e = e
      go false false e = absurd (true≢false (sym t ∙ e))

  pub flag_false : flag ≡ false → not (eqb (byte frame (length frame - 1)) 10) ≡ not_framed frame
  flag_false t = go (ltb (length frame) 2) (not (eqb (byte frame 0) 13)) told
    where
      go : (a b : Bool) → flag ≡ (a || b) → not (eqb (byte frame (length frame - 1)) 10) ≡ (a || (b || not (eqb (byte frame (length frame - 1)) 10)))
      go true b e = absurd (true≢false (sym e ∙ t))
      go false true e = absurd (true≢false (sym e ∙ t))
      go false false e = refl

pub sound_two : (frame : List ℕ) → first_row_of (frame_tests frame) ≡ none → 2 ≤ length frame
sound_two frame e = framed_two frame (first_false (not_framed frame) NotFramed _ e).0

pub sound_sized : (n room : ℕ) → first_row_of (length_tests n room) ≡ none → (6 ≤ n) × (n ≤ 246) × (n - 6 ≤ room)
sound_sized n room e =
    let a = first_false (ltb n 6) ShortMessage _ e in
    let b = first_false (ltb 246 n) LongMessage _ a.1 in
    let c = first_false (ltb room (n - 6)) NoRoom _ b.1 in
    (ltb-false _ _ a.0, ltb-false _ _ b.0, ltb-false _ _ c.0)

-- ---- the answer, group by group

pub refused_by_frame : (frame : List ℕ) (room : ℕ) (f : Fault) → first_row_of (frame_tests frame) ≡ some f → read_refusal frame room ≡ some f
unfolding read_refusal
refused_by_frame frame room f e = rw e

pub refused_reading : (frame : List ℕ) (room : ℕ) (f : Fault) → read_refusal frame room ≡ some f → Err f ≡ read_frame frame room
unfolding read_frame
refused_reading frame room f e = rw e

pub sound_reading : (frame bytes : List ℕ) (room : ℕ) (r : Reading) → first_row_of (frame_tests frame) ≡ none → bytes ≡ between frame
    → r ≡ read_answer (message_refusal (restored false bytes) room) (fields_of (restored false bytes)) → r ≡ read_frame frame room
unfolding read_frame read_refusal message_of
sound_reading frame bytes room r e b g = rw e (rw b at g)

pub sound_message : (frame bytes : List ℕ) → bytes ≡ between frame → restored false bytes ≡ message_of frame
unfolding message_of
sound_message frame bytes b = ap (restored false) b

pub refused_by_length : (message : List ℕ) (room n : ℕ) (f : Fault) → n ≡ length message → Err f ≡ judged (first_row_of (length_tests n room))
    → Err f ≡ read_answer (message_refusal message room) (fields_of message)
unfolding message_refusal
refused_by_length message room n f e u =
    let g : first_row_of (length_tests (length message) room) ≡ some f = rw e at (judged_unsound (first_row_of (length_tests n room)) f u) in
    rw g

pub sound_length : (message part : List ℕ) (room n : ℕ) (r : Reading) → n ≡ length message → part ≡ message → Ok tt ≡ judged (first_row_of (length_tests n room))
    → r ≡ read_answer (first_row_of (message_tests part)) (fields_of part) → r ≡ read_answer (message_refusal message room) (fields_of message)
unfolding message_refusal
sound_length message part room n r e p u g =
    let s : first_row_of (length_tests (length message) room) ≡ none = rw e at (judged_sound (first_row_of (length_tests n room)) u) in
    rw s (rw p at g)

-- ---- and back: what the answer tells

pub answer_refused : (o : Option Fault) (t : Fields) (f : Fault) → read_answer o t ≡ Err f → o ≡ some f
answer_refused none t f e = cc
answer_refused (some g) t f e = cc

pub answer_telegram : (o : Option Fault) (t u : Fields) → read_answer o t ≡ Ok u → (o ≡ none) × (u ≡ t)
answer_telegram none t u e = (refl, cc)
answer_telegram (some g) t u e = absurd (let z : ◌≡◌ {A = ℕ} 0 1 = cc in omega arith)

pub reading_refused : (frame : List ℕ) (room : ℕ) (f : Fault) → read_frame frame room ≡ Err f → read_refusal frame room ≡ some f
unfolding read_frame
reading_refused frame room f e = answer_refused (read_refusal frame room) (fields_in frame) f e

pub reading_telegram : (frame : List ℕ) (room : ℕ) (t : Fields) → read_frame frame room ≡ Ok t
    → (read_refusal frame room ≡ none) × (t ≡ fields_in frame)
unfolding read_frame
reading_telegram frame room t e = answer_telegram (read_refusal frame room) (fields_in frame) t e

-- an accepted frame has passed each group
pub accepted_groups : (frame : List ℕ) (room : ℕ) → read_refusal frame room ≡ none
    → (first_row_of (frame_tests frame) ≡ none) × (first_row_of (length_tests (length (message_of frame)) room) ≡ none) × (first_row_of (message_tests (message_of frame)) ≡ none)
unfolding read_refusal message_refusal
accepted_groups frame room e =
    let a = or-none (first_row_of (frame_tests frame)) (message_refusal (message_of frame) room) e in
    let b = or-none (first_row_of (length_tests (length (message_of frame)) room)) (first_row_of (message_tests (message_of frame))) a.1 in
    (a.0, b.0, b.1)

pub accepted_sized : (frame : List ℕ) (room : ℕ) → read_refusal frame room ≡ none
    → (6 ≤ length (message_of frame)) × (length (message_of frame) ≤ 246) × (length (message_of frame) - 6 ≤ room)
accepted_sized frame room e = sound_sized (length (message_of frame)) room (accepted_groups frame room e).1

pub telegram_facts : (frame : List ℕ) (room : ℕ) (t : Fields) → read_frame frame room ≡ Ok t
    → (read_refusal frame room ≡ none) × (t.size ≡ length (message_of frame) - 6) × (6 ≤ length (message_of frame)) × (length (message_of frame) ≤ 246)
unfolding fields_of
telegram_facts frame room t e =
    let a = reading_telegram frame room t e in
    let s = accepted_sized frame room a.0 in
    (a.0, ap (λ (u : Fields). u.size) a.1, s.0, s.1)

-- ---- the message's place in the reader's own space

pub whole_part : (message d last : List ℕ) (n : ℕ) → n ≡ length message → last ≡ over message d → length message ≤ length d → take (n - 0) last ≡ message
whole_part message d last n e laid h = rw (sub-zero, e, laid) (take-over message d h)

pub data_part : (message d last : List ℕ) (n : ℕ) → n ≡ length message - 6 → last ≡ over message d → 6 ≤ length message → length message ≤ length d
    → take (4 + n - 4) (drop 4 last) ≡ data_of message
unfolding data_of
data_part message d last n e laid lo h =
    let size : 4 + n - 4 ≡ length message - 6 = omega arith in
    rw (size, laid, over_is message d h, drop-append-le 4 message (drop (length message) d) (omega arith))
    (take-append-le (length message - 6) (drop 4 message) (drop (length message) d) (omega (arith, length-drop 4 message)))

-- ---- what passes a group

pub sized_passes : (n room : ℕ) → 6 ≤ n → n ≤ 246 → n - 6 ≤ room → first_row_of (length_tests n room) ≡ none
sized_passes n room lo hi h = simp (le-ltb n 6 lo, le-ltb 246 n hi, le-ltb room (n - 6) h)

pub message_passes : (m : List ℕ) → remainder_of m ≡ 0 → byte m 0 ≢ 0 → byte m 1 ≢ 0 → byte m 2 ≤ 9 → first_row_of (message_tests m) ≡ none
message_passes m r d s t = simp (eq-eqb (remainder_of m) 0 r, ne_eqb (byte m 0) 0 d, ne_eqb (byte m 1) 0 s, le-ltb 9 (byte m 2) t)

pub message_wrong : (m : List ℕ) (room : ℕ) → 6 ≤ length m → length m ≤ 246 → length m - 6 ≤ room → remainder_of m ≢ 0 → message_refusal m room ≡ some CheckFault
unfolding message_refusal
message_wrong m room lo hi h r = rw (sized_passes (length m) room lo hi h) (simp (ne_eqb (remainder_of m) 0 r))

-- an accepted message has a right remainder, no address 0 and a type up to 9
pub accepted_message : (frame : List ℕ) (room : ℕ) → read_refusal frame room ≡ none
    → (remainder_of (message_of frame) ≡ 0)
    × (byte (message_of frame) 0 ≢ 0) × (byte (message_of frame) 1 ≢ 0) × (byte (message_of frame) 2 ≤ 9)
accepted_message frame room e =
    let m : List ℕ = message_of frame in
    let check = first_false (not (eqb (remainder_of m) 0)) CheckFault _ (accepted_groups frame room e).2 in
    let address = first_false (eqb (byte m 0) 0 || eqb (byte m 1) 0) ZeroAddress _ check.1 in
    let sort = first_false (ltb 9 (byte m 2)) UnknownType _ address.1 in
    let no_zero = (decides_or (decides_eq (byte m 0) 0) (decides_eq (byte m 1) 0)).not_so address.0 in
    (eqb-true _ _ (not-false _ check.0), λ z. no_zero (inl z), λ z. no_zero (inr z), ltb-false _ _ sort.0)
