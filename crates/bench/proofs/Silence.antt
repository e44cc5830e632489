-- Which numbers mean silence, and what a telegram that is answered is: every reply is one that the reader accepts.
-- Assumes nothing.
use Rattle.std.specs.Prelude.{Ok, Err}
use mathlib.Core.Path.{◌≡◌, refl, sym, ◌∙◌}
use mathlib.Core.List.{List}
use mathlib.Core.Logic.{◌⊎◌, inl, inr, ⊎_elim}
use mathlib.Core.Option.{Option, some, none}
use Prim.Native.Nat.{ℕ, ◌≤◌, ◌<◌}
use native.Mathlib.Omega.{arith}
use native.Mathlib.Decide.{ℕ_discrete}
use lib.ListN.{length, take}
use Rattle.rows.proofs.Laws.{clash, or-none, refused_exactly, done_exactly, raised_none}
use Rattle.rows.specs.Rows.{First, or_later, raised}
use Rattle.telegram.specs.Read.{read_refusal, read_frame, Reads, fields_in, data_in}
use Rattle.telegram.specs.declared.Fault.{Fault as Unreadable}
use Rattle.telegram.specs.declared.Fault.TheVariants.{NotFramed, StrayEnd, BadSubstitution, ShortMessage, LongMessage, NoRoom, CheckFault, ZeroAddress, UnknownType}
use Rattle.telegram.specs.declared.Fields.{Fields}
use Rattle.telegram.specs.Answers.{Reading}
use Rattle.bench.specs.Register.{fault_number}
use Rattle.bench.specs.Take.{IsOtherAddress, IsNoRoom, take_rows, request_refusal, take_refusal, take_answer, deed_of, Takes, Answerable, MeansSilence}
use Rattle.bench.specs.declared.Bench.{Bench}
use Rattle.bench.specs.declared.Fault.{Fault}
use Rattle.bench.specs.declared.Fault.TheVariants.{Unread}
use Rattle.bench.specs.declared.AfterTake.{AfterTake}
use Rattle.bench.proofs.Deeds.{deed_reply}
use Rattle.bench.proofs.Laws.{never_6, request_ranked}
use Rattle.bench.proofs.Rules.{reply_reads}

-- what the reader refuses with 240 bytes of room
unread_number : (frame : List ℕ) (f : Unreadable) → read_refusal frame 240 ≡ some f → MeansSilence (fault_number (Unread f))
unread_number frame NotFramed e = inl (omega arith, omega arith)
unread_number frame StrayEnd e = inl (omega arith, omega arith)
unread_number frame (BadSubstitution place) e = inl (omega arith, omega arith)
unread_number frame ShortMessage e = inl (omega arith, omega arith)
unread_number frame LongMessage e = inl (omega arith, omega arith)
unread_number frame NoRoom e = absurd (never_6 frame e)
unread_number frame CheckFault e = inr (inl (omega arith, omega arith))
unread_number frame ZeroAddress e = inr (inl (omega arith, omega arith))
unread_number frame UnknownType e = inr (inl (omega arith, omega arith))

-- what rows 35 to 37 give
request_number : (bench : Bench) (t : Fields) (bytes : List ℕ) (room : ℕ) (f : Fault) → request_refusal bench t bytes room ≡ some f → MeansSilence (fault_number f)
unfolding take_rows
request_number bench t bytes room f e =
    ⊎_elim (λ h. as_given h.1 (omega arith) (omega arith))
    (λ a. ⊎_elim (λ h. as_given h.1 (omega arith) (omega arith))
    (λ b. ⊎_elim (λ h. as_given h.1 (omega arith) (omega arith)) (λ c. absurd c.1) b.1) a.1) first
  where
    as_given : {g : Fault} → f ≡ g → 35 ≤ fault_number g → fault_number g ≤ 37 → MeansSilence (fault_number f)
    as_given q low high = rw q (inr (inr (low, high)))

    first : First (take_rows bench t bytes room) f
    first = (refused_exactly (take_rows bench t bytes room) (request_refusal bench t bytes room) (request_ranked bench t bytes room) f).0 e

module _ (bench : Bench) (frame room : List ℕ) {r : AfterTake} {room' : List ℕ} (takes : Takes bench frame room r room') where
  -- these numbers, and no others
  pub silent_number : (f : Fault) → r.answer ≡ Err f → MeansSilence (fault_number f)
  unfolding take_refusal
  silent_number f e =
      go (read_refusal frame 240) (request_refusal bench (fields_in frame) (data_in frame) (length room)) refl refl
      (told_silent (take_refusal bench frame (length room)) _ (sym takes.0 ∙ e))
    where
      told_silent : (o : Option Fault) (reply : List ℕ) → take_answer o reply ≡ Err f → o ≡ some f
      told_silent none reply q = clash (cc)
      told_silent (some g) reply q = cc

      go : (o : Option Unreadable) (p : Option Fault) → read_refusal frame 240 ≡ o
          → request_refusal bench (fields_in frame) (data_in frame) (length room) ≡ p → or_later (raised Unread o) p ≡ some f
          → MeansSilence (fault_number f)
      go (some g) p read asked q = let same : Unread g ≡ f = cc in rw (← same) (unread_number frame g read)
      go none p read asked q = request_number bench (fields_in frame) (data_in frame) (length room) f (asked ∙ q)

  -- "so number 6 doesn't arise"
  pub take_never_6 : r.answer ≡ Err (Unread NoRoom) → ⊥
  take_never_6 e = ⊎_elim (λ h. omega (arith, h.1)) (λ a. ⊎_elim (λ h. omega (arith, h.0)) (λ h. omega (arith, h.0)) a) (silent_number (Unread NoRoom) e)

  -- what is answered was read, is for this bench, is a request, and its reply has room
  pub answered_so : (n : ℕ) → r.answer ≡ Ok n → Answerable bench frame (fields_in frame) (length room)
  unfolding take_refusal read_frame take_rows IsOtherAddress IsNoRoom
  answered_so n e =
      let both = or-none (raised Unread (read_refusal frame 240)) (request_refusal bench (fields_in frame) (data_in frame) (length room))
      (told_answered (take_refusal bench frame (length room)) _ (sym takes.0 ∙ e)) in
      let read = raised_none Unread (read_refusal frame 240) both.0 in
      let no = (done_exactly (take_rows bench (fields_in frame) (data_in frame) (length room)) _
      (request_ranked bench (fields_in frame) (data_in frame) (length room))).0 both.1 in
      record { read = rw read; ours = equal _ _ no.0; asks = no.1.0; roomy = under (length room) _ no.1.1.0 }
    where
      told_answered : (o : Option Fault) (reply : List ℕ) → take_answer o reply ≡ Ok n → o ≡ none
      told_answered none reply q = refl
      told_answered (some g) reply q = clash (cc)

      equal : (a b : ℕ) → ((a ≡ b → ⊥) → ⊥) → a ≡ b
      equal a b h = elim (ℕ_discrete a b) [ yes same ↦ same | no other ↦ absurd (h other) ]

      under : (a b : ℕ) → (a < b → ⊥) → b ≤ a
      under a b h = omega arith

  -- every reply is a telegram that the reader accepts, addressed to the asker, from the bench, with the register: a nack, an ack or a datagram
  pub every_reply : (n : ℕ) → r.answer ≡ Ok n → (buffer : List ℕ) (a : Reading) (buffer' : List ℕ) → 8 ≤ length buffer → Reads (take n room') buffer a buffer'
      → (t : Fields) × (read_frame frame 240 ≡ Ok t)
      × (u : Fields) × (a ≡ Ok u) × (u.destination ≡ t.source) × (u.source ≡ bench.address) × (u.register ≡ t.register)
      × ((u.sort ≡ 0) ⊎ ((u.sort ≡ 3) ⊎ (u.sort ≡ 8)))
  every_reply n e buffer a buffer' wide reads =
      let may = answered_so n e in
      let back = reply_reads bench frame (fields_in frame) room may takes n e buffer a buffer' wide reads
      (deed_of bench (fields_in frame) (data_in frame)) refl in
      (fields_in frame, may.read, _, back.0, refl, refl, refl, deed_reply bench (fields_in frame) (data_in frame))
