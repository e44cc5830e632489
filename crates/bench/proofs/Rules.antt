-- The four rules of a telegram for the bench, in the paper's words, and what every reply is.
-- Assumes nothing.
use Rattle.bench.specs.Answers.{Taking}
use Rattle.std.specs.Prelude.{Ok}
use Rattle.deeds.specs.Deeds.{HasRight, nack, ack, datagram, held_deed, MayRead, MayWrite, MayChange, Small}
use Rattle.deeds.proofs.Laws.{read_deed_lem, write_deed_lem, set_deed, clear_deed, toggle_deed, other_deed}
use Rattle.rows.proofs.Laws.{told_true, told_false, done_exactly}
use Rattle.telegram.specs.Answers.{Reading}
use Rattle.telegram.specs.Read.{Reads, fields_in, data_in}
use mathlib.Core.Path.{◌≡◌, refl, sym, ◌∙◌}
use mathlib.Core.Bool.{Bool, true, false, cond}
use mathlib.Core.List.{List, []}
use mathlib.Core.Option.{none}
use Prim.Native.Nat.{ℕ, ◌≤◌}
use native.Mathlib.Omega.{arith}
use lib.ListN.{length, take}
use lib.Seq.{set-get_or}
use Rattle.lent.specs.Lent.{over}
use Rattle.telegram.proofs.Judge.{reading_telegram}
use Rattle.telegram.proofs.Laws.{reads_back}
use Rattle.telegram.specs.Write.{telegram_for}
use Rattle.values.proofs.Bytes.{length-bytes_of}
use Rattle.values.specs.Values.{size_of, natural, bytes_of, set_bits, clear_bits, toggle_bits}
use Rattle.telegram.specs.declared.Fields.{Fields}
use Rattle.bench.proofs.Answering.{wrote_so, addressed}
use Rattle.bench.proofs.Deeds.{deed_small}
use Rattle.bench.proofs.Laws.{decides_held, request_ranked}
use Rattle.bench.specs.Register.{Held, no_register, place_of, named, is_held, with_value}
use Rattle.bench.specs.Take.{deed_of, reply_for, reply_of, IsOtherAddress, IsNoRoom, take_rows, request_refusal, take_refusal, done_to, Takes, Answerable, Gives}
use Rattle.bench.specs.declared.Bench.{Bench}
use Rattle.deeds.specs.declared.Deed.{Deed}
use Rattle.bench.specs.declared.AfterTake.{AfterTake}

pub held_deed_lem : (bench : Bench) (t : Fields) (bytes : List ℕ) → Held bench t.register → (deed : Deed)
    → held_deed (named bench t.register) t.sort bytes ≡ deed → deed_of bench t bytes ≡ deed
unfolding deed_of
held_deed_lem bench t bytes h deed e = rw (told_true (decides_held bench t.register) h) e

module _ (bench : Bench) (frame : List ℕ) (t : Fields) (room : List ℕ) (may : Answerable bench frame t (length room)) where
  bytes : List ℕ
  bytes = data_in frame

  -- nothing keeps the bench silent
  pub no_refusal : take_refusal bench frame (length room) ≡ none
  unfolding take_refusal take_rows bytes IsOtherAddress IsNoRoom
  no_refusal =
      let read = reading_telegram frame 240 t may.read in
      let none_of : request_refusal bench t bytes (length room) ≡ none =
      (done_exactly (take_rows bench t bytes (length room)) _ (request_ranked bench t bytes (length room))).1
      ((λ n. n may.ours), (may.asks, ((λ l. omega (arith, may.roomy)), tt))) in
      rw read.0 (rw read.1 at none_of)

  module _ {r : AfterTake} {room' : List ℕ} (takes : Takes bench frame room r room') where
    -- whatever the deed is, it is done and answered
    gives : (deed : Deed) (after : Bench) → deed_of bench t (data_in frame) ≡ deed → done_to bench t.register deed ≡ after
        → Gives bench t room deed.sort (bytes_of deed.size deed.value) after r room'
    unfolding reply_of reply_for
    gives deed after d a =
        let is : t ≡ fields_in frame = (reading_telegram frame 240 t may.read).1 in
        let given = rw (no_refusal, ← is, d) at takes in
        (given.0, given.1 ∙ a, given.2)

    changes : Held bench t.register → (deed : Deed) → done_to bench t.register deed ≡ with_value bench (place_of bench t.register) deed.value
    unfolding done_to
    changes h deed = rw (told_true (decides_held bench t.register) h)

    stays : (deed : Deed) → deed.value ≡ (named bench t.register).value → done_to bench t.register deed ≡ bench
    unfolding done_to
    stays deed e = go (is_held bench t.register)
      where
        go : (b : Bool) → cond b (with_value bench (place_of bench t.register) deed.value) bench ≡ bench
        go true = rw (e, set-get_or bench.registers (place_of bench t.register) no_register)
        go false = refl

    module _ (h : Held bench t.register) where
      -- "read with the right and no data: a datagram with the value"
      pub read_rule : MayRead (named bench t.register) t.sort (data_in frame)
          → Gives bench t room 8 (bytes_of (size_of (named bench t.register).kind) (named bench t.register).value) bench r room'
      read_rule m = gives (datagram (named bench t.register)) bench (held_deed_lem bench t (data_in frame) h _ (read_deed_lem _ _ _ m)) (stays _ refl)

      acks : (value : ℕ) → held_deed (named bench t.register) t.sort (data_in frame) ≡ ack value
          → Gives bench t room 3 [] (with_value bench (place_of bench t.register) value) r room'
      unfolding bytes_of
      acks value e = gives (ack value) _ (held_deed_lem bench t (data_in frame) h _ e) (changes h _)

      -- "write with the right and exactly the kind's size of data: ack, and the value is those bytes"
      pub write_rule : MayWrite (named bench t.register) t.sort (data_in frame)
          → Gives bench t room 3 [] (with_value bench (place_of bench t.register) (natural (data_in frame))) r room'
      write_rule m = acks _ (write_deed_lem _ _ _ m)

      -- "set, clear or toggle with right 4 and that size: ack"
      module _ (right : HasRight (named bench t.register) 4) (size : length (data_in frame) ≡ size_of (named bench t.register).kind) where
        pub set_rule : t.sort ≡ 6
            → Gives bench t room 3 []
            (with_value bench (place_of bench t.register) (set_bits (named bench t.register).value (natural (data_in frame)))) r room'
        set_rule e = acks _ (set_deed _ _ _ right size e)

        pub clear_rule : t.sort ≡ 7
            → Gives bench t room 3 []
            (with_value bench (place_of bench t.register) (clear_bits (named bench t.register).value (natural (data_in frame)))) r room'
        clear_rule e = acks _ (clear_deed _ _ _ right size e)

        pub toggle_rule : t.sort ≡ 9
            → Gives bench t room 3 []
            (with_value bench (place_of bench t.register) (toggle_bits (named bench t.register).value (natural (data_in frame)))) r room'
        toggle_rule e = acks _ (toggle_deed _ _ _ right size e)

      -- "anything else [..]: nack, nothing changed"
      pub nack_rule : (MayRead (named bench t.register) t.sort (data_in frame) → ⊥)
          → (MayWrite (named bench t.register) t.sort (data_in frame) → ⊥)
          → (MayChange (named bench t.register) t.sort (data_in frame) → ⊥)
          → Gives bench t room 0 [] bench r room'
      unfolding bytes_of
      nack_rule no_read no_write no_change =
          gives (nack (named bench t.register).value) bench (held_deed_lem bench t (data_in frame) h _ (other_deed _ _ _ no_read no_write no_change)) (stays _ refl)

    -- "an unknown register included"
    pub unknown_rule : (Held bench t.register → ⊥) → Gives bench t room 0 [] bench r room'
    unfolding bytes_of deed_of done_to
    unknown_rule n =
        let not_there : is_held bench t.register ≡ false = told_false (decides_held bench t.register) n in
        gives (nack 0) bench (rw not_there) (rw not_there)

    -- every reply is a telegram that the reader accepts, from the bench to the asker, with the register
    pub reply_reads : (n : ℕ) → r.answer ≡ Ok n → (buffer : List ℕ) (a : Reading) (buffer' : List ℕ) → 8 ≤ length buffer → Reads (take n room') buffer a buffer'
        → (deed : Deed) → deed_of bench t (data_in frame) ≡ deed
        → (a ≡ Ok (record { destination = t.source; source = bench.address; sort = deed.sort; register = t.register; size = deed.size }))
        × (buffer' ≡ over (bytes_of deed.size deed.value) buffer)
    unfolding reply_of reply_for
    reply_reads n e buffer a buffer' wide reads deed d =
        let bytes = bytes_of deed.size deed.value in
        let given = gives deed _ d refl in
        let small : Small deed = rw d at (deed_small bench t (data_in frame)) in
        let ends = addressed frame t may.read in
        let size : length (bytes_of deed.size deed.value) ≡ deed.size = length-bytes_of deed.size deed.value in
        let wrote =
        wrote_so bench t deed ends.1 (λ z. ends.0 (may.ours ∙ z)) small bytes refl room room' (rw d at may.roomy) given.2 in
        let same : n ≡ length (telegram_for t.source bench.address deed.sort t.register (bytes_of deed.size deed.value)) =
        answered_same (sym e ∙ given.0) in
        let back =
        reads_back t.source bench.address deed.sort t.register bytes room n room' (rw same wrote) buffer a buffer'
        (omega (arith, small.1)) reads in
        rw size at back
      where
        answered_same : {m k : ℕ} → ◌≡◌ {A = Taking} (Ok m) (Ok k) → m ≡ k
        answered_same q = cc
