-- Between the tester and the line: what is added or set is shown and is read by telegram, and what a telegram wrote is shown.
-- Assumes nothing.
use Rattle.std.specs.Prelude.{Ok, Some, None}
use mathlib.Core.Path.{◌≡◌, sym, ap, ap₂, ◌∙◌}
use mathlib.Core.List.{List}
use mathlib.Core.Option.{none}
use Prim.Native.Nat.{ℕ, ◌≤◌}
use native.Mathlib.Omega.{arith}
use lib.ListN.{length, take}
use lib.Seq.{get_or-set_same}
use Rattle.lent.specs.Lent.{over}
use Rattle.lent.proofs.Laws.{take-over}
use Rattle.rows.proofs.Laws.{told_true, told_false}
use Rattle.telegram.specs.Read.{Reads, data_in}
use Rattle.telegram.specs.declared.Fields.{Fields}
use Rattle.telegram.specs.Answers.{Reading}
use Rattle.values.proofs.Bytes.{length-bytes_of}
use Rattle.values.proofs.Laws.{stored_means, stored_reads, reads_whole}
use Rattle.values.specs.Values.{size_of, natural, bytes_of, stored_at, stored_refusal, read_value}
use Rattle.values.specs.declared.Value.{Value}
use Rattle.deeds.specs.Deeds.{MayRead, MayWrite, datagram}
use Rattle.deeds.proofs.Deeds.{size_most}
use Rattle.deeds.proofs.Laws.{read_deed_lem}
use Rattle.deeds.specs.declared.Register.{Register}
use Rattle.bench.specs.Build.{Adds, Sets, add_refusal, set_refusal, with_register}
use Rattle.bench.specs.Register.{Held, Looks, no_register, register_at, place_of, named, meant, with_value}
use Rattle.bench.specs.Sound.{Sound}
use Rattle.bench.specs.Take.{Takes, Answerable}
use Rattle.bench.specs.declared.AfterBuild.{AfterBuild}
use Rattle.bench.specs.declared.AfterTake.{AfterTake}
use Rattle.bench.specs.declared.Bench.{Bench}
use Rattle.bench.specs.Answers.{Seen}
use Rattle.bench.proofs.Kept.{add_sound, held_place, only_place}
use Rattle.bench.proofs.Laws.{decides_held}
use Rattle.bench.proofs.Refusals.{built_done, add_done_so, set_done_so}
use Rattle.bench.proofs.Rules.{held_deed_lem, reply_reads, write_rule}
use Rattle.bench.proofs.Written.{named_after, still_held}

-- what is held is shown as it is
pub held_shown : (bench : Bench) (number : ℕ) {s : Seen} → Looks bench number s → Held bench number → s ≡ Some (named bench number)
held_shown bench number looks h = looks ∙ rw (told_true (decides_held bench number) h)

pub unheld_shown : (bench : Bench) (number : ℕ) {s : Seen} → Looks bench number s → (Held bench number → ⊥) → s ≡ None
unheld_shown bench number looks n = looks ∙ rw (told_false (decides_held bench number) n)

-- ---- "each with a kind, rights and a value, 0 when added"

pub added_shown : (address : ℕ) (bench : Bench) → Sound address bench → (number kind rights : ℕ) {r : AfterBuild} → Adds bench number kind rights r
    → r.answer ≡ Ok tt → {s : Seen} → Looks r.bench number s → s ≡ Some (record { number = number; kind = kind; rights = rights; value = 0 })
added_shown address bench s number kind rights {r} adds done looks =
    let allowed = built_done (add_refusal bench number kind rights) (sym adds.0 ∙ done) in
    let free = add_done_so bench number kind rights allowed in
    let after : r.bench ≡ with_register bench number kind rights = adds.1 ∙ rw allowed in
    let here : register_at r.bench bench.count ≡ new =
    ap (λ (b : Bench). register_at b bench.count) after
    ∙ get_or-set_same bench.registers bench.count new no_register (omega (arith, s.places, free.1)) in
    let there = ap (λ (x : Register). x.number) here in
    let count = ap (λ (b : Bench). b.count) after in
    let sound = add_sound address bench s number kind rights adds in
    let place = only_place address r.bench number bench.count sound (omega (arith, count)) there in
    held_shown r.bench number looks (bench.count, omega (arith, count, free.1), there)
    ∙ ap Some (ap (register_at r.bench) place ∙ here)
  where
    new : Register
    new = record { number = number; kind = kind; rights = rights; value = 0 }

-- ---- "The tester may set a held register to any number of its kind, whatever the rights": then it has that number

module _ (address : ℕ) (bench : Bench) (s : Sound address bench) (number : ℕ) (value : Value) {r : AfterBuild} (sets : Sets bench number value r)
    (done : r.answer ≡ Ok tt) where
  abbrev kind : ℕ
  kind = (named bench number).kind

  abbrev stored : ℕ
  stored = stored_at (size_of kind) value

  allowed : set_refusal bench number value ≡ none
  allowed = built_done (set_refusal bench number value) (sym sets.0 ∙ done)

  fits : stored_refusal kind value ≡ none
  fits = (set_done_so bench number value allowed).1

  held : Held bench number
  held = (decides_held bench number).so (set_done_so bench number value allowed).0

  after : r.bench ≡ with_value bench (place_of bench number) stored
  after = sets.1 ∙ rw allowed

  still : Held r.bench number
  still = rw after (still_held bench (place_of bench number) stored number held)

  register_now : named r.bench number
      ≡ record { number = (named bench number).number; kind = kind; rights = (named bench number).rights; value = stored }
  register_now = ap (λ (b : Bench). named b number) after ∙ named_after address bench s number stored held

  pub set_shown : {seen_so : Seen} → Looks r.bench number seen_so
      → (register : Register) × (seen_so ≡ Some register) × (register.kind ≡ kind) × (register.rights ≡ (named bench number).rights) × (meant register ≡ value)
  set_shown looks = (
    named r.bench number,
    held_shown r.bench number looks still,
    ap (λ (x : Register). x.kind) register_now,
    ap (λ (x : Register). x.rights) register_now,
    ap meant register_now ∙ (stored_means kind value fits).1,
  )

  -- and whoever reads it by telegram is answered that number
  pub set_read : (frame : List ℕ) (t : Fields) (room : List ℕ) {a : AfterTake} {room' : List ℕ} → Answerable r.bench frame t (length room)
      → Takes r.bench frame room a room' → t.register ≡ number → MayRead (named bench number) t.sort (data_in frame)
      → (n : ℕ) → a.answer ≡ Ok n → (buffer : List ℕ) (q : Reading) (buffer' : List ℕ) → 8 ≤ length buffer → Reads (take n room') buffer q buffer'
      → (u : Fields) × (q ≡ Ok u) × (read_value kind (take u.size buffer') 0 ≡ Ok value)
  set_read frame t room may takes same reading n answered buffer q buffer' wide reads =
      let there : named r.bench t.register
      ≡ record { number = (named bench number).number; kind = kind; rights = (named bench number).rights; value = stored } =
      ap (named r.bench) same ∙ register_now in
      let held_now : Held r.bench t.register = rw same still in
      let deed = held_deed_lem r.bench t (data_in frame) held_now _ (read_deed_lem (named r.bench t.register) t.sort (data_in frame) (rw there reading)) in
      let back = reply_reads r.bench frame t room may takes n answered buffer q buffer' wide reads (datagram (named r.bench t.register)) deed in
      let shown = rw there at back in
      let first : take (size_of kind) buffer' ≡ bytes_of (size_of kind) stored = first_bytes shown.1 in
      (_, shown.0, ap (λ (bytes : List ℕ). read_value kind bytes 0) first ∙ stored_reads kind value fits)
    where
      first_bytes : buffer' ≡ over (bytes_of (size_of kind) stored) buffer → take (size_of kind) buffer' ≡ bytes_of (size_of kind) stored
      first_bytes e =
          ap₂ (λ (k : ℕ) (l : List ℕ). take k l) (sym (length-bytes_of (size_of kind) stored)) e
          ∙ take-over (bytes_of (size_of kind) stored) buffer (omega (arith, length-bytes_of (size_of kind) stored, size_most kind, wide))

-- ---- what a telegram wrote is shown as the number that its bytes mean

pub written_shown : (address : ℕ) (bench : Bench) → Sound address bench → (frame : List ℕ) (t : Fields) (room : List ℕ)
    → Answerable bench frame t (length room) → {r : AfterTake} {room' : List ℕ} → Takes bench frame room r room'
    → Held bench t.register → MayWrite (named bench t.register) t.sort (data_in frame) → {seen_so : Seen} → Looks r.bench t.register seen_so
    → (register : Register) × (seen_so ≡ Some register) × (read_value register.kind (data_in frame) 0 ≡ Ok (meant register))
written_shown address bench s frame t room may {r} takes h writes looks =
    let number = t.register in
    let wrote = (write_rule bench frame t room may takes h writes).1 in
    let now : named r.bench number
    ≡ record { number = (named bench number).number; kind = (named bench number).kind; rights = (named bench number).rights; value = natural (data_in frame) } =
    ap (λ (b : Bench). named b number) wrote ∙ named_after address bench s number (natural (data_in frame)) h in
    let still : Held r.bench number = rw wrote (still_held bench (place_of bench number) (natural (data_in frame)) number h) in
    let right = s.each (place_of bench number) (omega (arith, (held_place bench number (told_true (decides_held bench number) h)).0)) in (
      named r.bench number,
      held_shown r.bench number looks still,
      rw now (reads_whole (named bench number).kind (data_in frame) right.least right.most writes.2),
    )
