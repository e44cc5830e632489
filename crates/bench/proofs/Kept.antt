-- What every call keeps of a bench, and so any sequence of calls; and what was written, read again.
-- Assumes nothing.
use Rattle.std.specs.Prelude.{Ok}
use Rattle.deeds.specs.Deeds.{nack, held_deed}
use Rattle.deeds.proofs.Laws.{deed_fits}
use Rattle.rows.proofs.Laws.{told_true, clash}
use mathlib.Core.Path.{◌≡◌, refl, sym, ap, ◌∙◌}
use mathlib.Core.Bool.{Bool, true, false, cond}
use mathlib.Core.List.{List, [], ◌∷◌}
use mathlib.Core.Logic.{◌≢◌}
use mathlib.Core.Option.{Option, some, none}
use Prim.Native.Nat.{ℕ, ◌-◌, ◌*◌, ◌^◌, ◌≤◌, ◌<◌}
use native.Mathlib.Omega.{arith}
use native.Mathlib.Decide.{dec_le, dec_lt, ℕ_discrete}
use borrow.Author.Tests.{ltb-true, eqb-true}
use lib.Dec.{eqb}
use lib.ListN.{length, get_or, drop, length-set}
use lib.Seq.{set_out, get_or-set_same, get_or-set_other}
use lib.Pow.{pow_pos}
use Rattle.first.proofs.Laws.{ended, first-same}
use Rattle.frame.specs.Frame.{AllBytes, message_of}
use Rattle.rows.specs.Rows.{Ranked}
use Rattle.telegram.proofs.Laws.{all-at, all_message}
use Rattle.telegram.specs.Read.{data_of, fields_in, data_in}
use Rattle.values.proofs.Bytes.{bytes_take, bytes_drop}
use Rattle.values.proofs.Laws.{stored_means}
use Rattle.values.specs.Values.{size_of, stored_at, Bytes}
use Rattle.values.specs.declared.Value.{Value}
use Rattle.bench.specs.Register.{Held, no_register, empty_bench, register_at, held_count, place_of, named, is_held, with_value}
use Rattle.bench.specs.Build.{build_answer, build_bench, IsNotAModule, make_rows, make_refusal, Makes}
use Rattle.bench.specs.Build.{IsWrongKind, IsWrongRights, IsThere, IsFull, add_rows, add_refusal, with_register, Adds, set_refusal, Sets}
use Rattle.bench.specs.Sound.{to_add, to_set, to_take, Right, Sound, Call, Calls, AfterCalls, BytesOnly}
use Rattle.bench.proofs.Laws.{decides_held, make_ranked, add_ranked}
use Rattle.bench.proofs.Refusals.{set_done_so}
use Rattle.bench.specs.Take.{deed_of, reply_of, take_refusal, take_answer, done_to, take_bench, take_room, Takes}
use Rattle.deeds.specs.declared.Register.{Register}
use Rattle.bench.specs.declared.Bench.{Bench}
use Rattle.bench.specs.declared.Fault.{Fault}
use Rattle.bench.specs.declared.AfterBuild.{AfterBuild}
use Rattle.bench.specs.declared.AfterTake.{AfterTake}

-- ---- a register's value changed

module _ (bench : Bench) (place value : ℕ) where
  abbrev after : Bench
  after = with_value bench place value

  abbrev fresh : Register
  fresh =
      record { number = (register_at bench place).number; kind = (register_at bench place).kind; rights = (register_at bench place).rights; value = value }

  pub changed_here : place < length bench.registers → register_at after place ≡ fresh
  changed_here h = get_or-set_same bench.registers place fresh no_register h

  pub changed_other : (i : ℕ) → i ≢ place → register_at after i ≡ register_at bench i
  changed_other i n = get_or-set_other bench.registers place i fresh no_register n

  -- what holds of the old register for its number, kind and rights holds of the new
  same_but_value : {A : Type 0} (part : Register → A) → part fresh ≡ part (register_at bench place) → (i : ℕ) → part (register_at after i) ≡ part (register_at bench i)
  same_but_value part e i = elim (ℕ_discrete i place) [
    | yes same ↦ rw same (elim (dec_lt place (length bench.registers)) [
      | yes h ↦ ap part (changed_here h) ∙ e
      | no h ↦ ap (λ (l : List Register). part (get_or l place no_register)) (set_out bench.registers place fresh (omega arith))
    ])
    | no other ↦ ap part (changed_other i other)
  ]

  pub number_stays : (i : ℕ) → (register_at after i).number ≡ (register_at bench i).number
  number_stays = same_but_value (λ r. r.number) refl

  -- so each register is found where it was
  pub place-stays : (number : ℕ) → place_of after number ≡ place_of bench number
  unfolding place_of
  place-stays number =
      first-same (λ p. eqb (register_at after p).number number) (λ p. eqb (register_at bench p).number number) (held_count bench)
      (λ i l. ap (λ (x : ℕ). eqb x number) (number_stays i))

  value_sound : (address : ℕ) → Sound address bench → place < bench.count → value < 2 ^ (8 * size_of (register_at bench place).kind) → Sound address after
  value_sound address s h v =
      record {
        here = s.here;
        lowest = s.lowest;
        highest = s.highest;
        few = s.few;
        places = length-set bench.registers place fresh ∙ s.places;
        each = λ i l. elim (ℕ_discrete i place) [
          | yes same ↦ rw (same, changed_here (omega (arith, s.places, s.few))) (here_right (s.each place h))
          | no other ↦ rw (changed_other i other) (s.each i l)
        ];
        once = λ i j li lj e. s.once i j li lj (sym (number_stays i) ∙ e ∙ number_stays j);
      }
    where
      here_right : Right (register_at bench place) → Right fresh
      here_right r = record { least = r.least; most = r.most; rights = r.rights; value = v }

-- ---- where a register is held

pub held_place : (bench : Bench) (number : ℕ) → is_held bench number ≡ true
    → (place_of bench number < held_count bench) × ((register_at bench (place_of bench number)).number ≡ number)
unfolding place_of
held_place bench number e =
    let l = ltb-true (place_of bench number) (held_count bench) e in
    (l, eqb-true _ _ ((ended (λ place. eqb (register_at bench place).number number) (held_count bench)).there l))

-- a made bench holds a register at one place only, and that is where it is found
pub only_place : (address : ℕ) (bench : Bench) (number place : ℕ) → Sound address bench → place < bench.count → (register_at bench place).number ≡ number
    → place_of bench number ≡ place
only_place address bench number place s h e =
    let found = held_place bench number (told_true (decides_held bench number) (place, omega (arith, s.few), e)) in
    s.once (place_of bench number) place (omega (arith, found.0)) h (found.1 ∙ sym e)

-- ---- "It has one address and up to 32 registers": made, added, set

-- a range that is not missed
between : (low high n : ℕ) → (((low ≤ n) × (n ≤ high) → ⊥) → ⊥) → (low ≤ n) × (n ≤ high)
between low high n h = elim (dec_le low n) [
  | yes l ↦ elim (dec_le n high) [ yes u ↦ (l, u) | no u ↦ absurd (h (λ w. omega (arith, w.1))) ]
  | no l ↦ absurd (h (λ w. omega (arith, w.0)))
]

pub make_sound : (address : ℕ) {r : AfterBuild} → Makes address r → r.answer ≡ Ok tt → Sound address r.bench
unfolding make_rows IsNotAModule
make_sound address p e = go (make_refusal address) (make_ranked address) (sym p.0 ∙ e) p.1
  where
    go : (o : Option Fault) {b : Bench} → Ranked (make_rows address) o → build_answer o ≡ Ok tt → b ≡ build_bench o (empty_bench 0) (empty_bench address) → Sound address b
    go (some f) k a q = clash (cc)
    go none k a q =
        let range = between 1 160 address k.0 in
        rw q
        (record {
          here = refl;
          lowest = range.0;
          highest = range.1;
          few = omega arith;
          places = refl;
          each = λ i l. absurd (omega arith);
          once = λ i j li lj e. absurd (omega arith);
        })

module _ (address : ℕ) (bench : Bench) (s : Sound address bench) where
  module _ (number kind rights : ℕ) where
    abbrev added : Bench
    added = with_register bench number kind rights

    abbrev new : Register
    new = record { number = number; kind = kind; rights = rights; value = 0 }

    added_sound : (1 ≤ kind) × (kind ≤ 7) → rights ≤ 7 → (Held bench number → ⊥) → bench.count < 32 → Sound address added
    added_sound k r unheld room =
        record {
          here = s.here;
          lowest = s.lowest;
          highest = s.highest;
          few = omega arith;
          places = length-set bench.registers bench.count new ∙ s.places;
          each = λ i l. elim (ℕ_discrete i bench.count) [
            | yes same ↦ rw (same, here_now) (record { least = k.0; most = k.1; rights = r; value = pow_pos (8 * size_of kind) })
            | no other ↦ rw (other_now i other) (s.each i (omega arith))
          ];
          once = λ i j li lj e. elim (ℕ_discrete i bench.count) [
            | yes si ↦ elim (ℕ_discrete j bench.count) [
              | yes sj ↦ si ∙ sym sj
              | no nj ↦ absurd (taken j (omega arith) (sym (ap (λ (x : Register). x.number) (other_now j nj)) ∙ sym e ∙ number_here i si))
            ]
            | no ni ↦ elim (ℕ_discrete j bench.count) [
              | yes sj ↦ absurd (taken i (omega arith) (sym (ap (λ (x : Register). x.number) (other_now i ni)) ∙ e ∙ number_here j sj))
              | no nj ↦ s.once i j (omega arith) (omega arith)
                  (sym (ap (λ (x : Register). x.number) (other_now i ni)) ∙ e ∙ ap (λ (x : Register). x.number) (other_now j nj))
            ]
          ];
        }
      where
        here_now : register_at added bench.count ≡ new
        here_now = get_or-set_same bench.registers bench.count new no_register (omega (arith, s.places))

        other_now : (i : ℕ) → i ≢ bench.count → register_at added i ≡ register_at bench i
        other_now i n = get_or-set_other bench.registers bench.count i new no_register n

        number_here : (i : ℕ) → i ≡ bench.count → (register_at added i).number ≡ number
        number_here i e = rw e (ap (λ (x : Register). x.number) here_now)

        taken : (i : ℕ) → i < bench.count → (register_at bench i).number ≡ number → ⊥
        taken i l e = unheld (i, omega (arith, s.few), e)

    pub add_sound : {r : AfterBuild} → Adds bench number kind rights r → Sound address r.bench
    unfolding add_rows IsWrongKind IsWrongRights IsThere IsFull
    add_sound p = go (add_refusal bench number kind rights) (add_ranked bench number kind rights) p.1
      where
        go : (o : Option Fault) {b : Bench} → Ranked (add_rows bench number kind rights) o → b ≡ build_bench o bench added → Sound address b
        go (some f) k q = rw q s
        go none k q =
            rw q (added_sound (between 1 7 kind k.0) (under rights 7 k.1.0) k.1.1.0 (short k.1.1.1.0))
          where
            under : (a b : ℕ) → (b < a → ⊥) → a ≤ b
            under a b n = omega arith

            short : (32 ≤ bench.count → ⊥) → bench.count < 32
            short n = omega arith

  -- a value put into a register where it is found
  found_sound : (number value : ℕ) → is_held bench number ≡ true → value < 2 ^ (8 * size_of (named bench number).kind)
      → Sound address (with_value bench (place_of bench number) value)
  found_sound number value h v = value_sound bench (place_of bench number) value address s (omega (arith, (held_place bench number h).0)) v

  found_right : (number : ℕ) → is_held bench number ≡ true → Right (named bench number)
  found_right number h = s.each (place_of bench number) (omega (arith, (held_place bench number h).0))

  pub set_sound : (number : ℕ) (value : Value) {r : AfterBuild} → Sets bench number value r → Sound address r.bench
  set_sound number value p = go (set_refusal bench number value) refl p.1
    where
      go : (o : Option Fault) {b : Bench} → set_refusal bench number value ≡ o
          → b ≡ build_bench o bench (with_value bench (place_of bench number) (stored_at (size_of (named bench number).kind) value)) → Sound address b
      go (some f) e q = rw q s
      go none e q =
          let so = set_done_so bench number value e in
          rw q (found_sound number (stored_at (size_of (named bench number).kind) value) so.0 (stored_means (named bench number).kind value so.1).0)

-- ---- a telegram taken

-- the data of a frame of bytes are bytes
pub data_bytes : (frame : List ℕ) → AllBytes frame → Bytes (data_in frame)
unfolding data_of
data_bytes frame p =
    bytes_take (length (message_of frame) - 6) (drop 4 (message_of frame)) (bytes_drop 4 (message_of frame) (λ i. all-at (message_of frame) i (all_message frame p)))

pub take-sound : (address : ℕ) (bench : Bench) → Sound address bench → (frame room : List ℕ) {r : AfterTake} {room' : List ℕ} → AllBytes frame
    → Takes bench frame room r room' → Sound address r.bench
unfolding done_to deed_of
take-sound address bench s frame room each p = go (take_refusal bench frame (length room)) p.1
  where
    held : (b : Bool) → is_held bench (fields_in frame).register ≡ b
        → Sound address
        (cond b
        (with_value bench (place_of bench (fields_in frame).register)
        (cond b (held_deed (named bench (fields_in frame).register) (fields_in frame).sort (data_in frame)) (nack 0)).value) bench)
    held false e = s
    held true e =
        found_sound address bench s (fields_in frame).register _ e
        (deed_fits _ (found_right address bench s (fields_in frame).register e).value (fields_in frame).sort (data_in frame) (data_bytes frame each))

    go : (o : Option Fault) {b : Bench}
        → b ≡ take_bench o bench (done_to bench (fields_in frame).register (deed_of bench (fields_in frame) (data_in frame))) → Sound address b
    go (some f) q = rw q s
    go none q = rw q (held (is_held bench (fields_in frame).register) refl)

-- ---- from a made bench and after any calls: at most 32 registers, no register twice, each value fits its kind, the address is as made and 1 to 160

pub call_sound : (address : ℕ) (bench : Bench) → Sound address bench → (call : Call) (after : Bench) → Calls bench call after → Sound address after
call_sound address bench s (to_add number kind rights) after h = rw h.2 (add_sound address bench s number kind rights h.1)
call_sound address bench s (to_set number value) after h = rw h.2 (set_sound address bench s number value h.1)
call_sound address bench s (to_take frame room) after h = rw h.4 (take-sound address bench s frame room h.2 h.3)

pub calls_sound : (address : ℕ) (bench : Bench) → Sound address bench → (calls : List Call) (after : Bench) → AfterCalls bench calls after → Sound address after
calls_sound address bench s [] after h = rw h s
calls_sound address bench s (call ∷ calls) after h = calls_sound address h.0 (call_sound address bench s call h.0 h.1) calls after h.2

pub made_sound : (address : ℕ) {r : AfterBuild} → Makes address r → r.answer ≡ Ok tt → (calls : List Call) (after : Bench) → AfterCalls r.bench calls after
    → Sound address after
made_sound address p e = calls_sound address _ (make_sound address p e)

-- ---- "Any bytes, any numbers, any order of calls get an answer."

pub any_calls : (bench : Bench) (calls : List Call) → BytesOnly calls → (after : Bench) × AfterCalls bench calls after
any_calls bench [] bytes = (bench, refl)
any_calls bench (to_add number kind rights ∷ calls) bytes =
    let rest = any_calls (build_bench (add_refusal bench number kind rights) bench (with_register bench number kind rights)) calls bytes in
    (rest.0, (_, (record { bench = _; answer = build_answer (add_refusal bench number kind rights) }, (refl, refl), refl), rest.1))
any_calls bench (to_set number value ∷ calls) bytes =
    let rest = any_calls
    (build_bench (set_refusal bench number value) bench (with_value bench (place_of bench number) (stored_at (size_of (named bench number).kind) value))) calls bytes in
    (rest.0, (_, (record { bench = _; answer = build_answer (set_refusal bench number value) }, (refl, refl), refl), rest.1))
any_calls bench (to_take frame room ∷ calls) bytes =
    let refusal = take_refusal bench frame (length room) in
    let reply = reply_of bench (fields_in frame) (data_in frame) in
    let rest = any_calls (take_bench refusal bench (done_to bench (fields_in frame).register (deed_of bench (fields_in frame) (data_in frame)))) calls bytes.1 in
    (rest.0, (_, (record { bench = _; answer = take_answer refusal reply }, take_room refusal reply room, bytes.0, (refl, refl, refl), refl), rest.1))
