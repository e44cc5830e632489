-- What is promised of the bench, each law under the sentence of the paper that it keeps. The rules of a request are in Rules.antt, what
-- every call keeps in Kept.antt.
-- Assumes nothing.
use Rattle.std.specs.Prelude.{Ok, Err}
use Rattle.rows.proofs.Settled.{settled, settled_parts}
use Rattle.rows.specs.Settled.{Settled}
use Rattle.rows.proofs.Laws.{Decides, decides_lt, decides_le, decides_eq, decides_not, decides_or, decides_and, decides_as}
use Rattle.rows.proofs.Laws.{ranked, ranked_append, ranked_up, ◌otherwise◌, refused_exactly, numbered, clash}
use Rattle.rows.specs.Rows.{passed_up, raised, Row, First, Ranked, numbers_of, apart, Numbered}
use Rattle.telegram.specs.declared.Fault.{Fault as Unreadable}
use Rattle.telegram.specs.Read.{read_rows, read_refusal, IsLong, OverRoom, read_frame, fields_in, data_in}
use Rattle.telegram.proofs.Ranking.{read_ranked}
use Rattle.remainder.specs.Remainder.{remainder_of, combined, AlteredNearby}
use Rattle.remainder.proofs.Laws.{burst_seen, nearby_burst}
use Rattle.bench.specs.Register.{Held, Numbers, fault_number, empty_bench, register_at, held_count, place_of, named, is_held, with_value, Looks}
use Rattle.bench.specs.Build.{build_answer, build_told, build_bench, IsNotAModule, make_rows, make_tests, make_refusal, Makes}
use Rattle.bench.specs.Build.{IsWrongKind, IsWrongRights, IsThere, IsFull, add_rows, add_tests, add_refusal, with_register, Adds}
use Rattle.bench.specs.Build.{IsNotHeld, IsUnfit, set_rows, set_tests, set_refusal, Sets}
use mathlib.Core.Path.{◌≡◌, refl, sym, ap, ap₂, ◌∙◌}
use mathlib.Core.Bool.{Bool, true, false, not, ◌&&◌, true≢false}
use mathlib.Core.List.{List, [], ◌∷◌}
use mathlib.Core.Logic.{◌≢◌, ◌⊎◌, inl, inr, ⊎_elim}
use mathlib.Core.Option.{Option, some, none}
use Prim.Native.Nat.{ℕ, ◌≤◌}
use native.Mathlib.Omega.{arith}
use borrow.Author.Tests.{ltb-true, ltb-false, eqb-true, eqb-false}
use lib.Dec.{eqb}
use lib.ListN.{length}
use Rattle.first.proofs.Laws.{Ended, ended}
use Rattle.frame.specs.Frame.{framed, message_of}
use Rattle.telegram.proofs.Laws.{altered_refused}
use Rattle.values.proofs.Refusals.{decides_kind, decides_fits}
use Rattle.values.specs.Values.{size_of, stored_at, NoKind, Unfit}
use Rattle.telegram.specs.declared.Fields.{Fields}
use Rattle.values.specs.declared.Value.{Value}
use Rattle.bench.proofs.Answering.{refused_up}
use Rattle.bench.specs.Take.{reply_of, IsOtherAddress, IsNotARequest, IsNoRoom, take_rows, silence_rows, take_tests, request_refusal, take_refusal, take_answer, take_told, take_bench, take_room, Takes}
use Rattle.bench.specs.declared.Bench.{Bench}
use Rattle.bench.specs.declared.Fault.{Fault}
use Rattle.bench.specs.declared.Fault.TheVariants.{Unread}
use Rattle.bench.specs.Answers.{Building}
use Rattle.bench.specs.Answers.{Taking}
use Rattle.bench.specs.declared.AfterBuild.{AfterBuild}
use Rattle.bench.specs.declared.AfterTake.{AfterTake}
use Rattle.telegram.specs.declared.Fault.TheVariants as unread

-- ---- what decides a row

decides_one_not : {a b : Bool} {P Q : Type 0} → Decides a P → Decides b Q → Decides (not (a && b)) ((P → ⊥) ⊎ (Q → ⊥))
decides_one_not {a} {b} p q = go a b p q
  where
    go : (a b : Bool) {P Q : Type 0} → Decides a P → Decides b Q → Decides (not (a && b)) ((P → ⊥) ⊎ (Q → ⊥))
    go true b p q = decides_as (decides_not q) inr (λ s. ⊎_elim (λ n. absurd (n (p.so refl))) (λ n. n) s)
    go false b p q = record { so = λ e. inl (p.not_so refl); not_so = λ e. absurd (true≢false e) }

-- the search finds a register exactly where one is held
pub decides_held : (bench : Bench) (number : ℕ) → Decides (is_held bench number) (Held bench number)
unfolding place_of
decides_held bench number = record { so = found; not_so = missed }
  where
    search_ended : Ended (λ place. eqb (register_at bench place).number number) (held_count bench) (place_of bench number)
    search_ended = ended (λ place. eqb (register_at bench place).number number) (held_count bench)

    found : is_held bench number ≡ true → Held bench number
    found e = let l = ltb-true (place_of bench number) (held_count bench) e in (place_of bench number, l, eqb-true _ _ (search_ended.there l))

    missed : is_held bench number ≡ false → Held bench number → ⊥
    missed e h =
        let past : held_count bench ≤ place_of bench number = ltb-false (place_of bench number) (held_count bench) e in
        eqb-false _ _ (search_ended.before h.0 (omega (arith, h.1))) h.2

-- ---- "Each is given exactly when its condition holds and no earlier one does."

-- 34
pub make_ranked : (address : ℕ) → Ranked (make_rows address) (make_refusal address)
unfolding make_rows make_refusal IsNotAModule
make_ranked address =
    ranked (make_tests address) (make_rows address) (decides_not (decides_and (decides_le 1 address) (decides_le address 160)) otherwise λ n₃₄. tt)

-- 30 to 33
pub add_ranked : (bench : Bench) (number kind rights : ℕ) → Ranked (add_rows bench number kind rights) (add_refusal bench number kind rights)
unfolding add_rows add_refusal IsWrongKind IsWrongRights IsThere IsFull
add_ranked bench number kind rights =
    ranked (add_tests bench number kind rights) (add_rows bench number kind rights) (
    decides_not (decides_kind kind) otherwise λ n₃₀.
    decides_lt 7 rights otherwise λ n₃₁.
    decides_held bench number otherwise λ n₃₂.
    decides_le 32 bench.count otherwise λ n₃₃.
    tt
    )

-- 38, then 43
pub set_ranked : (bench : Bench) (number : ℕ) (value : Value) → Ranked (set_rows bench number value) (set_refusal bench number value)
unfolding set_rows set_refusal IsNotHeld IsUnfit NoKind Unfit
set_ranked bench number value =
    ranked (set_tests bench number value) (set_rows bench number value) (
    decides_not (decides_held bench number) otherwise λ n₃₈.
    decides_one_not (decides_kind (named bench number).kind) (decides_fits (named bench number).kind value) otherwise λ n₄₃.
    tt
    )

-- 35 to 37
pub request_ranked : (bench : Bench) (t : Fields) (bytes : List ℕ) (room : ℕ) → Ranked (take_rows bench t bytes room) (request_refusal bench t bytes room)
unfolding take_rows request_refusal IsOtherAddress IsNotARequest IsNoRoom
request_ranked bench t bytes room =
    ranked (take_tests bench t bytes room) (take_rows bench t bytes room) (
    decides_not (decides_eq t.destination bench.address) otherwise λ n₃₅.
    decides_or (decides_eq t.sort 0)
    (decides_or (decides_eq t.sort 1)
    (decides_or (decides_eq t.sort 2) (decides_or (decides_eq t.sort 3) (decides_eq t.sort 8)))) otherwise λ n₃₆.
    decides_lt room (length (reply_of bench t bytes)) otherwise λ n₃₇.
    tt
    )

-- 1 to 9, then 35 to 37
pub take_ranked : (bench : Bench) (frame : List ℕ) (room : ℕ) → Ranked (silence_rows bench frame room) (take_refusal bench frame room)
unfolding silence_rows take_refusal
take_ranked bench frame room =
    ranked_append (passed_up Unread (read_rows frame 240)) (take_rows bench (fields_in frame) (data_in frame) room) (raised Unread (read_refusal frame 240))
    (request_refusal bench (fields_in frame) (data_in frame) room) (ranked_up Unread (read_rows frame 240) (read_refusal frame 240) (read_ranked frame 240))
    (λ none_before. request_ranked bench (fields_in frame) (data_in frame) room)

-- and so of the calls, by the paper's numbers
building : (rs : List (Row Fault)) (o : Option Fault) → Ranked rs o → (numbers : List ℕ) → numbers_of (passed_up fault_number rs) ≡ numbers
    → apart numbers ≡ true → {answer : Building} → answer ≡ build_answer o → Numbered (passed_up fault_number rs) numbers (build_told answer)
building rs o p numbers in_order no_two is = numbered fault_number rs o p numbers in_order no_two _ (ap build_told is ∙ told o)
  where
    told : (o : Option Fault) → build_told (build_answer o) ≡ raised fault_number o
    told (some f) = refl
    told none = refl

pub make_exactly : (address : ℕ) {r : AfterBuild} → Makes address r
    → Numbered (passed_up fault_number (make_rows address)) (34 ∷ []) (build_told r.answer)
unfolding make_rows
make_exactly address makes = building (make_rows address) (make_refusal address) (make_ranked address) (34 ∷ []) refl refl makes.0

pub add_exactly : (bench : Bench) (number kind rights : ℕ) {r : AfterBuild} → Adds bench number kind rights r
    → Numbered (passed_up fault_number (add_rows bench number kind rights)) (30 ∷ 31 ∷ 32 ∷ 33 ∷ []) (build_told r.answer)
unfolding add_rows
add_exactly bench number kind rights adds =
    building (add_rows bench number kind rights) (add_refusal bench number kind rights) (add_ranked bench number kind rights)
    (30 ∷ 31 ∷ 32 ∷ 33 ∷ []) refl refl adds.0

pub set_exactly : (bench : Bench) (number : ℕ) (value : Value) {r : AfterBuild} → Sets bench number value r
    → Numbered (passed_up fault_number (set_rows bench number value)) (38 ∷ 43 ∷ []) (build_told r.answer)
unfolding set_rows
set_exactly bench number value sets =
    building (set_rows bench number value) (set_refusal bench number value) (set_ranked bench number value) (38 ∷ 43 ∷ []) refl refl sets.0

-- 6 stands among the reader's rows and never arises: `take_never_6`
pub take_exactly : (bench : Bench) (frame room : List ℕ) {r : AfterTake} {room' : List ℕ} → Takes bench frame room r room'
    → Numbered (passed_up fault_number (silence_rows bench frame (length room)))
    (1 ∷ 2 ∷ 3 ∷ 4 ∷ 5 ∷ 6 ∷ 7 ∷ 8 ∷ 9 ∷ 35 ∷ 36 ∷ 37 ∷ []) (take_told r.answer)
unfolding silence_rows read_rows take_rows
take_exactly bench frame room takes =
    numbered fault_number (silence_rows bench frame (length room)) (take_refusal bench frame (length room)) (take_ranked bench frame (length room))
    (1 ∷ 2 ∷ 3 ∷ 4 ∷ 5 ∷ 6 ∷ 7 ∷ 8 ∷ 9 ∷ 35 ∷ 36 ∷ 37 ∷ []) refl refl _ (ap take_told takes.0 ∙ told (take_refusal bench frame (length room)) _)
  where
    told : (o : Option Fault) (reply : List ℕ) → take_told (take_answer o reply) ≡ raised fault_number o
    told (some f) reply = refl
    told none reply = refl

-- ---- "It reads with 240 bytes of room of its own, so number 6 doesn't arise."

-- a row that gives another refusal is not the first that holds, and one that does not hold is passed
skip : {P Q : Type 0} {f g : Unreadable} → (P × (f ≡ g)) ⊎ ((P → ⊥) × Q) → (f ≡ g → ⊥) → (P → ⊥) × Q
skip s n = ⊎_elim (λ a. absurd (n a.1)) (λ a. a) s

passed : {P Q R : Type 0} → (P × R) ⊎ ((P → ⊥) × Q) → (P → ⊥) → Q
passed s n = ⊎_elim (λ a. absurd (n a.0)) (λ a. a.1) s

-- where row 6 is the first that holds, the message is not over 246 bytes, and yet has over 240 bytes of data
pub never_6 : (frame : List ℕ) → read_refusal frame 240 ≡ some unread.NoRoom → ⊥
unfolding read_rows OverRoom IsLong
never_6 frame e =
    let past_1 = skip first (λ q. clash (cc)) in
    let past_2 = skip past_1.1 (λ q. clash (cc)) in
    let past_3 = skip past_2.1 (λ q. clash (cc)) in
    let past_4 = skip past_3.1 (λ q. clash (cc)) in
    let past_5 = skip past_4.1 (λ q. clash (cc)) in
    let past_6 = passed past_5.1 (λ h. past_5.0 (h.0, h.1, omega (arith, h.2))) in
    let past_7 = skip past_6 (λ q. clash (cc)) in
    let past_8 = skip past_7.1 (λ q. clash (cc)) in
    (skip past_8.1 (λ q. clash (cc))).1
  where
    first : First (read_rows frame 240) unread.NoRoom
    first = (refused_exactly (read_rows frame 240) (read_refusal frame 240) (read_ranked frame 240) unread.NoRoom).0 e

-- ---- "It returns its number only, and every buffer, ticket and register and the desk's turn are as before."

build_stays : (o : Option Fault) (before after : Bench) (f : Fault) → build_answer o ≡ Err f → build_bench o before after ≡ before
build_stays none before after f e = clash (cc)
build_stays (some g) before after f e = refl

pub add_refused : (bench : Bench) (number kind rights : ℕ) {r : AfterBuild} (f : Fault) → Adds bench number kind rights r → r.answer ≡ Err f → r.bench ≡ bench
add_refused bench number kind rights f p e = p.1 ∙ build_stays (add_refusal bench number kind rights) bench (with_register bench number kind rights) f (sym p.0 ∙ e)

pub set_refused : (bench : Bench) (number : ℕ) (value : Value) {r : AfterBuild} (f : Fault) → Sets bench number value r → r.answer ≡ Err f → r.bench ≡ bench
set_refused bench number value f p e =
    p.1 ∙ build_stays (set_refusal bench number value) bench
    (with_value bench (place_of bench number) (stored_at (size_of (named bench number).kind) value)) f (sym p.0 ∙ e)

-- a bench that is not made holds nothing, and no telegram is for it
pub make_refused : (address : ℕ) {r : AfterBuild} (f : Fault) → Makes address r → r.answer ≡ Err f → r.bench ≡ empty_bench 0
make_refused address f p e = p.1 ∙ build_stays (make_refusal address) (empty_bench 0) (empty_bench address) f (sym p.0 ∙ e)

-- "numbers 1 to 5, 7 to 9 and 35 to 37 mean silence"; "A written register is unchanged when 37 is given."
pub silent_stays : (bench : Bench) (frame room : List ℕ) {r : AfterTake} {room' : List ℕ} (f : Fault) → Takes bench frame room r room' → r.answer ≡ Err f
    → (r.bench ≡ bench) × (room' ≡ room)
silent_stays bench frame room f p e = go (take_refusal bench frame (length room)) _ _ _ (sym p.0 ∙ e) p.1 p.2
  where
    go : (o : Option Fault) (reply y : List ℕ) (after : Bench) {x : List ℕ} {b : Bench} → take_answer o reply ≡ Err f
        → b ≡ take_bench o bench after → x ≡ take_room o reply y → (b ≡ bench) × (x ≡ y)
    go none reply y after a q w = clash (cc)
    go (some g) reply y after a q w = (q, w)

-- "A reply is first read as a telegram; a refusal there ends the call": the refusal passed up whole and nothing changed
pub unread_stays : (bench : Bench) (frame room : List ℕ) {r : AfterTake} {room' : List ℕ} (f : Unreadable) → read_refusal frame 240 ≡ some f
    → Takes bench frame room r room' → (r.answer ≡ Err (Unread f)) × (r.bench ≡ bench) × (room' ≡ room)
unread_stays bench frame room f e p =
    let refusal : take_refusal bench frame (length room) ≡ some (Unread f) = passed_up_lem in
    (p.0 ∙ rw refusal, p.1 ∙ rw refusal, p.2 ∙ rw refusal)
  where
    passed_up_lem : take_refusal bench frame (length room) ≡ some (Unread f)
    passed_up_lem = refused_up bench frame (length room) f e

-- ---- M 3: "Take any accepted message and alter one or more bits [..]. Frame it again and offer it [..]. It is refused as a check fault" and no
-- register of any bench changes, with any reply buffer

pub altered_silent : (frame : List ℕ) (size : ℕ) (t : Fields) → read_frame frame size ≡ Ok t
    → (m : List ℕ) → length (message_of frame) ≡ length m → remainder_of (combined (message_of frame) m) ≢ 0
    → (bench : Bench) (room : List ℕ) {r : AfterTake} {room' : List ℕ} → Takes bench (framed m) room r room'
    → (r.answer ≡ Err (Unread unread.CheckFault)) × (r.bench ≡ bench) × (room' ≡ room)
altered_silent frame size t e m same odd bench room p =
    unread_stays bench (framed m) room unread.CheckFault (altered_refused frame size t e m same odd 240 (omega arith)) p

-- bursts within 16 neighbouring bits
pub nearby_silent : (frame : List ℕ) (size : ℕ) (t : Fields) → read_frame frame size ≡ Ok t → (m : List ℕ) → AlteredNearby (message_of frame) m
    → (bench : Bench) (room : List ℕ) {r : AfterTake} {room' : List ℕ} → Takes bench (framed m) room r room'
    → (r.answer ≡ Err (Unread unread.CheckFault)) × (r.bench ≡ bench) × (room' ≡ room)
nearby_silent frame size t e m near = altered_silent frame size t e m near.same_length (burst_seen (combined (message_of frame) m) (nearby_burst near))

-- ---- "Show that any two outcomes allowed by it are equal."

-- the call `number` gives the number that the laws tell
pub number_is : (f : Fault) (r : ℕ) → Numbers f r → r ≡ fault_number f
number_is f r p = p

pub numbers_settled : (f : Fault) → Settled (Numbers f)
numbers_settled f = settled _

pub looks_settled : (bench : Bench) (number : ℕ) → Settled (Looks bench number)
looks_settled bench number = settled _

built_settled : (x : Building) (y : Bench) → Settled {A = AfterBuild} (λ r. (r.answer ≡ x) × (r.bench ≡ y))
built_settled x y =
    record {
      outcome = record { answer = x; bench = y };
      is_allowed_lem = (refl, refl);
      only = λ other p. ap₂ (λ (a : Building) (b : Bench). record { answer = a; bench = b }) p.0 p.1;
    }

pub makes_settled : (address : ℕ) → Settled (Makes address)
makes_settled address = built_settled _ _

pub adds_settled : (bench : Bench) (number kind rights : ℕ) → Settled (Adds bench number kind rights)
adds_settled bench number kind rights = built_settled _ _

pub sets_settled : (bench : Bench) (number : ℕ) (value : Value) → Settled (Sets bench number value)
sets_settled bench number value = built_settled _ _

pub takes_settled : (bench : Bench) (frame room : List ℕ) → Settled {A = AfterTake × List ℕ} (λ o. Takes bench frame room o.0 o.1)
takes_settled bench frame room = settled_parts (λ (a : Taking) (b : Bench). record { answer = a; bench = b }) (λ r. r.answer) (λ r. r.bench) (λ r. refl) (λ a b. (refl, refl)) _ _ _
