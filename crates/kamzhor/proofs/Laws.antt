-- What is promised to the C capture host: the laws that callers may cite.
-- Assumes nothing.
use Rattle.std.specs.Prelude.{Ok, Err}
use mathlib.Core.Path.{◌≡◌, refl, sym, ap, ◌∙◌, subst}
use mathlib.Core.Bool.{Bool, true, false}
use mathlib.Core.List.{List, [], ◌∷◌}
use mathlib.Core.Logic.{◌≢◌}
use mathlib.Core.Option.{Option, some, none}
use Prim.Native.Nat.{ℕ, ◌-◌, ◌*◌, ◌^◌, ◌≤◌, ◌<◌}
use native.Mathlib.Omega.{arith}
use native.Mathlib.Decide.{dec_lt}
use native.Mathlib.Numerals.{add-one}
use borrow.Author.Tests.{lt-ltb, le-ltb}
use lib.IntN.{neg_ℤ, pos}
use lib.ListN.{length, get_or-eq_default}
use lib.Pow.{pow_pos}
use Rattle.rows.proofs.Settled.{settled, settled_with}
use Rattle.rows.specs.Settled.{Settled}
use Rattle.rows.specs.Rows.{passed_up, raised, Numbered}
use Rattle.rows.proofs.Laws.{numbered, clash}
use Rattle.remainder.specs.Remainder.{Remains}
use Rattle.telegram.specs.Read.{read_frame, read_refusal, room_after, fields_in, data_in}
use Rattle.telegram.specs.Answers.{Reading as FrameReading}
use Rattle.telegram.specs.declared.Fields.{Fields}
use Rattle.telegram.specs.declared.Fault.TheVariants.{NotFramed, StrayEnd, BadSubstitution, ShortMessage, LongMessage, NoRoom, CheckFault, ZeroAddress, UnknownType}
use Rattle.values.specs.Values.{read_value, is_kind, natural, element_of, size_of, is_signed, sizes, value_at, integer}
use Rattle.values.proofs.Sized.{kind_unknown, size-le, half_le, kind_positive, power_half}
use Rattle.values.proofs.Refusals.{read_is, read_none}
use Rattle.values.specs.Answers.{Reading as ValueReading}
use Rattle.values.specs.declared.Value.{Value}
use Rattle.values.specs.declared.Value.TheVariants.{Natural, Negative}
use Rattle.receiver.specs.Receiver.{Starts}
use Rattle.receiver.specs.declared.Receiver.{Receiver}
use Rattle.tally.specs.Tally.{CountsWhere}
use Rattle.tally.specs.Count.{step_with}
use Rattle.tally.specs.declared.Stepped.{Stepped}
use Rattle.tally.specs.declared.Tally.{Tally}
use Rattle.kamzhor.specs.Host.{GivesRemainder, GivesFrame, GivesValue, GivesReceiver, GivesStep}
use Rattle.telegram.proofs.Faulty.{place_told, no_other_place}
use Rattle.kamzhor.specs.Host.{told, frame_number, frame_given, value_number, value_found, value_given, is_small, meant, step_given}
use Rattle.kamzhor.specs.declared.FrameAnswer.{FrameAnswer}
use Rattle.kamzhor.specs.declared.ValueAnswer.{ValueAnswer}
use Rattle.kamzhor.specs.declared.StepAnswer.{StepAnswer}
use Rattle.telegram.specs.Read as telegram
use Rattle.telegram.proofs.Ranking as ranking
use Rattle.telegram.specs.declared.Fault as tfault
use Rattle.values.specs.Values as values
use Rattle.values.proofs.Laws as value_laws
use Rattle.values.specs.declared.Fault as vfault
use Rattle.values.specs.declared.Fault.TheVariants as vfaults

-- ---- "Show that any two outcomes allowed by it are equal."

pub gives_remainder_settled : (bytes : List ℕ) → Settled (GivesRemainder bytes)
gives_remainder_settled bytes = settled _

pub gives_frame_settled : (frame room : List ℕ) → Settled {A = FrameAnswer × List ℕ} (λ o. GivesFrame frame room o.0 o.1)
gives_frame_settled frame room = settled_with _ _

pub gives_value_settled : (kind : ℕ) (bytes : List ℕ) (element : ℕ) → Settled (GivesValue kind bytes element)
gives_value_settled kind bytes element = settled _

pub gives_receiver_settled : (place : ℕ) → Settled (GivesReceiver place)
gives_receiver_settled place = settled _

pub gives_step_settled : (r : Receiver) (t : Tally) (chunk : List ℕ) → Settled {A = StepAnswer × Tally} (λ o. GivesStep r t chunk o.0 o.1)
gives_step_settled r t chunk = settled_with _ _

-- ---- nothing is cut

-- a kind over 7 is no kind, however great
pub no_size : (kind : ℕ) → 7 < kind → size_of kind ≡ 0
unfolding size_of
no_size kind h = get_or-eq_default sizes 0 {n = kind} (omega arith)

pub unknown_kind : (kind : ℕ) (bytes : List ℕ) (element : ℕ) → 7 < kind → read_value kind bytes element ≡ Err vfaults.UnknownKind
unfolding read_value values.read_refusal
unknown_kind kind bytes element h = rw (kind_unknown kind 0 (sym (no_size kind h)) refl)

-- what is read has a magnitude of 64 bits
small_at : (b : Bool) (n v : ℕ) → 0 < n → n ≤ 8 → is_small (value_at b n v)
unfolding value_at
small_at false n v p h = tt
small_at true n v p h = elim (dec_lt v (2 ^ (8 * n - 1))) [
  | yes l ↦ rw (lt-ltb v (2 ^ (8 * n - 1)) l) tt
  | no l ↦ rw (le-ltb v (2 ^ (8 * n - 1)) (omega arith)) (omega (arith, pow_pos (8 * n - 1), power_half n p, half_le n h))
]

pub read_small : (kind : ℕ) (bytes : List ℕ) (element : ℕ) (value : Value) → read_value kind bytes element ≡ Ok value → is_small value
read_small kind bytes element value e =
    let is = read_is kind bytes element value e in
    let some : 0 < size_of kind = kind_positive kind (read_none kind bytes element is.0).0 in
    subst is_small (sym is.1) (small_at (is_signed kind) (size_of kind) _ some (size-le kind some))

-- ---- what the host is told is what the reader answers

pub remainder_as_told : (bytes : List ℕ) {r n : ℕ} → Remains bytes n → GivesRemainder bytes r → r ≡ n
remainder_as_told bytes p g = g ∙ sym p

pub frame_as_read : (frame room : List ℕ) {q : FrameReading} {r : FrameAnswer} {x y : List ℕ}
    → telegram.Reads frame room q x → GivesFrame frame room r y → (r ≡ frame_given q) × (y ≡ x)
frame_as_read frame room p g = (g.0 ∙ ap frame_given (sym p.0), g.1 ∙ sym p.1)

-- field by field
pub frame_fields_lem : (frame room : List ℕ) (t : Fields) {r : FrameAnswer} {room' : List ℕ} → GivesFrame frame room r room' → read_frame frame (length room) ≡ Ok t
    → (r.refusal ≡ 0) × (r.destination ≡ t.destination) × (r.source ≡ t.source) × (r.sort ≡ t.sort) × (r.register ≡ t.register) × (r.size ≡ t.size)
frame_fields_lem frame room t gives read = rw (gives.0 ∙ ap frame_given read) (refl, refl, refl, refl, refl, refl)

pub value_as_read : (kind : ℕ) (bytes : List ℕ) (element : ℕ) {q : ValueReading} {r : ValueAnswer}
    → values.Reads kind bytes element q → GivesValue kind bytes element r → r ≡ value_given q
value_as_read kind bytes element p g = g ∙ ap value_given (sym p)

pub receiver_as_started : (place : ℕ) {q r : Receiver} → Starts place q → GivesReceiver place r → r ≡ q
receiver_as_started place p g = g ∙ sym p

-- a step and its tally
pub step_as_taken : (r : Receiver) (t : Tally) (chunk : List ℕ) {s : Stepped} {a : StepAnswer} {x y : Tally}
    → CountsWhere t r chunk s x → GivesStep r t chunk a y → (a ≡ step_given s) × (y ≡ x)
step_as_taken r t chunk p g = (g.0 ∙ ap step_given (sym p.0), g.1 ∙ sym p.1)

-- so what the tally's crate proves of any steps and clearings holds of the host's: each step is one of those
pub step_is_one : (r : Receiver) (t : Tally) (chunk : List ℕ) {a : StepAnswer} {t' : Tally} → GivesStep r t chunk a t'
    → CountsWhere t r chunk (step_with t r chunk) t' × (a ≡ step_given (step_with t r chunk))
step_is_one r t chunk g = ((refl, g.1), g.0)

-- ---- the number is the paper's: "Each is given exactly when its condition holds and no earlier one does."

-- no row has 0
frame_told : (o : Option tfault.Fault) (t : Fields) → told (frame_given (telegram.read_answer o t)).refusal ≡ raised telegram.fault_number o
frame_told none t = refl
frame_told (some NotFramed) t = refl
frame_told (some StrayEnd) t = refl
frame_told (some (BadSubstitution place)) t = refl
frame_told (some ShortMessage) t = refl
frame_told (some LongMessage) t = refl
frame_told (some NoRoom) t = refl
frame_told (some CheckFault) t = refl
frame_told (some ZeroAddress) t = refl
frame_told (some UnknownType) t = refl

value_told : (o : Option vfault.Fault) (v : Value) → told (value_given (values.read_answer o v)).refusal ≡ raised values.fault_number o
value_told none v = refl
value_told (some vfaults.UnknownKind) v = refl
value_told (some vfaults.WrongLength) v = refl
value_told (some vfaults.NoSuchElement) v = refl
value_told (some vfaults.DoesNotFit) v = refl
value_told (some vfaults.ShortBuffer) v = refl

-- the reader's rows, by their numbers
pub frame_exactly : (frame room : List ℕ) {r : FrameAnswer} {room' : List ℕ} → GivesFrame frame room r room'
    → Numbered (passed_up telegram.fault_number (telegram.read_rows frame (length room))) (1 ∷ 2 ∷ 3 ∷ 4 ∷ 5 ∷ 6 ∷ 7 ∷ 8 ∷ 9 ∷ []) (told r.refusal)
unfolding telegram.read_rows read_frame
frame_exactly frame room gives =
    numbered telegram.fault_number (telegram.read_rows frame (length room)) (read_refusal frame (length room)) (ranking.read_ranked frame (length room))
    (1 ∷ 2 ∷ 3 ∷ 4 ∷ 5 ∷ 6 ∷ 7 ∷ 8 ∷ 9 ∷ []) refl refl _
    (ap (λ (a : FrameAnswer). told a.refusal) gives.0 ∙ frame_told (read_refusal frame (length room)) _)

pub value_exactly : (kind : ℕ) (bytes : List ℕ) (element : ℕ) {r : ValueAnswer} → GivesValue kind bytes element r
    → Numbered (passed_up values.fault_number (values.read_rows kind bytes element)) (40 ∷ 41 ∷ 42 ∷ []) (told r.refusal)
unfolding values.read_rows read_value
value_exactly kind bytes element gives =
    numbered values.fault_number (values.read_rows kind bytes element) (values.read_refusal kind bytes element) (value_laws.read_ranked kind bytes element)
    (40 ∷ 41 ∷ 42 ∷ []) refl refl _
    (ap (λ (a : ValueAnswer). told a.refusal) gives ∙ value_told (values.read_refusal kind bytes element) _)

-- ---- "It returns its number only, and every buffer [is] as before."

only_frame : (o : Option tfault.Fault) (t : Fields) (bytes room : List ℕ) → (frame_given (telegram.read_answer o t)).refusal ≢ 0
    → (frame_given (telegram.read_answer o t) ≡ frame_number (frame_given (telegram.read_answer o t)).refusal (frame_given (telegram.read_answer o t)).place) × (room_after o bytes room ≡ room)
only_frame (some f) t bytes room n = (refl, refl)
only_frame none t bytes room n = absurd (n refl)

pub frame_refused : (frame room : List ℕ) {r : FrameAnswer} {room' : List ℕ} → GivesFrame frame room r room' → r.refusal ≢ 0
    → (r ≡ frame_number r.refusal r.place) × (room' ≡ room)
unfolding read_frame
frame_refused frame room {r} g n =
    let only = only_frame (read_refusal frame (length room)) (fields_in frame) (data_in frame) room (rw g.0 at n) in
    (subst (λ (a : FrameAnswer). a ≡ frame_number a.refusal a.place) (sym g.0) only.0, g.1 ∙ only.1)

only_value : (q : ValueReading) → (value_given q).refusal ≢ 0 → value_given q ≡ value_number (value_given q).refusal
only_value (Err f) n = refl
only_value (Ok v) n = absurd (n refl)

pub value_refused : (kind : ℕ) (bytes : List ℕ) (element : ℕ) {r : ValueAnswer} → GivesValue kind bytes element r → r.refusal ≢ 0
    → r ≡ value_number r.refusal
value_refused kind bytes element g n =
    subst (λ (a : ValueAnswer). a ≡ value_number a.refusal) (sym g) (only_value (read_value kind bytes element) (λ e. n (ap (λ (a : ValueAnswer). a.refusal) g ∙ e)))

-- every other field but the place is then 0
pub frame_number_only : (frame room : List ℕ) {r : FrameAnswer} {room' : List ℕ} → GivesFrame frame room r room' → r.refusal ≢ 0
    → (r.destination ≡ 0) × (r.source ≡ 0) × (r.sort ≡ 0) × (r.register ≡ 0) × (r.size ≡ 0)
frame_number_only frame room {r} g n =
    let is : r ≡ frame_number r.refusal r.place = (frame_refused frame room g n).0 in (
      ap (λ (a : FrameAnswer). a.destination) is,
      ap (λ (a : FrameAnswer). a.source) is,
      ap (λ (a : FrameAnswer). a.sort) is,
      ap (λ (a : FrameAnswer). a.register) is,
      ap (λ (a : FrameAnswer). a.size) is,
    )

pub value_number_only : (kind : ℕ) (bytes : List ℕ) (element : ℕ) {r : ValueAnswer} → GivesValue kind bytes element r → r.refusal ≢ 0
    → (r.negative ≡ 0) × (r.magnitude ≡ 0)
value_number_only kind bytes element {r} g n =
    let is : r ≡ value_number r.refusal = value_refused kind bytes element g n in
    (ap (λ (a : ValueAnswer). a.negative) is, ap (λ (a : ValueAnswer). a.magnitude) is)

-- 02, #105: the place is the reader's, with 3, and 0 with all else
place_read : (q : FrameReading) → (frame_given q).place ≡ telegram.read_place q
place_read (Err f) = refl
place_read (Ok t) = refl

three_read : (q : FrameReading) → (frame_given q).refusal ≡ 3 → telegram.read_told q ≡ some 3
three_read (Err f) e = ap some e
three_read (Ok t) e = absurd (omega arith)

read_three : (q : FrameReading) → telegram.read_told q ≡ some 3 → (frame_given q).refusal ≡ 3
read_three (Err f) e = some_is e
  where
    some_is : {m n : ℕ} → ◌≡◌ {A = Option ℕ} (some m) (some n) → m ≡ n
    some_is p = cc
read_three (Ok t) e = clash (cc)

pub frame_place : (frame room : List ℕ) {r : FrameAnswer} {room' : List ℕ} → GivesFrame frame room r room' → r.refusal ≡ 3
    → telegram.FirstFaulty frame r.place
frame_place frame room g is =
    let q = read_frame frame (length room) in
    subst (telegram.FirstFaulty frame) (sym (ap (λ (a : FrameAnswer). a.place) g.0 ∙ place_read q))
    (place_told frame (length room) q refl (three_read q (sym (ap (λ (a : FrameAnswer). a.refusal) g.0) ∙ is)))

pub frame_no_place : (frame room : List ℕ) {r : FrameAnswer} {room' : List ℕ} → GivesFrame frame room r room' → r.refusal ≢ 3 → r.place ≡ 0
frame_no_place frame room g other =
    let q = read_frame frame (length room) in
    ap (λ (a : FrameAnswer). a.place) g.0 ∙ place_read q
    ∙ no_other_place q (λ e. other (ap (λ (a : FrameAnswer). a.refusal) g.0 ∙ read_three q e))

-- ---- signed and unsigned values arrive without loss

-- computed: T9's -32768, and 32768 from the same bytes
pub signs_told : (value_given (read_value 4 (0x00 ∷ 0x80 ∷ []) 0) ≡ record { refusal = 0; negative = 1; magnitude = 32768 })
    × (value_given (read_value 3 (0x00 ∷ 0x80 ∷ []) 0) ≡ record { refusal = 0; negative = 0; magnitude = 32768 })
unfolding read_value values.read_refusal is_kind size_of is_signed value_at natural element_of
signs_told = (refl, refl)

meant_found : (v : Value) → meant (value_found v) ≡ integer v
unfolding integer
meant_found (Natural n) = refl
meant_found (Negative n) = ap (λ (k : ℕ). neg_ℤ (pos k)) (add-one n)

pub value_meant_lem : (kind : ℕ) (bytes : List ℕ) (element : ℕ) {r : ValueAnswer} {v : Value} → GivesValue kind bytes element r
    → read_value kind bytes element ≡ Ok v → meant r ≡ integer v
value_meant_lem kind bytes element {r} {v} g e = ap meant (g ∙ ap value_given e) ∙ meant_found v
