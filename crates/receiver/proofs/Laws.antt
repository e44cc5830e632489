-- What is promised of the receiver: the laws that callers may cite.
-- Assumes nothing.
use Rattle.std.specs.Prelude.{Ok, Err, Some, None}
use mathlib.Core.Path.{◌≡◌, refl, sym, ap, ◌∙◌}
use mathlib.Core.Bool.{Bool, true, false, cond, ◌&&◌}
use mathlib.Core.List.{List, [], ◌∷◌}
use mathlib.Core.Logic.{⊎_elim}
use mathlib.Core.Option.{Option, some, none}
use Prim.Native.Nat.{ℕ, zero, suc, ◌+◌, ◌≤◌, ◌<◌}
use native.Mathlib.Nat.{min-le_left, not-suc-le-zero}
use native.Mathlib.Omega.{arith}
use borrow.Author.Tests.{lt-ltb}
use lib.Dec.{eqb, leb, ltb}
use lib.ListN.{length, take, replicate}
use Rattle.rows.specs.Rows.{Ranked, passed_up, raised, Numbered}
use Rattle.rows.specs.Settled.{Settled}
use Rattle.rows.proofs.Laws.{Decides, decides_lt, ranked, ◌otherwise◌, numbered, clash}
use Rattle.rows.proofs.Settled.{settled}
use Rattle.listing.specs.Events.{to_next_end}
use Rattle.receiver.specs.declared.Receiver.{Receiver}
use Rattle.receiver.specs.declared.Fault.{Fault}
use Rattle.receiver.specs.declared.Fault.TheVariants.{PastLargest}
use Rattle.receiver.specs.declared.Stepped.{Stepped}
use Rattle.receiver.specs.Receiver.{largest, no_bytes, passed, next, told, stepped, step_from, CarriesPast, step_rows, step_tests, step_refusal, step_answer, step_of, step_told, fault_number}
use Rattle.receiver.specs.Receiver.{Numbers, Tests, Starts, Steps}
use Rattle.receiver.specs.Chunks.{inside_at, receiver_of}
use Rattle.receiver.proofs.Goes.{on_or_end, step_cons, step-none, step_goes, step_takes}
use Rattle.receiver.proofs.Stretches.{told_outside, next_outside}

-- ---- 60: "Each is given exactly when its condition holds"

decides_past : (r : Receiver) (chunk : List ℕ) → Decides (ltb largest (r.place + length chunk)) (CarriesPast r chunk)
unfolding CarriesPast
decides_past r chunk = decides_lt largest (r.place + length chunk)

pub step_ranked : (r : Receiver) (chunk : List ℕ) → Ranked (step_rows r chunk) (step_refusal r chunk)
unfolding step_rows step_refusal
step_ranked r chunk = ranked (step_tests r chunk) (step_rows r chunk) (decides_past r chunk otherwise λ n₆₀. tt)

-- a step over a chunk that is not refused tells no number
no_number : (r : Receiver) (chunk : List ℕ) → step_told (step_from r chunk).answer ≡ none
no_number r [] = rw (step-none r) refl
no_number r (b ∷ rest) =
    rw (step_cons r b rest)
    (⊎_elim (λ p. rw p.1 (no_number (next r b) rest)) (λ p. rw p.1 refl) (on_or_end (told r b) (next r b) (step_from (next r b) rest)))

pub step_exactly : (r : Receiver) (chunk : List ℕ) {s : Stepped} → Steps r chunk s → Numbered (passed_up fault_number (step_rows r chunk)) (60 ∷ []) (step_told s.answer)
unfolding step_rows step_of
step_exactly r chunk steps =
    numbered fault_number (step_rows r chunk) (step_refusal r chunk) (step_ranked r chunk) (60 ∷ []) refl refl _
    (ap (λ (s : Stepped). step_told s.answer) steps ∙ by (step_refusal r chunk))
  where
    by : (o : Option Fault) → step_told (step_answer o r (step_from r chunk)).answer ≡ raised fault_number o
    by (some f) = refl
    by none = no_number r chunk

-- and the test beforehand tells whether
pub tests_right : (r : Receiver) (chunk : List ℕ) {b : Bool} → Tests r.place chunk b → Decides b (CarriesPast r chunk)
tests_right r chunk t = rw t (decides_past r chunk)

-- "none of it is taken"
pub refused_untouched : (r : Receiver) (chunk : List ℕ) → CarriesPast r chunk → step_of r chunk ≡ stepped r 0 (Err PastLargest)
unfolding CarriesPast step_of step_refusal
refused_untouched r chunk past = rw (lt-ltb largest (r.place + length chunk) past) refl

-- a step that is refused leaves the receiver as it was
pub step_refusal_keeps : (r : Receiver) (chunk : List ℕ) (s : Stepped) (f : Fault) → Steps r chunk s → s.answer ≡ Err f → (s.receiver ≡ r) × (s.taken ≡ 0)
unfolding step_of
step_refusal_keeps r chunk s f steps refused = by (step_refusal r chunk) steps
  where
    by : (o : Option Fault) → s ≡ step_answer o r (step_from r chunk) → (s.receiver ≡ r) × (s.taken ≡ 0)
    by (some g) e = (ap (λ (s : Stepped). s.receiver) e, ap (λ (s : Stepped). s.taken) e)
    by none e =
        let told : step_told s.answer ≡ none = ap (λ (s : Stepped). step_told s.answer) e ∙ no_number r chunk in
        let number : step_told s.answer ≡ some (fault_number f) = ap step_told refused in
        clash (cc)

-- a step that is not refused stays in the chunk, moves the place by what it took, and takes something where there is something
pub step_forward : (r : Receiver) (chunk : List ℕ) (s : Stepped) → Steps r chunk s → step_told s.answer ≡ none
    → (s.taken ≤ length chunk) × (s.receiver.place ≡ r.place + s.taken) × (0 < length chunk → 0 < s.taken)
unfolding step_of
step_forward r chunk s steps told = by (step_refusal r chunk) steps
  where
    by : (o : Option Fault) → s ≡ step_answer o r (step_from r chunk) → (s.taken ≤ length chunk) × (s.receiver.place ≡ r.place + s.taken) × (0 < length chunk → 0 < s.taken)
    by (some g) e = let number : step_told s.answer ≡ some (fault_number g) = ap (λ (s : Stepped). step_told s.answer) e in clash (cc)
    by none e = rw e ((step_goes r chunk).0, (step_goes r chunk).1, step_takes r chunk)

-- ---- how far a step goes

from_all : (r : Receiver) (chunk : List ℕ) → (step_from r chunk).answer ≡ Ok None → (step_from r chunk).taken ≡ length chunk
from_all r [] e = rw (step-none r) refl
from_all r (b ∷ rest) e =
    rw (step_cons r b rest)
    (⊎_elim
    (λ p. rw p.1
    (let same : (step_from (next r b) rest).answer ≡ (step_from r (b ∷ rest)).answer = sym (ap (λ (s : Stepped). s.answer) (step_cons r b rest ∙ p.1)) in
    let ih : (step_from (next r b) rest).taken ≡ length rest = from_all (next r b) rest (same ∙ e) in
    omega arith))
    (λ p. let line : (step_from r (b ∷ rest)).answer ≡ Ok (Some p.0) = rw (step_cons r b rest) (rw p.1 refl) in clash (cc))
    (on_or_end (told r b) (next r b) (step_from (next r b) rest)))

from_first : (r : Receiver) (chunk : List ℕ) (n : ℕ) → n < (step_from r chunk).taken → (step_from r (take n chunk)).answer ≡ Ok None
from_first r [] n h = absurd (not-suc-le-zero (rw (step-none r) at h))
from_first r (b ∷ rest) zero h = rw (step-none r) refl
from_first r (b ∷ rest) (suc n) h =
    rw (step_cons r b (take n rest))
    (⊎_elim
    (λ p.
    let k : suc n < (step_from (next r b) rest).taken + 1 = rw p.1 at (rw (step_cons r b rest) at h) in
    ⊎_elim (λ q. rw q.1 (from_first (next r b) rest n (omega arith))) (λ q. let none_in = p.0 in clash (sym (ap length (rw q.1 at none_in))))
    (on_or_end (told r b) (next r b) (step_from (next r b) (take n rest))))
    (λ p. let k : suc n < 1 = rw p.1 at (rw (step_cons r b rest) at h) in absurd (omega arith))
    (on_or_end (told r b) (next r b) (step_from (next r b) rest)))

-- a step without a line took all of the chunk
pub step_all : (r : Receiver) (chunk : List ℕ) {s : Stepped} → Steps r chunk s → s.answer ≡ Ok None → s.taken ≡ length chunk
unfolding step_of
step_all r chunk {s} steps none_told = by (step_refusal r chunk) steps
  where
    by : (o : Option Fault) → s ≡ step_answer o r (step_from r chunk) → s.taken ≡ length chunk
    by (some f) e = let a : s.answer ≡ Err f = ap (λ (s : Stepped). s.answer) e in clash (cc)
    by none e = ap (λ (s : Stepped). s.taken) e ∙ from_all r chunk (sym (ap (λ (s : Stepped). s.answer) e) ∙ none_told)

-- a step ends with the first byte that ends a line: no shorter piece of the chunk ends one
pub step_first : (r : Receiver) (chunk : List ℕ) {s : Stepped} → Steps r chunk s → (n : ℕ) → n < s.taken → (step_from r (take n chunk)).answer ≡ Ok None
unfolding step_of
step_first r chunk {s} steps n h = by (step_refusal r chunk) steps
  where
    by : (o : Option Fault) → s ≡ step_answer o r (step_from r chunk) → (step_from r (take n chunk)).answer ≡ Ok None
    by (some f) e = let a : s.taken ≡ 0 = ap (λ (s : Stepped). s.taken) e in absurd (omega arith)
    by none e = from_first r chunk n (rw (ap (λ (s : Stepped). s.taken) e) at h)

-- ---- 01: "Bytes outside a frame are passed over."

pub passed_over : (r : Receiver) (b : ℕ) → r.size ≡ 0 → (b ≡ 13 → ⊥) → (told r b ≡ Ok None) × (next r b ≡ passed r)
passed_over r b out n = (told_outside r b out, next_outside r b out n)

-- ---- no more than 494 bytes of a frame are kept, whatever came

pub kept_most : (place : ℕ) (bytes : List ℕ) → (receiver_of place bytes).size ≤ 494
unfolding receiver_of
kept_most place [] = omega arith
kept_most place (b ∷ rest) = go (eqb b 13 && leb (length rest) (to_next_end rest)) (kept_most (suc place) rest)
  where
    go : (t : Bool) → (receiver_of (suc place) rest).size ≤ 494 → (cond t (inside_at place (b ∷ rest)) (receiver_of (suc place) rest)).size ≤ 494
    go true ih = min-le_left 494 (suc (length rest))
    go false ih = ih

-- ---- "Show that any two outcomes allowed by it are equal."

-- the call `number` gives the number that the laws tell
pub number_is : (f : Fault) (r : ℕ) → Numbers f r → r ≡ fault_number f
number_is f r p = p

pub numbers_settled : (fault : Fault) → Settled (Numbers fault)
numbers_settled fault = settled _

pub tests_settled : (place : ℕ) (chunk : List ℕ) → Settled (Tests place chunk)
tests_settled place chunk = settled _

-- before any byte all but the place is 0
pub starts_empty : (place : ℕ) {r : Receiver} → Starts place r → (r.place ≡ place) × (r.start ≡ 0) × (r.size ≡ 0) × (r.bytes ≡ replicate 494 0)
unfolding no_bytes
starts_empty place s = rw s (refl, refl, refl, refl)

pub starts_settled : (place : ℕ) → Settled (Starts place)
starts_settled place = settled _

pub steps_settled : (r : Receiver) (chunk : List ℕ) → Settled (Steps r chunk)
steps_settled r chunk = settled _
