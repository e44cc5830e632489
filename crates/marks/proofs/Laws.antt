-- What is promised of the marks, each law under the sentence that it keeps.
-- Assumes nothing.
use mathlib.Core.Path.{◌≡◌, refl, sym, ap, ◌∙◌}
use mathlib.Core.Bool.{Bool, true, false, cond, not}
use mathlib.Core.Logic.{◌≢◌, ◌↔◌}
use Prim.Native.Nat.{ℕ, ◌+◌, ◌-◌, ◌/◌, ◌%◌, ◌^◌, ◌≤◌, ◌<◌}
use native.Mathlib.Nat.{div-eq_of_lt}
use native.Mathlib.Decide.{dec_lt}
use native.Mathlib.Omega.{arith}
use borrow.Author.Tests.{eq-eqb, lt-ltb, le-ltb, ltb-true, ltb-false, eqb-true, not-true, not-false}
use lib.Dec.{eqb, ltb}
use lib.Pow.{pow_pos}
use Rattle.rows.proofs.Settled.{settled}
use Rattle.rows.specs.Settled.{Settled}
use Rattle.first.proofs.Laws.{Ended, ended, first_at, first-none}
use Rattle.values.specs.Values.{bit_at}
use Rattle.marks.specs.Marks.{no_marks, word_of, is_marked, changed_bit, with_word, with_mark, run_from, Begins, TellsMarked, Changes, Runs}
use Rattle.marks.specs.declared.Marks.{Marks}
use Rattle.marks.proofs.Bits.{Ones, changed_here, changed_other, bit_moved}

-- ---- 02, #112: "one bit for each address": which bit it is, written out

pub mark_low : (marks : Marks) (place : ℕ) → place < 64 → (is_marked marks place ≡ true) ↔ (marks.low / 2 ^ place % 2 ≡ 1)
unfolding is_marked
mark_low marks place h =
    let at : place % 64 ≡ place = omega arith in
    rw (lt-ltb place 64 h, at) (λ e. eqb-true _ _ e, λ e. eq-eqb _ _ e)

pub mark_high : (marks : Marks) (place : ℕ) → place < 64 → (is_marked marks (64 + place) ≡ true) ↔ (marks.high / 2 ^ place % 2 ≡ 1)
unfolding is_marked
mark_high marks place h =
    let at : (64 + place) % 64 ≡ place = omega arith in
    rw (le-ltb (64 + place) 64 (omega arith), lt-ltb (64 + place) 128 (omega arith), at) (λ e. eqb-true _ _ e, λ e. eq-eqb _ _ e)

no_bit : (k : ℕ) → bit_at 0 k ≡ 0
no_bit k = ap (λ (x : ℕ). x % 2) (div-eq_of_lt (pow_pos k))

pub mark_beyond : (marks : Marks) (place : ℕ) → 128 ≤ place → is_marked marks place ≡ false
unfolding is_marked
mark_beyond marks place h = rw (le-ltb place 64 (omega arith), le-ltb place 128 h, no_bit (place % 64))

pub none_marked : (place : ℕ) → is_marked no_marks place ≡ false
unfolding is_marked
none_marked place = go (ltb place 64) (ltb place 128)
  where
    go : (low high : Bool) → eqb (bit_at (cond low 0 (cond high 0 0)) (place % 64)) 1 ≡ false
    go true high = rw (no_bit (place % 64))
    go false true = rw (no_bit (place % 64))
    go false false = rw (no_bit (place % 64))

-- ---- "set while it holds a ticket": the mark of one place changes, and no other

module _ (marks : Marks) (place : ℕ) (held : Bool) where
  pub changed_mark : place < 128 → is_marked (with_mark marks place held) place ≡ held
  unfolding is_marked with_mark
  changed_mark h = here (ltb place 64) refl
    where
      bit : (w : ℕ) → eqb (bit_at (changed_bit w (place % 64) held) (place % 64)) 1 ≡ held
      bit w = rw (changed_here w (place % 64) held (omega arith)) (so held)
        where
          so : (b : Bool) → eqb (cond b 1 0) 1 ≡ b
          so true = refl
          so false = refl

      here : (low : Bool) → ltb place 64 ≡ low
          → eqb (bit_at (word_of (with_word marks place (changed_bit (word_of marks place) (place % 64) held)) place) (place % 64)) 1 ≡ held
      here true e = rw e (bit marks.low)
      here false e = rw (e, lt-ltb place 128 h) (bit marks.high)

  pub other_mark : (other : ℕ) → other ≢ place → is_marked (with_mark marks place held) other ≡ is_marked marks other
  unfolding is_marked with_mark
  other_mark other n = go (ltb place 64) refl (ltb place 128) refl (ltb other 64) refl (ltb other 128) refl
    where
      apart : (w : ℕ) → other / 64 ≡ place / 64 → eqb (bit_at (changed_bit w (place % 64) held) (other % 64)) 1 ≡ eqb (bit_at w (other % 64)) 1
      apart w same = rw (changed_other w (place % 64) held (other % 64) (omega arith) (omega arith) (λ e. n (omega arith)))

      go : (pl : Bool) → ltb place 64 ≡ pl → (ph : Bool) → ltb place 128 ≡ ph → (ol : Bool) → ltb other 64 ≡ ol → (oh : Bool) → ltb other 128 ≡ oh
          → eqb (bit_at (word_of (with_word marks place (changed_bit (word_of marks place) (place % 64) held)) other) (other % 64)) 1
          ≡ eqb (bit_at (word_of marks other) (other % 64)) 1
      go true p ph q true o oh r = rw (p, o) (apart marks.low (omega (arith, ltb-true place 64 p, ltb-true other 64 o)))
      go true p ph q false o oh r = rw (p, o)
      go false p true q true o oh r = rw (p, q, o)
      go false p true q false o true r =
          rw (p, q, o, r)
          (apart marks.high (omega (arith, ltb-false place 64 p, ltb-true place 128 q, ltb-false other 64 o, ltb-true other 128 r)))
      go false p true q false o false r = rw (p, q, o, r)
      go false p false q ol o oh r = rw (p, q)

pub cleared_mark : (marks : Marks) (place : ℕ) → is_marked (with_mark marks place false) place ≡ false
cleared_mark marks place = elim (dec_lt place 128) [ yes h ↦ changed_mark marks place false h | no h ↦ mark_beyond (with_mark marks place false) place (omega arith) ]

-- ---- a run of marks: each of its places is marked, and the one behind it in the same word is not

pub run_ended : (marks : Marks) (place : ℕ) → Ended (λ k. not (is_marked marks (place + k))) (64 - place % 64) (run_from marks place)
unfolding run_from
run_ended marks place = ended (λ k. not (is_marked marks (place + k))) (64 - place % 64)

pub run_marked : (marks : Marks) (place k : ℕ) → k < run_from marks place → is_marked marks (place + k) ≡ true
run_marked marks place k h = not-false _ ((run_ended marks place).before k h)

pub run_none : (marks : Marks) (place : ℕ) → run_from marks place ≡ 0 → is_marked marks place ≡ false
run_none marks place e =
    let at : place + run_from marks place ≡ place = omega arith in
    not-true (is_marked marks place) (ap (λ (p : ℕ). not (is_marked marks p)) (sym at) ∙ (run_ended marks place).there (omega (arith, e)))

-- within one word, the places behind this one are the bits behind its own
same_word : (marks : Marks) (place k : ℕ) → k < 64 - place % 64 → is_marked marks (place + k) ≡ eqb (bit_at (word_of marks place) (place % 64 + k)) 1
unfolding is_marked
same_word marks place k h =
    let bit : (place + k) % 64 ≡ place % 64 + k = omega arith in
    let block : (place + k) / 64 ≡ place / 64 = omega arith in
    rw (bit, low block, high block)
  where
    low : (place + k) / 64 ≡ place / 64 → ltb (place + k) 64 ≡ ltb place 64
    low e = elim (dec_lt place 64) [
      | yes l ↦ lt-ltb (place + k) 64 (omega arith) ∙ sym (lt-ltb place 64 l)
      | no l ↦ le-ltb (place + k) 64 (omega arith) ∙ sym (le-ltb place 64 (omega arith))
    ]

    high : (place + k) / 64 ≡ place / 64 → ltb (place + k) 128 ≡ ltb place 128
    high e = elim (dec_lt place 128) [
      | yes l ↦ lt-ltb (place + k) 128 (omega arith) ∙ sym (lt-ltb place 128 l)
      | no l ↦ le-ltb (place + k) 128 (omega arith) ∙ sym (le-ltb place 128 (omega arith))
    ]

-- so a count of the ones from its bit on is the run
pub run_is : (marks : Marks) (place n : ℕ) → Ones (64 - place % 64) (word_of marks place / 2 ^ (place % 64)) n → n ≡ run_from marks place
unfolding run_from
run_is marks place n ones = elim (dec_lt n (64 - place % 64)) [
  | yes h ↦ sym (first_at (λ k. not (is_marked marks (place + k))) (64 - place % 64) n h (λ i l. marked i (omega arith) (ones.1 i l)) (unmarked n h (ones.2 h)))
  | no h ↦
      let all : n ≡ 64 - place % 64 = omega (arith, ones.0) in
      all ∙ sym (first-none (λ k. not (is_marked marks (place + k))) (64 - place % 64) (λ i l. marked i l (ones.1 i (omega arith))))
]
  where
    marked : (i : ℕ) → i < 64 - place % 64 → bit_at (word_of marks place / 2 ^ (place % 64)) i ≡ 1 → not (is_marked marks (place + i)) ≡ false
    marked i l e = rw (same_word marks place i l, ← bit_moved (word_of marks place) (place % 64) i, e)

    unmarked : (i : ℕ) → i < 64 - place % 64 → bit_at (word_of marks place / 2 ^ (place % 64)) i ≡ 0 → not (is_marked marks (place + i)) ≡ true
    unmarked i l e = rw (same_word marks place i l, ← bit_moved (word_of marks place) (place % 64) i, e)

-- ---- 01: "Show that any two outcomes allowed by it are equal."

pub begins_settled : Settled Begins
begins_settled = settled _

pub marked_settled : (marks : Marks) (place : ℕ) → Settled (TellsMarked marks place)
marked_settled marks place = settled _

pub changes_settled : (marks : Marks) (place : ℕ) (held : Bool) → Settled (Changes marks place held)
changes_settled marks place held = settled _

pub runs_settled : (marks : Marks) (place : ℕ) → Settled (Runs marks place)
runs_settled marks place = settled _
