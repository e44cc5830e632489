-- A step over a chunk, a stretch of bytes at once: what the code goes by.
-- Assumes nothing.
use Rattle.std.specs.Prelude.{Ok, Some, None}
use mathlib.Core.Path.{◌≡◌, refl, sym, ap, ap₂, ◌∙◌}
use mathlib.Core.Bool.{true, false}
use mathlib.Core.List.{List, [], ◌∷◌, ◌++◌}
use mathlib.Core.Logic.{inl, inr, ⊎_elim}
use Prim.Native.Nat.{ℕ, zero, suc, ◌+◌, ◌-◌, ◌≤◌, ◌<◌}
use native.Mathlib.Nat.{add-zero, zero-add, not-suc-le-zero}
use native.Mathlib.Numerals.{add-one}
use native.Mathlib.Omega.{arith}
use borrow.Author.Tests.{eq-eqb, ne_eqb, lt-ltb, le-ltb, eqb-true, eqb-false}
use lib.ListN.{length, get_or, take, drop, length-drop, drop_of_length-le}
use lib.Seq.{get_or-drop, take_all, take-suc, length-take-le}
use Rattle.lent.proofs.Laws.{drop-next}
use Rattle.lines.specs.declared.Event.{Event}
use Rattle.lines.specs.declared.Event.TheVariants.{Dropped}
use Rattle.listing.specs.Events.{placed, frame_event, is_end, to_next, to_next_end}
use Rattle.listing.proofs.Numbers.{decides_end, ends_there}
use Rattle.listing.proofs.Next.{next-none, before_next, next_there}
use Rattle.receiver.specs.declared.Receiver.{Receiver}
use Rattle.receiver.specs.declared.Stepped.{Stepped}
use Rattle.receiver.specs.Receiver.{outside_at, opened_at, is_inside, passed, grown, next, closing, told, stepped, one_more, step_from}
use Rattle.receiver.specs.Parts.{Held, is_start, passed_by, grown_by, closed_by}
use Rattle.receiver.proofs.Kept.{opened_held, grown_none, grown_more, one_held, one_positive, size_positive, closing_grown, closed_opened}

-- ---- one byte, by what it is and where it stands

module _ (r : Receiver) (b : ℕ) where
  pub at_start : b ≡ 13 → next r b ≡ opened_at r.place
  unfolding next
  at_start e = simp (eq-eqb b 13 e)

  -- outside a frame
  module _ (out : r.size ≡ 0) where
    not_inside : is_inside r ≡ false
    not_inside = le-ltb 0 r.size (omega arith)

    pub told_outside : told r b ≡ Ok None
    unfolding told
    told_outside = rw not_inside refl

    pub next_outside : (b ≡ 13 → ⊥) → next r b ≡ passed r
    unfolding next
    next_outside n = rw (ne_eqb b 13 n, not_inside) refl

  -- inside one
  module _ (open-here : 0 < r.size) where
    is_inside_lem : is_inside r ≡ true
    is_inside_lem = lt-ltb 0 r.size open-here

    pub told_dropped : b ≡ 13 → told r b ≡ Ok (Some (placed r.start Dropped))
    unfolding told
    told_dropped e = rw (is_inside_lem, eq-eqb b 13 e) refl

    pub told_closed : b ≡ 10 → told r b ≡ Ok (Some (placed r.start (closing r)))
    unfolding told
    told_closed e = rw (is_inside_lem, e) refl

    pub next_closed : b ≡ 10 → next r b ≡ outside_at (r.place + 1)
    unfolding next
    next_closed e = rw (is_inside_lem, e) refl

    pub told_grown : (b ≡ 13 → ⊥) → (b ≡ 10 → ⊥) → told r b ≡ Ok None
    unfolding told
    told_grown n m = rw (is_inside_lem, ne_eqb b 13 n, ne_eqb b 10 m) refl

    pub next_grown : (b ≡ 13 → ⊥) → (b ≡ 10 → ⊥) → next r b ≡ grown r b
    unfolding next
    next_grown n m = rw (is_inside_lem, ne_eqb b 13 n, ne_eqb b 10 m) refl

-- ---- a stretch

-- with so many bytes before it
more_by : ℕ → Stepped → Stepped
more_by n s = stepped s.receiver (s.taken + n) s.answer

more_none : (s : Stepped) → s ≡ more_by 0 s
unfolding more_by
more_none s = ap (λ (n : ℕ). stepped s.receiver n s.answer) (sym (add-zero s.taken))

more_one : (n : ℕ) (s : Stepped) → one_more (more_by n s) ≡ more_by (suc n) s
unfolding more_by
more_one n s = ap (λ (n : ℕ). stepped s.receiver n s.answer) (same s.taken)
  where
    same : (t : ℕ) → t + n + 1 ≡ t + suc n
    same t = omega arith

quiet : (r : Receiver) (b : ℕ) (rest : List ℕ) (r' : Receiver) → told r b ≡ Ok None → next r b ≡ r' → step_from r (b ∷ rest) ≡ one_more (step_from r' rest)
unfolding step_from
quiet r b rest r' t n = rw (t, n) refl

ends : (r : Receiver) (b : ℕ) (rest : List ℕ) (r' : Receiver) {p : ℕ} {e : Event} → told r b ≡ Ok (Some (placed p e)) → next r b ≡ r'
    → step_from r (b ∷ rest) ≡ stepped r' 1 (Ok (Some (placed p e)))
unfolding step_from
ends r b rest r' t n = rw (t, n) refl

nothing_left : (r : Receiver) → step_from r [] ≡ stepped r 0 (Ok None)
unfolding step_from
nothing_left r = refl

passed_none : (r : Receiver) → passed_by r 0 ≡ r
passed_none r = ap (λ (p : ℕ). record { place = p; start = r.start; size = r.size; bytes = r.bytes }) (add-zero r.place)

passed_more : (r : Receiver) (n : ℕ) → passed_by (passed r) n ≡ passed_by r (suc n)
passed_more r n = ap (λ (p : ℕ). record { place = p; start = r.start; size = r.size; bytes = r.bytes }) (same r.place)
  where
    same : (p : ℕ) → p + 1 + n ≡ p + suc n
    same p = omega arith

pass_on : (k : ℕ) (r : Receiver) (chunk : List ℕ) → r.size ≡ 0 → k ≤ to_next is_start chunk → step_from r chunk ≡ more_by k (step_from (passed_by r k) (drop k chunk))
pass_on zero r chunk out h = rw (passed_none r) (more_none (step_from r chunk))
pass_on (suc k) r [] out h = absurd (not-suc-le-zero (rw (next-none is_start) at h))
pass_on (suc k) r (b ∷ rest) out h =
    let on = before_next is_start b rest k h in
    quiet r b rest (passed r) (told_outside r b out) (next_outside r b out (eqb-false b 13 on.0))
    ∙ ap one_more (pass_on k (passed r) rest out on.1) ∙ more_one k (step_from (passed_by (passed r) k) (drop k rest))
    ∙ ap (λ (s : Receiver). more_by (suc k) (step_from s (drop k rest))) (passed_more r k)

-- a byte before the frame's end is neither 13 nor 10
inner : (b : ℕ) → is_end b ≡ false → (b ≡ 13 → ⊥) × (b ≡ 10 → ⊥)
inner b e = let n = (decides_end b).not_so e in ((λ p. n (inr p)), (λ p. n (inl p)))

grow_on : (k : ℕ) (r : Receiver) (chunk : List ℕ) → Held r → 0 < r.size → k ≤ to_next_end chunk
    → step_from r chunk ≡ more_by k (step_from (grown_by r (take k chunk)) (drop k chunk))
grow_on zero r chunk held inside h = rw (grown_none r) (more_none (step_from r chunk))
grow_on (suc k) r [] held inside h = absurd (not-suc-le-zero (rw (next-none is_end) at h))
grow_on (suc k) r (b ∷ rest) held inside h =
    let on = before_next is_end b rest k h in
    let in_frame = inner b on.0 in
    quiet r b rest (grown r b) (told_grown r b inside in_frame.0 in_frame.1) (next_grown r b inside in_frame.0 in_frame.1)
    ∙ ap one_more (grow_on k (grown r b) rest (one_held r b held) (one_positive r b inside) on.1)
    ∙ more_one k (step_from (grown_by (grown r b) (take k rest)) (drop k rest))
    ∙ ap (λ (s : Receiver). more_by (suc k) (step_from s (drop k rest))) (grown_more r b (take k rest) held)

-- ---- the open frame goes on: to the chunk's end, to a 13, or to a 10

one_then : (n : ℕ) → 1 + n ≡ n + 1
one_then n = omega arith

one_before : (t n : ℕ) → t + 1 + n ≡ t + (n + 1)
one_before t n = omega arith

ten_there : (chunk : List ℕ) (k : ℕ) → to_next_end chunk ≡ k → k < length chunk → (get_or chunk k 0 ≡ 13 → ⊥) → get_or chunk k 0 ≡ 10
ten_there chunk k is under n = ⊎_elim (λ e. e) (λ e. absurd (n e)) (rw is at (ends_there chunk (rw is under)))

start_there : (chunk : List ℕ) (k : ℕ) → k ≡ to_next is_start chunk → k < length chunk → get_or chunk k 0 ≡ 13
start_there chunk k is under = rw is (eqb-true (get_or chunk (to_next is_start chunk) 0) 13 (next_there is_start chunk (rw (← is) under)))

module _ (r : Receiver) (chunk : List ℕ) (held : Held r) (inside : 0 < r.size) where
  pub stays_open : length chunk ≤ to_next_end chunk → step_from r chunk ≡ stepped (grown_by r chunk) (length chunk) (Ok None)
  unfolding more_by
  stays_open h =
      grow_on (length chunk) r chunk held inside h
      ∙ rw (take_all (length chunk) chunk (omega arith), drop_of_length-le chunk {i = length chunk} (omega arith), nothing_left (grown_by r chunk), zero-add (length chunk)) refl

  module _ (k : ℕ) (is : to_next_end chunk ≡ k) (under : k < length chunk) where
    long : length (take k chunk) ≡ k
    long = length-take-le k chunk (omega arith)

    to_end : step_from r chunk ≡ more_by k (step_from (grown_by r (take k chunk)) (get_or chunk k 0 ∷ drop (k + 1) chunk))
    to_end = grow_on k r chunk held inside (omega arith) ∙ ap (λ (l : List ℕ). more_by k (step_from (grown_by r (take k chunk)) l)) (drop-next chunk k under)

    still : 0 < (grown_by r (take k chunk)).size
    still = size_positive r.size (length (take k chunk)) inside

    pub is_dropped_lem : get_or chunk k 0 ≡ 13 → step_from r chunk ≡ stepped (opened_at (r.place + k)) (k + 1) (Ok (Some (placed r.start Dropped)))
    unfolding more_by
    is_dropped_lem e =
        to_end
        ∙ ap (more_by k)
        (ends (grown_by r (take k chunk)) (get_or chunk k 0) (drop (k + 1) chunk) (opened_at (r.place + length (take k chunk)))
        (told_dropped (grown_by r (take k chunk)) (get_or chunk k 0) still e) (at_start (grown_by r (take k chunk)) (get_or chunk k 0) e))
        ∙ rw long (ap (λ (n : ℕ). stepped (opened_at (r.place + k)) n (Ok (Some (placed r.start Dropped)))) (one_then k))

    pub is_closed : (get_or chunk k 0 ≡ 13 → ⊥) → step_from r chunk ≡ stepped (outside_at (r.place + k + 1)) (k + 1) (Ok (Some (placed r.start (closed_by r (take (k + 1) chunk)))))
    unfolding more_by
    is_closed n =
        to_end
        ∙ ap (more_by k)
        (ends (grown_by r (take k chunk)) (get_or chunk k 0) (drop (k + 1) chunk) (outside_at (r.place + length (take k chunk) + 1))
        (told_closed (grown_by r (take k chunk)) (get_or chunk k 0) still ten) (next_closed (grown_by r (take k chunk)) (get_or chunk k 0) still ten))
        ∙ ap₂ (λ (p n : ℕ). stepped (outside_at (p + 1)) n (Ok (Some (placed r.start (closing (grown_by r (take k chunk))))))) (ap (λ (n : ℕ). r.place + n) long) (one_then k)
        ∙ ap (λ (e : Event). stepped (outside_at (r.place + k + 1)) (k + 1) (Ok (Some (placed r.start e))))
        (closing_grown r (take k chunk) held ∙ ap (closed_by r) (sym with_last_lem))
      where
        ten : get_or chunk k 0 ≡ 10
        ten = ten_there chunk k is under n

        with_last_lem : take (k + 1) chunk ≡ take k chunk ++ (10 ∷ [])
        with_last_lem = rw (add-one k, take-suc chunk k 0 under, ten) refl

-- ---- outside a frame: to the chunk's end, or to a 13

module _ (r : Receiver) (chunk : List ℕ) (out : r.size ≡ 0) (at : ℕ) (is : at ≡ to_next is_start chunk) where
  pub passes_all : length chunk ≤ at → at ≤ length chunk → step_from r chunk ≡ stepped (passed_by r at) at (Ok None)
  unfolding more_by
  passes_all h g =
      pass_on at r chunk out (omega arith)
      ∙ rw (drop_of_length-le chunk {i = at} h, nothing_left (passed_by r at), zero-add at) refl

  module _ (under : at < length chunk) where
    -- the chunk from the 13 on is a frame's that was opened there
    opens : step_from r chunk ≡ more_by (at + 1) (step_from (opened_at (r.place + at)) (drop (at + 1) chunk))
    unfolding more_by
    opens =
        pass_on at r chunk out (omega arith)
        ∙ ap (λ (l : List ℕ). more_by at (step_from (passed_by r at) l)) (drop-next chunk at under)
        ∙ ap (more_by at)
        (quiet (passed_by r at) (get_or chunk at 0) (drop (at + 1) chunk) (opened_at (r.place + at)) (told_outside (passed_by r at) (get_or chunk at 0) out)
        (at_start (passed_by r at) (get_or chunk at 0) (start_there chunk at is under)))
        ∙ ap (λ (n : ℕ). stepped later.receiver n later.answer) (one_before later.taken at)
      where
        later : Stepped
        later = step_from (opened_at (r.place + at)) (drop (at + 1) chunk)

    module _ (end : ℕ) (found : end ≡ at + 1 + to_next_end (drop (at + 1) chunk)) where
      -- a frame that is open at the chunk's end
      pub opens_frame : length chunk ≤ end → end ≤ length chunk
          → step_from r chunk ≡ stepped (grown_by (opened_at (r.place + at)) (take (end - (at + 1)) (drop (at + 1) chunk))) end (Ok None)
      unfolding more_by
      opens_frame h g =
          opens
          ∙ ap (more_by (at + 1)) (stays_open (opened_at (r.place + at)) (drop (at + 1) chunk) (opened_held (r.place + at)) (omega arith) (rw left_is (omega arith)))
          ∙ ap₂ (λ (l : List ℕ) (n : ℕ). stepped (grown_by (opened_at (r.place + at)) l) n (Ok None)) (sym all_taken) ends_at
        where
          left_is : length (drop (at + 1) chunk) ≡ length chunk - (at + 1)
          left_is = length-drop (at + 1) chunk

          all_taken : take (end - (at + 1)) (drop (at + 1) chunk) ≡ drop (at + 1) chunk
          all_taken = take_all (end - (at + 1)) (drop (at + 1) chunk) (rw left_is (omega arith))

          ends_at : length (drop (at + 1) chunk) + (at + 1) ≡ end
          ends_at = rw left_is (omega arith)

      -- a frame that ends in the chunk: k bytes stand between its 13 and its end
      module _ (in_chunk : end < length chunk) where
        next_is : to_next_end (drop (at + 1) chunk) ≡ end - (at + 1)
        next_is = omega arith

        there : end - (at + 1) < length (drop (at + 1) chunk)
        there = rw (length-drop (at + 1) chunk) (omega arith)

        last_is : get_or (drop (at + 1) chunk) (end - (at + 1)) 0 ≡ get_or chunk end 0
        last_is = get_or-drop (at + 1) chunk (end - (at + 1)) 0 ∙ ap (λ (i : ℕ). get_or chunk i 0) (omega arith)

        taken_is : end - (at + 1) + 1 + (at + 1) ≡ end + 1
        taken_is = omega arith

        place_is : r.place + at + 1 + (end - (at + 1)) ≡ r.place + end
        place_is = omega arith

        pub drops_frame : get_or chunk end 0 ≡ 13 → step_from r chunk ≡ stepped (opened_at (r.place + end)) (end + 1) (Ok (Some (placed (r.place + at) Dropped)))
        unfolding more_by
        drops_frame e =
            opens
            ∙ ap (more_by (at + 1))
            (is_dropped_lem (opened_at (r.place + at)) (drop (at + 1) chunk) (opened_held (r.place + at)) (omega arith) (end - (at + 1)) next_is there (last_is ∙ e))
            ∙ ap₂ (λ (p n : ℕ). stepped (opened_at p) n (Ok (Some (placed (r.place + at) Dropped)))) place_is taken_is

        frame_is : 13 ∷ take (end - (at + 1) + 1) (drop (at + 1) chunk) ≡ take (end + 1 - at) (drop at chunk)
        frame_is = rw (drop-next chunk at under, start_there chunk at is under, long_is) refl
          where
            long_is : end + 1 - at ≡ suc (end - (at + 1) + 1)
            long_is = omega arith

        pub reads_frame : (get_or chunk end 0 ≡ 13 → ⊥)
            → step_from r chunk ≡ stepped (outside_at (r.place + end + 1)) (end + 1) (Ok (Some (placed (r.place + at) (frame_event (take (end + 1 - at) (drop at chunk))))))
        unfolding more_by
        reads_frame n =
            opens
            ∙ ap (more_by (at + 1))
            (is_closed (opened_at (r.place + at)) (drop (at + 1) chunk) (opened_held (r.place + at)) (omega arith) (end - (at + 1)) next_is there (λ e. n (sym last_is ∙ e)))
            ∙ ap₂ (λ (p n : ℕ). stepped (outside_at (p + 1)) n (Ok (Some (placed (r.place + at) (closed_by (opened_at (r.place + at)) (take (end - (at + 1) + 1) (drop (at + 1) chunk)))))))
            place_is taken_is
            ∙ ap (λ (e : Event). stepped (outside_at (r.place + end + 1)) (end + 1) (Ok (Some (placed (r.place + at) e))))
            (closed_opened (r.place + at) (take (end - (at + 1) + 1) (drop (at + 1) chunk)) ∙ ap frame_event frame_is)
