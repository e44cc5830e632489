-- What is kept of an open frame: how it grows, and how it is closed.
-- Assumes nothing.
use mathlib.Core.Path.{◌≡◌, refl, ap, ap₂, ◌∙◌}
use mathlib.Core.Bool.{Bool, true, false, cond}
use mathlib.Core.List.{List, [], ◌∷◌, ◌++◌, append_assoc}
use Prim.Native.Nat.{ℕ, zero, suc, ◌+◌, ◌-◌, ◌≤◌, ◌<◌}
use native.Mathlib.Nat.{add-zero, zero-add, suc-add}
use native.Mathlib.Omega.{arith}
use borrow.Author.Tests.{le-leb, lt-leb, lt-ltb, le-ltb, leb-true, leb-false, ltb-true, ltb-false}
use lib.Dec.{leb, ltb}
use lib.ListN.{length, take, length-append, length-replicate}
use Rattle.lent.specs.Lent.{over_at}
use Rattle.lent.proofs.Laws.{length-over_at, over_at_none, over_at_past, over_at_append, take-over}
use Rattle.telegram.specs.declared.Fault.TheVariants.{LongMessage}
use Rattle.lines.specs.declared.Event.{Event}
use Rattle.lines.specs.declared.Event.TheVariants.{Refused}
use Rattle.listing.specs.Events.{frame_event}
use Rattle.receiver.specs.declared.Receiver.{Receiver}
use Rattle.receiver.specs.Receiver.{no_bytes, opened_at, ran_away, grown, closing}
use Rattle.receiver.specs.Parts.{Held, size_by, grown_by, closed_by}

pub length_none : length no_bytes ≡ 494
unfolding no_bytes
length_none = length-replicate {A = ℕ} 494 0

pub opened_held : (place : ℕ) → Held (opened_at place)
opened_held place = length-over_at 0 (13 ∷ []) no_bytes ∙ length_none

pub grown_held : (r : Receiver) (xs : List ℕ) → Held r → Held (grown_by r xs)
grown_held r xs h = length-over_at r.size xs r.bytes ∙ h

-- ---- sizes

size_none : (n : ℕ) → size_by n 0 ≡ n
size_none n = go (leb 494 n) refl
  where
    go : (t : Bool) → leb 494 n ≡ t → cond t n (cond (ltb (494 - n) 0) 494 (n + 0)) ≡ n
    go true e = refl
    go false e = rw (le-ltb (494 - n) 0 (omega arith)) (add-zero n)

-- by one and then by more
size_more : (n more : ℕ) → size_by (cond (leb 494 n) n (n + 1)) more ≡ size_by n (suc more)
size_more n more = go (leb 494 n) refl
  where
    within : (t : Bool) → leb 494 (n + 1) ≡ t → n < 494 → cond t (n + 1) (cond (ltb (494 - (n + 1)) more) 494 (n + 1 + more)) ≡ cond (ltb (494 - n) (suc more)) 494 (n + suc more)
    within true p h =
        let full : 494 ≤ n + 1 = leb-true 494 (n + 1) p in
        more_or (ltb (494 - n) (suc more)) refl full
      where
        more_or : (s : Bool) → ltb (494 - n) (suc more) ≡ s → 494 ≤ n + 1 → n + 1 ≡ cond s 494 (n + suc more)
        more_or true q full = omega arith
        more_or false q full = let z : suc more ≤ 494 - n = ltb-false (494 - n) (suc more) q in omega arith
    within false p h =
        let under : n + 1 < 494 = leb-false 494 (n + 1) p in
        same (ltb (494 - (n + 1)) more) refl under
      where
        same : (s : Bool) → ltb (494 - (n + 1)) more ≡ s → n + 1 < 494 → cond s 494 (n + 1 + more) ≡ cond (ltb (494 - n) (suc more)) 494 (n + suc more)
        same true q under =
            let z : 494 - (n + 1) < more = ltb-true (494 - (n + 1)) more q in
            rw (lt-ltb (494 - n) (suc more) (omega arith)) refl
        same false q under =
            let z : more ≤ 494 - (n + 1) = ltb-false (494 - (n + 1)) more q in
            rw (le-ltb (494 - n) (suc more) (omega arith)) (omega arith)

    go : (t : Bool) → leb 494 n ≡ t → size_by (cond t n (n + 1)) more ≡ cond t n (cond (ltb (494 - n) (suc more)) 494 (n + suc more))
    go true e = rw e refl
    go false e = within (leb 494 (n + 1)) refl (leb-false 494 n e)

-- ---- growing

pub grown_none : (r : Receiver) → grown_by r [] ≡ r
grown_none r =
    ap₂ (λ (p s : ℕ). record { place = p; start = r.start; size = s; bytes = over_at r.size [] r.bytes }) (add-zero r.place) (size_none r.size)
    ∙ ap (λ (b : List ℕ). record { place = r.place; start = r.start; size = r.size; bytes = b }) (over_at_none r.size r.bytes)

bytes_more : (r : Receiver) (b : ℕ) (xs : List ℕ) → Held r → over_at (grown r b).size xs (grown r b).bytes ≡ over_at r.size (b ∷ xs) r.bytes
bytes_more r b xs h = go (ran_away r) refl
  where
    go : (t : Bool) → ran_away r ≡ t → over_at (cond t r.size (r.size + 1)) xs (over_at r.size (b ∷ []) r.bytes) ≡ over_at r.size (b ∷ xs) r.bytes
    go true e =
        let past : length r.bytes ≤ r.size = rw h (leb-true 494 r.size e) in
        rw (over_at_past r.size (b ∷ []) r.bytes past, over_at_past r.size xs r.bytes past, over_at_past r.size (b ∷ xs) r.bytes past) refl
    go false e = over_at_append r.size (b ∷ []) xs r.bytes

-- one byte and then some is all of them
pub grown_more : (r : Receiver) (b : ℕ) (xs : List ℕ) → Held r → grown_by (grown r b) xs ≡ grown_by r (b ∷ xs)
grown_more r b xs h =
    let p : r.place + 1 + length xs ≡ r.place + suc (length xs) = omega arith in
    ap₂ (λ (p s : ℕ). record { place = p; start = r.start; size = s; bytes = over_at (grown r b).size xs (grown r b).bytes }) p (size_more r.size (length xs))
    ∙ ap (λ (d : List ℕ). record { place = r.place + suc (length xs); start = r.start; size = size_by r.size (suc (length xs)); bytes = d }) (bytes_more r b xs h)

-- an open frame stays open
pub size_positive : (n more : ℕ) → 0 < n → 0 < size_by n more
size_positive n more h = go (leb 494 n) (ltb (494 - n) more)
  where
    go : (s t : Bool) → 0 < cond s n (cond t 494 (n + more))
    go true t = h
    go false true = omega arith
    go false false = omega arith

pub one_held : (r : Receiver) (b : ℕ) → Held r → Held (grown r b)
one_held r b h = length-over_at r.size (b ∷ []) r.bytes ∙ h

pub one_positive : (r : Receiver) (b : ℕ) → 0 < r.size → 0 < (grown r b).size
one_positive r b h = go (ran_away r)
  where
    go : (t : Bool) → 0 < cond t r.size (r.size + 1)
    go true = h
    go false = omega arith

-- ---- closing

-- what is laid behind the first bytes
pub take_laid : (k : ℕ) (xs d : List ℕ) → k + length xs ≤ length d → take (k + length xs) (over_at k xs d) ≡ take k d ++ xs
unfolding over_at
take_laid zero xs d h = rw (zero-add (length xs)) (take-over xs d (omega arith))
take_laid (suc k) xs [] h = absurd (omega arith)
take_laid (suc k) xs (y ∷ d) h = rw (suc-add k (length xs)) (ap (λ (l : List ℕ). y ∷ l) (take_laid k xs d (omega arith)))

module _ (r : Receiver) (xs : List ℕ) (held : Held r) where
  last_length : length (xs ++ (10 ∷ [])) ≡ length xs + 1
  last_length = length-append xs (10 ∷ [])

  kept_then : r.size + length xs + 1 ≤ 494
      → take (r.size + length xs) (over_at r.size xs r.bytes) ++ (10 ∷ [])
      ≡ take (r.size + length (xs ++ (10 ∷ []))) (over_at r.size (xs ++ (10 ∷ [])) r.bytes)
  kept_then h =
      let one : r.size + length xs ≤ length r.bytes = rw held (omega arith) in
      let two : r.size + length (xs ++ (10 ∷ [])) ≤ length r.bytes = rw (held, last_length) (omega arith) in
      rw (take_laid r.size xs r.bytes one, take_laid r.size (xs ++ (10 ∷ [])) r.bytes two) (append_assoc (take r.size r.bytes) xs (10 ∷ []))

  -- the frame that a 10 closes, from what was kept before and the bytes since
  pub closing_grown : closing (grown_by r xs) ≡ closed_by r (xs ++ (10 ∷ []))
  unfolding closing
  closing_grown = go (leb 494 r.size) refl
    where
      long : Event
      long = Refused LongMessage

      size_is : r.size < 494 → size_by r.size (length xs) ≡ cond (ltb (494 - r.size) (length xs)) 494 (r.size + length xs)
      size_is h = rw (lt-leb 494 r.size h) refl

      full : 494 ≤ r.size + length xs → (s : Bool) → 494 ≤ cond s 494 (r.size + length xs)
      full f true = omega arith
      full f false = f

      within : r.size < 494 → (t : Bool) → ltb (494 - r.size) (length (xs ++ (10 ∷ []))) ≡ t
          → cond (leb 494 (size_by r.size (length xs))) long (frame_event (take (size_by r.size (length xs)) (over_at r.size xs r.bytes) ++ (10 ∷ [])))
          ≡ cond t long (frame_event (take (r.size + length (xs ++ (10 ∷ []))) (over_at r.size (xs ++ (10 ∷ [])) r.bytes)))
      within h true e =
          let z : 494 - r.size < length (xs ++ (10 ∷ [])) = ltb-true (494 - r.size) (length (xs ++ (10 ∷ []))) e in
          let f : 494 ≤ r.size + length xs = omega (arith, last_length) in
          let over : 494 ≤ size_by r.size (length xs) = rw (size_is h) (full f (ltb (494 - r.size) (length xs))) in
          ap (λ (t : Bool). cond t long (frame_event (take (size_by r.size (length xs)) (over_at r.size xs r.bytes) ++ (10 ∷ []))))
          (le-leb 494 (size_by r.size (length xs)) over)
      within h false e =
          let z : length (xs ++ (10 ∷ [])) ≤ 494 - r.size = ltb-false (494 - r.size) (length (xs ++ (10 ∷ []))) e in
          let fits : r.size + length xs + 1 ≤ 494 = omega (arith, last_length) in
          let size : size_by r.size (length xs) ≡ r.size + length xs = size_is h ∙ rw (le-ltb (494 - r.size) (length xs) (omega arith)) refl in
          ap (λ (n : ℕ). cond (leb 494 n) long (frame_event (take n (over_at r.size xs r.bytes) ++ (10 ∷ [])))) size
          ∙ rw (lt-leb 494 (r.size + length xs) (omega arith)) (ap frame_event (kept_then fits))

      ran : leb 494 r.size ≡ true → size_by r.size (length xs) ≡ r.size
      ran e = rw e refl

      go : (t : Bool) → leb 494 r.size ≡ t
          → cond (leb 494 (size_by r.size (length xs))) long (frame_event (take (size_by r.size (length xs)) (over_at r.size xs r.bytes) ++ (10 ∷ [])))
          ≡ cond t long (cond (ltb (494 - r.size) (length (xs ++ (10 ∷ [])))) long (frame_event (take (r.size + length (xs ++ (10 ∷ []))) (over_at r.size (xs ++ (10 ∷ [])) r.bytes))))
      go true e =
          ap (λ (n : ℕ). cond (leb 494 n) long (frame_event (take n (over_at r.size xs r.bytes) ++ (10 ∷ [])))) (ran e)
          ∙ ap (λ (t : Bool). cond t long (frame_event (take r.size (over_at r.size xs r.bytes) ++ (10 ∷ [])))) e
      go false e = within (leb-false 494 r.size e) (ltb (494 - r.size) (length (xs ++ (10 ∷ [])))) refl

-- a frame whose 13 was the first byte of it
pub closed_opened : (place : ℕ) (last : List ℕ) → closed_by (opened_at place) last ≡ frame_event (13 ∷ last)
unfolding frame_event
closed_opened place last = go (ltb (494 - 1) (length last)) refl
  where
    kept_is : length last ≤ 493 → take (1 + length last) (over_at 1 last (over_at 0 (13 ∷ []) no_bytes)) ≡ 13 ∷ last
    kept_is h =
        rw (over_at_append 0 (13 ∷ []) last no_bytes)
        (ap (λ (n : ℕ). take n (over_at 0 (13 ∷ last) no_bytes)) (same (length last)) ∙ take_laid 0 (13 ∷ last) no_bytes (rw length_none (omega arith)))
      where
        same : (n : ℕ) → 1 + n ≡ 0 + suc n
        same n = omega arith

    go : (t : Bool) → ltb (494 - 1) (length last) ≡ t
        → cond t (Refused LongMessage) (frame_event (take (1 + length last) (over_at 1 last (over_at 0 (13 ∷ []) no_bytes)))) ≡ frame_event (13 ∷ last)
    go true e = let z : 493 < length last = ltb-true 493 (length last) e in rw (lt-ltb 494 (suc (length last)) (omega arith)) refl
    go false e = let z : length last ≤ 493 = ltb-false 493 (length last) e in ap frame_event (kept_is z)
