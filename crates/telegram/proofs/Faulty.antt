-- 02, #105: number 3 comes with the place of the first faulty 94, and no other number comes with one.
-- Assumes nothing.
use Rattle.std.specs.Prelude.{Ok, Err}
use mathlib.Core.Path.{◌≡◌, refl, sym, ap, subst, ◌∙◌}
use mathlib.Core.Bool.{Bool, true, false, cond, true≢false}
use mathlib.Core.List.{List}
use mathlib.Core.Logic.{◌≢◌, ◌⊎◌, inl, inr, ⊎_elim}
use mathlib.Core.Option.{Option, some, none}
use Prim.Native.Nat.{ℕ, zero, suc, ◌+◌, ◌-◌, ◌≤◌, ◌<◌}
use native.Mathlib.Omega.{arith}
use borrow.Author.Tests.{lt-ltb, le-ltb, ltb-true, ltb-false}
use lib.Dec.{ltb}
use lib.ListN.{length, get_or}
use Rattle.first.proofs.Laws.{Ended, ended}
use Rattle.frame.specs.Frame.{between}
use Rattle.rows.proofs.Laws.{decides_eq, decides_and, decides_not, told_true, told_false, refused_exactly, clash}
use Rattle.rows.proofs.Settled.{settled}
use Rattle.rows.specs.Rows.{First, first_row_of}
use Rattle.rows.specs.Settled.{Settled}
use Rattle.telegram.proofs.Judge.{past_2}
use Rattle.telegram.proofs.Ranking.{decides_ends, decides_bad, read_ranked}
use Rattle.telegram.proofs.Sound.{Ends, ends_told, decides_substitute}
use Rattle.telegram.specs.Read.{byte, IsNotFramed, FaultyAt, HasBadSubstitution, FirstFaulty, is_substitute, is_faulty, bad_place, has_bad_substitution}
use Rattle.telegram.specs.Read.{not_framed, has_stray_end, read_rows, fault_number, fault_place, read_told, read_place, fields_in, frame_tests, judged, read_refusal, read_frame}
use Rattle.telegram.specs.Read.{Reads, Judges, Places}
use Rattle.telegram.specs.declared.Fault.{Fault}
use Rattle.telegram.specs.declared.Fault.TheVariants.{NotFramed, StrayEnd, BadSubstitution, ShortMessage, LongMessage, NoRoom, CheckFault, ZeroAddress, UnknownType}
use Rattle.telegram.specs.Answers.{Reading}

-- ---- the whole frame

module _ (frame : List ℕ) (right : IsNotFramed frame → ⊥) where
  ends : Ends frame
  ends = ends_told frame (told_false (decides_ends frame) right)

  -- what is found is a faulty 94, since neither end of the frame is a 94
  faulty : (i : ℕ) → i < length frame → is_faulty frame i ≡ true → FaultyAt frame i
  faulty i under e =
      let parts = (decides_and (decides_eq (byte frame i) 94) (decides_not (decides_substitute (byte frame (i + 1))))).so e in
      ((after_start i parts.0, before_end i under parts.0), parts.0, (λ p. parts.1 (inl p), λ p. parts.1 (inr (inl p)), λ p. parts.1 (inr (inr p))))
    where
      after_start : (i : ℕ) → byte frame i ≡ 94 → 1 ≤ i
      after_start zero e = let both : ◌≡◌ {A = ℕ} 13 94 = sym ends.start ∙ e in absurd (omega arith)
      after_start (suc i) e = omega arith

      before_end : (i : ℕ) → i < length frame → byte frame i ≡ 94 → i + 1 < length frame
      before_end i under e = go (ltb (i + 1) (length frame)) refl
        where
          go : (b : Bool) → ltb (i + 1) (length frame) ≡ b → i + 1 < length frame
          go true t = ltb-true (i + 1) (length frame) t
          go false t =
              let same : i ≡ length frame - 1 = let past = ltb-false (i + 1) (length frame) t in omega arith in
              let both : ◌≡◌ {A = ℕ} 10 94 = sym ends.end ∙ ap (byte frame) (sym same) ∙ e in
              absurd (omega arith)

  is_faulty_lem : (i : ℕ) → FaultyAt frame i → is_faulty frame i ≡ true
  is_faulty_lem i f =
      told_true (decides_and (decides_eq (byte frame i) 94) (decides_not (decides_substitute (byte frame (i + 1)))))
      (f.1, ⊎_elim f.2.0 (⊎_elim f.2.1 f.2.2))

  search : Ended (is_faulty frame) (length frame) (bad_place frame)
  unfolding bad_place
  search = ended (is_faulty frame) (length frame)

  -- no faulty 94 stands before what is found, and none at all where nothing is
  not-before : (i : ℕ) → i < bad_place frame → FaultyAt frame i → ⊥
  not-before i l f = true≢false (sym (is_faulty_lem i f) ∙ search.before i l)

  pub place-within : HasBadSubstitution frame → bad_place frame < length frame
  unfolding HasBadSubstitution
  place-within h = go (ltb (bad_place frame) (length frame)) refl
    where
      go : (b : Bool) → ltb (bad_place frame) (length frame) ≡ b → bad_place frame < length frame
      go true t = ltb-true _ _ t
      go false t =
          let past = ltb-false (bad_place frame) (length frame) t in
          absurd (not-before h.0 (omega (arith, past, h.1.0.1)) h.1)

  pub place_faulty : bad_place frame < length frame → HasBadSubstitution frame
  unfolding HasBadSubstitution
  place_faulty l = (bad_place frame, faulty (bad_place frame) l (search.there l))

  -- there is one exactly where row 3 holds, and it is the first
  pub place_first : HasBadSubstitution frame → FirstFaulty frame (bad_place frame)
  unfolding FirstFaulty
  place_first h = (faulty (bad_place frame) (place-within h) (search.there (place-within h)), not-before)

  -- as the reader tests it
  pub bad_by_place : has_bad_substitution false (between frame) ≡ ltb (bad_place frame) (length frame)
  bad_by_place = go (has_bad_substitution false (between frame)) refl
    where
      go : (b : Bool) → has_bad_substitution false (between frame) ≡ b → b ≡ ltb (bad_place frame) (length frame)
      go true e = sym (lt-ltb _ _ (place-within ((decides_bad frame right).so e)))
      go false e = sym (not_found (ltb (bad_place frame) (length frame)) refl)
        where
          not_found : (b : Bool) → ltb (bad_place frame) (length frame) ≡ b → b ≡ false
          not_found true t = absurd ((decides_bad frame right).not_so e (place_faulty (ltb-true _ _ t)))
          not_found false t = refl

-- ---- rows 1 to 3 as they are judged, once 1 and 2 do not hold

module _ (frame : List ℕ) {not_framed_lem stray : Bool} {bytes : List ℕ} (told : not_framed_lem ≡ not_framed frame) (right : not_framed_lem ≡ false) (inside : bytes ≡ between frame)
    (found : stray ≡ has_stray_end bytes) (no_stray : stray ≡ false) {place : ℕ} (is : place ≡ bad_place frame) where
  by_place : first_row_of (frame_tests frame) ≡ cond (ltb place (length frame)) (some (BadSubstitution place)) none
  by_place =
      past_2 frame told right inside found no_stray
      ∙ rw (inside, bad_by_place frame ((decides_ends frame).not_so (sym told ∙ right)), ← is)

  pub judged_bad : place < length frame → Err (BadSubstitution place) ≡ judged (first_row_of (frame_tests frame))
  judged_bad under =
      let told_bad : first_row_of (frame_tests frame) ≡ some (BadSubstitution place) = by_place ∙ rw (lt-ltb place (length frame) under) in
      sym (ap judged told_bad)

  pub judged_good : length frame ≤ place → Ok tt ≡ judged (first_row_of (frame_tests frame))
  judged_good past =
      let told_none : first_row_of (frame_tests frame) ≡ none = by_place ∙ rw (le-ltb place (length frame) past) in
      sym (ap judged told_none)

-- ---- what a reading tells

-- of the refusals only the one of row 3 has number 3
three : (frame : List ℕ) (room : ℕ) (f : Fault) → First (read_rows frame room) f → fault_number f ≡ 3
    → (IsNotFramed frame → ⊥) × HasBadSubstitution frame × (f ≡ BadSubstitution (bad_place frame))
unfolding read_rows
three frame room f first number =
    ⊎_elim (λ a. not_3 a.1 (omega arith)) (λ b₁. ⊎_elim (λ a. not_3 a.1 (omega arith)) (λ b₂. ⊎_elim (λ a. (b₁.0, a.0, a.1))
    (λ b₃. ⊎_elim (λ a. not_3 a.1 (omega arith)) (λ b₄. ⊎_elim (λ a. not_3 a.1 (omega arith)) (λ b₅. ⊎_elim (λ a. not_3 a.1 (omega arith))
    (λ b₆. ⊎_elim (λ a. not_3 a.1 (omega arith)) (λ b₇. ⊎_elim (λ a. not_3 a.1 (omega arith)) (λ b₈. ⊎_elim (λ a. not_3 a.1 (omega arith)) (λ b₉. absurd b₉.1)
    b₈.1) b₇.1) b₆.1) b₅.1) b₄.1) b₃.1) b₂.1) b₁.1) first
  where
    not_3 : {A : Type 0} {g : Fault} → f ≡ g → fault_number g ≢ 3 → A
    not_3 same other = absurd (other (sym (ap fault_number same) ∙ number))

-- 3 comes with the place of the first faulty 94
pub place_told : (frame : List ℕ) (room : ℕ) (r : Reading) → Judges frame room r → read_told r ≡ some 3 → FirstFaulty frame (read_place r)
unfolding read_frame
place_told frame room r judges told = go (read_refusal frame room) refl
  where
    some_is : {m n : ℕ} → ◌≡◌ {A = Option ℕ} (some m) (some n) → m ≡ n
    some_is e = cc

    go : (o : Option Fault) → read_refusal frame room ≡ o → FirstFaulty frame (read_place r)
    go none e =
        let is : r ≡ Ok (fields_in frame) = judges ∙ rw e in
        let both : ◌≡◌ {A = Option ℕ} none (some 3) = sym (ap read_told is) ∙ told in
        clash (cc)
    go (some f) e =
        let is : r ≡ Err f = judges ∙ rw e in
        let number : fault_number f ≡ 3 = some_is (sym (ap read_told is) ∙ told) in
        let t = three frame room f ((refused_exactly (read_rows frame room) (read_refusal frame room) (read_ranked frame room) f).0 e) number in
        subst (FirstFaulty frame) (sym (ap read_place is ∙ ap fault_place t.2)) (place_first frame t.0 t.1)

-- the same of a refusal that a reading gave
pub refused_place : (frame : List ℕ) (room : ℕ) (f : Fault) → read_refusal frame room ≡ some f → fault_number f ≡ 3 → FirstFaulty frame (fault_place f)
unfolding read_frame
refused_place frame room f e number = place_told frame room (Err f) (rw e) (ap some number)

-- and there is only one such place, so this is it
pub first_faulty_once : (frame : List ℕ) (p q : ℕ) → FirstFaulty frame p → FirstFaulty frame q → p ≡ q
unfolding FirstFaulty
first_faulty_once frame p q a b = go (ltb p q) refl (ltb q p) refl
  where
    go : (s : Bool) → ltb p q ≡ s → (t : Bool) → ltb q p ≡ t → p ≡ q
    go true e t f = absurd (b.1 p (ltb-true p q e) a.0)
    go false e true f = absurd (a.1 q (ltb-true q p f) b.0)
    go false e false f = let x = ltb-false p q e in let y = ltb-false q p f in omega arith

-- no other answer has a place
pub no_other_place : (r : Reading) → read_told r ≢ some 3 → read_place r ≡ 0
no_other_place (Ok t) other = refl
no_other_place (Err NotFramed) other = refl
no_other_place (Err StrayEnd) other = refl
no_other_place (Err (BadSubstitution place)) other = absurd (other refl)
no_other_place (Err ShortMessage) other = refl
no_other_place (Err LongMessage) other = refl
no_other_place (Err NoRoom) other = refl
no_other_place (Err CheckFault) other = refl
no_other_place (Err ZeroAddress) other = refl
no_other_place (Err UnknownType) other = refl

pub fault_no_place : (f : Fault) → fault_number f ≢ 3 → fault_place f ≡ 0
fault_no_place f other = no_other_place (Err f) (λ e. other (number_is e))
  where
    number_is : {m n : ℕ} → ◌≡◌ {A = Option ℕ} (some m) (some n) → m ≡ n
    number_is e = cc

-- the same of `read`
pub read_place_lem : (frame room : List ℕ) (r : Reading) (room' : List ℕ) → Reads frame room r room' → read_told r ≡ some 3 → FirstFaulty frame (read_place r)
read_place_lem frame room r room' reads = place_told frame (length room) r reads.0

-- what the first faulty 94 is, said out
pub first_faulty_plainly : (frame : List ℕ) (place : ℕ) → FirstFaulty frame place
    → (1 ≤ place) × (place + 1 < length frame) × (get_or frame place 0 ≡ 94)
    × ((get_or frame (place + 1) 0 ≢ 74) × (get_or frame (place + 1) 0 ≢ 77) × (get_or frame (place + 1) 0 ≢ 158))
    × ((i : ℕ) → 1 ≤ i → i < place → get_or frame i 0 ≡ 94 → (get_or frame (i + 1) 0 ≡ 74) ⊎ ((get_or frame (i + 1) 0 ≡ 77) ⊎ (get_or frame (i + 1) 0 ≡ 158)))
unfolding FirstFaulty
first_faulty_plainly frame place f = (f.0.0.0, f.0.0.1, f.0.1, f.0.2, before)
  where
    before : (i : ℕ) → 1 ≤ i → i < place → get_or frame i 0 ≡ 94 → (get_or frame (i + 1) 0 ≡ 74) ⊎ ((get_or frame (i + 1) 0 ≡ 77) ⊎ (get_or frame (i + 1) 0 ≡ 158))
    before i low under is = go (is_substitute (byte frame (i + 1))) refl
      where
        go : (b : Bool) → is_substitute (byte frame (i + 1)) ≡ b → (get_or frame (i + 1) 0 ≡ 74) ⊎ ((get_or frame (i + 1) 0 ≡ 77) ⊎ (get_or frame (i + 1) 0 ≡ 158))
        go true e = (decides_substitute (byte frame (i + 1))).so e
        go false e =
            let none_of = (decides_substitute (byte frame (i + 1))).not_so e in
            absurd (f.1 i under ((low, omega (arith, under, f.0.0.1)), is, (λ p. none_of (inl p), λ p. none_of (inr (inl p)), λ p. none_of (inr (inr p)))))

-- the call `place` gives the place that these laws speak of
pub place_is : (f : Fault) (r : ℕ) → Places f r → r ≡ fault_place f
place_is f r p = p

pub places_settled : (f : Fault) → Settled (Places f)
places_settled f = settled _
