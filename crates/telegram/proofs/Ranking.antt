-- Rows 1 to 9 are tested as 01 words them, in its order: what the reader and the writer refuse is what the rows give.
-- Assumes nothing.
use mathlib.Core.Path.{◌≡◌, sym, ap, ◌∙◌, refl, subst}
use mathlib.Core.Bool.{true, false, true≢false, Bool}
use mathlib.Core.List.{List, [], ◌∷◌, ◌++◌}
use mathlib.Core.Logic.{◌⊎◌, inl, inr, ⊎_elim}
use mathlib.Core.Option.{Option, some, none}
use Prim.Native.Nat.{ℕ, zero, suc, ◌+◌, ◌-◌, ◌≤◌, ◌<◌}
use native.Mathlib.Omega.{arith}
use native.Mathlib.Numerals.{add-one}
use lib.ListN.{length, length-append, get_or-append}
use Rattle.rows.proofs.Laws.{Decides, decides_lt, decides_eq, decides_not, decides_or, told_false, decides_as, Fit, ranked, ◌otherwise◌, first_append, numbered, refused_exactly}
use Rattle.remainder.specs.Remainder.{remainder_of}
use Rattle.rows.specs.Rows.{row, Ranked, first_row_of, passed_up, raised, stands, Numbered}
use Rattle.frame.specs.Frame.{between, framed, message_of}
use Rattle.telegram.proofs.Sound.{frame_parts, Ends, ends_told, stray_found, stray_at, message_of_framed, sound_framed, Other, bad_found, bad_at}
use Rattle.telegram.specs.Read.{byte, Between, IsNotFramed, HasStrayEnd, not_framed, has_stray_end, HasBadSubstitution, OfMessage}
use Rattle.telegram.specs.Read.{IsShort, IsLong, OverRoom, IsWrong, HasZeroAddress, HasUnknownType, read_rows, has_bad_substitution}
use Rattle.telegram.specs.Read.{frame_tests, length_tests, message_tests, message_refusal, read_refusal, read_answer, read_frame, fields_in}
use Rattle.telegram.specs.Read.{fault_number, read_told, Reads, Judges}
use Rattle.telegram.specs.Write.{telegram_for, IsTooMuch, IsZeroAddress, IsUnknownType, IsOverRoom, write_rows, write_refusal, write_tests, write_answer}
use Rattle.telegram.specs.Write.{write_told, Writes}
use Rattle.telegram.specs.declared.Fault.TheVariants.{ShortMessage, LongMessage, NoRoom, CheckFault, ZeroAddress, UnknownType}
use Rattle.telegram.specs.declared.Fault.{Fault}
use Rattle.telegram.specs.declared.Fields.{Fields}
use Rattle.telegram.specs.Answers.{Reading}
use Rattle.telegram.specs.Answers.{Writing}

-- ---- 1

pub decides_ends : (frame : List ℕ) → Decides (not_framed frame) (IsNotFramed frame)
unfolding IsNotFramed
decides_ends frame =
    decides_or (decides_lt (length frame) 2)
    (decides_or (decides_not (decides_eq (byte frame 0) 13)) (decides_not (decides_eq (byte frame (length frame - 1)) 10)))

-- a frame that begins and ends right, with its places counted from what stands between
module _ (frame : List ℕ) (right : IsNotFramed frame → ⊥) where
  ends : Ends frame
  ends = ends_told frame (told_false (decides_ends frame) right)

  apart : frame ≡ 13 ∷ between frame ++ (10 ∷ [])
  apart = frame_parts frame ends.long ∙ rw (ends.start, ends.end)

  inner : ℕ → ℕ
  inner i = byte (between frame ++ (10 ∷ [])) i

  byte_inner : (i : ℕ) → byte frame (suc i) ≡ inner i
  unfolding inner
  byte_inner i = ap (λ (l : List ℕ). byte l (suc i)) apart

  long_between : length frame ≡ length (between frame) + 2
  long_between = ap length apart ∙ ap suc (length-append (between frame) (10 ∷ [])) ∙ omega arith

  -- ---- 2

  pub decides_stray : Decides (has_stray_end (between frame)) (HasStrayEnd frame)
  unfolding HasStrayEnd inner
  decides_stray = record { so = found; not_so = missed }
    where
      found : has_stray_end (between frame) ≡ true → HasStrayEnd frame
      found e =
          let s = stray_found (between frame) e in
          let there : byte frame (suc s.0) ≡ byte (between frame) s.0 = byte_inner s.0 ∙ get_or-append (between frame) (10 ∷ []) 0 s.0 s.1 in
          (suc s.0, (omega arith, omega (arith, long_between, s.1)), ⊎_elim (λ p. inl (there ∙ p)) (λ p. inr (there ∙ p)) s.2)

      missed : has_stray_end (between frame) ≡ false → HasStrayEnd frame → ⊥
      missed e h = at h.0 h.1 h.2
        where
          at : (i : ℕ) → Between frame i → (byte frame i ≡ 10) ⊎ (byte frame i ≡ 13) → ⊥
          at zero b s = omega (arith, b.0)
          at (suc i) b s =
              let under : i < length (between frame) = omega (arith, long_between, b.1) in
              let there : byte (between frame) i ≡ byte frame (suc i) = sym (byte_inner i ∙ get_or-append (between frame) (10 ∷ []) 0 i under) in
              true≢false (sym (stray_at (between frame) i under (⊎_elim (λ p. inl (there ∙ p)) (λ p. inr (there ∙ p)) s)) ∙ e)

  -- ---- 3

  pub decides_bad : Decides (has_bad_substitution false (between frame)) (HasBadSubstitution frame)
  unfolding HasBadSubstitution inner
  decides_bad = record { so = found; not_so = missed }
    where
      after : (i : ℕ) → byte frame (suc i + 1) ≡ inner (suc i)
      after i = ap (byte frame) (add-one (suc i)) ∙ byte_inner (suc i)

      found : has_bad_substitution false (between frame) ≡ true → HasBadSubstitution frame
      found e = ⊎_elim (λ h. absurd (true≢false (sym h.0))) at (bad_found false (between frame) e)
        where
          at : (i : ℕ) × (i < length (between frame)) × (byte (between frame) i ≡ 94) × Other (inner (suc i)) → HasBadSubstitution frame
          at h = (
            suc h.0,
            (
              (omega arith, omega (arith, long_between, h.1)),
              byte_inner h.0 ∙ get_or-append (between frame) (10 ∷ []) 0 h.0 h.1 ∙ h.2,
              rw (after h.0) h.3,
            ),
          )

      missed : has_bad_substitution false (between frame) ≡ false → HasBadSubstitution frame → ⊥
      missed e h = at h.0 h.1.0 h.1.1 h.1.2
        where
          at : (i : ℕ) → Between frame i → byte frame i ≡ 94 → Other (byte frame (i + 1)) → ⊥
          at zero b s o = omega (arith, b.0)
          at (suc i) b s o =
              let under : i < length (between frame) = omega (arith, long_between, b.1) in
              let there : byte (between frame) i ≡ 94 = sym (byte_inner i ∙ get_or-append (between frame) (10 ∷ []) 0 i under) ∙ s in
              true≢false (sym (bad_at false (between frame) i under there (rw (after i) at o)) ∙ e)

-- ---- 4 to 9: of the frame's message, which is there once 1 to 3 do not hold

module _ (frame : List ℕ) (right : IsNotFramed frame → ⊥) (no_stray : HasStrayEnd frame → ⊥) (no_bad : HasBadSubstitution frame → ⊥) where
  means : frame ≡ framed (message_of frame)
  means =
      sound_framed frame
      (rw (told_false (decides_ends frame) right, told_false (decides_stray frame right) no_stray, told_false (decides_bad frame right) no_bad))

  decides_of : (t : Bool) (P : List ℕ → Type 0) → Decides t (P (message_of frame)) → Decides t (OfMessage frame P)
  decides_of t P d = decides_as d (λ p. (message_of frame, means, p)) (λ h. subst P (sym (ap message_of h.1 ∙ message_of_framed h.0)) h.2)

  rest : (room : ℕ) → Fit (length_tests (length (message_of frame)) room ++ message_tests (message_of frame))
      (row (OfMessage frame IsShort) ShortMessage ∷ row (OfMessage frame IsLong) LongMessage ∷ row (OfMessage frame (OverRoom room)) NoRoom
      ∷ row (OfMessage frame IsWrong) CheckFault ∷ row (OfMessage frame HasZeroAddress) ZeroAddress ∷ row (OfMessage frame HasUnknownType) UnknownType ∷ [])
  unfolding IsShort IsLong OverRoom IsWrong HasZeroAddress HasUnknownType
  rest room =
      decides_of _ IsShort (decides_lt (length (message_of frame)) 6) otherwise λ n₄.
      decides_of _ IsLong (decides_lt 246 (length (message_of frame))) otherwise λ n₅.
      decides_of _ (OverRoom room) (decides_lt room (length (message_of frame) - 6)) otherwise λ n₆.
      decides_of _ IsWrong (decides_not (decides_eq (remainder_of (message_of frame)) 0)) otherwise λ n₇.
      decides_of _ HasZeroAddress (decides_or (decides_eq (byte (message_of frame) 0) 0) (decides_eq (byte (message_of frame) 1) 0)) otherwise λ n₈.
      decides_of _ HasUnknownType (decides_lt 9 (byte (message_of frame) 2)) otherwise λ n₉. tt

-- "Each is given exactly when its condition holds and no earlier one does": rows 1 to 9 for the reader
pub read_ranked : (frame : List ℕ) (room : ℕ) → Ranked (read_rows frame room) (read_refusal frame room)
unfolding read_rows read_refusal message_refusal
read_ranked frame room =
    subst (Ranked (read_rows frame room))
    (first_append (frame_tests frame) (length_tests (length (message_of frame)) room ++ message_tests (message_of frame)) _
    (first_append (length_tests (length (message_of frame)) room) (message_tests (message_of frame)) (first_row_of (message_tests (message_of frame))) refl))
    (ranked (frame_tests frame ++ (length_tests (length (message_of frame)) room ++ message_tests (message_of frame))) (read_rows frame room)
    (decides_ends frame otherwise λ n₁.
    decides_stray frame n₁ otherwise λ n₂.
    decides_bad frame n₁ otherwise λ n₃. rest frame n₁ n₂ n₃ room))

-- rows 5, 8, 9 and 6 for the writer
pub write_ranked : (d s t r : ℕ) (bytes : List ℕ) (room : ℕ) → Ranked (write_rows d s t r bytes room) (write_refusal d s t r bytes room)
unfolding write_rows write_refusal IsTooMuch IsZeroAddress IsUnknownType IsOverRoom
write_ranked d s t r bytes room =
    ranked (write_tests d s t r bytes room) (write_rows d s t r bytes room)
    (decides_lt 240 (length bytes) otherwise λ n₅.
    decides_or (decides_eq d 0) (decides_eq s 0) otherwise λ n₈.
    decides_lt 9 t otherwise λ n₉.
    decides_lt room (length (telegram_for d s t r bytes)) otherwise λ n₆. tt)

-- so by number of whatever the contracts allow
reading_told : (o : Option Fault) (t : Fields) → read_told (read_answer o t) ≡ raised fault_number o
reading_told none t = refl
reading_told (some f) t = refl

writing_told : (o : Option Fault) (n : ℕ) → write_told (write_answer o n) ≡ raised fault_number o
writing_told none n = refl
writing_told (some f) n = refl

pub examine_exactly : (frame : List ℕ) (room : ℕ) (r : Reading) → Judges frame room r
    → Numbered (passed_up fault_number (read_rows frame room)) (1 ∷ 2 ∷ 3 ∷ 4 ∷ 5 ∷ 6 ∷ 7 ∷ 8 ∷ 9 ∷ []) (read_told r)
unfolding read_rows read_frame
examine_exactly frame room r judges =
    numbered fault_number (read_rows frame room) (read_refusal frame room) (read_ranked frame room)
    (1 ∷ 2 ∷ 3 ∷ 4 ∷ 5 ∷ 6 ∷ 7 ∷ 8 ∷ 9 ∷ []) refl refl (read_told r) (ap read_told judges ∙ reading_told (read_refusal frame room) (fields_in frame))

pub read_exactly : (frame room : List ℕ) (r : Reading) (room' : List ℕ) → Reads frame room r room'
    → Numbered (passed_up fault_number (read_rows frame (length room))) (1 ∷ 2 ∷ 3 ∷ 4 ∷ 5 ∷ 6 ∷ 7 ∷ 8 ∷ 9 ∷ []) (read_told r)
read_exactly frame room r room' reads = examine_exactly frame (length room) r reads.0

pub write_exactly : (d s t r : ℕ) (bytes room : List ℕ) (w : Writing) (room' : List ℕ) → Writes d s t r bytes room w room'
    → Numbered (passed_up fault_number (write_rows d s t r bytes (length room))) (5 ∷ 8 ∷ 9 ∷ 6 ∷ []) (write_told w)
unfolding write_rows
write_exactly d s t r bytes room w room' writes =
    numbered fault_number (write_rows d s t r bytes (length room)) (write_refusal d s t r bytes (length room)) (write_ranked d s t r bytes (length room))
    (5 ∷ 8 ∷ 9 ∷ 6 ∷ []) refl refl (write_told w)
    (ap write_told writes.0 ∙ writing_told (write_refusal d s t r bytes (length room)) (length (telegram_for d s t r bytes)))

-- a frame that begins and ends right, with no 10 or 13 between, and is offered with 240 bytes of room or more: only these numbers refuse it
pub framed_numbers : (frame : List ℕ) (room : ℕ) → 240 ≤ room → (IsNotFramed frame → ⊥) → (HasStrayEnd frame → ⊥)
    → (f : Fault) → read_refusal frame room ≡ some f → stands (fault_number f) (3 ∷ 4 ∷ 5 ∷ 7 ∷ 8 ∷ 9 ∷ []) ≡ true
unfolding read_rows OverRoom IsLong
framed_numbers frame room wide right no_stray f e =
    ⊎_elim (λ a. absurd (right a.0)) (λ b₁. ⊎_elim (λ a. absurd (no_stray a.0)) (λ b₂. ⊎_elim (λ a. is a.1) (λ b₃. ⊎_elim (λ a. is a.1)
    (λ b₄. ⊎_elim (λ a. is a.1) (λ b₅. ⊎_elim (λ a. absurd (b₅.0 (a.0.0, a.0.1, omega (arith, wide, a.0.2)))) (λ b₆. ⊎_elim (λ a. is a.1)
    (λ b₇. ⊎_elim (λ a. is a.1) (λ b₈. ⊎_elim (λ a. is a.1) (λ b₉. absurd b₉.1) b₈.1) b₇.1) b₆.1) b₅.1) b₄.1) b₃.1) b₂.1)
    b₁.1) ((refused_exactly (read_rows frame room) (read_refusal frame room) (read_ranked frame room) f).0 e)
  where
    is : {g : Fault} → f ≡ g → stands (fault_number f) (3 ∷ 4 ∷ 5 ∷ 7 ∷ 8 ∷ 9 ∷ []) ≡ stands (fault_number g) (3 ∷ 4 ∷ 5 ∷ 7 ∷ 8 ∷ 9 ∷ [])
    is q = ap (λ (h : Fault). stands (fault_number h) (3 ∷ 4 ∷ 5 ∷ 7 ∷ 8 ∷ 9 ∷ [])) q
