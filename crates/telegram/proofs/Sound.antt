-- A message and its frame belong together: a message comes back from its frame, and a frame with nothing wrong between its ends is the
-- frame of its message.
-- Assumes nothing.
use mathlib.Core.Path.{◌≡◌, refl, ap, ◌∙◌, sym}
use mathlib.Core.Bool.{Bool, true, false, cond, not, ◌||◌, true≢false}
use mathlib.Core.List.{List, [], ◌∷◌, ◌++◌}
use mathlib.Core.Logic.{◌⊎◌, inl, inr, ⊎_elim, ◌≢◌}
use mathlib.Core.Option.{none}
use Prim.Native.Nat.{ℕ, ◌+◌, ◌-◌, suc, ◌≤◌, zero, ◌<◌}
use native.Mathlib.Omega.{arith}
use native.Mathlib.Nat.{add-sub_cancel, le_of_suc-le-suc}
use borrow.Author.Tests.{le-ltb, eq-eqb, ne_eqb, eqb-true, eqb-false, not-false, ltb-false}
use lib.Dec.{eqb, ltb}
use lib.ListN.{length, length-append}
use lib.Seq.{take_at, get_or_at, take-suc, take_all}
use Rattle.rows.specs.Rows.{first_row_of}
use Rattle.rows.proofs.Laws.{Decides, decides_eq, decides_or, told_false}
use Rattle.frame.proofs.Laws.{decides_special}
use Rattle.frame.specs.Frame.{is_special, substitute, substituted, framed, between, restored, message_of}
use Rattle.telegram.specs.declared.Fault.TheVariants.{NotFramed, StrayEnd, BadSubstitution}
use Rattle.telegram.specs.Read.{byte, not_framed, has_stray_end, is_substitute, has_bad_substitution, bad_place, frame_tests, is_bad}
use Rattle.telegram.proofs.Judge.{first_false}

-- ---- from a message to its frame and back

restored_one : (b : ℕ) (xs : List ℕ) → restored false (substitute b ++ xs) ≡ b ∷ restored false xs
unfolding restored
restored_one b xs = go (is_special b) refl
  where
    go : (t : Bool) → is_special b ≡ t → restored false (cond t (94 ∷ (b + 64) ∷ []) (b ∷ []) ++ xs) ≡ b ∷ restored false xs
    go true e = ap (λ (n : ℕ). n ∷ restored false xs) (add-sub_cancel b 64)
    go false e =
        let other : b ≡ 94 → ⊥ = λ p. (decides_special b).not_so e (inr (inr p)) in
        simp (ne_eqb b 94 other)

restored_substituted : (m : List ℕ) → restored false (substituted m) ≡ m
unfolding restored substituted
restored_substituted [] = refl
restored_substituted (b ∷ m) = restored_one b (substituted m) ∙ ap (λ (l : List ℕ). b ∷ l) (restored_substituted m)

pub between_framed : (m : List ℕ) → between (framed m) ≡ substituted m
unfolding between framed
between_framed m =
    take_at (substituted m) (10 ∷ []) (length (13 ∷ substituted m ++ (10 ∷ [])) - 2)
    (let e : length (substituted m ++ (10 ∷ [])) ≡ length (substituted m) + 1 = length-append (substituted m) (10 ∷ []) in omega arith)

pub message_of_framed : (m : List ℕ) → message_of (framed m) ≡ m
unfolding message_of
message_of_framed m = ap (restored false) (between_framed m) ∙ restored_substituted m

-- ---- nothing is wrong with the frame of a message

stray_one : (b : ℕ) (xs : List ℕ) → has_stray_end (substitute b ++ xs) ≡ has_stray_end xs
unfolding has_stray_end
stray_one b xs = go (is_special b) refl
  where
    go : (t : Bool) → is_special b ≡ t → has_stray_end (cond t (94 ∷ (b + 64) ∷ []) (b ∷ []) ++ xs) ≡ has_stray_end xs
    go true e = simp (ne_eqb (b + 64) 10 (λ p. omega arith), ne_eqb (b + 64) 13 (λ p. omega arith))
    go false e =
        let other = (decides_special b).not_so e in
        simp (ne_eqb b 10 (λ p. other (inl p)), ne_eqb b 13 (λ p. other (inr (inl p))))

substituted_no_stray : (m : List ℕ) → has_stray_end (substituted m) ≡ false
unfolding has_stray_end substituted
substituted_no_stray [] = refl
substituted_no_stray (b ∷ m) = stray_one b (substituted m) ∙ substituted_no_stray m

is_substitute_lem : (b : ℕ) → (b ≡ 10) ⊎ ((b ≡ 13) ⊎ (b ≡ 94)) → (is_substitute (b + 64) ≡ true) × (eqb (b + 64) 94 ≡ false)
is_substitute_lem b s =
    ⊎_elim (λ p. (rw p refl, rw p refl)) (⊎_elim (λ p. (rw p refl, rw p refl)) (λ p. (rw p refl, rw p refl))) s

bad_one : (b : ℕ) (xs : List ℕ) → has_bad_substitution false (substitute b ++ xs) ≡ has_bad_substitution false xs
unfolding has_bad_substitution
bad_one b xs = go (is_special b) refl
  where
    go : (t : Bool) → is_special b ≡ t → has_bad_substitution false (cond t (94 ∷ (b + 64) ∷ []) (b ∷ []) ++ xs) ≡ has_bad_substitution false xs
    go true e = let s = is_substitute_lem b ((decides_special b).so e) in rw (s.0, s.1)
    go false e = simp (ne_eqb b 94 (λ p. (decides_special b).not_so e (inr (inr p))))

substituted_no_bad : (m : List ℕ) → has_bad_substitution false (substituted m) ≡ false
unfolding has_bad_substitution substituted
substituted_no_bad [] = refl
substituted_no_bad (b ∷ m) = bad_one b (substituted m) ∙ substituted_no_bad m

framed_ends : (m : List ℕ) → not_framed (framed m) ≡ false
unfolding framed
framed_ends m =
    let long : length (substituted m ++ (10 ∷ [])) ≡ length (substituted m) + 1 = length-append (substituted m) (10 ∷ []) in
    let last : byte (13 ∷ substituted m ++ (10 ∷ [])) (length (13 ∷ substituted m ++ (10 ∷ [])) - 1) ≡ 10 =
    get_or_at (13 ∷ substituted m) 10 [] 0 (length (13 ∷ substituted m ++ (10 ∷ [])) - 1) (omega arith) in
    simp (le-ltb (length (13 ∷ substituted m ++ (10 ∷ []))) 2 (omega arith), eq-eqb _ _ last)

pub framed_sound : (m : List ℕ) → first_row_of (frame_tests (framed m)) ≡ none
framed_sound m =
    let stray : has_stray_end (between (framed m)) ≡ false = ap has_stray_end (between_framed m) ∙ substituted_no_stray m in
    let bad : has_bad_substitution false (between (framed m)) ≡ false = ap (has_bad_substitution false) (between_framed m) ∙ substituted_no_bad m in
    rw (framed_ends m, stray, bad)

-- ---- a frame with nothing wrong is the frame of its message

or-false : (a b : Bool) → (a || b) ≡ false → (a ≡ false) × (b ≡ false)
or-false true b e = absurd (true≢false e)
or-false false b e = (refl, e)

or_true_right : (a : Bool) {b : Bool} → b ≡ true → (a || b) ≡ true
or_true_right true e = refl
or_true_right false e = e

no_stray : (b : ℕ) (xs : List ℕ) → has_stray_end (b ∷ xs) ≡ false → (b ≡ 10 → ⊥) × (b ≡ 13 → ⊥) × (has_stray_end xs ≡ false)
unfolding has_stray_end
no_stray b xs e =
    let outer = or-false (eqb b 10 || eqb b 13) (has_stray_end xs) e in
    let ends = or-false (eqb b 10) (eqb b 13) outer.0 in
    (eqb-false b 10 ends.0, eqb-false b 13 ends.1, outer.1)

back_special : (b : ℕ) → (b ≡ 74) ⊎ ((b ≡ 77) ⊎ (b ≡ 158)) → (substitute (b - 64) ≡ 94 ∷ b ∷ []) × (eqb b 94 ≡ false)
back_special b s =
    ⊎_elim (λ p. (rw p refl, rw p refl)) (⊎_elim (λ p. (rw p refl, rw p refl)) (λ p. (rw p refl, rw p refl))) s

pub decides_substitute : (b : ℕ) → Decides (is_substitute b) ((b ≡ 74) ⊎ ((b ≡ 77) ⊎ (b ≡ 158)))
decides_substitute b = decides_or (decides_eq b 74) (decides_or (decides_eq b 77) (decides_eq b 158))

-- what was turned back is substituted to what it was; the flag says that a 94 came last
pending : Bool → List ℕ → List ℕ
pending true xs = 94 ∷ xs
pending false xs = xs

substituted_back : (after : Bool) (xs : List ℕ) → has_stray_end xs ≡ false → has_bad_substitution after xs ≡ false → substituted (restored after xs) ≡ pending after xs
unfolding substituted restored has_bad_substitution pending
substituted_back true [] s b = absurd (true≢false b)
substituted_back false [] s b = refl
substituted_back true (x ∷ xs) s b =
    let ends = no_stray x xs s in
    let parts = or-false (not (is_substitute x)) (has_bad_substitution (eqb x 94) xs) b in
    let back = back_special x ((decides_substitute x).so (not-false (is_substitute x) parts.0)) in
    let rest : substituted (restored false xs) ≡ xs = substituted_back false xs ends.2 (rw back.1 at parts.1) in
    rw back.0 (ap (λ (l : List ℕ). 94 ∷ x ∷ l) rest)
substituted_back false (x ∷ xs) s b = go (eqb x 94) refl (substituted_back (eqb x 94) xs (no_stray x xs s).2 b)
  where
    go : (t : Bool) → eqb x 94 ≡ t → substituted (restored t xs) ≡ pending t xs → substituted (cond t [] (x ∷ []) ++ restored t xs) ≡ x ∷ xs
    go true e ih = ih ∙ ap (λ (n : ℕ). n ∷ xs) (sym (eqb-true x 94 e))
    go false e ih =
        let plain : is_special x ≡ false = simp (ne_eqb x 10 (no_stray x xs s).0, ne_eqb x 13 (no_stray x xs s).1, e) in
        rw plain (ap (λ (l : List ℕ). x ∷ l) ih)

-- a frame of two bytes or more is its first byte, what stands between, and its last byte
pub frame_parts : (frame : List ℕ) → 2 ≤ length frame → frame ≡ byte frame 0 ∷ between frame ++ (byte frame (length frame - 1) ∷ [])
unfolding between
frame_parts [] h = absurd (omega arith)
frame_parts (x ∷ []) h = absurd (omega arith)
frame_parts (x ∷ y ∷ ys) h =
    let two : suc (suc (length ys)) - 2 ≡ length ys = omega arith in
    let one : suc (suc (length ys)) - 1 ≡ suc (length ys) = omega arith in
    rw (two, one)
    (ap (λ (l : List ℕ). x ∷ l) (sym (take_all (suc (length ys)) (y ∷ ys) (omega arith)) ∙ take-suc (y ∷ ys) (length ys) 0 (omega arith)))

-- a frame that begins and ends right
pub record Ends (frame : List ℕ) : Type 0 where
  pub long : 2 ≤ length frame
  pub start : byte frame 0 ≡ 13
  pub end : byte frame (length frame - 1) ≡ 10

pub ends_told : (frame : List ℕ) → not_framed frame ≡ false → Ends frame
ends_told frame e =
    let outer = or-false (ltb (length frame) 2) (not (eqb (byte frame 0) 13) || not (eqb (byte frame (length frame - 1)) 10)) e in
    let inner = or-false (not (eqb (byte frame 0) 13)) (not (eqb (byte frame (length frame - 1)) 10)) outer.1 in
    record {
      long = ltb-false (length frame) 2 outer.0;
      start = eqb-true _ _ (not-false _ inner.0);
      end = eqb-true _ _ (not-false _ inner.1);
    }

pub sound_framed : (frame : List ℕ) → first_row_of (frame_tests frame) ≡ none → frame ≡ framed (message_of frame)
unfolding message_of framed pending
sound_framed frame e =
    let a = first_false (not_framed frame) NotFramed _ e in
    let b = first_false (has_stray_end (between frame)) StrayEnd _ a.1 in
    let c = first_false (has_bad_substitution false (between frame)) (BadSubstitution (bad_place frame)) _ b.1 in
    let ends = ends_told frame a.0 in
    let inner : substituted (restored false (between frame)) ≡ between frame = substituted_back false (between frame) b.0 c.0 in
    frame_parts frame ends.long ∙ rw (ends.start, ends.end, inner)

-- ---- where a fault stands

pub stray_found : (xs : List ℕ) → has_stray_end xs ≡ true → (i : ℕ) × (i < length xs) × ((byte xs i ≡ 10) ⊎ (byte xs i ≡ 13))
unfolding has_stray_end
stray_found [] e = absurd (true≢false (sym e))
stray_found (x ∷ xs) e = go (stray_found xs) (eqb x 10) refl (eqb x 13) refl e
  where
    go : (has_stray_end xs ≡ true → (i : ℕ) × (i < length xs) × ((byte xs i ≡ 10) ⊎ (byte xs i ≡ 13)))
        → (s : Bool) → eqb x 10 ≡ s → (t : Bool) → eqb x 13 ≡ t → ((s || t) || has_stray_end xs) ≡ true
        → (i : ℕ) × (i < suc (length xs)) × ((byte (x ∷ xs) i ≡ 10) ⊎ (byte (x ∷ xs) i ≡ 13))
    go later true p t q r = (0, omega arith, inl (eqb-true x 10 p))
    go later false p true q r = (0, omega arith, inr (eqb-true x 13 q))
    go later false p false q r = let f = later r in (suc f.0, omega (arith, f.1), f.2)

pub stray_at : (xs : List ℕ) (i : ℕ) → i < length xs → (byte xs i ≡ 10) ⊎ (byte xs i ≡ 13) → has_stray_end xs ≡ true
unfolding has_stray_end
stray_at [] i h s = absurd (omega arith)
stray_at (x ∷ xs) zero h s = ⊎_elim (λ p. simp (eq-eqb x 10 p)) (λ p. go (eqb x 10) p) s
  where
    go : (t : Bool) → x ≡ 13 → ((t || eqb x 13) || has_stray_end xs) ≡ true
    go true p = refl
    go false p = simp (eq-eqb x 13 p)
stray_at (x ∷ xs) (suc i) h s = or_true_right (eqb x 10 || eqb x 13) (stray_at xs i (le_of_suc-le-suc h) s)

-- no substitute
abbrev pub Other : ℕ → Type 0
Other b = (b ≢ 74) × (b ≢ 77) × (b ≢ 158)

pub other_told : (b : ℕ) → is_substitute b ≡ false → Other b
other_told b e =
    let no = (decides_substitute b).not_so e in
    (λ p. no (inl p), λ p. no (inr (inl p)), λ p. no (inr (inr p)))

pub other_false : (b : ℕ) → Other b → is_substitute b ≡ false
other_false b o = told_false (decides_substitute b) (⊎_elim o.0 (⊎_elim o.1 o.2))

-- where a 94 stands with no substitute after it: the flag's own 94, or one among the bytes. The end byte, 10, follows the bytes.
abbrev pub BadAt : Bool → List ℕ → Type 0
BadAt after xs =
    ((after ≡ true) × Other (byte (xs ++ (10 ∷ [])) 0))
    ⊎ ((i : ℕ) × (i < length xs) × (byte xs i ≡ 94) × Other (byte (xs ++ (10 ∷ [])) (suc i)))

bad_next : (x : ℕ) (xs : List ℕ) → BadAt (eqb x 94) xs → (i : ℕ) × (i < suc (length xs)) × (byte (x ∷ xs) i ≡ 94) × Other (byte (x ∷ xs ++ (10 ∷ [])) (suc i))
bad_next x xs b =
    ⊎_elim (λ h. (0, omega arith, eqb-true x 94 h.0, h.1)) (λ h. (suc h.0, omega (arith, h.1), h.2, h.3)) b

pub bad_found : (after : Bool) (xs : List ℕ) → has_bad_substitution after xs ≡ true → BadAt after xs
unfolding has_bad_substitution
bad_found true [] e = inl (refl, other_told 10 refl)
bad_found false [] e = absurd (true≢false (sym e))
bad_found true (x ∷ xs) e = go (is_substitute x) refl e (bad_found (eqb x 94) xs)
  where
    go : (t : Bool) → is_substitute x ≡ t → (not t || has_bad_substitution (eqb x 94) xs) ≡ true → (has_bad_substitution (eqb x 94) xs ≡ true → BadAt (eqb x 94) xs) → BadAt true (x ∷ xs)
    go true p q later = inr (bad_next x xs (later q))
    go false p q later = inl (refl, other_told x p)
bad_found false (x ∷ xs) e = inr (bad_next x xs (bad_found (eqb x 94) xs e))

bad_first : (xs : List ℕ) → Other (byte (xs ++ (10 ∷ [])) 0) → has_bad_substitution true xs ≡ true
unfolding has_bad_substitution
bad_first [] o = refl
bad_first (x ∷ xs) o = rw (other_false x o)

pub bad_at : (after : Bool) (xs : List ℕ) (i : ℕ) → i < length xs → byte xs i ≡ 94 → Other (byte (xs ++ (10 ∷ [])) (suc i)) → has_bad_substitution after xs ≡ true
unfolding has_bad_substitution
bad_at after [] i h e o = absurd (omega arith)
bad_at after (x ∷ xs) zero h e o =
    or_true_right (is_bad after x) (ap (λ (t : Bool). has_bad_substitution t xs) (eq-eqb x 94 e) ∙ bad_first xs o)
bad_at after (x ∷ xs) (suc i) h e o = or_true_right (is_bad after x) (bad_at (eqb x 94) xs i (le_of_suc-le-suc h) e o)
