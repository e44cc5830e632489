-- What is promised of a request that is judged: the laws that callers may cite.
-- Assumes nothing.
use Rattle.std.specs.Prelude.{Ok, Err}
use mathlib.Core.Path.{◌≡◌, refl, ap, ◌∙◌}
use mathlib.Core.Bool.{Bool, false, cond, not}
use mathlib.Core.List.{List, [], ◌∷◌}
use mathlib.Core.Logic.{◌≢◌, ◌⊎◌, inl, inr, ⊎_elim}
use mathlib.Core.Option.{Option, some, none}
use Prim.Native.Nat.{ℕ, ◌≤◌, ◌<◌}
use native.Mathlib.Omega.{arith}
use native.Mathlib.Decide.{dec_le}
use borrow.Author.Tests.{ne_eqb}
use lib.ListN.{length}
use Rattle.rows.proofs.Settled.{settled}
use Rattle.rows.specs.Settled.{Settled}
use Rattle.rows.proofs.Laws.{Decides, decides_lt, decides_le, decides_eq, decides_not, decides_or, decides_and, decides_as, ranked, ◌otherwise◌, done_exactly, numbered}
use Rattle.rows.specs.Rows.{Ranked, Numbered, passed_up, raised}
use Rattle.request.specs.Request.{IsNoJob, IsNotAModule, IsNotARequest, IsWrongData, IsWrongWait, ask_rows, one_to, is_request, is_wrong_data, ask_tests, ask_refusal, ask_answer, ask_told, fault_number, Asks, Numbers}
use Rattle.request.specs.declared.Request.{Request}
use Rattle.request.specs.declared.Fault.{Fault}
use Rattle.request.specs.declared.Fault.TheVariants.{WrongWait}
use Rattle.request.specs.Answers.{Asking}

-- ---- rows 10 to 14: "Each is given exactly when its condition holds and no earlier one does."

one_to_lem : (most x : ℕ) → Decides (one_to most x) ((1 ≤ x) × (x ≤ most))
one_to_lem most x = decides_and (decides_le 1 x) (decides_le x most)

four_to_seven : (n : ℕ) → 4 ≤ n → n ≤ 7 → (n ≡ 4) ⊎ ((n ≡ 5) ⊎ ((n ≡ 6) ⊎ (n ≡ 7)))
four_to_seven n low high = elim (dec_le n 4) [
  | yes h ↦ inl (omega arith)
  | no h ↦ elim (dec_le n 5) [
    | yes k ↦ inr (inl (omega arith))
    | no k ↦ elim (dec_le n 6) [ yes l ↦ inr (inr (inl (omega arith))) | no l ↦ inr (inr (inr (omega arith))) ]
  ]
]

decides_listed : (sort : ℕ) → Decides (is_request sort) ((sort ≡ 4) ⊎ ((sort ≡ 5) ⊎ ((sort ≡ 6) ⊎ ((sort ≡ 7) ⊎ (sort ≡ 9)))))
decides_listed sort =
    decides_or (decides_eq sort 4) (decides_or (decides_eq sort 5) (decides_or (decides_eq sort 6) (decides_or (decides_eq sort 7) (decides_eq sort 9))))

-- 4 to 7 are neighbours: the same by ranges
pub decides_request : (sort : ℕ) → Decides (is_request sort) (((4 ≤ sort) × (sort ≤ 7)) ⊎ (sort ≡ 9))
decides_request sort = decides_as (decides_listed sort) near listed
  where
    near : (sort ≡ 4) ⊎ ((sort ≡ 5) ⊎ ((sort ≡ 6) ⊎ ((sort ≡ 7) ⊎ (sort ≡ 9)))) → ((4 ≤ sort) × (sort ≤ 7)) ⊎ (sort ≡ 9)
    near =
        ⊎_elim (λ e. inl (omega arith, omega arith)) (⊎_elim (λ e. inl (omega arith, omega arith))
        (⊎_elim (λ e. inl (omega arith, omega arith)) (⊎_elim (λ e. inl (omega arith, omega arith)) (λ e. inr e))))

    listed : ((4 ≤ sort) × (sort ≤ 7)) ⊎ (sort ≡ 9) → (sort ≡ 4) ⊎ ((sort ≡ 5) ⊎ ((sort ≡ 6) ⊎ ((sort ≡ 7) ⊎ (sort ≡ 9))))
    listed =
        ⊎_elim
        (λ p. ⊎_elim (λ e. inl e) (⊎_elim (λ e. inr (inl e)) (⊎_elim (λ e. inr (inr (inl e))) (λ e. inr (inr (inr (inl e))))))
        (four_to_seven sort p.0 p.1))
        (λ e. inr (inr (inr (inr e))))

pub ask_ranked : (asked : Request) (bytes : List ℕ) → Ranked (ask_rows asked bytes) (ask_refusal asked bytes)
unfolding ask_rows ask_refusal IsNoJob IsNotAModule IsNotARequest IsWrongData IsWrongWait
ask_ranked asked bytes =
    ranked (ask_tests asked bytes) (ask_rows asked bytes)
    (decides_eq asked.job 0 otherwise λ n₁₀.
    decides_not (one_to_lem 160 asked.unit) otherwise λ n₁₁.
    decides_not (decides_listed asked.sort) otherwise λ n₁₂.
    decides_or (decides_lt 240 (length bytes)) (decides_and (decides_eq asked.sort 4) (decides_lt 0 (length bytes))) otherwise λ n₁₃.
    decides_not (one_to_lem 60000 asked.wait) otherwise λ n₁₄. tt)

tells : (o : Option Fault) → ask_told (ask_answer o) ≡ raised fault_number o
tells none = refl
tells (some f) = refl

-- and so of the answer, by numbers
pub ask_exactly : (asked : Request) (bytes : List ℕ) (r : Asking) → Asks asked bytes r
    → Numbered (passed_up fault_number (ask_rows asked bytes)) (10 ∷ 11 ∷ 12 ∷ 13 ∷ 14 ∷ []) (ask_told r)
unfolding ask_rows
ask_exactly asked bytes r p =
    numbered fault_number (ask_rows asked bytes) (ask_refusal asked bytes) (ask_ranked asked bytes) (10 ∷ 11 ∷ 12 ∷ 13 ∷ 14 ∷ []) refl refl
    (ask_told r) (ap ask_told p ∙ tells (ask_refusal asked bytes))

-- what is left to ask once rows 10 to 13 do not refuse
pub past_13 : (asked : Request) (bytes : List ℕ) {named asks wrong : Bool} → asked.job ≢ 0
    → named ≡ one_to 160 asked.unit → not named ≡ false → asks ≡ is_request asked.sort → not asks ≡ false
    → wrong ≡ is_wrong_data asked.sort (length bytes) → wrong ≡ false
    → ask_refusal asked bytes ≡ cond (not (one_to 60000 asked.wait)) (some WrongWait) none
unfolding ask_refusal
past_13 asked bytes job unit named sort asks size right = rw (ne_eqb asked.job 0 job, ← unit, named, ← sort, asks, ← size, right)

-- what an answer tells of the refusal that it was made from
pub asked_denied : (o : Option Fault) (f : Fault) → Err f ≡ ask_answer o → o ≡ some f
asked_denied none f e = cc
asked_denied (some g) f e = cc

pub asked_allowed : (o : Option Fault) → Ok tt ≡ ask_answer o → o ≡ none
asked_allowed none e = refl
asked_allowed (some g) e = cc

-- a request that rows 10 to 14 let through is one that the writer takes
pub allowed_writable : (asked : Request) (bytes : List ℕ) → ask_refusal asked bytes ≡ none
    → (length bytes ≤ 240) × (asked.unit ≢ 0) × (asked.sort ≤ 9)
unfolding ask_rows IsNotAModule IsNotARequest IsWrongData
allowed_writable asked bytes e =
    let no = (done_exactly (ask_rows asked bytes) _ (ask_ranked asked bytes)).0 e in (
      ⊎_elim (λ h. h) (λ h. absurd (no.1.1.1.0 (inl h))) (le-or-lt (length bytes) 240),
      λ z. no.1.0 (λ p. omega (arith, p.0)),
      ⊎_elim (λ h. h) (λ h. absurd (no.1.1.0 (λ s. not_known asked.sort h s))) (le-or-lt asked.sort 9),
    )
  where
    le-or-lt : (a b : ℕ) → (a ≤ b) ⊎ (b < a)
    le-or-lt a b = by (dec_le a b)
      where
        by : Dec (a ≤ b) → (a ≤ b) ⊎ (b < a)
        by (yes h) = inl h
        by (no h) = inr (omega arith)

    not_known : (sort : ℕ) → 9 < sort → (sort ≡ 4) ⊎ ((sort ≡ 5) ⊎ ((sort ≡ 6) ⊎ ((sort ≡ 7) ⊎ (sort ≡ 9)))) → ⊥
    not_known sort h =
        ⊎_elim (λ e. omega arith) (⊎_elim (λ e. omega arith) (⊎_elim (λ e. omega arith) (⊎_elim (λ e. omega arith) (λ e. omega arith))))

-- the call `number` gives the number that the laws above tell
pub number_is : (f : Fault) (r : ℕ) → Numbers f r → r ≡ fault_number f
number_is f r p = p

-- ---- 01: "Show that any two outcomes allowed by it are equal."

pub numbers_settled : (f : Fault) → Settled (Numbers f)
numbers_settled f = settled _

pub asks_settled : (asked : Request) (bytes : List ℕ) → Settled (Asks asked bytes)
asks_settled asked bytes = settled _
