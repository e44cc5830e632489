-- How a telegram is put together in the writer's space and in the lent room.
-- Assumes nothing.
use mathlib.Core.Path.{◌≡◌, refl, ap, ap₂, ◌∙◌}
use mathlib.Core.List.{List, [], ◌∷◌, ◌++◌}
use mathlib.Core.Option.{some, none}
use Prim.Native.Nat.{ℕ, ◌+◌, ◌-◌, ◌*◌, ◌/◌, ◌%◌, ◌≤◌, ◌<◌}
use native.Mathlib.Omega.{arith}
use borrow.Author.Tests.{lt-ltb, le-ltb, ne_eqb}
use lib.ListN.{length, take, length-append}
use Rattle.lent.proofs.Laws.{over_at_append, over_at_zero}
use Rattle.lent.specs.Lent.{over, over_at}
use Rattle.remainder.specs.Remainder.{remainder_of}
use Rattle.frame.proofs.Laws.{length-substitute, length-framed}
use Rattle.frame.specs.Frame.{substitute, substituted, framed}
use Rattle.telegram.specs.declared.Fault.TheVariants.{NoRoom}
use Rattle.telegram.specs.Write.{sealed, unsealed, message_for, telegram_for, room_refusal, write_refusal}
use Rattle.telegram.proofs.Judge.{whole_part}

-- ---- the message, laid piece by piece

pub composed : (d s t r : ℕ) (bytes space l₁ l₂ l₃ : List ℕ) (n check : ℕ)
    → l₁ ≡ over_at 0 (d ∷ s ∷ t ∷ r ∷ []) space → l₂ ≡ over_at 4 bytes l₁ → n ≡ length bytes + 4
    → check ≡ remainder_of (take (n - 0) l₂) → l₃ ≡ over_at n (check / 256 ∷ check % 256 ∷ []) l₂ → n ≤ length space
    → l₃ ≡ over (message_for d s t r bytes) space
unfolding sealed
composed d s t r bytes space l₁ l₂ l₃ n check e₁ e₂ en ec e₃ room =
    e₃ ∙ ap₂ (λ (k : ℕ) (l : List ℕ). over_at k (check / 256 ∷ check % 256 ∷ []) l) count laid
    ∙ over_at_append 0 front (check / 256 ∷ check % 256 ∷ []) space ∙ over_at_zero (front ++ (check / 256 ∷ check % 256 ∷ [])) space
    ∙ ap (λ (k : ℕ). over (front ++ (k / 256 ∷ k % 256 ∷ [])) space) sum
  where
    front : List ℕ
    front = unsealed d s t r bytes

    laid : l₂ ≡ over_at 0 front space
    laid = e₂ ∙ ap (over_at 4 bytes) e₁ ∙ over_at_append 0 (d ∷ s ∷ t ∷ r ∷ []) bytes space

    count : n ≡ 0 + length front
    count = omega arith

    sum : check ≡ remainder_of front
    sum = ec ∙ ap remainder_of (whole_part front space l₂ n (omega arith) (laid ∙ over_at_zero front space) (omega arith))

-- ---- the telegram, laid piece by piece

length-substituted : (m : List ℕ) → length (substituted m) ≤ 2 * length m
unfolding substituted
length-substituted [] = omega arith
length-substituted (b ∷ m) =
    let ih : length (substituted m) ≤ 2 * length m = length-substituted m in
    let two : length (substitute b) ≤ 2 = length-substitute b in
    rw (length-append (substitute b) (substituted m)) (omega arith)

-- "A telegram is at most 494 bytes."
pub telegram_long : (m : List ℕ) → length m ≤ 246 → length (framed m) ≤ 494
telegram_long m h =
    let s : length (substituted m) ≤ 2 * length m = length-substituted m in
    let e : length (framed m) ≡ length (substituted m) + 2 = length-framed m in
    omega arith

pub substituted_long : (m : List ℕ) (n : ℕ) → n ≡ length (substituted m) → length m ≤ 246 → n ≤ 492
substituted_long m n e h = let s : length (substituted m) ≤ 2 * length m = length-substituted m in omega arith

pub sent : (m room l₁ l₂ l₃ : List ℕ) (n : ℕ) → n ≡ length (substituted m)
    → l₁ ≡ over_at 0 (13 ∷ []) room → l₂ ≡ over_at 1 (substituted m) l₁ → l₃ ≡ over_at (n + 2 - 1) (10 ∷ []) l₂
    → l₃ ≡ over (framed m) room
unfolding framed
sent m room l₁ l₂ l₃ n en e₁ e₂ e₃ =
    e₃ ∙ ap₂ (λ (k : ℕ) (l : List ℕ). over_at k (10 ∷ []) l) count laid
    ∙ over_at_append 0 (13 ∷ substituted m) (10 ∷ []) room ∙ over_at_zero (13 ∷ substituted m ++ (10 ∷ [])) room
  where
    laid : l₂ ≡ over_at 0 (13 ∷ substituted m) room
    laid = e₂ ∙ ap (over_at 1 (substituted m)) e₁ ∙ over_at_append 0 (13 ∷ []) (substituted m) room

    count : n + 2 - 1 ≡ 0 + length (13 ∷ substituted m)
    count = omega arith

pub no_room : (m : List ℕ) (room n : ℕ) → n ≡ length (substituted m) → room < n + 2 → room_refusal m room ≡ some NoRoom
unfolding room_refusal
no_room m room n e h = simp (lt-ltb room (length (framed m)) (omega (arith, length-framed m)))

pub with_room : (m : List ℕ) (room n : ℕ) → n ≡ length (substituted m) → n + 2 ≤ room → room_refusal m room ≡ none
unfolding room_refusal
with_room m room n e h = simp (le-ltb room (length (framed m)) (omega (arith, length-framed m)))

-- ---- the writer's refusals

pub write_sends : (d s t r : ℕ) (bytes part : List ℕ) (room : ℕ) → length bytes ≤ 240 → (d ≡ 0 → ⊥) → (s ≡ 0 → ⊥) → t ≤ 9
    → part ≡ message_for d s t r bytes → write_refusal d s t r bytes room ≡ room_refusal part room
unfolding write_refusal room_refusal
write_sends d s t r bytes part room h hd hs ht e =
    rw e (simp (le-ltb 240 (length bytes) h, ne_eqb d 0 hd, ne_eqb s 0 hs, le-ltb 9 t ht))

pub write_passes : (d s t r : ℕ) (bytes : List ℕ) (room : ℕ) → length bytes ≤ 240 → (d ≡ 0 → ⊥) → (s ≡ 0 → ⊥) → t ≤ 9
    → length (telegram_for d s t r bytes) ≤ room → write_refusal d s t r bytes room ≡ none
unfolding room_refusal
write_passes d s t r bytes room h hd hs ht fits =
    write_sends d s t r bytes (message_for d s t r bytes) room h hd hs ht refl
    ∙ simp (le-ltb room (length (telegram_for d s t r bytes)) fits)

pub length-message_for : (d s t r : ℕ) (bytes : List ℕ) → length (message_for d s t r bytes) ≡ length bytes + 6
unfolding sealed
length-message_for d s t r bytes = rw (length-append (unsealed d s t r bytes) _) (omega arith)
