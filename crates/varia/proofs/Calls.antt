-- What each function of the box needs of the definitions, over plain lists and numbers.
-- Assumes nothing.
use Rattle.std.specs.Prelude.{Some, None}
use mathlib.Core.Path.{◌≡◌, sym, subst, ◌∙◌}
use mathlib.Core.Bool.{Bool, true, false}
use mathlib.Core.List.{List, [], ◌∷◌}
use mathlib.Core.Option.{some, none}
use mathlib.Core.Logic.{◌≢◌}
use Prim.Native.Nat.{ℕ, ◌≤◌, ◌<◌}
use borrow.Author.Tests.{lt-ltb, le-ltb, eq-eqb, ne_eqb}
use Rattle.lent.specs.Lent.{over}
use Rattle.desk.specs.Open.{Opens}
use Rattle.desk.specs.declared.AfterOpen.{AfterOpen}
use Rattle.desk.specs.Answers.{Booking, booking, closing}
use Rattle.desk.specs.Answers.{Closing}
use Rattle.desk.specs.declared.Desk.{Desk}
use Rattle.request.specs.declared.Request.{Request}
use Rattle.values.specs.Values.{bytes_of}
use Rattle.varia.specs.Box.{edge_of, other, is_out, is_out_of_order, edge_refusal, attenuation_refusal, with_out, with_edge, heard_reply, heard_closing}
use Rattle.varia.specs.Answers.{Edge, sent}
use Rattle.varia.specs.declared.Fault.TheVariants.{EdgeOut, TooMuch, OutOfOrder}
use Rattle.varia.specs.declared.FilterBox.{FilterBox}
use Rattle.varia.specs.declared.Pass.{Pass}

-- ---- the box's own tests

pub out_refused : (box : FilterBox) (pass : Pass) (tenths : ℕ) (b : Bool) → b ≡ is_out box.out → b ≡ true → edge_refusal box pass tenths ≡ some EdgeOut
unfolding edge_refusal
out_refused box pass tenths b is taken = rw (sym is ∙ taken)

module _ (box : FilterBox) (pass : Pass) (tenths : ℕ) (b : Bool) (out_is : b ≡ is_out box.out) (free : b ≡ false)
    (edge : Edge) (edge_is : edge ≡ edge_of box (other pass)) (c : Bool) (order_is : c ≡ is_out_of_order pass tenths edge) where
  pub order_refused : c ≡ true → edge_refusal box pass tenths ≡ some OutOfOrder
  unfolding edge_refusal
  order_refused taken = rw (sym out_is ∙ free, sym edge_is, sym order_is ∙ taken)

  pub not_refused : c ≡ false → edge_refusal box pass tenths ≡ none
  unfolding edge_refusal
  not_refused left = rw (sym out_is ∙ free, sym edge_is, sym order_is ∙ left)

pub attenuation_refused : (permille : ℕ) → 1000 < permille → attenuation_refusal permille ≡ some TooMuch
unfolding attenuation_refusal
attenuation_refused permille taken = rw (lt-ltb 1000 permille taken)

pub attenuation_let : (permille : ℕ) → permille ≤ 1000 → attenuation_refusal permille ≡ none
unfolding attenuation_refusal
attenuation_let permille left = rw (le-ltb 1000 permille left)

-- ---- the two bytes of a number, stored over two zeros, are what is asked with

pub asked_with : (desk : Desk) (clock : ℕ) (room : List ℕ) (r : AfterOpen) (room' : List ℕ) (made asked : Request) (two : List ℕ) (v : ℕ)
    → made ≡ asked → two ≡ over (bytes_of 2 v) (0 ∷ 0 ∷ []) → Opens desk made two clock room r room' → Opens desk asked (bytes_of 2 v) clock room r room'
unfolding over bytes_of
asked_with desk clock room r room' made asked two v same laid opens =
    subst (λ (bytes : List ℕ). Opens desk asked bytes clock room r room') laid (subst (λ (x : Request). Opens desk x two clock room r room') same opens)

-- ---- what the box makes of an answer

module _ (box : FilterBox) (at : ℕ) (pass : Pass) (tenths : ℕ) (out_is : box.out ≡ sent at pass tenths) where
  pub reply_elsewhere : (answer : Booking) (job address sort n folder : ℕ) → answer ≡ booking job address sort n folder → at ≢ address → box ≡ heard_reply box answer
  reply_elsewhere answer job address sort n folder is left = rw (is, out_is, ne_eqb at address left)

  pub reply_acks : (answer : Booking) (job address sort n folder : ℕ) → answer ≡ booking job address sort n folder → at ≡ address → sort ≡ 3
      → with_edge box pass (Some tenths) ≡ heard_reply box answer
  reply_acks answer job address sort n folder is taken ack = rw (is, out_is, eq-eqb at address taken, eq-eqb sort 3 ack)

  pub reply_leaves : (answer : Booking) (job address sort n folder : ℕ) → answer ≡ booking job address sort n folder → at ≡ address → sort ≢ 3
      → with_out box None ≡ heard_reply box answer
  reply_leaves answer job address sort n folder is taken left = rw (is, out_is, eq-eqb at address taken, ne_eqb sort 3 left)

  pub closing_elsewhere : (answer : Closing) (job address folder : ℕ) → answer ≡ closing job address folder → at ≢ address → box ≡ heard_closing box answer
  closing_elsewhere answer job address folder is left = rw (is, out_is, ne_eqb at address left)

  pub closing_forgets : (answer : Closing) (job address folder : ℕ) → answer ≡ closing job address folder → at ≡ address
      → with_edge box pass None ≡ heard_closing box answer
  closing_forgets answer job address folder is taken = rw (is, out_is, eq-eqb at address taken)
