-- What becomes of a frame, by the bytes behind its 13.
-- Assumes nothing.
use Rattle.std.specs.Prelude.{Ok, Err}
use mathlib.Core.Path.{◌≡◌, refl, sym, ap, ◌∙◌}
use mathlib.Core.Bool.{true, false}
use mathlib.Core.List.{List, [], ◌∷◌, ◌++◌}
use mathlib.Core.Logic.{◌≢◌}
use Prim.Native.Nat.{ℕ, suc, ◌+◌, ◌≤◌}
use native.Mathlib.Omega.{arith}
use borrow.Author.Tests.{ne_eqb, le-leb, lt-leb}
use lib.Dec.{leb}
use lib.ListN.{length, get_or, take, length-append}
use Rattle.telegram.specs.Read.{read_frame}
use Rattle.telegram.specs.declared.Fault.{Fault}
use Rattle.telegram.specs.declared.Fields.{Fields}
use Rattle.lines.specs.declared.Event.TheVariants.{Read, Refused, Dropped, Open}
use Rattle.listing.specs.Events.{read_event, frame_event, is_end, to_next, to_next_end, event_of, is_ok, is_refused, is_dropped, is_open}
use Rattle.listing.specs.Places.{NoEnd}
use Rattle.listing.proofs.Laws.{is_read}

next_step : (b : ℕ) (rest : List ℕ) → b ≢ 10 → b ≢ 13 → to_next_end (b ∷ rest) ≡ suc (to_next_end rest)
unfolding to_next
next_step b rest n m = rw (ne_eqb b 10 n, ne_eqb b 13 m) refl

next_all : (rest : List ℕ) → NoEnd rest → to_next_end rest ≡ length rest
unfolding to_next
next_all [] n = refl
next_all (b ∷ rest) n = next_step b rest n.0 n.1 ∙ ap suc (next_all rest n.2)

next_is : (inner more : List ℕ) (b : ℕ) → NoEnd inner → is_end b ≡ true → to_next_end (inner ++ (b ∷ more)) ≡ length inner
unfolding to_next
next_is [] more b n e = rw e refl
next_is (x ∷ inner) more b n e = next_step x (inner ++ (b ∷ more)) n.0 n.1 ∙ ap suc (next_is inner more b n.2 e)

at-is : (inner more : List ℕ) (b : ℕ) → get_or (inner ++ (b ∷ more)) (length inner) 0 ≡ b
at-is [] more b = refl
at-is (x ∷ inner) more b = at-is inner more b

take_is : (inner more : List ℕ) (b : ℕ) → take (suc (length inner)) (inner ++ (b ∷ more)) ≡ inner ++ (b ∷ [])
take_is [] more b = refl
take_is (x ∷ inner) more b = ap (λ (l : List ℕ). x ∷ l) (take_is inner more b)

-- without an end it is open, however long it is
pub left_open : (rest : List ℕ) → NoEnd rest → event_of rest ≡ Open
unfolding event_of
left_open rest n = rw (next_all rest n, le-leb (length rest) (length rest) (omega arith)) refl

module _ (inner more : List ℕ) (none : NoEnd inner) where
  under : (b : ℕ) → leb (length (inner ++ (b ∷ more))) (length inner) ≡ false
  under b =
      let e : length (inner ++ (b ∷ more)) ≡ length inner + length (b ∷ more) = length-append inner (b ∷ more) in
      lt-leb (length (inner ++ (b ∷ more))) (length inner) (omega arith)

  -- "a second 13 drops it", however long it is
  pub drops_it : event_of (inner ++ (13 ∷ more)) ≡ Dropped
  unfolding event_of
  drops_it = rw (next_is inner more 13 none refl, under 13, at-is inner more 13) refl

  -- "a 10 closes it": the frame is from its 13 to that 10
  pub closes_it : event_of (inner ++ (10 ∷ more)) ≡ frame_event (13 ∷ (inner ++ (10 ∷ [])))
  unfolding event_of
  closes_it = rw (next_is inner more 10 none refl, under 10, at-is inner more 10, take_is inner more 10) refl

-- "and it is read": the reader's fields, or the reader's number
module _ (frame : List ℕ) (short : length frame ≤ 494) where
  pub read_fields : (t : Fields) → read_frame frame 240 ≡ Ok t → frame_event frame ≡ Read t
  read_fields t e = sym (is_read frame short) ∙ ap read_event e

  pub read_fault : (f : Fault) → read_frame frame 240 ≡ Err f → frame_event frame ≡ Refused f
  read_fault f e = sym (is_read frame short) ∙ ap read_event e

-- and each is in its own total, whatever it says; `one_kind` has that it is in no other
pub counted_as : ((t : Fields) → is_ok (Read t) ≡ 1) × ((f : Fault) → is_refused (Refused f) ≡ 1) × (is_dropped Dropped ≡ 1) × (is_open Open ≡ 1)
counted_as = ((λ t. refl), (λ f. refl), refl, refl)
