-- The program's loop over a piece: that it goes on, and ends.
-- Assumes nothing.
use Rattle.std.specs.Prelude.{Result, Ok, Err}
use Rattle.std.specs.Result.{is_err}
use mathlib.Core.Path.{◌≡◌, refl, sym, ap, ◌∙◌}
use mathlib.Core.Bool.{Bool, true, false, true≢false}
use mathlib.Core.List.{List}
use Prim.Native.Nat.{ℕ, ◌+◌, ◌-◌, ◌≤◌, ◌<◌}
use native.Mathlib.Omega.{arith}
use lib.ListN.{length, take, drop, length-drop, drop_of_length-le}
use lib.Seq.{drop-drop}
use Rattle.lent.proofs.Laws.{length_over}
use Rattle.lister.specs.declared.Listing.{Listing}
use Rattle.lister.specs.declared.Listed.{Listed}
use Rattle.receiver.specs.Receiver.{largest}
use Rattle.lister.specs.Text.{longest_line, carried, Lists}
use Rattle.lister.proofs.Laws.{list_within, list_moves, list_place, list_fits, list_carries}
use Rattle.lister.proofs.Pouring.{all_left}

-- ---- the loop over a piece: so much of it was taken, and the place moved on by as much

pub record Coming (piece room₀ : List ℕ) (l₀ : Listing) (room : List ℕ) (l : Listing) (taken : ℕ) : Type 0 where
  pub room_long : length room ≡ length room₀
  pub in_piece : taken ≤ length piece
  pub moved : l.receiver.place ≡ l₀.receiver.place + taken
  pub in_places : 0 < taken → l.receiver.place ≤ largest
  pub carries : carried l (drop taken piece) ≡ carried l₀ piece

module _ {piece room₀ : List ℕ} {l₀ : Listing} {room : List ℕ} {l : Listing} {taken : ℕ} (so_far : Coming piece room₀ l₀ room l taken)
    (r : Listed) (room' : List ℕ) (lists : Lists l (take (length piece - taken) (drop taken piece)) room r room') where
  left : length (take (length piece - taken) (drop taken piece)) ≡ length piece - taken
  left = ap length (all_left taken piece) ∙ length-drop taken piece

  pub same_room : length room' ≡ length room₀
  same_room = ap length lists.1 ∙ length_over _ room ∙ so_far.room_long

  pub within : (r.size ≤ length room') × (r.taken ≤ length piece - taken)
  within = let w = list_within l (take (length piece - taken) (drop taken piece)) room r room' lists in (w.0, omega (arith, w.1, left))

  pub less : taken < length piece → longest_line ≤ length room₀ → r.outcome ≡ Ok tt → length piece - (taken + r.taken) < length piece - taken
  less under wide done =
      let space : longest_line ≤ length room = rw so_far.room_long wide in
      let moves = list_moves l (take (length piece - taken) (drop taken piece)) room r room' lists (omega (arith, left)) space done in
      omega (arith, moves, within.1)

  pub coming : taken < length piece → r.outcome ≡ Ok tt → Coming piece room₀ l₀ room' r.listing (taken + r.taken)
  coming under done =
      let on = list_place l (take (length piece - taken) (drop taken piece)) room room' r lists in
      let fits = list_fits l (take (length piece - taken) (drop taken piece)) room room' r lists done in
      let further : carried r.listing (drop r.taken (drop taken piece)) ≡ carried l (drop taken piece) =
      rw (all_left taken piece) at (list_carries l (take (length piece - taken) (drop taken piece)) room r room' lists) in
      record {
        room_long = same_room;
        in_piece = omega (arith, within.1);
        moved = omega (arith, on, so_far.moved);
        in_places = λ _. omega (arith, on, fits, left, within.1);
        carries = ap (carried r.listing) (sym (drop-drop r.taken taken piece)) ∙ further ∙ so_far.carries;
      }

-- all of it was taken
pub all_taken : {piece room₀ : List ℕ} {l₀ : Listing} {room : List ℕ} {l : Listing} {taken : ℕ} → Coming piece room₀ l₀ room l taken → length piece ≤ taken → 0 < length piece
    → (l₀.receiver.place < l.receiver.place) × (l.receiver.place ≤ largest)
all_taken so_far done some_bytes = (omega (arith, so_far.moved), so_far.in_places (omega arith))

pub all_carried : {piece room₀ : List ℕ} {l₀ : Listing} {room : List ℕ} {l : Listing} {taken : ℕ} → Coming piece room₀ l₀ room l taken → length piece ≤ taken → l ≡ carried l₀ piece
unfolding carried
all_carried {piece} {l = l} {taken} so_far done = ap (carried l) (sym (drop_of_length-le piece {i = taken} done)) ∙ so_far.carries

-- what was not refused was listed
pub done_lem : {E : Type 0} (r : Result Unit E) → is_err r ≡ false → r ≡ Ok tt
done_lem (Ok tt) _ = refl
done_lem (Err fault) e = absurd (true≢false e)

-- what is over owes nothing
pub is_over_lem : {A : Type 0} {over : Bool} → over ≡ true → over ≡ false → A
is_over_lem e z = absurd (true≢false (sym e ∙ z))
