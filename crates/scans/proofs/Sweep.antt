-- 02, #107's sweep is part of a shift: each ticket that it closed is told to the scan by the list that the sweep filled.
-- Assumes nothing.
use Rattle.std.specs.Prelude.{Ok, Err}
use mathlib.Core.Path.{◌≡◌, refl, sym, ap, subst, ◌∙◌}
use mathlib.Core.List.{List, [], ◌∷◌}
use Prim.Native.Nat.{ℕ, zero, suc, ◌*◌}
use lib.ListN.{take}
use Rattle.desk.proofs.Laws.{expire_refusal_keeps}
use Rattle.desk.specs.Answers.{Closing, closing}
use Rattle.desk.specs.declared.Desk.{Desk}
use Rattle.overdue.proofs.Laws.{expired_is, filled}
use Rattle.overdue.specs.Overdue.{expired, listed, entries, desk_after, room_in, ExpiresAll}
use Rattle.overdue.specs.declared.Swept.{Swept}
use Rattle.scan.specs.Scan.{heard_closing, HearsClosing}
use Rattle.scan.specs.declared.Scan.{Scan}
use Rattle.scans.specs.Shift.{Event, Shift, of_closing, told_all, swept_all}
use Rattle.scans.specs.Shift.{withdrawn}
use Rattle.scans.specs.Shift.{expires}

-- each entry of the list is one closing that the scan is told, in the list's order, and one event; what is left of an entry is none
pub sweep_plainly : (scan scan' : Scan) (job address folder : ℕ) (rest : List ℕ) (past : List Event) → HearsClosing scan (closing job address folder) scan'
    → (told_all scan (job ∷ address ∷ folder ∷ rest) ≡ told_all scan' rest)
    × (swept_all (job ∷ address ∷ folder ∷ rest) past ≡ swept_all rest (withdrawn address ∷ past))
    × (told_all scan [] ≡ scan)
    × (swept_all [] past ≡ past)
    × (told_all scan (job ∷ []) ≡ scan)
    × (swept_all (job ∷ []) past ≡ past)
    × (told_all scan (job ∷ address ∷ []) ≡ scan)
    × (swept_all (job ∷ address ∷ []) past ≡ past)
unfolding told_all swept_all
sweep_plainly scan scan' job address folder rest past told = (ap (λ (s : Scan). told_all s rest) (sym told), refl, refl, refl, refl, refl, refl, refl)

-- where nothing is due, nothing changes
stays : (n : ℕ) (desk : Desk) (clock : ℕ) → (expired desk clock).desk ≡ desk → desk_after n desk clock ≡ desk
unfolding desk_after
stays zero desk clock same = refl
stays (suc n) desk clock same = ap (λ (d : Desk). desk_after n d clock) same ∙ stays n desk clock same

swept : (n : ℕ) {job : ℕ} {scan : Scan} {desk : Desk} {past : List Event} → Shift job scan desk past → (clock : ℕ)
    → Shift job (told_all scan (entries n desk clock)) (desk_after n desk clock) (swept_all (entries n desk clock) past)
unfolding entries desk_after told_all swept_all
swept zero shift clock = shift
swept (suc n) {job} {scan} {desk} {past} shift clock =
    go (expired desk clock).answer refl
    (expires shift clock (expired desk clock) (heard_closing scan (expired desk clock).answer) (expired_is desk clock) refl)
    (λ told seen later. swept n later clock)
  where
    go : (a : Closing) → (expired desk clock).answer ≡ a → Shift job (heard_closing scan a) (expired desk clock).desk (of_closing a ∷ past)
        → ((told : Scan) (seen : List Event) → Shift job told (expired desk clock).desk seen
        → Shift job (told_all told (entries n (expired desk clock).desk clock)) (desk_after n (expired desk clock).desk clock)
        (swept_all (entries n (expired desk clock).desk clock) seen))
        → Shift job (told_all scan (listed a (entries n (expired desk clock).desk clock))) (desk_after n (expired desk clock).desk clock)
        (swept_all (listed a (entries n (expired desk clock).desk clock)) past)
    go (Ok closed) is then more = more (heard_closing scan (Ok closed)) (withdrawn closed.address ∷ past) then
    go (Err f) is then more =
        let same = expire_refusal_keeps desk clock (expired desk clock) f (expired_is desk clock) is in
        subst (λ (d : Desk). Shift job scan d past) (sym (ap (λ (d : Desk). desk_after n d clock) same ∙ stays n desk clock same)) shift

-- so a shift goes on with it: the scan is told of each entry, in the list's order, and each is one ticket that expired
pub goes_on_sweep : {job : ℕ} {scan : Scan} {desk : Desk} {past : List Event} → Shift job scan desk past
    → (clock : ℕ) (list : List ℕ) (r : Swept) (list' : List ℕ) → ExpiresAll desk clock list r list'
    → Shift job (told_all scan (take (3 * r.count) list')) r.desk (swept_all (take (3 * r.count) list') past)
goes_on_sweep {job} {scan} {desk} {past} shift clock list r list' sweeps =
    rw (filled desk clock list r list' sweeps, sweeps.0) (swept (room_in list) shift clock)
