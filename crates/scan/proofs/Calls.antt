-- What each function of the scan needs of the definitions, over plain numbers.
-- Assumes nothing.
use Rattle.std.specs.Prelude.{Ok}
use mathlib.Core.Path.{◌≡◌, refl, sym, ◌∙◌}
use mathlib.Core.Bool.{Bool, true, false}
use mathlib.Core.List.{List, []}
use mathlib.Core.Logic.{◌≢◌}
use Prim.Native.Nat.{ℕ, ◌+◌, ◌-◌, ◌≤◌, ◌<◌}
use native.Mathlib.Omega.{arith}
use borrow.Author.Tests.{le-leb, lt-leb, eq-eqb, ne_eqb}
use lib.ListN.{get_or}
use Rattle.desk.specs.Open.{Opens}
use Rattle.desk.specs.declared.AfterOpen.{AfterOpen}
use Rattle.desk.specs.Answers.{Booking, booking, closing}
use Rattle.desk.specs.Answers.{Closing}
use Rattle.desk.specs.declared.Desk.{Desk}
use Rattle.scan.specs.Scan.{request, is_its_own, turn_over, answer_of, heard_reply, heard_closing, Stays, Passes, Steps, Looks}
use Rattle.scan.specs.declared.AfterStep.{AfterStep}
use Rattle.scan.specs.declared.Found.TheVariants.{NotYet, Absent, Present}
use Rattle.scan.specs.declared.Scan.{Scan}
use Rattle.scan.specs.declared.Stage.TheVariants.{Waiting, Done}

-- ---- a step

module _ (scan : Scan) (desk : Desk) (clock : ℕ) (room : List ℕ) (r : AfterStep) where
  pub step_done : 160 ≤ scan.turns → Stays scan desk (Ok Done) r → Steps scan desk clock room r room
  step_done over stays = rw (le-leb 160 scan.turns over) (stays, refl)

  pub step_waits : scan.turns < 160 → scan.out ≢ 0 → Stays scan desk (Ok (Waiting scan.out)) r → Steps scan desk clock room r room
  step_waits left out stays = rw (lt-leb 160 scan.turns left, ne_eqb scan.out 0 out) (stays, refl)

  pub step_asks : (o : AfterOpen) (room' : List ℕ) → scan.turns < 160 → scan.out ≡ 0 → Opens desk (request scan) [] clock room o room' → Passes scan (scan.turns + 1) o r
      → Steps scan desk clock room r room'
  step_asks o room' left free opens passes = rw (lt-leb 160 scan.turns left, eq-eqb scan.out 0 free) (o, opens, passes)

-- ---- what the scan makes of an answer

module _ (scan : Scan) (b : Bool) (address : ℕ) (is : b ≡ is_its_own scan address) where
  pub reply_ends : (answer : Booking) (job sort n folder : ℕ) → answer ≡ booking job address sort n folder → b ≡ true
      → turn_over scan (answer_of sort) ≡ heard_reply scan answer
  reply_ends answer job sort n folder told taken = rw (told, sym is ∙ taken)

  pub reply_leaves : (answer : Booking) (job sort n folder : ℕ) → answer ≡ booking job address sort n folder → b ≡ false → scan ≡ heard_reply scan answer
  reply_leaves answer job sort n folder told left = rw (told, sym is ∙ left)

  pub closing_ends : (answer : Closing) (job folder : ℕ) → answer ≡ closing job address folder → b ≡ true → turn_over scan 0 ≡ heard_closing scan answer
  closing_ends answer job folder told taken = rw (told, sym is ∙ taken)

  pub closing_leaves : (answer : Closing) (job folder : ℕ) → answer ≡ closing job address folder → b ≡ false → scan ≡ heard_closing scan answer
  closing_leaves answer job folder told left = rw (told, sym is ∙ left)

-- ---- what was found

module _ (scan : Scan) (unit : ℕ) where
  pub look_none : unit ≡ 0 → Looks scan unit NotYet
  look_none none = rw (lt-leb 1 unit (omega (arith, none)))

  module _ (some : unit ≢ 0) where
    pub look_later : scan.turns < unit → Looks scan unit NotYet
    look_later later = rw (le-leb 1 unit (omega (arith, some)), lt-leb unit scan.turns later)

    module _ (over : unit ≤ scan.turns) where
      pub look_past : 160 < unit → Looks scan unit NotYet
      look_past past = rw (le-leb 1 unit (omega (arith, some)), le-leb unit scan.turns over, lt-leb unit 160 past)

      module _ (within : unit ≤ 160) where
        pub look_absent : get_or scan.results (unit - 1) 0 ≡ 0 → Looks scan unit Absent
        look_absent none =
            rw (le-leb 1 unit (omega (arith, some)), le-leb unit scan.turns over, le-leb unit 160 within, eq-eqb (get_or scan.results (unit - 1) 0) 0 none)

        pub look_present : get_or scan.results (unit - 1) 0 ≢ 0 → Looks scan unit (Present (get_or scan.results (unit - 1) 0))
        look_present one =
            rw (le-leb 1 unit (omega (arith, some)), le-leb unit scan.turns over, le-leb unit 160 within, ne_eqb (get_or scan.results (unit - 1) 0) 0 one)
