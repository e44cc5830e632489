-- 02, #104: each number exactly where its row holds and no earlier one, the box's "ahead of the desk's".
-- Assumes nothing.
use Rattle.std.specs.Prelude.{Ok, Err, Some, None}
use mathlib.Core.Path.{◌≡◌, refl, sym, ap, ◌∙◌}
use mathlib.Core.Bool.{Bool, true, false, cond, true≢false}
use mathlib.Core.List.{List, [], ◌∷◌, ◌++◌}
use mathlib.Core.Logic.{⊎_elim, inl, ◌≢◌}
use mathlib.Core.Option.{Option, some, none}
use Prim.Native.Nat.{ℕ, ◌%◌, ◌/◌, ◌<◌}
use native.Mathlib.Omega.{arith}
use borrow.Author.Tests.{leb-true, leb-false, eqb-true, eqb-false}
use lib.Dec.{eqb}
use lib.ListN.{length}
use Rattle.rows.proofs.Laws.{Decides, decides_lt, ranked, ranked_append, ranked_up, refused_exactly, done_exactly, ◌otherwise◌, clash}
use Rattle.rows.specs.Rows.{Row, row, Ranked, NoRow, First, Numbered, numbers_of, apart, passed_up}
use Rattle.desk.proofs.Ranking.{open_exactly}
use Rattle.desk.specs.Desk.{fault_number as desk_number}
use Rattle.desk.specs.Open.{open_rows, open_told, place_rows}
use Rattle.desk.specs.declared.Desk.{Desk}
use Rattle.desk.specs.Answers.{Opening}
use Rattle.request.specs.Request.{ask_rows}
use Rattle.request.specs.declared.Request.{Request}
use Rattle.values.specs.Values.{bytes_of}
use Rattle.varia.specs.Ask.{from_desk, ask_told, now_out, Asks, SetsEdge, Attenuates, ReadsMonitor, ReadsStatus}
use Rattle.varia.specs.Box.{edge_of, other, edge_register, attenuation_register, request, InOrder, fault_number}
use Rattle.varia.specs.Box.{IsEdgeOut, IsTooMuch, IsOutOfOrder, edge_rows, attenuation_rows, is_out, is_out_of_order, edge_tests, attenuation_tests, edge_refusal, attenuation_refusal}
use Rattle.varia.specs.Display.{IsNeither, display_rows, display_told, which_of, Displays}
use Rattle.varia.specs.declared.AfterAsk.{AfterAsk}
use Rattle.varia.specs.Answers.{Edge, sent}
use Rattle.varia.specs.declared.Fault.{Fault}
use Rattle.varia.specs.declared.FilterBox.{FilterBox}
use Rattle.varia.specs.Answers.{Out}
use Rattle.varia.specs.declared.Pass.{Pass}
use Rattle.varia.specs.declared.Pass.TheVariants.{Short, Long}

-- ---- the box's own rows

decides_out : (o : Out) → Decides (is_out o) ((address : ℕ) × (pass : Pass) × (tenths : ℕ) × (o ≡ sent address pass tenths))
decides_out None = record { so = λ e. absurd (true≢false (sym e)); not_so = λ e h. let p = h.3 in clash (cc) }
decides_out (Some was) = record { so = λ e. (was.address, was.pass, was.tenths, refl); not_so = λ e. absurd (true≢false e) }

known_is : {a b : ℕ} → Some a ≡ Some b → a ≡ b
known_is e = cc

decides_order : (pass : Pass) (tenths : ℕ) (edge : Edge)
    → Decides (is_out_of_order pass tenths edge) ((there : ℕ) × (edge ≡ Some there) × (InOrder pass tenths there → ⊥))
decides_order pass tenths None = record { so = λ e. absurd (true≢false (sym e)); not_so = λ e h. let p = h.1 in clash (cc) }
decides_order Short tenths (Some there) =
    record {
      so = λ e. (there, refl, λ less. let l = leb-true tenths there e in omega arith);
      not_so = λ e h. h.2 (let l = leb-false tenths there e in let same = known_is h.1 in omega arith);
    }
decides_order Long tenths (Some there) =
    record {
      so = λ e. (there, refl, λ less. let l = leb-true there tenths e in omega arith);
      not_so = λ e h. h.2 (let l = leb-false there tenths e in let same = known_is h.1 in omega arith);
    }

pub edge_ranked : (box : FilterBox) (pass : Pass) (tenths : ℕ) → Ranked (edge_rows box pass tenths) (edge_refusal box pass tenths)
unfolding edge_rows edge_refusal IsEdgeOut IsOutOfOrder
edge_ranked box pass tenths =
    ranked (edge_tests box pass tenths) (edge_rows box pass tenths)
    (decides_out box.out otherwise λ n₅₉. decides_order pass tenths (edge_of box (other pass)) otherwise λ n₆₃. tt)

pub attenuation_ranked : (permille : ℕ) → Ranked (attenuation_rows permille) (attenuation_refusal permille)
unfolding attenuation_rows attenuation_refusal IsTooMuch
attenuation_ranked permille = ranked (attenuation_tests permille) (attenuation_rows permille) (decides_lt 1000 permille otherwise λ n₆₂. tt)

-- ---- and then the desk's

-- what was told ranks by the rows that it is numbered by
told_ranked : (rs : List (Row ℕ)) (numbers : List ℕ) (told : Option ℕ) → Numbered rs numbers told → Ranked rs told
told_ranked rs numbers none n = n.done.0 refl
told_ranked rs numbers (some k) n = (n.each k).0 refl

passed_told : (a : Opening) → ask_told (from_desk a) ≡ open_told a
passed_told (Ok opened) = refl
passed_told (Err f) = refl

-- of any call of the box, by its own rows
module _ (rows : List (Row Fault)) (next : Opening → FilterBox) (box : FilterBox) (desk : Desk) (asked : Request) (bytes : List ℕ) (clock : ℕ) (room : List ℕ)
    (r : AfterAsk) (room' : List ℕ) where
  asks_ranked : (own : Option Fault) → Ranked rows own → Asks own box next desk asked bytes clock room r room'
      → Ranked (passed_up fault_number rows ++ passed_up desk_number (open_rows desk asked bytes clock (length room))) (ask_told r.answer)
  asks_ranked (some f) p a =
      rw a.0.0
      (ranked_append (passed_up fault_number rows) (passed_up desk_number (open_rows desk asked bytes clock (length room))) (some (fault_number f)) none
      (ranked_up fault_number rows (some f) p) (λ no_row. absurd (never rows f p no_row)))
    where
      never : (rs : List (Row Fault)) (g : Fault) → First rs g → NoRow (passed_up fault_number rs) → ⊥
      never [] g here no_row = here
      never (x ∷ rs) g here no_row = ⊎_elim (λ h. no_row.0 h.0) (λ h. never rs g h.1 no_row.1) here
  asks_ranked none p a =
      rw (ap ask_told a.2.0 ∙ passed_told a.0.answer)
      (ranked_append (passed_up fault_number rows) (passed_up desk_number (open_rows desk asked bytes clock (length room))) none (open_told a.0.answer)
      (ranked_up fault_number rows none p)
      (λ no_row. told_ranked _ _ _ (open_exactly desk asked bytes clock room a.0 room' a.1)))

numbered_as : (rs : List (Row ℕ)) (numbers : List ℕ) (told : Option ℕ) → numbers_of rs ≡ numbers → apart numbers ≡ true → Ranked rs told → Numbered rs numbers told
numbered_as rs numbers told in_order no_two p =
    record { in_order = in_order; no_two = no_two; each = refused_exactly rs told p; done = done_exactly rs told p }

-- the calls one by one, with the box's own conditions and the whole request written out; the desk's conditions on it are those of
-- `open_plainly`
module _ (box : FilterBox) (desk : Desk) (wait clock : ℕ) (room : List ℕ) (r : AfterAsk) (room' : List ℕ) where
  -- what the desk may refuse of a request, with the desk's numbers
  abbrev desk_rows : Request → List ℕ → List (Row ℕ)
  desk_rows asked bytes = passed_up desk_number (open_rows desk asked bytes clock (length room))

  pub set_exactly : (pass : Pass) (tenths : ℕ) → SetsEdge pass box desk tenths wait clock room r room'
      → Numbered
      (passed_up fault_number (edge_rows box pass tenths) ++ desk_rows (request box 5 (edge_register pass) wait) (bytes_of 2 tenths))
      (59 ∷ 63 ∷ 10 ∷ 11 ∷ 12 ∷ 13 ∷ 14 ∷ 75 ∷ 15 ∷ 16 ∷ []) (ask_told r.answer)
  unfolding edge_rows open_rows place_rows ask_rows
  set_exactly pass tenths a =
      numbered_as _ (59 ∷ 63 ∷ 10 ∷ 11 ∷ 12 ∷ 13 ∷ 14 ∷ 75 ∷ 15 ∷ 16 ∷ []) (ask_told r.answer) refl refl
      (asks_ranked (edge_rows box pass tenths) (now_out box pass tenths) box desk (request box 5 (edge_register pass) wait) (bytes_of 2 tenths) clock room r room'
      (edge_refusal box pass tenths) (edge_ranked box pass tenths) a)

  pub set_short_plainly : (tenths : ℕ) → SetsEdge Short box desk tenths wait clock room r room'
      → Numbered
      (row ((address : ℕ) × (which : Pass) × (value : ℕ) × (box.out ≡ sent address which value)) 59
      ∷ row ((there : ℕ) × (box.long ≡ Some there) × (there < tenths → ⊥)) 63
      ∷ desk_rows (record { job = box.job; unit = box.unit; sort = 5; register = 51; wait = wait; folder = 0 })
      (tenths % 256 ∷ tenths / 256 % 256 ∷ []))
      (59 ∷ 63 ∷ 10 ∷ 11 ∷ 12 ∷ 13 ∷ 14 ∷ 75 ∷ 15 ∷ 16 ∷ []) (ask_told r.answer)
  unfolding edge_rows IsEdgeOut IsOutOfOrder bytes_of
  set_short_plainly tenths a = set_exactly Short tenths a

  pub set_long_plainly : (tenths : ℕ) → SetsEdge Long box desk tenths wait clock room r room'
      → Numbered
      (row ((address : ℕ) × (which : Pass) × (value : ℕ) × (box.out ≡ sent address which value)) 59
      ∷ row ((there : ℕ) × (box.short ≡ Some there) × (tenths < there → ⊥)) 63
      ∷ desk_rows (record { job = box.job; unit = box.unit; sort = 5; register = 52; wait = wait; folder = 0 })
      (tenths % 256 ∷ tenths / 256 % 256 ∷ []))
      (59 ∷ 63 ∷ 10 ∷ 11 ∷ 12 ∷ 13 ∷ 14 ∷ 75 ∷ 15 ∷ 16 ∷ []) (ask_told r.answer)
  unfolding edge_rows IsEdgeOut IsOutOfOrder bytes_of
  set_long_plainly tenths a = set_exactly Long tenths a

  pub attenuate_exactly : (permille : ℕ) → Attenuates box desk permille wait clock room r room'
      → Numbered
      (passed_up fault_number (attenuation_rows permille) ++ desk_rows (request box 5 attenuation_register wait) (bytes_of 2 permille))
      (62 ∷ 10 ∷ 11 ∷ 12 ∷ 13 ∷ 14 ∷ 75 ∷ 15 ∷ 16 ∷ []) (ask_told r.answer)
  unfolding attenuation_rows open_rows place_rows ask_rows
  attenuate_exactly permille a =
      numbered_as _ (62 ∷ 10 ∷ 11 ∷ 12 ∷ 13 ∷ 14 ∷ 75 ∷ 15 ∷ 16 ∷ []) (ask_told r.answer) refl refl
      (asks_ranked (attenuation_rows permille) (λ o. box) box desk (request box 5 attenuation_register wait) (bytes_of 2 permille) clock room r room'
      (attenuation_refusal permille) (attenuation_ranked permille) a)

  pub attenuate_plainly : (permille : ℕ) → Attenuates box desk permille wait clock room r room'
      → Numbered
      (row (1000 < permille) 62
      ∷ desk_rows (record { job = box.job; unit = box.unit; sort = 5; register = 50; wait = wait; folder = 0 })
      (permille % 256 ∷ permille / 256 % 256 ∷ []))
      (62 ∷ 10 ∷ 11 ∷ 12 ∷ 13 ∷ 14 ∷ 75 ∷ 15 ∷ 16 ∷ []) (ask_told r.answer)
  unfolding attenuation_rows IsTooMuch bytes_of
  attenuate_plainly permille a = attenuate_exactly permille a

  reads_exactly : (register : ℕ) → Asks none box (λ o. box) desk (request box 4 register wait) [] clock room r room'
      → Numbered (desk_rows (request box 4 register wait) []) (10 ∷ 11 ∷ 12 ∷ 13 ∷ 14 ∷ 75 ∷ 15 ∷ 16 ∷ []) (ask_told r.answer)
  unfolding open_rows place_rows ask_rows
  reads_exactly register a =
      numbered_as _ (10 ∷ 11 ∷ 12 ∷ 13 ∷ 14 ∷ 75 ∷ 15 ∷ 16 ∷ []) (ask_told r.answer) refl refl
      (asks_ranked [] (λ o. box) box desk (request box 4 register wait) [] clock room r room' none tt a)

  pub monitor_exactly : ReadsMonitor box desk wait clock room r room'
      → Numbered (desk_rows (record { job = box.job; unit = box.unit; sort = 4; register = 19; wait = wait; folder = 0 }) []) (10 ∷ 11 ∷ 12 ∷ 13 ∷ 14 ∷ 75 ∷ 15 ∷ 16 ∷ []) (ask_told r.answer)
  monitor_exactly = reads_exactly 19

  pub status_exactly : ReadsStatus box desk wait clock room r room'
      → Numbered (desk_rows (record { job = box.job; unit = box.unit; sort = 4; register = 102; wait = wait; folder = 0 }) []) (10 ∷ 11 ∷ 12 ∷ 13 ∷ 14 ∷ 75 ∷ 15 ∷ 16 ∷ []) (ask_told r.answer)
  status_exactly = reads_exactly 102

-- ---- the display

display_ranked : (fresh kept : List ℕ) → Ranked (display_rows fresh kept) (display_told (which_of fresh kept))
unfolding display_rows IsNeither
display_ranked fresh kept = go (eqb (length fresh) 2) refl (eqb (length kept) 2) refl
  where
    go : (a : Bool) → eqb (length fresh) 2 ≡ a → (b : Bool) → eqb (length kept) 2 ≡ b
        → Ranked (row ((length fresh ≢ 2) × (length kept ≢ 2)) 64 ∷ []) (display_told (cond a 1 (cond b 2 64)))
    go true p b q = (λ h. h.0 (eqb-true (length fresh) 2 p), tt)
    go false p true q = (λ h. h.1 (eqb-true (length kept) 2 q), tt)
    go false p false q = inl ((eqb-false (length fresh) 2 p, eqb-false (length kept) 2 q), refl)

pub display_exactly : (fresh kept part : List ℕ) (which : ℕ) → Displays fresh kept part which
    → Numbered (display_rows fresh kept) (64 ∷ []) (display_told which)
unfolding display_rows
display_exactly fresh kept part which d = numbered_as _ (64 ∷ []) (display_told which) refl refl (rw d.1 (display_ranked fresh kept))

pub display_plainly : (fresh kept part : List ℕ) (which : ℕ) → Displays fresh kept part which
    → Numbered (row ((length fresh ≢ 2) × (length kept ≢ 2)) 64 ∷ []) (64 ∷ []) (display_told which)
unfolding display_rows IsNeither
display_plainly fresh kept part which d = display_exactly fresh kept part which d
