-- What is wrong with the first four words of a line, test by test.
-- Assumes nothing.
use Rattle.std.specs.Prelude.{Ok, Err}
use mathlib.Core.Path.{◌≡◌, refl, sym, ◌∙◌}
use mathlib.Core.Bool.{Bool, true, false, ◌&&◌}
use mathlib.Core.List.{List}
use mathlib.Core.Logic.{◌≢◌}
use Prim.Native.Nat.{ℕ, ◌+◌, ◌-◌, ◌≤◌, ◌<◌}
use native.Mathlib.Omega.{arith}
use borrow.Author.Tests.{eq-eqb, ne_eqb, lt-ltb, le-ltb, le-leb, lt-leb}
use lib.Dec.{leb}
use lib.ListN.{length, get_or}
use Rattle.rows.specs.Rows.{first_row_of}
use Rattle.rows.proofs.Laws.{Decides, decides_and, decides_le, decides_as, told_true, told_false}
use Rattle.setting.specs.Setting.{head, Allowed, is_allowed, most_elements}
use Rattle.setting.proofs.Laws.{decides_allowed}
use Rattle.setting.proofs.Plain.{allowed_plainly}
use Rattle.sheet_line.specs.Line.{word_at, head_in, head_tests}
use Rattle.sheet_line.specs.Parts.{Says, judged_as}
use Rattle.sheet_line.specs.declared.Fault.TheVariants.{NoModule, NoRegister, NoKind, BadCount, OtherCount}
use Rattle.sheet_line.specs.declared.reading.Four.{Four}
use Rattle.sheet_line.proofs.Steps.{kind_most}

-- two tests of one condition
same_told : {a b : Bool} {P : Type 0} → Decides a P → Decides b P → a ≡ b
same_told {a} {b} {P} p q = go a p
  where
    go : (t : Bool) → Decides t P → t ≡ b
    go true d = sym (told_true q (d.so refl))
    go false d = sym (told_false q (d.not_so refl))

module _ (unit register kind count : ℕ) (u : 1 ≤ unit) (v : unit ≤ 160) (k : 1 ≤ kind) (l : kind ≤ 7) where
  decides_count : Decides (leb 1 count && leb count (get_or most_elements kind 0)) ((1 ≤ count) × (count ≤ get_or most_elements kind 0))
  decides_count = decides_and (decides_le 1 count) (decides_le count (get_or most_elements kind 0))

  allowed_so : (1 ≤ count) × (count ≤ get_or most_elements kind 0) → Allowed (head unit register kind count)
  allowed_so c = (allowed_plainly unit register kind count).1 ((u, v), ((k, l), c))

  -- with a module and a kind, what is allowed is told by the count
  pub count_allowed : is_allowed (head unit register kind count) ≡ (leb 1 count && leb count (get_or most_elements kind 0))
  count_allowed =
      same_told
      (decides_as (decides_allowed (head unit register kind count)) (λ a. ((allowed_plainly unit register kind count).0 a).1.1) allowed_so)
      decides_count

  pub count_high : 255 < count → leb 1 count && leb count (get_or most_elements kind 0) ≡ false
  unfolding Allowed
  count_high h = told_false decides_count (λ c. omega (arith, h, (allowed_so c).1.1.0.1))

-- ---- the tests, in order

module _ (words : List (List ℕ)) (four : Four) (says : Says words four) where
  pub low_module : four.unit < 1 → Err NoModule ≡ judged_as (first_row_of (head_tests words)) (head_in words)
  low_module h = rw (← says.0, lt-leb 1 four.unit h)

  module _ (u : 1 ≤ four.unit) where
    pub high_module : 160 < four.unit → Err NoModule ≡ judged_as (first_row_of (head_tests words)) (head_in words)
    high_module h = rw (← says.0, le-leb 1 four.unit u, lt-leb four.unit 160 h)

    module _ (v : four.unit ≤ 160) where
      pub high_register : 255 < four.register → Err NoRegister ≡ judged_as (first_row_of (head_tests words)) (head_in words)
      high_register h = rw (← says.0, ← says.1, le-leb 1 four.unit u, le-leb four.unit 160 v, lt-ltb 255 four.register h)

      module _ (r : four.register ≤ 255) where
        pub no_kind : four.kind ≡ 0 → Err NoKind ≡ judged_as (first_row_of (head_tests words)) (head_in words)
        no_kind h =
            rw (← says.0, ← says.1, ← says.2, le-leb 1 four.unit u, le-leb four.unit 160 v, le-ltb 255 four.register r, eq-eqb four.kind 0 h)

        module _ (k : four.kind ≢ 0) where
          some_kind : 1 ≤ four.kind
          some_kind = omega arith

          known_kind : four.kind ≤ 7
          known_kind = rw says.2 (kind_most (word_at words 2))

          bad_count : leb 1 four.count && leb four.count (get_or most_elements four.kind 0) ≡ false
              → Err BadCount ≡ judged_as (first_row_of (head_tests words)) (head_in words)
          bad_count h =
              rw (
                ← says.0,
                ← says.1,
                ← says.2,
                ← says.3,
                le-leb 1 four.unit u,
                le-leb four.unit 160 v,
                le-ltb 255 four.register r,
                ne_eqb four.kind 0 k,
                h,
              )

          pub high_count : 255 < four.count → Err BadCount ≡ judged_as (first_row_of (head_tests words)) (head_in words)
          high_count h = bad_count (count_high four.unit four.register four.kind four.count u v some_kind known_kind h)

          -- what `is_allowed` told of it
          module _ {t : Bool} (told : t ≡ is_allowed (head four.unit four.register four.kind four.count)) where
            by_count : (leb 1 four.count && leb four.count (get_or most_elements four.kind 0)) ≡ t
            by_count = sym (told ∙ count_allowed four.unit four.register four.kind four.count u v some_kind known_kind)

            pub not_allowed : t ≡ false → Err BadCount ≡ judged_as (first_row_of (head_tests words)) (head_in words)
            not_allowed e = bad_count (by_count ∙ e)

            module _ (e : t ≡ true) (many : ℕ) (long : many ≡ length words) (enough : 4 ≤ many) where
              pub all_right : many - 4 ≡ four.count
                  → Ok (head four.unit four.register four.kind four.count) ≡ judged_as (first_row_of (head_tests words)) (head_in words)
              unfolding head_in
              all_right h =
                  rw (
                    ← long,
                    ← says.0,
                    ← says.1,
                    ← says.2,
                    ← says.3,
                    le-leb 1 four.unit u,
                    le-leb four.unit 160 v,
                    le-ltb 255 four.register r,
                    ne_eqb four.kind 0 k,
                    by_count ∙ e,
                    eq-eqb many (4 + four.count) (omega arith),
                  )

              pub other_count : many - 4 ≢ four.count → Err OtherCount ≡ judged_as (first_row_of (head_tests words)) (head_in words)
              other_count h =
                  rw (
                    ← long,
                    ← says.0,
                    ← says.1,
                    ← says.2,
                    ← says.3,
                    le-leb 1 four.unit u,
                    le-leb four.unit 160 v,
                    le-ltb 255 four.register r,
                    ne_eqb four.kind 0 k,
                    by_count ∙ e,
                    ne_eqb many (4 + four.count) (λ z. h (omega arith)),
                  )
