use Rattle.std.proofs.Common.{◌≡◌, true, false, ℕ, ◌+◌, ◌-◌, ◌∙◌, ap, length, take, drop, rules, arith}
use Rattle.std.proofs.Math.Seq.{take-length}
use Rattle.std.proofs.lemmas.List.{length-drop}
use Rattle.std.proofs.lemmas.Iterator.{YieldsList-from_slice, IsFirst-from_position}
use borrow.Author.Tests.{tests}
use Rattle.listing.specs.Events.{is_end}
use Rattle.receiver.proofs.Next.{next_found}
use Rattle.receiver.proofs.seek.next_end.Goals as goal

pub returns : goal.returns
returns c =
    let from = c.args.from in
    let bytes = c.args.bytes.now in
    let rest = take (length bytes - from) (drop from bytes) in
    let all : rest ≡ drop from bytes = rw (length-drop from bytes) at (take-length (drop from bytes)) in
    let found = IsFirst-from_position _ _ c.position.result (λ b. is_end b ≡ true) (λ b. is_end b ≡ false) c.position.ensures.ran (YieldsList-from_slice rest cc) (λ x q k. search (rules, tests)) (λ x q k. search (rules, tests)) in
    let next = next_found is_end rest c.position.result found in (
      ap (λ (n : ℕ). from + n) (rw all at (c.unwrap_or.ensures ∙ next.0)),
      omega (arith, c.unwrap_or.ensures, next.1, ap length all, length-drop from bytes),
    )
