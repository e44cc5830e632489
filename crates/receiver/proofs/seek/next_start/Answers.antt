use Rattle.std.proofs.Common.{◌≡◌, true, false, ◌∙◌, rules}
use Rattle.std.proofs.lemmas.Iterator.{YieldsList-from_slice, IsFirst-from_position}
use borrow.Author.Tests.{tests}
use Rattle.receiver.specs.Parts.{is_start}
use Rattle.receiver.proofs.Next.{next_found}
use Rattle.receiver.proofs.seek.next_start.Goals as goal

pub returns : goal.returns
returns c =
    let found = IsFirst-from_position _ _ c.position.result (λ b. is_start b ≡ true) (λ b. is_start b ≡ false) c.position.ensures.ran (YieldsList-from_slice c.args.bytes.now cc) (λ x q k. search (rules, tests)) (λ x q k. search (rules, tests)) in
    let next = next_found is_start c.args.bytes.now c.position.result found in
    (c.unwrap_or.ensures ∙ next.0, rw c.unwrap_or.ensures next.1)
