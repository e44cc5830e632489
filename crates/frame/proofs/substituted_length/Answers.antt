use mathlib.Core.Path.{sym, ◌∙◌}
use native.Mathlib.Omega.{arith}
use lib.ListN.{length}
use Prim.Native.Nat.{◌^◌, ◌<◌}
use Rattle.std.proofs.Common.{rules}
use Rattle.std.specs.List.{sum_by}
use Rattle.std.proofs.lemmas.Iterator.{YieldsList-from_slice, YieldsList-from_map}
use Rattle.std.proofs.lemmas.Iterator.Consumers.{YieldsList-at, sum_by_from_yields_List, fits_by_from_yields_list}
use Rattle.frame.specs.Frame.{substitute}
use Rattle.frame.proofs.Laws.{substituted_sum, length-substituted}
use Rattle.frame.proofs.substituted_length.Goals as goal

pub sum-requires-clause-fits : goal.sum-requires-clause-fits
sum-requires-clause-fits c =
    let message = c.args.message.now in
    let few : sum_by (λ b. length (substitute b)) message < 2 ^ 64 =
    omega (arith, substituted_sum message, length-substituted message, c.well_formed.0.1) in
    fits_by_from_yields_list _ message c.map.result _
    (YieldsList-from_map _ (λ b. length (substitute b)) (YieldsList-at c.map.ensures.source (YieldsList-from_slice message cc)) c.map.ensures.closure (λ x r q k. search rules)) few

pub returns : goal.returns
returns c =
    let message = c.args.message.now in
    sum_by_from_yields_List _ message c.map.result _ c.sum.ensures.ran
    (YieldsList-from_map _ (λ b. length (substitute b)) (YieldsList-at c.map.ensures.source (YieldsList-from_slice message cc)) c.map.ensures.closure (λ x r q k. search rules))
    ∙ sym (substituted_sum message)
