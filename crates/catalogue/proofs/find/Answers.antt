-- The program's rows are the paper's lines in numbers, and `find` looks for the first that fits.
-- Assumes nothing.
use mathlib.Core.Path.{◌≡◌}
use mathlib.Core.List.{map}
use Rattle.std.proofs.Common.{rules, tests}
use Rattle.std.proofs.lemmas.Iterator.{YieldsList-from_slice}
use Rattle.std.proofs.lemmas.Iterator.Search.{find_from_yields_List}
use Rattle.std.specs.List.{find}
use Rattle.std.specs.Option.{option_map}
use Rattle.values.specs.Values.{size_of, is_signed, greatest}
use Rattle.catalogue.specs.Catalogue.{table, row_of}
use Rattle.catalogue.proofs.Lookup.{row_for, answered}
use Rattle.catalogue.proofs.find.Goals as goal
use Rattle.catalogue.proofs.find.Goals.{After-find}

looked : (c : After-find) → option_map (λ r. r.now) c.find.result ≡ find (row_for c.args.model c.args.register) (map row_of table)
unfolding table size_of is_signed greatest
looked c =
    find_from_yields_List (row_for c.args.model c.args.register) _ _ c.find.result c.find.ensures.ran
    (YieldsList-from_slice (map row_of table) c.iter.ensures.rest) (λ x b q k. search (rules, tests))

pub returns : goal.returns
returns c =
    let found = looked (goal.at.returns c).After-find in
    answered c.args.model c.args.register (rw c.in-Some.is at found)

pub returns-in_default : goal.returns-in_default
returns-in_default c =
    let found = looked (goal.at.returns-in_default c).After-find in
    answered c.args.model c.args.register (rw c.in_default.is at found)
