-- The chain's first hit is the first place.
use Rattle.std.proofs.lemmas.Iterator.{YieldsList-from_slice}
use Rattle.std.proofs.lemmas.Iterator.Search.{position_from_yields_List}
use Rattle.memory_regions.proofs.FreeLaws.{first_found, first_place}
use Rattle.memory_regions.specs.Freeing.{edge}
use mathlib.Core.Path.{◌∙◌}
use Rattle.std.proofs.Common.{rules, tests}
use Rattle.memory_regions.proofs.first_edge.Goals as goal

pub returns-clause-value : goal.returns-clause-value
returns-clause-value c =
    let a = c.args in
    position_from_yields_List (edge a.part) _ _ _ c.position.ensures.ran (YieldsList-from_slice a.regions.now (cc)) (λ x b q k. search (rules, tests)) ∙ first_found a.part a.regions.now

pub returns-clause-place : goal.returns-clause-place
returns-clause-place c = first_place c.args.part c.args.regions.now c.position.result (returns-clause-value c)
