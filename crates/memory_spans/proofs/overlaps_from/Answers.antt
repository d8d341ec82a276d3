-- The chain's test is the paper's.
use Rattle.std.proofs.lemmas.Iterator.{YieldsList-from_slice}
use Rattle.std.proofs.lemmas.Iterator.Adapters.{YieldsList-from_skip}
use Rattle.std.proofs.lemmas.Iterator.Search.{any_from_yields_List}
use Rattle.memory_spans.proofs.SpanLaws.{any_is}
use Rattle.memory_spans.specs.Span.{overlap}
use mathlib.Core.Path.{◌∙◌}
use Rattle.std.proofs.Common.{rules, tests}
use Rattle.memory_spans.proofs.overlaps_from.Goals as goal

pub returns : goal.returns
returns c =
    let list = c.args.list.now in
    any_from_yields_List (overlap c.args.s) _ _ _ c.any.ensures.ran (YieldsList-from_skip c.args.from (YieldsList-from_slice list (cc)) (cc)) (λ x b q k. search (rules, tests)) ∙ any_is _ _
