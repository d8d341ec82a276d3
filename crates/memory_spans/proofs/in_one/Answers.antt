-- The chain's test is the paper's.
use Rattle.std.proofs.lemmas.Iterator.{YieldsList-from_slice}
use Rattle.std.proofs.lemmas.Iterator.Search.{any_from_yields_List}
use Rattle.memory_spans.proofs.SpanLaws.{any_is}
use Rattle.memory_spans.specs.Span.{lies_in}
use mathlib.Core.Path.{◌∙◌}
use Rattle.std.proofs.Common.{rules, tests}
use Rattle.memory_spans.proofs.in_one.Goals as goal

pub returns : goal.returns
returns c =
    let pieces = c.args.pieces.now in
    any_from_yields_List (lies_in c.args.region) _ _ _ c.any.ensures.ran (YieldsList-from_slice pieces (cc)) (λ x b q k. search (rules, tests)) ∙ any_is _ _
