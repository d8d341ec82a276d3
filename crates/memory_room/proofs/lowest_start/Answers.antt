-- The lowest candidate is the lowest start.
use Rattle.std.proofs.lemmas.Iterator.{YieldsList-from_slice, YieldsList-from_map}
use Rattle.std.proofs.lemmas.Iterator.Consumers.{YieldsList-from_chain, fold_from_yields_List}
use Rattle.memory_room.proofs.CandidateLaws.{lowered, lowest_folded}
use Rattle.memory_spans.specs.Room.{has_room}
use Rattle.memory_spans.specs.Span.{paragraphs, end}
use Rattle.std.proofs.Common.{rules, tests}
use Rattle.memory_room.proofs.lowest_start.Goals as goal

pub returns : goal.returns
returns c =
    let a = c.args in
    lowest_folded a.pieces.now a.regions.now a.k c.fold.result
    (fold_from_yields_List _ (lowered (has_room a.pieces.now a.regions.now a.k)) paragraphs c.fold.result c.fold.ensures.ran
    (YieldsList-from_chain
    (YieldsList-from_map _ (λ x. x.start) (YieldsList-from_slice a.pieces.now (cc)) (cc) (λ x r q k. search (rules, tests)))
    (YieldsList-from_map _ (λ x. end x) (YieldsList-from_slice a.regions.now (cc)) (cc) (λ x r q k. search (rules, tests)))
    (cc)
    (cc))
    (λ low s b q k. search (rules, tests)))
