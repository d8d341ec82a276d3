-- The four rules in their order.
use Rattle.std.proofs.lemmas.Iterator.{YieldsList-from_slice}
use Rattle.std.proofs.lemmas.Iterator.Search.{all_from_yields_List}
use Rattle.std.specs.List.{list_all}
use Rattle.memory_spans.specs.Rules.{in_memory, in_one_of, lawful}
use Rattle.memory_spans.proofs.SpanLaws.{all_is}
use mathlib.Core.Path.{◌≡◌}
use Rattle.std.proofs.Common.{rules, tests}
use Rattle.memory_spans.proofs.is_lawful.Goals as goal

pub returns : goal.returns
unfolding lawful
returns c =
    let a = c.args in
    let inside : c.all.result ≡ list_all (in_memory a.bytes) a.pieces.now = all_from_yields_List (in_memory a.bytes) _ _ _ c.all.ensures.ran (YieldsList-from_slice a.pieces.now (cc)) (λ x b q k. search (rules, tests)) in
    let in_pieces : c.all-2.result ≡ list_all (in_one_of a.pieces.now) a.regions.now = all_from_yields_List (in_one_of a.pieces.now) _ _ _ c.all-2.ensures.ran (YieldsList-from_slice a.regions.now (cc)) (λ x b q k. search (rules, tests)) in
    rw (inside, in_pieces, all_is _ a.pieces.now, all_is _ a.regions.now, c.apart.ensures, c.apart-2.ensures)
