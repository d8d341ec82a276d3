-- There is a place to free exactly where the search finds one.
use Rattle.memory_calls.proofs.CallLaws.{FreeAt, found, found_edge, not_found}
use Rattle.memory_calls.specs.Calls.{freeing_part}
use Rattle.memory_calls.specs.Table.{regions_of}
use Rattle.memory_regions.specs.Freeing.{freeable}
use Rattle.memory_spans.specs.Span.{span}
use borrow.Author.Tests.{eq-eqb, ne_eqb}
use Rattle.memory_calls.proofs.free_part.Goals as goal

pub returns-then-mcb-eq0 : goal.returns-then-mcb-eq0
unfolding freeing_part freeable
returns-then-mcb-eq0 c = rw (eq-eqb c.args.mcb.length 0 c.if-mcb-eq0.true) c.refuse.ensures

pub returns-in_default : goal.returns-in_default
unfolding freeing_part freeable
returns-in_default c =
    let a = c.args in
    let e = not_found (span a.mcb.base a.mcb.length) (regions_of a.t) (rw c.regions.ensures at c.in_default.ensures.value) in
    rw (ne_eqb a.mcb.length 0 c.if-mcb-eq0.false, e) c.refuse-in_default.ensures

pub free_at-requires : goal.free_at-requires
free_at-requires c =
    let a = c.args in
    let f : FreeAt (span a.mcb.base a.mcb.length) a.t c.in-Some.at = found (span a.mcb.base a.mcb.length) a.t c.in-Some.at c.requires (rw c.regions.ensures at c.in-Some.ensures.value) in
    rw c.regions-2.ensures (f.few, (f.first, (f.below, f.named)))

pub returns : goal.returns
unfolding freeing_part freeable
returns c =
    let a = c.args in
    let e = (found_edge (span a.mcb.base a.mcb.length) (regions_of a.t) c.in-Some.at (rw c.regions.ensures at c.in-Some.ensures.value)).0 in
    rw (ne_eqb a.mcb.length 0 c.if-mcb-eq0.false, e, c.done.ensures, c.with_places-table.ensures, c.free_at.ensures, c.regions-2.ensures)
