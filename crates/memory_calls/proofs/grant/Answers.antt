-- The two tests in their order.
use Rattle.memory_calls.specs.Calls.{granted}
use borrow.Author.Tests.{lt-ltb, le-ltb}
use Rattle.memory_calls.proofs.grant.Goals as goal

pub returns-then-t-ge-PLACES : goal.returns-then-t-ge-PLACES
unfolding granted
returns-then-t-ge-PLACES c = rw (le-ltb _ 8 c.if-t-ge-PLACES.true) c.refuse.ensures

pub returns-then-start-ge-PARAGRAPHS : goal.returns-then-start-ge-PARAGRAPHS
unfolding granted
returns-then-start-ge-PARAGRAPHS c =
    let s = rw (c.from.ensures, c.pieces.ensures, c.regions.ensures) at c.lowest_start-start.ensures.0 in
    rw (lt-ltb _ 8 c.if-t-ge-PLACES.false, ← s, le-ltb _ 65536 c.if-start-ge-PARAGRAPHS.true) c.refuse-then-start-ge-PARAGRAPHS.ensures

pub returns : goal.returns
unfolding granted
returns c =
    let s = rw (c.from.ensures, c.pieces.ensures, c.regions.ensures) at c.lowest_start-start.ensures.0 in
    rw (lt-ltb _ 8 c.if-t-ge-PLACES.false, ← s, lt-ltb _ 65536 c.if-start-ge-PARAGRAPHS.false) c.grant_region.ensures
