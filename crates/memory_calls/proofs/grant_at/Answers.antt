-- The two tests in their order.
use Rattle.memory_calls.specs.Calls.{granted_at}
use borrow.Author.Tests.{lt-ltb, le-ltb}
use Rattle.memory_calls.proofs.grant_at.Goals as goal

pub returns-then-t-ge-PLACES : goal.returns-then-t-ge-PLACES
unfolding granted_at
returns-then-t-ge-PLACES c = rw (le-ltb _ 8 c.if-t-ge-PLACES.true) c.refuse.ensures

pub returns-then-has_room : goal.returns-then-has_room
unfolding granted_at
returns-then-has_room c = rw (lt-ltb _ 8 c.if-t-ge-PLACES.false, ← c.has_room.ensures, c.if-has_room.true) c.grant_region.ensures

pub returns : goal.returns
unfolding granted_at
returns c = rw (lt-ltb _ 8 c.if-t-ge-PLACES.false, ← c.has_room.ensures, c.if-has_room.false) c.refuse-2.ensures
