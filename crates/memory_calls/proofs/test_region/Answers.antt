-- The test is the definition's.
use Rattle.memory_calls.specs.Calls.{tested}
use Rattle.memory_calls.proofs.test_region.Goals as goal

pub returns-then-has_room : goal.returns-then-has_room
unfolding tested
returns-then-has_room c = rw (← c.has_room.ensures, c.if-has_room.true) c.done.ensures

pub returns : goal.returns
unfolding tested
returns c = rw (← c.has_room.ensures, c.if-has_room.false) c.refuse.ensures
