-- The place that was found decides; block and other slot are those of that place.
use Rattle.disk_faults.specs.CodeLadder.{map_fault}
use borrow.Author.Tests.{lt-ltb, le-ltb}
use Rattle.disk_faults.proofs.Slot.map_fault.Goals as goal

pub returns-then-places-p : goal.returns-then-places-p
unfolding map_fault
returns-then-places-p c = rw (← c.place_of-p.ensures, ← c.places.ensures.0, le-ltb _ _ c.if-places-p.true)

pub returns : goal.returns
unfolding map_fault
returns c =
    rw (← c.place_of-p.ensures, ← c.places.ensures.0, lt-ltb _ _ c.if-places-p.false, c.other_slot.ensures, c.block_in-b.ensures.0, c.args.self.now.stands.1.1.1)
