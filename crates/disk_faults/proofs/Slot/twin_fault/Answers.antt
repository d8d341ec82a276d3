-- What is searched for is the entry's own user, name and group.
use Rattle.disk_faults.specs.Faults.{twin_slot}
use Rattle.disk_faults.specs.CodeLadder.{twin_fault}
use Rattle.disk_volume.specs.Name.{name_at}
use Rattle.lists.specs.Bytes.{part}
use borrow.Author.Tests.{lt-ltb, le-ltb}
use mathlib.Core.Path.{◌≡◌}
use Rattle.disk_faults.proofs.Slot.twin_fault.Goals as goal

pub returns-then-slot-self : goal.returns-then-slot-self
unfolding twin_fault name_at part twin_slot
returns-then-slot-self c =
    let found : (let a = c.args in c.find-slot.result ≡ twin_slot a.self.now.g a.self.now.volume.now a.self.now.i) = rw (← c.args.self.now.stands.1.1.1, ← c.extent_of.ensures.0, ← c.group.ensures) c.find-slot.ensures.0 in
    rw (← found, lt-ltb _ _ c.if-slot-self.true)

pub returns : goal.returns
unfolding twin_fault name_at part twin_slot
returns c =
    let found : (let a = c.args in c.find-slot.result ≡ twin_slot a.self.now.g a.self.now.volume.now a.self.now.i) = rw (← c.args.self.now.stands.1.1.1, ← c.extent_of.ensures.0, ← c.group.ensures) c.find-slot.ensures.0 in
    rw (← found, le-ltb _ _ c.if-slot-self.false)
