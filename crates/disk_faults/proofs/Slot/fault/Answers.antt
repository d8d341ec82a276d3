-- The definition's cases: an empty slot, what the entry breaks by itself, what its map breaks, a twin.
use Rattle.disk_faults.specs.CodeLadder.{found}
use borrow.Author.Tests.{eq-eqb, ne_eqb}
use Rattle.disk_faults.proofs.Slot.fault.Goals as goal

pub returns-then-self : goal.returns-then-self
unfolding found
returns-then-self c = rw (← c.args.self.now.stands.1.1.1, eq-eqb _ 229 c.if-self.true)

pub returns-in-Some : goal.returns-in-Some
unfolding found
returns-in-Some c = rw (c.alone.ensures, ← c.args.self.now.stands.1.1.1, ne_eqb _ 229 c.if-self.false, ← c.in-Some.ensures)

pub returns-in-Some-map_fault : goal.returns-in-Some-map_fault
unfolding found
returns-in-Some-map_fault c =
    rw (← c.args.self.now.stands.1.1.1, ne_eqb _ 229 c.if-self.false, ← c.entry_rule.ensures, c.in_default.is, ← c.map_fault.ensures, c.in-Some-map_fault.is)

pub returns-in-Some-map_fault-2 : goal.returns-in-Some-map_fault-2
unfolding found
returns-in-Some-map_fault-2 c =
    rw (← c.args.self.now.stands.1.1.1, ne_eqb _ 229 c.if-self.false, ← c.entry_rule.ensures, c.in_default.is, ← c.map_fault.ensures, c.in_default-map_fault.is, ← c.map_fault-2.ensures, c.in-Some-map_fault-2.is)

pub returns-in-Some-map_fault-3 : goal.returns-in-Some-map_fault-3
unfolding found
returns-in-Some-map_fault-3 c =
    rw (← c.args.self.now.stands.1.1.1, ne_eqb _ 229 c.if-self.false, ← c.entry_rule.ensures, c.in_default.is, ← c.map_fault.ensures, c.in_default-map_fault.is, ← c.map_fault-2.ensures, c.in_default-map_fault-2.is, ← c.map_fault-3.ensures, c.in-Some-map_fault-3.is)

pub returns : goal.returns
unfolding found
returns c =
    rw (← c.args.self.now.stands.1.1.1, ne_eqb _ 229 c.if-self.false, ← c.entry_rule.ensures, c.in_default.is, ← c.map_fault.ensures, c.in_default-map_fault.is, ← c.map_fault-2.ensures, c.in_default-map_fault-2.is, ← c.map_fault-3.ensures, c.in_default-map_fault-3.is, c.twin_fault.ensures)
