-- A place with 0 breaks no rule; any other breaks the rule that its block is against.
use Rattle.disk_faults.proofs.SlotLaws.{named_by_slot}
use Rattle.disk_faults.specs.Faults.{breaks_at}
use Rattle.disk_volume.specs.Directory.{slot_at}
use Rattle.disk_volume.specs.Entry.{block_in}
use borrow.Author.Tests.{eq-eqb, ne_eqb}
use mathlib.Core.Path.{◌≡◌}
use mathlib.Core.List.{List}
use Prim.Native.Nat.{ℕ}
use Rattle.disk_geometry.specs.declared.Geometry.{Geometry}
use Rattle.disk_faults.proofs.Slot.is_broken.Goals as goal

at_slot : (g : Geometry) (v e : List ℕ) (i p b : ℕ) → e ≡ slot_at g v i → b ≡ block_in g e p → b ≡ block_in g (slot_at g v i) p
at_slot g v e i p b is h = rw (← is) h

pub returns-then-b-eq0 : goal.returns-then-b-eq0
unfolding breaks_at
returns-then-b-eq0 c =
    let s = c.args.self.now in
    let block = at_slot s.g s.volume.now s.entry.now s.i c.args.p c.block_in-b.result s.stands.1.1.1 c.block_in-b.ensures.0 in
    rw (← block, eq-eqb _ 0 c.if-b-eq0.true)

pub returns-in-Outside : goal.returns-in-Outside
unfolding breaks_at
returns-in-Outside c =
    let s = c.args.self.now in
    let block = at_slot s.g s.volume.now s.entry.now s.i c.args.p c.block_in-b.result s.stands.1.1.1 c.block_in-b.ensures.0 in
    rw (c.in-Outside.is, ← block, ne_eqb _ 0 c.if-b-eq0.false, ← c.is_inside.ensures)

pub returns-in-Twice : goal.returns-in-Twice
unfolding breaks_at
returns-in-Twice c =
    let s = c.args.self.now in
    let block = at_slot s.g s.volume.now s.entry.now s.i c.args.p c.block_in-b.result s.stands.1.1.1 c.block_in-b.ensures.0 in
    rw (c.in-Twice.is, ← block, ne_eqb _ 0 c.if-b-eq0.false, ← c.args.self.now.stands.1.1.1) c.in_places.ensures

pub returns-in-Lower : goal.returns-in-Lower
unfolding breaks_at
returns-in-Lower c =
    let s = c.args.self.now in
    let block = at_slot s.g s.volume.now s.entry.now s.i c.args.p c.block_in-b.result s.stands.1.1.1 c.block_in-b.ensures.0 in
    rw (c.in-Lower.is, ← block, ne_eqb _ 0 c.if-b-eq0.false, named_by_slot, ← c.slot_of.ensures)
