-- The branches are the definition's, of the entry as it is lent.
use mathlib.Core.Path.{◌≡◌}
use native.Mathlib.Omega.{arith}
use Rattle.files.specs.Files.{used_places, more_blocks}
use Rattle.disk_geometry.proofs.GeometryLaws.{bounds}
use Rattle.disk_volume.proofs.EntryLaws.{lent_slot}
use Rattle.disk_volume.specs.Name.{strip}
use Rattle.disk_volume.specs.Entry.{of_file}
use Rattle.disk_volume.specs.Directory.{slot_at}
use borrow.Author.Rules.{rules}
use Rattle.files.proofs.blocks_held.more_blocks.Goals as goal

pub returns-then-not-has : goal.returns-then-not-has
unfolding more_blocks
returns-then-not-has c =
    let a = c.args in
    let at = c.slot_start-at in
    let seen : of_file a.user (strip a.name.now) (slot_at a.g a.volume.now a.i) ≡ c.has.result = rw (← lent_slot a.g a.volume.now a.i at.result at.ensures.0, c.has.ensures) in
    (rw (seen, c.if-not-has.true), search rules)

pub overflow_add-result : goal.overflow_add-result
overflow_add-result c = omega (arith, bounds _ c.requires.volume_and.0)

pub returns : goal.returns
unfolding more_blocks
returns c =
    let a = c.args in
    let at = c.slot_start-at in
    let seen : of_file a.user (strip a.name.now) (slot_at a.g a.volume.now a.i) ≡ c.has.result = rw (← lent_slot a.g a.volume.now a.i at.result at.ensures.0, c.has.ensures) in
    let used : used_places a.g (slot_at a.g a.volume.now a.i) ≡ c.used_places.result = rw (← lent_slot a.g a.volume.now a.i at.result at.ensures.0, c.used_places.ensures.0) in
    (rw (seen, c.if-not-has.false, used), search rules)
