-- The search from slot 0, in two ways.
use mathlib.Core.Path.{◌∙◌}
use Rattle.lists.proofs.BoundedLaws.{from_zero}
use Rattle.disk_geometry.specs.Geometry.{slots}
use Rattle.disk_volume.specs.declared.Wanted.TheVariants.{Empty}
use Rattle.disk_volume.specs.Directory.{slot_fits, find_slot}
use Rattle.disk_volume.specs.Name.{strip}
use Rattle.disk_volume.proofs.directory.find_empty.Goals as goal

pub returns-then-g-eq-STRAIGHT : goal.returns-then-g-eq-STRAIGHT
unfolding find_slot
returns-then-g-eq-STRAIGHT c =
    let a = c.args in
    let f = c.empty_by_slots.ensures in
    (f.0 ∙ from_zero (slot_fits a.g a.volume.now a.user (strip a.name.now) Empty) (slots a.g), f.1)
