-- No slot passed so far is empty, so what is still to be searched gives the whole.
use Rattle.lists.proofs.BoundedLaws.{Searched}
use Rattle.disk_volume.specs.declared.Wanted.TheVariants.{Empty}
use Rattle.disk_volume.specs.Directory.{slot_fits}
use Rattle.disk_volume.specs.Name.{strip}
use Rattle.disk_geometry.specs.Geometry.{slots}
use Rattle.disk_volume.proofs.directory.empty_by_slots.Given as goal

abbrev pub invariant-loop-i : goal.invariant-loop-i
invariant-loop-i l = Searched (slot_fits l.g l.volume l.user (strip l.name) Empty) 0 (slots l.g) l.i
