-- No slot passed so far has what is wanted; a record is looked through from the slot that the search has come to.
use Rattle.std.proofs.Common.{◌+◌, ◌*◌, ◌<◌, ◌≤◌}
use Rattle.lists.proofs.BoundedLaws.{Searched}
use Rattle.disk_geometry.specs.Geometry.{floppy, slots}
use Rattle.disk_volume.specs.Name.{strip}
use Rattle.disk_volume.specs.Directory.{slot_fits}
use Rattle.disk_volume.proofs.directory.find_by_record.Given as goal

abbrev pub invariant-loop-r : goal.invariant-loop-r
invariant-loop-r l = (l.first < 4) × (l.r * 4 + l.first ≤ slots floppy) × Searched (slot_fits floppy l.volume l.user (strip l.name) l.wanted) l.from (slots floppy) (l.r * 4 + l.first)
