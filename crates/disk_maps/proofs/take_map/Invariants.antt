-- The places passed so far are good, and the blocks in them are held beside those of the lower slots.
use mathlib.Core.Path.{◌≡◌}
use Rattle.lists.proofs.BoundedLaws.{Passed}
use Rattle.disk_geometry.specs.Geometry.{places}
use Rattle.disk_held.specs.Held.{words_of}
use Rattle.disk_rules.specs.GoodSlot.{good_place}
use Rattle.disk_maps.specs.CodeHeldBelow.{held_up_to}
use Rattle.disk_maps.proofs.take_map.Given as goal

abbrev pub invariant-loop-p : goal.invariant-loop-p
invariant-loop-p l = (l.held ≡ words_of (held_up_to l.g l.volume l.i l.p)) × Passed (good_place l.g l.volume l.i) 0 (places l.g) l.p
