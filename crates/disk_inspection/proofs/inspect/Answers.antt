-- Where no slot is bad the blocks are those that entries name, and the free ones are counted over them.
use mathlib.Core.Path.{◌≡◌, ap}
use native.Mathlib.Omega.{arith}
use lib.ListN.{length}
use Rattle.disk_geometry.proofs.GeometryLaws.{bounds}
use Rattle.disk_held.specs.Held.{held_words}
use Rattle.disk_inspection.proofs.inspect.Goals as goal

pub free_count-free-requires : goal.free_count-free-requires
free_count-free-requires c =
    let e : length c.args.held.now ≡ held_words = ap length c.requires.held_value in
    omega (arith, bounds _ c.requires.volume.0)

pub returns : goal.returns
returns c =
    record {
      slot_value = c.look-slot.ensures.value;
      held_after = λ q. let h = c.look-slot.ensures.held_after q in (h, rw (← h) c.free_count-free.ensures.0);
    }
