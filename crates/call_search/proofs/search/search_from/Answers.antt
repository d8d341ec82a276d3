-- Where a slot was hit, its record is what was copied.
use mathlib.Core.Path.{◌≡◌}
use Prim.Native.Nat.{◌+◌, ◌-◌}
use native.Mathlib.Omega.{arith}
use borrow.Author.Tests.{lt-ltb}
use Rattle.lists.specs.Bytes.{part}
use Rattle.disk_volume.specs.Record.{slot_record}
use Rattle.disk_geometry.specs.Geometry.{slots}
use Rattle.call_search.proofs.search.search_from.Goals as goal

pub returns-then-slot-n : goal.returns-then-slot-n
unfolding slot_record part
returns-then-slot-n c =
    let at = c.slot_record-at in
    let z : at.result + 128 - at.result ≡ 128 = omega arith in
    record {
      value = c.hit_from-slot.ensures;
      buffer_after = rw (lt-ltb c.hit_from-slot.result (slots c.args.g) (omega arith), ← at.ensures.0) (rw z at c.copy_from_slice.ensures.after);
    }
