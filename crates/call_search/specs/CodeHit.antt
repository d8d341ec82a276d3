-- The transfer buffer after a search, in the words of its contract.
use Rattle.std.specs.Prelude.{cond, List, ℕ, ltb}
use Rattle.disk_geometry.specs.declared.Geometry.{Geometry}
use Rattle.disk_geometry.specs.Geometry.{slots}
use Rattle.disk_volume.specs.Record.{slot_record}

-- the directory record of the slot that was hit, or the buffer as it was where none was
abbrev pub hit_buffer : Geometry → List ℕ → ℕ → List ℕ → List ℕ
hit_buffer g v slot buffer = cond (ltb slot (slots g)) (slot_record g v slot) buffer
