-- The writes: sequential (21), random (34), and random with zero fill (40).
use Rattle.std.specs.Prelude.{Bool, true, false, List, ◌∷◌, ◌++◌, ℕ, ◌+◌, ◌%◌}
use Rattle.disk_geometry.specs.Geometry.{extent_records}
use Rattle.disk_volume.specs.Name.{name_of}
use Rattle.disk_volume.specs.Entry.{Entry}
use Rattle.call_fcb.specs.Fcb.{position, random, set_to}
use Rattle.call_answers.specs.Refusal.{Test}
use Rattle.call_decide.specs.Write.{needs_block, write_block, entry_after, write_tests}
use Rattle.call_write.specs.Write.{write_stores}
use Rattle.filecalls.specs.declared.Drive.{Drive}
use Rattle.filecalls.specs.Tests.{protected_drive}
use Rattle.filecalls.specs.Outcome.{takes, Act, done, unless}
use Rattle.filecalls.specs.Read.{sequential_tests, random_tests}

-- the entry that the write leaves in its slot
unfoldable pub write_entry : Drive → List ℕ → List ℕ → ℕ → Entry
write_entry d v fcb n = entry_after d.geometry d.held v d.user (name_of fcb) n

-- record n is written with the buffer's bytes, and a block that its place is given is held from then on; "control block as
-- for reads". A write that fills, function 40, fills a block that it gives.
unfoldable pub write_done : Drive → List ℕ → List ℕ → ℕ → ℕ → Bool → List ℕ → Act
write_done d v fcb n cr fills b =
    let g = d.geometry in
    let u = d.user in
    let name = name_of fcb in
    done 0 (takes (needs_block g v u name n) (write_block g d.held v u name n))
    (write_stores g d.held v u name n fills b)
    (set_to fcb (write_entry d v fcb n) n cr) b

-- 37, and the tests of the directory
abbrev pub directory_tests : Drive → List ℕ → List ℕ → ℕ → List Test
directory_tests d v fcb n = protected_drive d ∷ write_tests d.geometry d.held v d.user (name_of fcb) n

unfoldable pub write_sequential_act : Drive → List ℕ → List ℕ → List ℕ → Act
write_sequential_act d v fcb b =
    let n = position fcb in
    unless (sequential_tests d v fcb b ++ directory_tests d v fcb n) (write_done d v fcb n (n % extent_records + 1) false b)

-- a write of the record in r0 r1: 34 and 40 differ in whether they fill, and in nothing else
abbrev pub write_direct_act : Bool → Drive → List ℕ → List ℕ → List ℕ → Act
write_direct_act fills d v fcb b =
    let n = random fcb in
    unless (random_tests d v fcb b ++ directory_tests d v fcb n) (write_done d v fcb n (n % extent_records) fills b)

unfoldable pub write_random_act : Drive → List ℕ → List ℕ → List ℕ → Act
write_random_act d v fcb b = write_direct_act false d v fcb b

unfoldable pub write_zero_fill_act : Drive → List ℕ → List ℕ → List ℕ → Act
write_zero_fill_act d v fcb b = write_direct_act true d v fcb b
