-- Geometries evaluated: which are lawful, what an entry holds on either side of T 256, and where the records of an eight-inch
-- disk lie.
use mathlib.Core.Path.{◌≡◌, refl}
use mathlib.Core.Bool.{true, false}
use mathlib.Core.List.{List, [], ◌∷◌, map}
use Prim.Native.Nat.{ℕ, ◌+◌, ◌*◌, ◌/◌, ◌%◌}
use lib.Dec.{eqb}
use Rattle.lists.specs.Bounded.{every_from, every}
use Rattle.disk_geometry.specs.declared.Geometry.{Geometry}
use Rattle.disk_geometry.specs.EightInch.{track_sectors, sector_at, image_start, track_records}
use Rattle.disk_geometry.specs.Geometry.{eight_inch, geometry_of, with_placing, floppy, lawful, bytes, number_bytes, records, extents, slots, start, slot_start, record_start, places, group_of, place_of}

-- B 1,024 ends at T 256; B 2,048 at T 4,096 and B 4,096 at T 2,048, which are 8 MiB
pub lawful-sizes
    : map lawful
    (geometry_of 1024 256 1
    ∷ geometry_of 1024 257 1
    ∷ geometry_of 2048 257 1
    ∷ geometry_of 4096 257 16
    ∷ geometry_of 2048 4096 16
    ∷ geometry_of 2048 4097 16
    ∷ geometry_of 4096 2048 16
    ∷ geometry_of 4096 2049 16
    ∷ geometry_of 2048 4096 17
    ∷ [])
    ≡ true ∷ false ∷ true ∷ true ∷ true ∷ false ∷ true ∷ false ∷ false ∷ []
unfolding lawful
lawful-sizes = refl

-- bytes of a number, places of a map, extents of an entry
abbrev entry : Geometry → List ℕ
entry g = number_bytes g ∷ places g ∷ extents g ∷ []

pub entries
    : map entry (geometry_of 2048 256 1 ∷ geometry_of 2048 257 1 ∷ geometry_of 4096 256 1 ∷ geometry_of 4096 257 1 ∷ [])
    ≡ (1 ∷ 16 ∷ 2 ∷ []) ∷ (2 ∷ 8 ∷ 1 ∷ []) ∷ (1 ∷ 16 ∷ 4 ∷ []) ∷ (2 ∷ 8 ∷ 2 ∷ []) ∷ []
unfolding places
entries = refl

-- the group and the place of record n; the eighth place is an entry's last, and what would be the ninth is the next entry's first
abbrev found : Geometry → ℕ → List ℕ
found g n = group_of g (n / 128) ∷ place_of g n ∷ []

pub eighth-and-ninth
    : map (found (geometry_of 2048 257 1)) (0 ∷ 127 ∷ 128 ∷ 65535 ∷ []) ≡ (0 ∷ 0 ∷ []) ∷ (0 ∷ 7 ∷ []) ∷ (1 ∷ 0 ∷ []) ∷ (511 ∷ 7 ∷ []) ∷ []
unfolding group_of place_of
eighth-and-ninth = refl

pub eighth-of-4096
    : map (found (geometry_of 4096 257 1)) (128 ∷ 255 ∷ 256 ∷ []) ≡ (0 ∷ 4 ∷ []) ∷ (0 ∷ 7 ∷ []) ∷ (1 ∷ 0 ∷ []) ∷ []
unfolding group_of place_of
eighth-of-4096 = refl

-- ---- eight-inch disks
-- "1,024-byte blocks, T 243, D 2", and no other numbers; a straight volume of these numbers is lawful as before, a third placing
-- never
pub lawful-placings
    : map lawful
    (floppy
    ∷ geometry_of 1024 243 2
    ∷ with_placing (geometry_of 2048 243 2) eight_inch
    ∷ with_placing (geometry_of 1024 242 2) eight_inch
    ∷ with_placing (geometry_of 1024 244 2) eight_inch
    ∷ with_placing (geometry_of 1024 243 1) eight_inch
    ∷ with_placing (geometry_of 1024 243 2) 2
    ∷ [])
    ≡ true ∷ true ∷ false ∷ false ∷ false ∷ false ∷ false ∷ []
unfolding lawful
lawful-placings = refl

-- "256,256 bytes"; straight T times B
pub lengths : map bytes (floppy ∷ geometry_of 1024 243 2 ∷ []) ≡ 256256 ∷ 248832 ∷ []
unfolding bytes
lengths = refl

-- "1, 7, 13, 19, 25, 5, 11, ..": every sixth sector, and one further after the thirteenth place, in all places of the table
pub every_sixth : every track_sectors (λ k. eqb (sector_at k) (6 * k % 26 + 1 + k / 13)) ≡ true
unfolding every_from sector_at
every_sixth = refl

-- "Logical record q lies on track 2 + q div 26, in the sector given by place q mod 26": the first track's first four, its last
-- one, and the first of the next; of the disk's last track the last record of a block, and the last of the six behind it
pub first-records
    : map (start floppy) (0 ∷ 1 ∷ 2 ∷ 3 ∷ 25 ∷ 26 ∷ 27 ∷ [])
    ≡ (52 + 0) * 128 ∷ (52 + 6) * 128 ∷ (52 + 12) * 128 ∷ (52 + 18) * 128 ∷ (52 + 21) * 128 ∷ (78 + 0) * 128 ∷ (78 + 6) * 128 ∷ []
unfolding start image_start
first-records = refl

pub last_records : map (start floppy) (1943 ∷ 1949 ∷ []) ≡ (1976 + 11) * 128 ∷ (1976 + 21) * 128 ∷ []
unfolding start image_start
last_records = refl

-- 243 blocks of eight records are six fewer than the tracks have
pub six_over : 243 * records floppy + 6 ≡ track_records
six_over = refl

-- slot 5 is the second of logical record 1, and record 3 of block 30 is logical record 243, in place 9 of track 11: sector 3
pub in_records : slot_start floppy 5 ∷ record_start floppy 30 3 ∷ [] ≡ ((52 + 6) * 128 + 32) ∷ (26 * 11 + 2) * 128 ∷ []
unfolding slot_start record_start start image_start
in_records = refl

-- 64 slots, and a straight volume's records where they always were
pub as_before : slots floppy ∷ start (geometry_of 1024 243 2) 27 ∷ [] ≡ 64 ∷ 3456 ∷ []
unfolding start
as_before = refl
