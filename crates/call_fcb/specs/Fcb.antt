-- The control block, 36 bytes: "0 dr, 1..11 name and type, 12 ex, 13 s1, 14 s2, 15 rc, 16..31 map, 32 cr, 33..35 r0 r1 r2".
use Rattle.std.specs.Prelude.{Bool, ◌&&◌, List, ℕ, ◌+◌, ◌*◌, ◌/◌, ◌%◌, leb, set, replicate}
use Rattle.lists.specs.Bytes.{byte, part, put}
use Rattle.disk_geometry.specs.Geometry.{map_bytes, extent_records}
use Rattle.disk_volume.specs.Fields.{NAME, EX, S1, S2, RC, MAP, name_bytes}
use Rattle.disk_volume.specs.Name.{name_at}
use Rattle.disk_volume.specs.Entry.{Entry, extent, count_of}

-- the fields that an entry does not have; the others stand where an entry has them
abbrev pub DR : ℕ
DR = 0

abbrev pub CR : ℕ
CR = 32

abbrev pub R0 : ℕ
R0 = 33

abbrev pub R1 : ℕ
R1 = 34

abbrev pub R2 : ℕ
R2 = 35

-- rename: "old name in 1..11, new in 17..27"
abbrev pub NEWNAME : ℕ
NEWNAME = 17

-- how long a control block is, and how many records a file can have
abbrev pub fcb_bytes : ℕ
fcb_bytes = 36

abbrev pub file_records : ℕ
file_records = 65536

-- rename's new name
abbrev pub new_name : List ℕ → List ℕ
new_name fcb = name_at fcb NEWNAME

-- "The sequential position is 128 times (32 times s2 plus ex), plus cr"
unfoldable pub position : List ℕ → ℕ
position fcb = extent_records * extent fcb + byte fcb CR

-- the record that the random calls mean
unfoldable pub random : List ℕ → ℕ
random fcb = byte fcb R0 + 256 * byte fcb R1

-- "with ex at most 31, s2 at most 15, cr at most 128"
abbrev pub ex_fits : List ℕ → Bool
ex_fits fcb = leb (byte fcb EX) 31

abbrev pub extent_fits : List ℕ → Bool
extent_fits fcb = leb (byte fcb EX) 31 && leb (byte fcb S2) 15

abbrev pub position_fits : List ℕ → Bool
position_fits fcb = leb (byte fcb EX) 31 && leb (byte fcb S2) 15 && leb (byte fcb CR) 128

-- bytes 1..11 as the entry has them, and the map
abbrev pub name_from : Entry → List ℕ → List ℕ
name_from e fcb = put fcb NAME name_bytes (part e NAME name_bytes)

abbrev pub map_from : Entry → List ℕ → List ℕ
map_from e fcb = put fcb MAP map_bytes (part e MAP map_bytes)

-- ex and s2 of extent x, which is "32 times s2 plus ex"
abbrev pub with_extent : List ℕ → ℕ → List ℕ
with_extent fcb x = set (set fcb EX (x % 32)) S2 (x / 32)

-- "Set to n means ex, s2 from extent n div 128, rc its count, map as in its entry"; cr beside it
unfoldable pub set_to : List ℕ → Entry → ℕ → ℕ → List ℕ
set_to fcb e n cr =
    map_from e (set (set (with_extent fcb (n / extent_records)) RC (count_of e (n / extent_records))) CR cr)

-- "Bytes 1..11 and 16..31 come from the entry, s1 and s2 become 0, rc the count of ex."
unfoldable pub opened : List ℕ → Entry → List ℕ
opened fcb e = map_from e (name_from e (set (set (set fcb S1 0) S2 0) RC (count_of e (byte fcb EX))))

-- "Control block 1..11 likewise, 12..31 become 0": the name without top bits, and twenty bytes
unfoldable pub made : List ℕ → List ℕ → List ℕ
made fcb name = put (put fcb NAME name_bytes name) EX 20 (replicate 20 0)

-- "in r0 r1 r2, low byte first"
unfoldable pub with_random : List ℕ → ℕ → List ℕ
with_random fcb n = set (set (set fcb R0 (n % 256)) R1 (n / 256 % 256)) R2 (n / 65536)
