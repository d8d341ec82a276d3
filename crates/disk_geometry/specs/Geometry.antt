-- The geometry: "T blocks of B bytes in logical record order .. the first D blocks are directory". Request (xi): "block numbers
-- in entries take two bytes" where T is above 256. Request (i): how records are placed, one behind the other or as on eight-inch
-- disks.
use Rattle.std.specs.Prelude.{Bool, cond, ◌&&◌, ◌||◌, ℕ, ◌+◌, ◌*◌, ◌/◌, ◌%◌, leb, ltb, eqb}
use Rattle.disk_geometry.specs.declared.Geometry.{Geometry}
use Rattle.disk_geometry.specs.EightInch.{image_bytes, image_start}

-- bytes of a record, of an entry and of its map, records of an extent, slots of a directory record, bytes of a block for each
-- extent of its entry and each byte of a block number
abbrev pub record_bytes : ℕ
record_bytes = 128

abbrev pub entry_bytes : ℕ
entry_bytes = 32

abbrev pub map_bytes : ℕ
map_bytes = 16

abbrev pub extent_records : ℕ
extent_records = 128

abbrev pub record_slots : ℕ
record_slots = 4

abbrev pub extent_block_bytes : ℕ
extent_block_bytes = 1024

-- the most blocks whose numbers take one byte, the most at all, and the most bytes of a volume with more than the first
abbrev pub narrow_blocks : ℕ
narrow_blocks = 256

abbrev pub most_blocks : ℕ
most_blocks = 4096

abbrev pub most_bytes : ℕ
most_bytes = 8 * 1024 * 1024

-- how records are placed
abbrev pub straight : ℕ
straight = 0

abbrev pub eight_inch : ℕ
eight_inch = 1

-- B, T and D, and the placing
abbrev pub block_bytes_of : Geometry → ℕ
block_bytes_of g = g.block_bytes

abbrev pub blocks : Geometry → ℕ
blocks g = g.blocks

abbrev pub directory_blocks_of : Geometry → ℕ
directory_blocks_of g = g.directory_blocks

abbrev pub placing : Geometry → ℕ
placing g = g.placing

-- a straight geometry, and one with another placing
abbrev pub geometry_of : ℕ → ℕ → ℕ → Geometry
geometry_of b t d = record { block_bytes = b; blocks = t; directory_blocks = d; placing = straight }

abbrev pub with_placing : Geometry → ℕ → Geometry
with_placing g p = record { block_bytes = block_bytes_of g; blocks = blocks g; directory_blocks = directory_blocks_of g; placing = p }

-- the eight-inch disks of (i): "1,024-byte blocks, T 243, D 2"
abbrev pub floppy : Geometry
floppy = with_placing (geometry_of 1024 243 2) eight_inch

abbrev pub is_floppy : Geometry → Bool
is_floppy g = eqb (placing g) eight_inch && eqb (block_bytes_of g) 1024 && eqb (blocks g) 243 && eqb (directory_blocks_of g) 2

-- "Its length is T times B."; (i): "256,256 bytes"
unfoldable pub bytes : Geometry → ℕ
bytes g = cond (eqb (placing g) eight_inch) image_bytes (blocks g * block_bytes_of g)

-- "B is 1,024, 2,048 or 4,096; T is 2 to 256; .. D from 1 to 16 and below T"; (xi): "From T 257 to 4,096, with B 2,048 or
-- 4,096 and at most 8 MiB"
abbrev pub lawful_sizes : Geometry → Bool
lawful_sizes g =
    (eqb (block_bytes_of g) 1024 || eqb (block_bytes_of g) 2048 || eqb (block_bytes_of g) 4096)
    && leb 2 (blocks g)
    && (leb (blocks g) narrow_blocks || (leb (blocks g) most_blocks && leb 2048 (block_bytes_of g) && leb (blocks g * block_bytes_of g) most_bytes))
    && leb 1 (directory_blocks_of g)
    && leb (directory_blocks_of g) 16
    && ltb (directory_blocks_of g) (blocks g)

-- and (i): the eight-inch placing with its own numbers alone
unfoldable pub lawful : Geometry → Bool
lawful g = lawful_sizes g && (eqb (placing g) straight || is_floppy g)

-- how many bytes a block number takes in an entry: nothing else knows where that changes
abbrev pub number_bytes : Geometry → ℕ
number_bytes g = cond (leb (blocks g) narrow_blocks) 1 2

-- "R = B/128 records a block, X = B/1,024 extents an entry"; (xi): "an entry has B/2,048 extents"
abbrev pub records : Geometry → ℕ
records g = block_bytes_of g / record_bytes

abbrev pub extents : Geometry → ℕ
extents g = block_bytes_of g / (extent_block_bytes * number_bytes g)

-- where logical record q of the volume begins: nothing else knows how records lie
unfoldable pub start : Geometry → ℕ → ℕ
start g q = cond (eqb (placing g) eight_inch) (image_start q) (q * record_bytes)

-- "Slots are the directory's 32-byte pieces, numbered from 0": four in each of its records
abbrev pub slots : Geometry → ℕ
slots g = record_slots * (directory_blocks_of g * records g)

unfoldable pub slot_start : Geometry → ℕ → ℕ
slot_start g i = start g (i / record_slots) + i % record_slots * entry_bytes

-- the logical record of record n in block b, and where it begins: "Its bytes begin at block times B plus (n mod R) times
-- 128"
abbrev pub record_of : Geometry → ℕ → ℕ → ℕ
record_of g b n = b * records g + n % records g

unfoldable pub record_start : Geometry → ℕ → ℕ → ℕ
record_start g b n = start g (record_of g b n)

-- the group of extent x
unfoldable pub group_of : Geometry → ℕ → ℕ
group_of g x = x / extents g

-- how many places an entry's map has, "16..31 sixteen block numbers", (xi) "eight to an entry", and the place of record n in it
unfoldable pub places : Geometry → ℕ
places g = map_bytes / number_bytes g

unfoldable pub place_of : Geometry → ℕ → ℕ
place_of g n = n % (extent_records * extents g) / records g

-- "from D to T-1"
unfoldable pub inside : Geometry → ℕ → Bool
inside g b = leb (directory_blocks_of g) b && ltb b (blocks g)
