-- An entry: "byte 0 user 0..15, or E5H for an empty slot; 1..8 name; 9..11 type; 12 ex; 13 s1; 14 s2; 15 rc;
-- 16..31 sixteen block numbers, 0 for none"; (xi): "block numbers .. take two bytes, low first, eight to an entry". It is its 32
-- bytes; bytes that a call doesn't name stay.
use Rattle.std.specs.Prelude.{Bool, cond, ◌&&◌, List, ℕ, ◌+◌, ◌*◌, min, leb, ltb, eqb}
use Rattle.lists.specs.Bytes.{byte}
use Rattle.numbers.specs.Numbers.{number, bytes_from, with_number}
use Rattle.disk_geometry.specs.declared.Geometry.{Geometry}
use Rattle.disk_geometry.specs.Geometry.{extent_records, number_bytes, group_of}
use Rattle.disk_volume.specs.Fields.{USER, T1, EX, S2, RC, MAP, EMPTY}
use Rattle.disk_volume.specs.Name.{TOPBIT, name_of, same, like}

abbrev pub Entry : Type 0
Entry = List ℕ

abbrev pub is_empty : Entry → Bool
is_empty e = eqb (byte e USER) EMPTY

-- "Top bit of byte 9: read-only."
abbrev pub read_only : Entry → Bool
read_only e = leb TOPBIT (byte e T1)

-- "Extent number E = 32 times s2 plus ex": of an entry, and of a control block
abbrev pub extent : List ℕ → ℕ
extent e = 32 * byte e S2 + byte e EX

-- the map: where the block number in place p begins, the number, and place p given another. Nothing else knows how block
-- numbers are written, but for `places`, how many the map has.
abbrev pub place_start : Geometry → ℕ → ℕ
place_start g p = MAP + p * number_bytes g

unfoldable pub block_in : Geometry → Entry → ℕ → ℕ
unfolding number bytes_from
block_in g e p = number (bytes_from e (place_start g p) (number_bytes g))

unfoldable pub with_block : Geometry → Entry → ℕ → ℕ → Entry
unfolding with_number
with_block g e p b = with_number e (place_start g p) (number_bytes g) b

-- "An entry counts 128 records for each extent of its group below its own E, min(rc, 128) for E, 0 above."
unfoldable pub count_of : Entry → ℕ → ℕ
count_of e x =
    cond (ltb x (extent e)) extent_records
    (cond (ltb (extent e) x) 0
    (min (byte e RC) extent_records))

-- an entry of the file of this user and this name, and the one of a group
unfoldable pub of_file : ℕ → List ℕ → Entry → Bool
of_file u name e = eqb (byte e USER) u && same (name_of e) name

unfoldable pub of_group : Geometry → ℕ → List ℕ → ℕ → Entry → Bool
of_group g u name k e = of_file u name e && eqb (group_of g (extent e)) k

-- an entry of this user whose name the pattern matches
unfoldable pub matches : ℕ → List ℕ → Entry → Bool
matches u pattern e = eqb (byte e USER) u && like (name_of e) pattern
