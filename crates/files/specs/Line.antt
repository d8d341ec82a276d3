-- A file's line as 24 bytes: user; name and type without top bits; 1 if an entry is read-only; 1 if one is a system file;
-- records and blocks, low byte first; four zeros.
use Rattle.std.specs.Prelude.{Bool, cond, List, [], ◌∷◌, ◌++◌, ℕ}
use Rattle.lists.specs.Bytes.{byte}
use Rattle.numbers.specs.Numbers.{bytes_of}
use Rattle.disk_geometry.specs.declared.Geometry.{Geometry}
use Rattle.disk_volume.specs.Fields.{USER, T1, T2}
use Rattle.disk_volume.specs.Name.{name_of}
use Rattle.disk_volume.specs.Entry.{Entry}
use Rattle.call_size.specs.Size.{size_of}
use Rattle.files.specs.Files.{blocks_of, is_marked}

abbrev pub file_length : ℕ
file_length = 24

abbrev pub flag : Bool → ℕ
flag t = cond t 1 0

unfoldable pub line_bytes : Entry → Bool → Bool → ℕ → ℕ → List ℕ
line_bytes e read_only system records blocks =
    byte e USER
    ∷ (name_of e ++ (flag read_only ∷ flag system ∷ (bytes_of 4 records ++ (bytes_of 2 blocks ++ (0 ∷ 0 ∷ 0 ∷ 0 ∷ [])))))

-- of the file that has this entry
unfoldable pub file_bytes : Geometry → List ℕ → Entry → List ℕ
file_bytes g v e =
    let user = byte e USER in
    let name = name_of e in
    line_bytes e (is_marked g v user name T1) (is_marked g v user name T2) (size_of g v user name) (blocks_of g v user name)
