-- Delete, rename and attributes change "all matching entries", "all entries of the file", and leave every other.
use Rattle.std.specs.Prelude.{cond, List, [], ◌∷◌, ◌++◌, ℕ, ◌+◌, ◌%◌, set, take}
use Rattle.lists.specs.Bytes.{byte, put}
use Rattle.disk_volume.specs.Fields.{USER, NAME, T1, T2, name_bytes, EMPTY, name_t1, name_t2}
use Rattle.disk_volume.specs.Name.{strip, top_bit}
use Rattle.disk_volume.specs.Entry.{Entry, of_file, matches}
use Rattle.call_sweep.specs.declared.Edit.{Edit}
use Rattle.call_sweep.specs.declared.Edit.TheVariants.{Erase, Rename, Attributes}

-- "byte 0 of all matching entries .. becomes E5H"
abbrev pub erased : Entry → Entry
erased e = set e USER EMPTY

-- a byte with another's top bit
abbrev pub with_top_bit : ℕ → ℕ → ℕ
with_top_bit x top = x % 128 + top_bit top

-- "all entries of the file take the new one without top bits and keep their attribute bits": those of bytes 9 and 10
unfoldable pub renamed : Entry → List ℕ → Entry
renamed e name =
    put e NAME name_bytes
    (strip (take name_t1 name)
    ++ (with_top_bit (byte name name_t1) (byte e T1)
    ∷ with_top_bit (byte name name_t2) (byte e T2)
    ∷ byte name (name_t2 + 1) % 128
    ∷ []))

-- "top bits of control block bytes 9 and 10 go to all entries of the file"
unfoldable pub attributed : Entry → List ℕ → Entry
attributed e name =
    set (set e T1 (with_top_bit (byte e T1) (byte name name_t1))) T2 (with_top_bit (byte e T2) (byte name name_t2))

-- an entry after the change: by user and name (or pattern) of the file, and by the eleven bytes to go into it
unfoldable pub changed : Edit → ℕ → List ℕ → List ℕ → Entry → Entry
changed Erase u name new e = cond (matches u name e) (erased e) e
changed Rename u name new e = cond (of_file u name e) (renamed e new) e
changed Attributes u name new e = cond (of_file u name e) (attributed e new) e
