-- What one volume that log-in accepts holds: "the files, entries, records present, blocks held, blocks free, and waste:
-- blocks held times records a block, less records present".
use Rattle.std.specs.Prelude.{Bool, not, cond, List, ℕ, ◌-◌, ◌*◌}
use Rattle.lists.specs.Bounded.{count_from}
use Rattle.lists.specs.Bytes.{byte}
use Rattle.sums.specs.Sum.{sum}
use Rattle.disk_geometry.specs.declared.Geometry.{Geometry}
use Rattle.disk_geometry.specs.Geometry.{blocks, directory_blocks_of, slots, records}
use Rattle.disk_volume.specs.Fields.{USER}
use Rattle.disk_volume.specs.Name.{name_of}
use Rattle.disk_volume.specs.Entry.{is_empty}
use Rattle.disk_volume.specs.Directory.{slot_at}
use Rattle.disk_volume.specs.Record.{present}
use Rattle.disk_rules.specs.Named.{named}
use Rattle.files.specs.Files.{is_listed}
use Rattle.shelf_holdings.specs.declared.Holdings.{Holdings}

-- entries: the slots that are not empty
abbrev pub is_entry : Geometry → List ℕ → ℕ → Bool
is_entry g v i = not (is_empty (slot_at g v i))

unfoldable pub entries : Geometry → List ℕ → ℕ
entries g v = count_from (is_entry g v) 0 (slots g)

-- files, by user and name: each is counted at its lowest slot, as the lister lists it
abbrev pub is_file : Geometry → List ℕ → ℕ → Bool
is_file g v i = is_listed g v (slot_at g v i) i

unfoldable pub files : Geometry → List ℕ → ℕ
files g v = count_from (is_file g v) 0 (slots g)

-- records present: of every file all n below 65,536 that are present
abbrev pub most_records : ℕ
most_records = 65536

unfoldable pub file_records : Geometry → List ℕ → ℕ → List ℕ → ℕ
file_records g v u name = count_from (present g v u name) 0 most_records

unfoldable pub records_present : Geometry → List ℕ → ℕ
records_present g v =
    sum (slots g) (λ i. cond (is_file g v i) (file_records g v (byte (slot_at g v i) USER) (name_of (slot_at g v i))) 0)

-- blocks held and free: those from D to T-1 that an entry names, and those that none does
unfoldable pub blocks_held : Geometry → List ℕ → ℕ
blocks_held g v = count_from (named g v) (directory_blocks_of g) (blocks g - directory_blocks_of g)

unfoldable pub blocks_free : Geometry → List ℕ → ℕ
blocks_free g v = count_from (λ b. not (named g v b)) (directory_blocks_of g) (blocks g - directory_blocks_of g)

-- waste: on a volume that passes inspection nothing is cut off at 0, theorem `sums-hold`
unfoldable pub waste : Geometry → List ℕ → ℕ
waste g v = blocks_held g v * records g - records_present g v

unfoldable pub holdings : Geometry → List ℕ → Holdings
holdings g v =
    record {
      files = files g v;
      entries = entries g v;
      records = records_present g v;
      held = blocks_held g v;
      free = blocks_free g v;
      waste = waste g v;
    }
