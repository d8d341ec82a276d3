-- "Each changing call shall store whole 128-byte records: data records first, then directory records in rising order.
-- Wherever the run of stores is cut .." A store is a logical record and its 128 bytes; a run of stores is a list of them;
-- a cut is the first k of them laid down.
use Rattle.std.specs.Prelude.{Bool, cond, List, [], ◌∷◌, ℕ, zero, suc, ◌*◌, ◌/◌, ◌%◌, eqb, take, replicate}
use Rattle.lists.specs.Bytes.{part, put}
use Rattle.disk_geometry.specs.declared.Geometry.{Geometry}
use Rattle.disk_geometry.specs.Geometry.{record_bytes, entry_bytes, record_slots, records, directory_blocks_of, start, record_of}
use Rattle.disk_volume.specs.Entry.{Entry}
use Rattle.disk_stores.specs.Pieces.{map_pieces, meant_only, holds_meant}

-- the logical record, and what is stored there
pub record Store : Type 0 where
  pub at : ℕ
  pub bytes : List ℕ

abbrev pub store : ℕ → List ℕ → Store
store q r = record { at = q; bytes = r }

-- all of them laid down, the first one first
unfoldable pub laid : Geometry → List ℕ → List Store → List ℕ
laid g v [] = v
laid g v (s ∷ ss) = laid g (put v (start g s.at) record_bytes s.bytes) ss

-- the volume where the run is cut after k stores
abbrev pub cut : Geometry → List ℕ → ℕ → List Store → List ℕ
cut g v k ss = laid g v (take k ss)

-- data: record k of block b, where record n is written with r and every other of the block with zeros
abbrev pub fill_store : Geometry → ℕ → ℕ → List ℕ → ℕ → Store
fill_store g b n r k = store (record_of g b k) (cond (eqb k (n % records g)) r (replicate record_bytes 0))

-- m of them from record k on, rising
unfoldable pub fill_stores : Geometry → ℕ → ℕ → List ℕ → ℕ → ℕ → List Store
fill_stores g b n r k zero = []
fill_stores g b n r k (suc m) = fill_store g b n r k ∷ fill_stores g b n r (suc k) m

-- record n of block b with r: alone, or if `fills` with each other record of the block
unfoldable pub record_stores : Geometry → Bool → ℕ → ℕ → List ℕ → List Store
record_stores g fills b n r =
    let whole = fill_stores g b n r 0 (records g) in
    cond fills whole (store (record_of g b n) r ∷ [])

-- an entry: the directory record of its slot, with the entry laid in
unfoldable pub entry_stores : Geometry → List ℕ → ℕ → Entry → List Store
entry_stores g v i e =
    store (i / record_slots)
    (put (part v (start g (i / record_slots)) record_bytes) (i % record_slots * entry_bytes) entry_bytes e)
    ∷ []

-- how many records the directory has
abbrev pub directory_records : Geometry → ℕ
directory_records g = directory_blocks_of g * records g

-- a sweep: of m directory records from r on each that holds an entry that is meant, once, rising, "also where the bytes
-- don't change"
unfoldable pub sweep_stores : Geometry → (Entry → Bool) → (Entry → Entry) → List ℕ → ℕ → ℕ → List Store
sweep_stores g meant f v r zero = []
sweep_stores g meant f v r (suc m) =
    let copy = part v (start g r) record_bytes in
    let rest = sweep_stores g meant f v (suc r) m in
    cond (holds_meant meant copy) (store r (map_pieces (meant_only meant f) copy) ∷ rest) rest
