-- The fresh disk as code lays it out: entry by entry, its blocks first, then what is blank. Not for the reader of the paper.
use Rattle.std.specs.Prelude.{◌≡◌, true, cond, List, ℕ, ◌+◌, ◌-◌, ◌<◌, length, replicate}
use Rattle.lists.specs.Bounded.{fold}
use Rattle.disk_geometry.specs.declared.Geometry.{Geometry}
use Rattle.disk_geometry.specs.Geometry.{record_bytes, entry_bytes, blocks, slots, places}
use Rattle.disk_volume.specs.Fields.{EMPTY}
use Rattle.disk_volume.specs.Entry.{Entry, block_in}
use Rattle.disk_volume.specs.Directory.{put_slot}
use Rattle.disk_volume.specs.Record.{record_at}
use Rattle.files.specs.Files.{is_used}
use Rattle.fresh_volume.specs.Copy.{blocks_below, numbered, entry_at, first_number, put_block}

-- the block of place p of an entry of disk v, moved to the disk x; numbers from b on
unfoldable pub move_place : Geometry → List ℕ → Entry → ℕ → List ℕ → ℕ → List ℕ
move_place g v e b x p = cond (is_used g e p) (put_block g x (b + length (blocks_below g e p)) (record_at g v (block_in g e p))) x

unfoldable pub move_blocks : Geometry → List ℕ → Entry → ℕ → List ℕ → List ℕ
move_blocks g v e b x = fold (move_place g v e b) x 0 (places g)

-- entry k with its blocks; the first n entries
unfoldable pub lay_entry : Geometry → List ℕ → List ℕ → List ℕ → ℕ → List ℕ
lay_entry g v l x k =
    put_slot g (move_blocks g v (entry_at g v l k) (first_number g v l k) x) k (numbered g (first_number g v l k) (entry_at g v l k))

-- blank slots from k on, and blank blocks from b on
abbrev pub blank_slot : Geometry → List ℕ → ℕ → List ℕ
blank_slot g x k = put_slot g x k (replicate entry_bytes EMPTY)

abbrev pub blank_block : Geometry → List ℕ → ℕ → List ℕ
blank_block g x b = put_block g x b (λ n. replicate record_bytes EMPTY)

unfoldable pub blank_from : Geometry → List ℕ → ℕ → ℕ → List ℕ
blank_from g x k b = fold (blank_block g) (fold (blank_slot g) x k (slots g - k)) b (blocks g - b)

-- each block of the entry's map is one of the disk's, and so is its new number
abbrev pub MapFits : Geometry → Entry → ℕ → Type 0
MapFits g e b =
    (p : ℕ) → p < places g → is_used g e p ≡ true → (block_in g e p < blocks g) × (b + length (blocks_below g e p) < blocks g)
