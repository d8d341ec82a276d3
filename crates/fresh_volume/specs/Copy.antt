-- The fresh disk, request (xiv): "blocks are numbered upward from D as they come. Held blocks are copied whole, entries keep all but
-- their map, empty slots and free blocks are all E5H". Slots are taken from 0 without gaps, blocks by rising place, and a place
-- that is zero stays zero.
-- The first disk is v; l is the order of its entries, each named by its slot there.
use Rattle.std.specs.Prelude.{cond, List, [], ◌∷◌, ◌++◌, ℕ, zero, suc, ◌+◌, ◌-◌, ltb, eqb, length, get_or, take, replicate}
use Rattle.lists.specs.Bounded.{fold}
use Rattle.disk_geometry.specs.declared.Geometry.{Geometry}
use Rattle.disk_geometry.specs.Geometry.{entry_bytes, map_bytes, record_bytes, blocks, directory_blocks_of, slots, records, places}
use Rattle.disk_volume.specs.Fields.{MAP, EMPTY}
use Rattle.disk_volume.specs.Entry.{Entry, block_in, with_block}
use Rattle.disk_volume.specs.Directory.{slot_at, put_slot}
use Rattle.disk_volume.specs.Record.{record_at, put_record}
use Rattle.files.specs.Files.{is_used}
use Rattle.fresh_order.specs.Order.{order}

-- the blocks in the places below p of an entry's map, by rising place
unfoldable pub blocks_below : Geometry → Entry → ℕ → List ℕ
blocks_below g e zero = []
blocks_below g e (suc p) = let lower = blocks_below g e p in cond (is_used g e p) (lower ++ (block_in g e p ∷ [])) lower

-- the entry with its blocks numbered upward from b: its map anew, where place p has the number of its block
unfoldable pub number_place : Geometry → ℕ → Entry → Entry → ℕ → Entry
number_place g b e new p = cond (is_used g e p) (with_block g new p (b + length (blocks_below g e p))) new

unfoldable pub numbered : Geometry → ℕ → Entry → Entry
numbered g b e = fold (number_place g b e) (take MAP e ++ replicate map_bytes 0) 0 (places g)

-- entry k in order, the blocks of the entries before it as they come, and the number of its own first block
abbrev pub entry_at : Geometry → List ℕ → List ℕ → ℕ → Entry
entry_at g v l k = slot_at g v (get_or l k 0)

unfoldable pub blocks_before : Geometry → List ℕ → List ℕ → ℕ → List ℕ
blocks_before g v l zero = []
blocks_before g v l (suc k) = blocks_before g v l k ++ blocks_below g (entry_at g v l k) (places g)

abbrev pub first_number : Geometry → List ℕ → List ℕ → ℕ → ℕ
first_number g v l k = directory_blocks_of g + length (blocks_before g v l k)

-- what stands in slot k of the fresh disk
unfoldable pub copied_entry : Geometry → List ℕ → List ℕ → ℕ → Entry
copied_entry g v l k =
    let e = numbered g (first_number g v l k) (entry_at g v l k) in
    cond (ltb k (length l)) e (replicate entry_bytes EMPTY)

-- the block of the first disk that comes to block b, 0 where b is free, and what stands in record n of it
abbrev pub comes_to : Geometry → List ℕ → List ℕ → ℕ → ℕ
comes_to g v l b = get_or (blocks_before g v l (length l)) (b - directory_blocks_of g) 0

unfoldable pub copied_record : Geometry → List ℕ → List ℕ → ℕ → ℕ → List ℕ
copied_record g v l b n =
    let r = record_at g v (comes_to g v l b) n in
    cond (eqb (comes_to g v l b) 0) (replicate record_bytes EMPTY) r

-- block b with these records laid into it
unfoldable pub put_block : Geometry → List ℕ → ℕ → (ℕ → List ℕ) → List ℕ
put_block g w b r = fold (λ x n. put_record g x b n (r n)) w 0 (records g)

-- the second disk w, with each slot and each block from D to T-1 laid anew
unfoldable pub laid_out : Geometry → List ℕ → List ℕ → List ℕ → List ℕ
laid_out g v l w =
    fold (λ x b. put_block g x b (copied_record g v l b)) (fold (λ x k. put_slot g x k (copied_entry g v l k)) w 0 (slots g))
    (directory_blocks_of g) (blocks g - directory_blocks_of g)

unfoldable pub fresh : Geometry → List ℕ → List ℕ → List ℕ
fresh g v w = laid_out g v (order g v) w
