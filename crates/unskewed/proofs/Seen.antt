-- The directory and the records of blocks are the same on the unskewed volume: so is every search, and what inspection says.
use mathlib.Core.Path.{◌≡◌, refl, sym, ap, ◌∙◌}
use mathlib.Core.Bool.{true, not, ◌&&◌}
use mathlib.Core.List.{List}
use Prim.Native.Nat.{ℕ, suc, ◌+◌, ◌-◌, ◌*◌, ◌/◌, ◌%◌, ◌≤◌, ◌<◌}
use native.Mathlib.Nat.{mul-le-mul_right}
use native.Mathlib.Omega.{arith}
use lib.ListN.{length}
use Rattle.lists.specs.Bytes.{part}
use Rattle.lists.proofs.PartLaws.{part_part}
use Rattle.lists.proofs.BoundedLaws.{low_ext, any_ext, every_ext}
use Rattle.disk_geometry.specs.declared.Geometry.{Geometry}
use Rattle.disk_geometry.specs.Geometry.{lawful, bytes, records, start, slots, slot_start, record_of, record_start, group_of, places, inside}
use Rattle.disk_geometry.proofs.GeometryLaws.{bounds, start_in, record_below}
use Rattle.disk_volume.specs.declared.Wanted.{Wanted}
use Rattle.disk_volume.specs.declared.Wanted.TheVariants.{Any, Empty, File, ReadOnlyFile, Group, Match, ReadOnlyMatch, MatchGroup}
use Rattle.disk_volume.specs.Entry.{Entry, block_in, of_group}
use Rattle.disk_volume.specs.Directory.{slot_at, fits, slot_fits, find_from, find_slot}
use Rattle.disk_volume.specs.Record.{record_at, slot_record}
use Rattle.disk_volume.proofs.FindLaws.{find_le}
use Rattle.disk_held.specs.Held.{words_of}
use Rattle.disk_rules.specs.GoodSlot.{in_places, names_block, named_below, good_place, twin, seen_below, good_slot, lowest_bad}
use Rattle.disk_rules.specs.Named.{named, held_of}
use Rattle.unskewed.specs.Unskewed.{straightened, unskewed}
use Rattle.unskewed.proofs.Logical.{straight_good, unskewed_size, record_seen}

-- ---- what does not look at the placing
module _ (g : Geometry) where
  fits_same : (u : ℕ) (name : List ℕ) (w : Wanted) (e : Entry) → fits (straightened g) u name w e ≡ fits g u name w e
  unfolding of_group group_of
  fits_same u name Any e = refl
  fits_same u name Empty e = refl
  fits_same u name File e = refl
  fits_same u name ReadOnlyFile e = refl
  fits_same u name (Group k) e = refl
  fits_same u name Match e = refl
  fits_same u name ReadOnlyMatch e = refl
  fits_same u name (MatchGroup k) e = refl

  names_same : (e : Entry) (b : ℕ) → names_block (straightened g) e b ≡ names_block g e b
  unfolding names_block in_places places block_in
  names_same e b = refl

  in_places_same : (e : Entry) (k b : ℕ) → in_places (straightened g) e k b ≡ in_places g e k b
  unfolding in_places block_in
  in_places_same e k b = refl

  block_same : (e : Entry) (p : ℕ) → block_in (straightened g) e p ≡ block_in g e p
  unfolding block_in
  block_same e p = refl

-- ---- a volume of the geometry's length
module _ (g : Geometry) (good : lawful g ≡ true) (v : List ℕ) (size : length v ≡ bytes g) where
  -- records and slots
  pub at_record : (q : ℕ) → q < g.blocks * records g → part (unskewed g v) (start (straightened g) q) 128 ≡ part v (start g q) 128
  at_record q h = record_seen g good v size q h

  -- the directory's records, and the one behind them
  pub directory_below : (r : ℕ) → r ≤ g.directory_blocks * records g → r < g.blocks * records g
  directory_below r h =
      let k = bounds g good in
      let m : suc g.directory_blocks * records g ≤ g.blocks * records g = mul-le-mul_right (records g) k.directory_below in
      omega (arith, k.some_records)

  pub slot_seen : (i : ℕ) → i ≤ slots g → slot_at (straightened g) (unskewed g v) i ≡ slot_at g v i
  unfolding slot_at slot_start
  slot_seen i h =
      let q< : i / 4 < g.blocks * records g = directory_below (i / 4) (omega arith) in
      let a : start g (i / 4) + 128 ≤ length v = rw size (start_in g good (i / 4) q<) in
      let b : start (straightened g) (i / 4) + 128 ≤ length (unskewed g v) = rw (unskewed_size g good v size) (start_in (straightened g) (straight_good g good) (i / 4) q<) in
      sym (part_part (unskewed g v) (start (straightened g) (i / 4)) 128 b (i % 4 * 32) 32 (omega arith))
      ∙ ap (λ (x : List ℕ). part x (i % 4 * 32) 32) (at_record (i / 4) q<)
      ∙ part_part v (start g (i / 4)) 128 a (i % 4 * 32) 32 (omega arith)

  pub slot_record_seen : (i : ℕ) → i ≤ slots g → slot_record (straightened g) (unskewed g v) i ≡ slot_record g v i
  unfolding slot_record
  slot_record_seen i h = at_record (i / 4) (directory_below (i / 4) (omega arith))

  pub block_seen : (b n : ℕ) → b < g.blocks → record_at (straightened g) (unskewed g v) b n ≡ record_at g v b n
  unfolding record_at record_start
  block_seen b n h = at_record (record_of g b n) (record_below g good b n h)

  -- ---- searches
  fits_seen : (u : ℕ) (name : List ℕ) (w : Wanted) (i : ℕ) → i ≤ slots g → slot_fits (straightened g) (unskewed g v) u name w i ≡ slot_fits g v u name w i
  fits_seen u name w i h = ap (fits (straightened g) u name w) (slot_seen i h) ∙ fits_same g u name w (slot_at g v i)

  pub from_seen : (u : ℕ) (name : List ℕ) (w : Wanted) (i : ℕ) → find_from (straightened g) (unskewed g v) u name w i ≡ find_from g v u name w i
  from_seen u name w i = low_ext _ _ i (slots g - i) (λ m low high. fits_seen u name w m (omega arith))

  pub find_seen : (u : ℕ) (name : List ℕ) (w : Wanted) → find_slot (straightened g) (unskewed g v) u name w ≡ find_slot g v u name w
  unfolding find_slot
  find_seen u name w = low_ext _ _ 0 (slots g) (λ m low high. fits_seen u name w m (omega arith))

  -- the entry in the slot that is found, and in the one behind the directory where none is
  pub found_seen : (u : ℕ) (name : List ℕ) (w : Wanted)
      → slot_at (straightened g) (unskewed g v) (find_slot (straightened g) (unskewed g v) u name w) ≡ slot_at g v (find_slot g v u name w)
  found_seen u name w = ap (slot_at (straightened g) (unskewed g v)) (find_seen u name w) ∙ slot_seen (find_slot g v u name w) (find_le g v u name w)

  -- ---- inspection
  named_below_seen : (n b : ℕ) → n ≤ slots g → named_below (straightened g) (unskewed g v) n b ≡ named_below g v n b
  unfolding named_below
  named_below_seen n b h =
      any_ext _ _ 0 n (λ j low high. ap (λ (e : Entry). names_block (straightened g) e b) (slot_seen j (omega arith)) ∙ names_same g (slot_at g v j) b)

  seen_below_seen : (i : ℕ) → i ≤ slots g → seen_below (straightened g) (unskewed g v) i ≡ seen_below g v i
  unfolding seen_below of_group group_of
  seen_below_seen i h =
      any_ext _ _ 0 i (λ j low high. (λ k. twin g (slot_seen i h k) (slot_seen j (omega arith) k)))

  good_place_seen : (i p : ℕ) → i ≤ slots g → good_place (straightened g) (unskewed g v) i p ≡ good_place g v i p
  unfolding good_place inside
  good_place_seen i p h =
      rw (slot_seen i h, block_same g (slot_at g v i) p, in_places_same g (slot_at g v i) p (block_in g (slot_at g v i) p), named_below_seen i (block_in g (slot_at g v i) p) h)

  good_slot_seen : (i : ℕ) → i ≤ slots g → good_slot (straightened g) (unskewed g v) i ≡ good_slot g v i
  unfolding good_slot places
  good_slot_seen i h =
      rw (slot_seen i h, seen_below_seen i h, every_ext (good_place (straightened g) (unskewed g v) i) (good_place g v i) 0 (places g) (λ p low high. good_place_seen i p h))

  pub bad_seen : lowest_bad (straightened g) (unskewed g v) ≡ lowest_bad g v
  unfolding lowest_bad
  bad_seen = low_ext _ _ 0 (slots g) (λ i low high. ap not (good_slot_seen i (omega arith)))

  pub held_seen : held_of (straightened g) (unskewed g v) ≡ held_of g v
  unfolding held_of named inside
  held_seen = λ i. words_of (λ b. inside g b && named_below_seen (slots g) b (omega arith) i)
