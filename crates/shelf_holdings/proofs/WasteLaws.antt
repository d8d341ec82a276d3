-- The figures of a volume that passes inspection add up.
use mathlib.Core.Path.{◌≡◌, refl, ap}
use mathlib.Core.Bool.{Bool, true, false, not}
use mathlib.Core.List.{List}
use Prim.Native.Nat.{ℕ, ◌+◌, ◌-◌, ◌*◌, ◌≤◌}
use native.Mathlib.Nat.{mul-le-mul_right}
use native.Mathlib.Omega.{arith}
use borrow.Author.Tests.{ne_eqb}
use Rattle.lists.proofs.BoundedLaws.{count_ext}
use Rattle.disk_geometry.specs.declared.Geometry.{Geometry}
use Rattle.disk_geometry.specs.Geometry.{lawful, records, slots}
use Rattle.disk_geometry.proofs.GeometryLaws.{bounds}
use Rattle.disk_volume.specs.Entry.{is_empty}
use Rattle.disk_volume.specs.Directory.{slot_at}
use Rattle.disk_held.specs.Held.{is_free, free_count}
use Rattle.disk_held.proofs.CountLaws.{count_not}
use Rattle.disk_rules.specs.GoodSlot.{lowest_bad}
use Rattle.disk_rules.specs.Named.{named, held_of}
use Rattle.disk_rules.proofs.NamedLaws.{holds_held}
use Rattle.shelf_holdings.specs.Holdings.{is_entry, is_file, files, entries, records_present, blocks_held, blocks_free, waste}
use Rattle.shelf_holdings.specs.CodeEntries.{slot_records, records_by_entries, slot_places}
use Rattle.shelf_holdings.specs.Sums.{most_of_volume, SumsHold}
use Rattle.sums.proofs.SumLaws.{sum_le, sum_times}
use Rattle.shelf_holdings.proofs.PlaceLaws.{entry_most}
use Rattle.shelf_holdings.proofs.BlockLaws.{held_places}
use Rattle.shelf_holdings.proofs.RecordLaws.{by_entries, none_beyond}

module _ (g : Geometry) (v : List ℕ) where
  pub held_or_free : blocks_held g v + blocks_free g v ≡ g.blocks - g.directory_blocks
  unfolding blocks_held blocks_free
  held_or_free = let h = count_not (named g v) g.directory_blocks (g.blocks - g.directory_blocks) in omega arith

  files_most : files g v ≤ slots g
  unfolding files
  files_most = omega (arith, count_not (is_file g v) 0 (slots g))

  entries_most : entries g v ≤ slots g
  unfolding entries
  entries_most = omega (arith, count_not (is_entry g v) 0 (slots g))

  module _ (law : lawful g ≡ true) where
    -- what log-in answers is the number of blocks that no entry names
    pub free_is : free_count (held_of g v) g.directory_blocks g.blocks ≡ blocks_free g v
    unfolding free_count blocks_free
    free_is =
        count_ext (is_free (held_of g v)) (λ b. not (named g v b)) g.directory_blocks (g.blocks - g.directory_blocks)
        (λ b a l. ap not (holds_held g v b (omega (arith, (bounds g law).blocks_high, (bounds g law).directory_below))))

    slot_le : (i : ℕ) → slot_records g v i ≤ slot_places g v i * records g
    unfolding slot_records slot_places
    slot_le i = go (is_empty (slot_at g v i)) refl
      where
        go : (t : Bool) → is_empty (slot_at g v i) ≡ t → slot_records g v i ≤ slot_places g v i * records g
        go true e = rw e (omega arith)
        go false e = rw e (entry_most g (slot_at g v i))

    pub records_room : lowest_bad g v ≡ slots g → records_present g v ≤ blocks_held g v * records g
    unfolding records_by_entries
    records_room ok =
        let h = sum_le (slot_records g v) (λ i. slot_places g v i * records g) 0 (slots g) (λ i a b. slot_le i) in
        rw (by_entries g v law ok, held_places g v law ok, ← sum_times (slot_places g v) (records g) 0 (slots g)) h

-- no volume has room for more than 65,536 records
room_most : (g : Geometry) (v : List ℕ) → lawful g ≡ true → blocks_held g v * records g ≤ most_of_volume
room_most g v law =
    let b = bounds g law in
    let held : blocks_held g v ≤ g.blocks = omega (arith, held_or_free g v) in
    let room : blocks_held g v * records g ≤ g.blocks * records g = mul-le-mul_right (records g) held in
    omega (arith, b.whole, b.whole_records)

pub sums_hold : SumsHold
unfolding waste
sums_hold g v law ok =
    let b = bounds g law in
    let few = held_or_free g v in
    let below = records_room g v law ok in
    let most = room_most g v law in
    record {
      never_below = below;
      waste_and_records = omega arith;
      held_and_free = few;
      files_most = omega (arith, files_most g v, b.slots_high);
      entries_most = omega (arith, entries_most g v, b.slots_high);
      records_most = omega arith;
      held_most = omega (arith, b.blocks_high);
      free_most = omega (arith, b.blocks_high);
      waste_most = omega arith;
      none_beyond = λ u name n low far. none_beyond g v law ok u name (ne_eqb u 229 (omega arith)) n far;
    }
