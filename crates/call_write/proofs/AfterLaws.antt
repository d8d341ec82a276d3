-- What a write leaves, where no test is met: an entry of the file and of the record's group, in which the record counts,
-- its bytes in a block of their own, and every other slot and block as it was.
use mathlib.Core.Path.{◌≡◌, refl, ap, ◌∙◌}
use mathlib.Core.Bool.{Bool, true, false, cond}
use mathlib.Core.Logic.{◌≢◌}
use mathlib.Core.List.{List}
use Prim.Native.Nat.{ℕ, ◌/◌, ◌%◌, ◌≤◌, ◌<◌, max}
use native.Mathlib.Nat.{max-eq_left, max-eq_right}
use native.Mathlib.Omega.{arith}
use lib.Dec.{leb, eqb}
use lib.ListN.{length, replicate}
use borrow.Author.Tests.{lt-ltb, ltb-true, ltb-false, leb-true, leb-false, eq-eqb, ne_eqb, eqb-true}
use Rattle.lists.specs.Bytes.{byte}
use Rattle.lists.proofs.PartLaws.{byte_both}
use Rattle.lists.proofs.BoundedLaws.{low_is}
use Rattle.disk_volume.specs.Directory.{slot_at, put_slot, slot_fits, find_slot}
use Rattle.disk_volume.specs.Entry.{extent, of_file, of_group, count_of}
use Rattle.disk_geometry.specs.Geometry.{lawful, bytes, records, slots, slot_start, group_of}
use Rattle.disk_volume.specs.Record.{record_slot, record_block, counted, present, record_at, put_filled, OffBlock}
use Rattle.disk_geometry.specs.declared.Geometry.{Geometry}
use Rattle.disk_volume.specs.declared.Wanted.TheVariants.{Empty, File, Group}
use Rattle.disk_volume.proofs.DirectoryLaws.{slot_inside, slot_length, put_slot_length, slot_put_slot, slot_put_slot_other, record_put_slot}
use Rattle.disk_geometry.proofs.GeometryLaws.{bounds}
use Rattle.call_answers.specs.Refusal.{is_none, first_met}
use Rattle.call_entry.specs.Grown.{like_entry, grown}
use Rattle.call_entry.proofs.GrowLaws.{length_like, head_like, like_extent, grown_extent, grown_counts, head_written, written_extent, written_count, written_block}
use Rattle.call_entry.proofs.HeadLaws.{head_of_file}
use Rattle.call_store.proofs.FillLaws.{put_filled_length, record_put_filled, record_put_filled_within, record_put_filled_other, slot_put_filled, byte_put_filled}
use Rattle.call_decide.specs.Write.{has_group, write_slot, base_entry, needs_block, fills_block, write_block, entry_after, write_tests}
use Rattle.disk_stores.specs.Stores.{laid, record_stores, entry_stores}
use Rattle.disk_stores.proofs.LaidLaws.{laid_append, record_laid, entry_laid}
use Rattle.call_write.specs.Write.{write_stores, hold_if}
use Rattle.lists.proofs.BoolLaws.{and_left, and_right}
use Rattle.disk_volume.proofs.FindLaws.{found_fits, found_first}
use Rattle.call_decide.proofs.WriteLaws.{length_base, write_passed, length_entry_after}

-- the volume with all its stores laid down
abbrev pub written : Geometry → List ℕ → List ℕ → ℕ → List ℕ → ℕ → Bool → List ℕ → List ℕ
written g held v u name n fills r = laid g v (write_stores g held v u name n fills r)

-- the blocks that are held then
abbrev pub held_after : Geometry → List ℕ → List ℕ → ℕ → List ℕ → ℕ → List ℕ
held_after g held v u name n = hold_if (needs_block g v u name n) held (write_block g held v u name n)

module _ (g : Geometry) (held v : List ℕ) (u : ℕ) (name : List ℕ) (n : ℕ) (good : lawful g ≡ true) (size : length v ≡ bytes g)
    (passed : is_none (first_met (write_tests g held v u name n)) ≡ true) where
  -- ---- the entry
  abbrev k : ℕ
  k = group_of g (n / 128)

  group_fits : record_slot g v u name n < slots g → of_group g u name k (slot_at g v (record_slot g v u name n)) ≡ true
  unfolding record_slot
  group_fits h = found_fits g v u name (Group k) h

  -- the entry that grows is the file's, and it is the group's or has extent 0
  base_file : of_file u name (base_entry g v u name n) ≡ true
  unfolding base_entry of_group
  base_file = go (has_group g v u name n) refl
    where
      go : (t : Bool) → has_group g v u name n ≡ t
          → of_file u name (cond t (slot_at g v (record_slot g v u name n)) (like_entry (slot_at g v (find_slot g v u name File)))) ≡ true
      go true q = and_left _ _ (group_fits (ltb-true (record_slot g v u name n) (slots g) q))
      go false q =
          let h = (write_passed g held v u name n passed).file in
          let e = slot_at g v (find_slot g v u name File) in
          let l = slot_length g good v size (find_slot g v u name File) h in
          head_of_file (like_entry e) e (head_like e l) (length_like e l) l u name ∙ found_fits g v u name File h

  after_32 : length (entry_after g held v u name n) ≡ 32
  after_32 = length_entry_after g held v u name n good size passed

  base_32 : length (base_entry g v u name n) ≡ 32
  base_32 = length_base g v u name n good size (write_passed g held v u name n passed).file

  pub after_file : of_file u name (entry_after g held v u name n) ≡ true
  after_file =
      head_of_file (entry_after g held v u name n) (base_entry g v u name n) (head_written g (base_entry g v u name n) n (write_block g held v u name n)) after_32 base_32 u name
      ∙ base_file

  after_extent : extent (entry_after g held v u name n) ≡ max (extent (base_entry g v u name n)) (n / 128)
  after_extent = written_extent g (base_entry g v u name n) n (write_block g held v u name n) ∙ grown_extent (base_entry g v u name n) n base_32

  larger_group : (x y : ℕ) → group_of g x ≡ group_of g y → group_of g (max x y) ≡ group_of g y
  larger_group x y q = go (leb x y) refl
    where
      go : (t : Bool) → leb x y ≡ t → group_of g (max x y) ≡ group_of g y
      go true p = ap (group_of g) (max-eq_right {n = x} {m = y} (leb-true x y p))
      go false p =
          let h : y < x = leb-false x y p in
          ap (group_of g) (max-eq_left {n = x} {m = y} (omega arith)) ∙ q

  base_group : group_of g (max (extent (base_entry g v u name n)) (n / 128)) ≡ k
  unfolding base_entry of_group
  base_group = go (has_group g v u name n) refl
    where
      go : (t : Bool) → has_group g v u name n ≡ t
          → group_of g (max (extent (cond t (slot_at g v (record_slot g v u name n)) (like_entry (slot_at g v (find_slot g v u name File))))) (n / 128)) ≡ k
      go true q =
          let e = slot_at g v (record_slot g v u name n) in
          let f = group_fits (ltb-true (record_slot g v u name n) (slots g) q) in
          larger_group (extent e) (n / 128) (eqb-true (group_of g (extent e)) k (and_right (of_file u name e) (eqb (group_of g (extent e)) k) f))
      go false q =
          let h = (write_passed g held v u name n passed).file in
          let x = like_extent (slot_at g v (find_slot g v u name File)) (slot_length g good v size (find_slot g v u name File) h) in
          ap (group_of g) (max-eq_right {n = extent (like_entry (slot_at g v (find_slot g v u name File)))} {m = n / 128} (omega arith))

  pub after_group : of_group g u name (group_of g (n / 128)) (entry_after g held v u name n) ≡ true
  unfolding of_group
  after_group =
      let e = entry_after g held v u name n in
      rw (after_file, eq-eqb (group_of g (extent e)) k (ap (group_of g) after_extent ∙ base_group))

  pub after_block : record_block g (entry_after g held v u name n) n ≡ write_block g held v u name n
  after_block = written_block g (base_entry g v u name n) n (write_block g held v u name n) good base_32

  pub after_counted : counted g (entry_after g held v u name n) n ≡ true
  unfolding counted
  after_counted =
      let p = write_passed g held v u name n passed in
      let c = written_count g (base_entry g v u name n) n (write_block g held v u name n) (n / 128) in
      let l = grown_counts (base_entry g v u name n) n base_32 in
      let d = (bounds g good).directory_low in
      rw (c, lt-ltb (n % 128) (count_of (grown (base_entry g v u name n) n) (n / 128)) l, after_block, ne_eqb (write_block g held v u name n) 0 (omega (arith, p.block_low)))

  -- ---- the volume
  module _ (fills : Bool) (r : List ℕ) (r128 : length r ≡ 128) where
    -- the volume with the data alone, before the entry is laid
    abbrev data_laid : List ℕ
    data_laid = put_filled g (fills_block g v u name n fills) v (write_block g held v u name n) n r

    stored_size : length data_laid ≡ bytes g
    stored_size =
        put_filled_length g good (write_block g held v u name n) n (write_passed g held v u name n passed).block_high r r128 v size (fills_block g v u name n fills)
        ∙ size

    -- all the stores laid down: the data, and then the entry
    pub written_is : written g held v u name n fills r ≡ put_slot g data_laid (write_slot g v u name n) (entry_after g held v u name n)
    written_is =
        let b = write_block g held v u name n in
        let t = fills_block g v u name n fills in
        let ds = record_stores g t b n r in
        laid_append g ds (entry_stores g (laid g v ds) (write_slot g v u name n) (entry_after g held v u name n)) v
        ∙ rw (record_laid g b n r t v) (entry_laid g good data_laid stored_size (write_slot g v u name n) (write_passed g held v u name n passed).slot_in (entry_after g held v u name n))

    pub after_size : length (written g held v u name n fills r) ≡ bytes g
    after_size =
        ap length written_is ∙ put_slot_length g good data_laid stored_size (write_slot g v u name n) (write_passed g held v u name n passed).slot_in
        (entry_after g held v u name n) after_32
        ∙ stored_size

    pub after_slot : slot_at g (written g held v u name n fills r) (write_slot g v u name n) ≡ entry_after g held v u name n
    after_slot =
        ap (λ (x : List ℕ). slot_at g x (write_slot g v u name n)) written_is ∙ slot_put_slot g good data_laid stored_size (write_slot g v u name n) (write_passed g held v u name n passed).slot_in
        (entry_after g held v u name n) after_32

    pub after_slot_other : (j : ℕ) → j < slots g → j ≢ write_slot g v u name n → slot_at g (written g held v u name n fills r) j ≡ slot_at g v j
    after_slot_other j h ne =
        let p = write_passed g held v u name n passed in
        ap (λ (x : List ℕ). slot_at g x j) written_is ∙ slot_put_slot_other g good data_laid stored_size (write_slot g v u name n) p.slot_in (entry_after g held v u name n) after_32 j h ne
        ∙ slot_put_filled g good (write_block g held v u name n) n p.block_high r r128 v size (fills_block g v u name n fills) p.block_low j h

    -- the record's bytes, and those of every other
    entry_apart : (b m : ℕ) → g.directory_blocks ≤ b → b < g.blocks
        → record_at g (written g held v u name n fills r) b m ≡ record_at g data_laid b m
    entry_apart b m low high =
        ap (λ (x : List ℕ). record_at g x b m) written_is ∙ record_put_slot g good data_laid stored_size (write_slot g v u name n) (write_passed g held v u name n passed).slot_in
        (entry_after g held v u name n) after_32 b m low high

    pub after_record : record_at g (written g held v u name n fills r) (write_block g held v u name n) n ≡ r
    after_record =
        let p = write_passed g held v u name n passed in
        entry_apart (write_block g held v u name n) n p.block_low p.block_high
        ∙ record_put_filled g good (write_block g held v u name n) n p.block_high r r128 v size (fills_block g v u name n fills)

    pub after_record_other : (b m : ℕ) → g.directory_blocks ≤ b → b < g.blocks → b ≢ write_block g held v u name n
        → record_at g (written g held v u name n fills r) b m ≡ record_at g v b m
    after_record_other b m low high ne =
        entry_apart b m low high
        ∙ record_put_filled_other g good (write_block g held v u name n) n (write_passed g held v u name n passed).block_high r r128 v size
        (fills_block g v u name n fills) b m high ne

    -- in the same block: zeros where it is filled
    pub after_record_within : (m : ℕ) → m % records g ≢ n % records g
        → record_at g (written g held v u name n fills r) (write_block g held v u name n) m
        ≡ cond (fills_block g v u name n fills) (replicate 128 0) (record_at g v (write_block g held v u name n) m)
    after_record_within m ne =
        let p = write_passed g held v u name n passed in
        entry_apart (write_block g held v u name n) m p.block_low p.block_high
        ∙ record_put_filled_within g good (write_block g held v u name n) n p.block_high r r128 v size (fills_block g v u name n fills) m ne

    -- a byte outside the block is as if the entry alone were laid
    pub after_byte : (x : ℕ) → OffBlock g (write_block g held v u name n) x
        → byte (written g held v u name n fills r) x ≡ byte (put_slot g v (write_slot g v u name n) (entry_after g held v u name n)) x
    unfolding put_slot
    after_byte x out =
        let p = write_passed g held v u name n passed in
        ap (λ (l : List ℕ). byte l x) written_is ∙ byte_both data_laid v (slot_start g (write_slot g v u name n)) 32 (entry_after g held v u name n)
        (slot_inside g good data_laid stored_size (write_slot g v u name n) p.slot_in)
        (slot_inside g good v size (write_slot g v u name n) p.slot_in) after_32 x
        (byte_put_filled g good (write_block g held v u name n) n p.block_high r r128 v size (fills_block g v u name n fills) x out)

    -- ---- the record is found there, and is present
    before_own : (i : ℕ) → i < write_slot g v u name n → i < record_slot g v u name n
    unfolding write_slot
    before_own i h = go (has_group g v u name n) refl h (write_passed g held v u name n passed).slot_in
      where
        go : (t : Bool) → has_group g v u name n ≡ t → i < cond t (record_slot g v u name n) (find_slot g v u name Empty)
            → cond t (record_slot g v u name n) (find_slot g v u name Empty) < slots g → i < record_slot g v u name n
        go true q l s = l
        go false q l s = let m = ltb-false (record_slot g v u name n) (slots g) q in omega arith

    earlier : (i : ℕ) → i < write_slot g v u name n → slot_fits g (written g held v u name n fills r) u name (Group k) i ≡ false
    unfolding record_slot
    earlier i h =
        let p = (write_passed g held v u name n passed).slot_in in
        ap (of_group g u name k) (after_slot_other i (omega arith) (omega arith)) ∙ found_first g v u name (Group k) i (before_own i h)

    pub after_record_slot : record_slot g (written g held v u name n fills r) u name n ≡ write_slot g v u name n
    unfolding record_slot find_slot
    after_record_slot =
        let p = (write_passed g held v u name n passed).slot_in in
        low_is (slot_fits g (written g held v u name n fills r) u name (Group k)) 0 (slots g) (write_slot g v u name n)
        (record {
          from = omega arith;
          below = omega arith;
          passes = ap (of_group g u name k) after_slot ∙ after_group;
          first = λ i a b. earlier i b;
        })

    pub after_present : present g (written g held v u name n fills r) u name n ≡ true
    unfolding present
    after_present =
        rw (after_record_slot, after_slot, after_counted, lt-ltb (write_slot g v u name n) (slots g) (write_passed g held v u name n passed).slot_in)
