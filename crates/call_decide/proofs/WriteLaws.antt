-- A write's tests, slot, entry and block: what code decides step by step is what is defined, and what is known of them
-- where no test is met.
use mathlib.Core.Path.{◌≡◌, refl, sym, ap, ◌∙◌}
use mathlib.Core.Bool.{Bool, true, false, not, cond, ◌&&◌}
use mathlib.Core.List.{List, [], ◌∷◌, ◌++◌}
use Prim.Native.Nat.{ℕ, ◌/◌, ◌≤◌, ◌<◌}
use lib.Dec.{leb, ltb, eqb}
use lib.ListN.{length}
use borrow.Author.Tests.{ltb-true, ltb-false, leb-false, le-leb, lt-leb, not-false}
use Rattle.disk_volume.specs.Directory.{slot_at, find_slot}
use Rattle.disk_volume.specs.Entry.{Entry}
use Rattle.disk_geometry.specs.Geometry.{lawful, bytes, slots, inside, group_of, place_of}
use Rattle.disk_volume.specs.Record.{record_slot, record_block}
use Rattle.disk_geometry.specs.declared.Geometry.{Geometry}
use Rattle.disk_volume.specs.declared.Wanted.TheVariants.{Empty, File, ReadOnlyFile}
use Rattle.disk_volume.proofs.DirectoryLaws.{slot_length}
use Rattle.call_answers.proofs.Ladder.{unmet, ladder_stop, ladder_pass}
use Rattle.call_answers.specs.Refusal.{test, is_none, refusing, first, first_met}
use Rattle.call_answers.specs.declared.Refusal.{Refusal}
use Rattle.call_answers.specs.declared.Refusal.TheVariants.{None, NoFile, ReadOnly, Outside, NoSlot, NoBlock}
use Rattle.call_entry.specs.Alloc.{alloc}
use Rattle.call_entry.specs.Grown.{like_entry, base_of}
use Rattle.disk_geometry.proofs.InsideLaws.{inside_is, is_inside}
use Rattle.call_entry.proofs.AllocLaws.{alloc_given}
use Rattle.call_entry.proofs.GrowLaws.{length_like, length_written}
use Rattle.call_decide.specs.Write.{has_group, write_slot, base_entry, needs_block, write_block, entry_after, write_tests}
use Rattle.call_decide.specs.CodePlan.{own_or, from_slot, block_for, file_tests, room_tests}
use Rattle.disk_volume.proofs.FindLaws.{group_file}

-- ---- the tests in two groups, as code asks them
last : (why : Refusal) (met : Bool) → is_none why ≡ false → first (refusing why met) None ≡ refusing why met
last why true e = rw e
last why false e = refl

module _ (g : Geometry) (v : List ℕ) (u : ℕ) (name : List ℕ) (from : ℕ) where
  pub no_file : slots g ≤ from → first_met (file_tests g v u name from) ≡ NoFile
  unfolding first_met file_tests
  no_file h = rw (le-leb (slots g) from h)

  pub some_file : from < slots g → first_met (file_tests g v u name from) ≡ refusing ReadOnly (ltb (find_slot g v u name ReadOnlyFile) (slots g))
  unfolding first_met file_tests
  some_file h = rw (lt-leb (slots g) from h) (last ReadOnly (ltb (find_slot g v u name ReadOnlyFile) (slots g)) refl)

  pub file_there : is_none (first_met (file_tests g v u name from)) ≡ true → from < slots g
  unfolding file_tests
  file_there h = leb-false (slots g) from (unmet NoFile (leb (slots g) from) (test ReadOnly (ltb (find_slot g v u name ReadOnlyFile) (slots g)) ∷ []) refl h).0

module _ (g : Geometry) (held : List ℕ) (e : Entry) (slot n : ℕ) where
  pub own_block : eqb (record_block g e n) 0 ≡ false
      → first_met (room_tests g held e slot n) ≡ first (refusing Outside (not (inside g (record_block g e n)))) (refusing NoSlot (leb (slots g) slot))
  unfolding first_met room_tests
  own_block h = rw h (ap (first (refusing Outside (not (inside g (record_block g e n))))) (last NoSlot (leb (slots g) slot) refl))

  pub new_block : eqb (record_block g e n) 0 ≡ true
      → first_met (room_tests g held e slot n) ≡ first (refusing NoSlot (leb (slots g) slot)) (refusing NoBlock (leb g.blocks (alloc g held e (place_of g n))))
  unfolding first_met room_tests
  new_block h = rw h (ap (first (refusing NoSlot (leb (slots g) slot))) (last NoBlock (leb g.blocks (alloc g held e (place_of g n))) refl))

-- ---- slot and entry, step by step
module _ (g : Geometry) (v : List ℕ) (u : ℕ) (name : List ℕ) (n : ℕ) where
  pub record_file : record_slot g v u name n < slots g → find_slot g v u name File < slots g
  unfolding record_slot
  record_file h = group_file g v u name (group_of g (n / 128)) h

  pub base_is : base_entry g v u name n ≡ base_of g v (record_slot g v u name n) (from_slot g v u name n)
  unfolding base_entry base_of from_slot own_or
  base_is = go (has_group g v u name n)
    where
      go : (t : Bool) → cond t (slot_at g v (record_slot g v u name n)) (like_entry (slot_at g v (find_slot g v u name File)))
          ≡ cond t (slot_at g v (cond t (record_slot g v u name n) (find_slot g v u name File))) (like_entry (slot_at g v (cond t (record_slot g v u name n) (find_slot g v u name File))))
      go true = refl
      go false = refl

  pub slot_is : write_slot g v u name n ≡ own_or g v u name (record_slot g v u name n) Empty
  unfolding write_slot own_or
  slot_is = refl

  from_file : leb (slots g) (find_slot g v u name File) ≡ leb (slots g) (from_slot g v u name n)
  unfolding from_slot own_or
  from_file = go (has_group g v u name n) refl
    where
      go : (t : Bool) → has_group g v u name n ≡ t → leb (slots g) (find_slot g v u name File) ≡ leb (slots g) (cond t (record_slot g v u name n) (find_slot g v u name File))
      go true e =
          let h = ltb-true (record_slot g v u name n) (slots g) e in
          lt-leb (slots g) (find_slot g v u name File) (record_file h) ∙ sym (lt-leb (slots g) (record_slot g v u name n) h)
      go false e = refl

  slot_none : not (has_group g v u name n) && leb (slots g) (find_slot g v u name Empty) ≡ leb (slots g) (own_or g v u name (record_slot g v u name n) Empty)
  unfolding own_or
  slot_none = go (has_group g v u name n) refl
    where
      go : (t : Bool) → has_group g v u name n ≡ t → not t && leb (slots g) (find_slot g v u name Empty) ≡ leb (slots g) (cond t (record_slot g v u name n) (find_slot g v u name Empty))
      go true e = sym (lt-leb (slots g) (record_slot g v u name n) (ltb-true (record_slot g v u name n) (slots g) e))
      go false e = refl

  slot_chosen : not (has_group g v u name n) && leb (slots g) (find_slot g v u name Empty) ≡ false → write_slot g v u name n < slots g
  unfolding write_slot
  slot_chosen f = go (has_group g v u name n) refl f
    where
      go : (t : Bool) → has_group g v u name n ≡ t → not t && leb (slots g) (find_slot g v u name Empty) ≡ false
          → cond t (record_slot g v u name n) (find_slot g v u name Empty) < slots g
      go true e f = ltb-true (record_slot g v u name n) (slots g) e
      go false e f = leb-false (slots g) (find_slot g v u name Empty) f

  -- the entry that grows is a whole one, where the file exists
  pub length_base : lawful g ≡ true → length v ≡ bytes g → find_slot g v u name File < slots g → length (base_entry g v u name n) ≡ 32
  unfolding base_entry
  length_base good size h = go (has_group g v u name n) refl
    where
      go : (t : Bool) → has_group g v u name n ≡ t
          → length (cond t (slot_at g v (record_slot g v u name n)) (like_entry (slot_at g v (find_slot g v u name File)))) ≡ 32
      go true e = slot_length g good v size (record_slot g v u name n) (ltb-true (record_slot g v u name n) (slots g) e)
      go false e = length_like (slot_at g v (find_slot g v u name File)) (slot_length g good v size (find_slot g v u name File) h)

-- ---- tests and block
module _ (g : Geometry) (held v : List ℕ) (u : ℕ) (name : List ℕ) (n : ℕ) where
  pub block_is : write_block g held v u name n ≡ block_for g held (base_entry g v u name n) n
  unfolding write_block needs_block block_for
  block_is = refl

  pub tests_are : write_tests g held v u name n
      ≡ file_tests g v u name (from_slot g v u name n) ++ room_tests g held (base_entry g v u name n) (own_or g v u name (record_slot g v u name n) Empty) n
  unfolding write_tests needs_block file_tests room_tests
  tests_are = rw (from_file g v u name n, slot_none g v u name n)

  pub refused_file : is_none (first_met (file_tests g v u name (from_slot g v u name n))) ≡ false
      → first_met (write_tests g held v u name n) ≡ first_met (file_tests g v u name (from_slot g v u name n))
  refused_file h = ap first_met tests_are ∙ ladder_stop (file_tests g v u name (from_slot g v u name n)) _ h

  pub passed_file : is_none (first_met (file_tests g v u name (from_slot g v u name n))) ≡ true
      → first_met (write_tests g held v u name n)
      ≡ first_met (room_tests g held (base_entry g v u name n) (own_or g v u name (record_slot g v u name n) Empty) n)
  passed_file h = ap first_met tests_are ∙ ladder_pass (file_tests g v u name (from_slot g v u name n)) _ h

  -- ---- what is known where no test is met
  pub record Passed : Type 0 where
    pub file : find_slot g v u name File < slots g
    pub writable : slots g ≤ find_slot g v u name ReadOnlyFile
    pub slot_in : write_slot g v u name n < slots g
    pub block_low : g.directory_blocks ≤ write_block g held v u name n
    pub block_high : write_block g held v u name n < g.blocks

  block_chosen : not (needs_block g v u name n) && not (inside g (record_block g (base_entry g v u name n) n)) ≡ false
      → needs_block g v u name n && leb g.blocks (alloc g held (base_entry g v u name n) (place_of g n)) ≡ false
      → inside g (write_block g held v u name n) ≡ true
  unfolding write_block
  block_chosen f s = go (needs_block g v u name n) f s
    where
      go : (t : Bool) → not t && not (inside g (record_block g (base_entry g v u name n) n)) ≡ false
          → t && leb g.blocks (alloc g held (base_entry g v u name n) (place_of g n)) ≡ false
          → inside g (cond t (alloc g held (base_entry g v u name n) (place_of g n)) (record_block g (base_entry g v u name n) n)) ≡ true
      go true f s =
          let b = alloc_given g held (base_entry g v u name n) (place_of g n) (leb-false g.blocks (alloc g held (base_entry g v u name n) (place_of g n)) s) in
          is_inside g (alloc g held (base_entry g v u name n) (place_of g n)) b.low b.high
      go false f s = not-false (inside g (record_block g (base_entry g v u name n) n)) f

  pub write_passed : is_none (first_met (write_tests g held v u name n)) ≡ true → Passed
  unfolding write_tests
  write_passed h =
      let no_file = unmet NoFile _ _ refl h in
      let read_only = unmet ReadOnly _ _ refl no_file.1 in
      let outside = unmet Outside _ _ refl read_only.1 in
      let no_slot = unmet NoSlot _ _ refl outside.1 in
      let no_block = unmet NoBlock _ _ refl no_slot.1 in
      let b = inside_is g (write_block g held v u name n) (block_chosen outside.0 no_block.0) in
      record {
        file = leb-false (slots g) (find_slot g v u name File) no_file.0;
        writable = ltb-false (find_slot g v u name ReadOnlyFile) (slots g) read_only.0;
        slot_in = slot_chosen g v u name n no_slot.0;
        block_low = b.0;
        block_high = b.1;
      }

  pub length_entry_after : lawful g ≡ true → length v ≡ bytes g → is_none (first_met (write_tests g held v u name n)) ≡ true
      → length (entry_after g held v u name n) ≡ 32
  length_entry_after good size h =
      length_written g (base_entry g v u name n) n (write_block g held v u name n) ∙ length_base g v u name n good size (write_passed h).file
