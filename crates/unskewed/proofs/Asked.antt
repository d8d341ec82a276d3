-- What the calls ask of the directory is answered alike on the unskewed volume: which slot is meant, which tests are met, which
-- block a record has or is given, and which blocks a delete frees.
use mathlib.Core.Path.{◌≡◌, refl, ap, ◌∙◌}
use mathlib.Core.Bool.{true, not, cond, ◌&&◌}
use mathlib.Core.List.{List, [], ◌∷◌}
use Prim.Native.Nat.{ℕ, zero, suc, ◌+◌, ◌/◌, ◌≤◌, ◌<◌, max}
use native.Mathlib.Omega.{arith}
use lib.Dec.{leb, ltb, eqb}
use lib.ListN.{length}
use Rattle.lists.specs.Bounded.{fold}
use Rattle.lists.specs.Bytes.{byte}
use Rattle.disk_geometry.specs.declared.Geometry.{Geometry}
use Rattle.disk_geometry.specs.Geometry.{lawful, bytes, slots, blocks, directory_blocks_of, group_of, places, place_of, inside}
use Rattle.disk_volume.specs.declared.Wanted.TheVariants.{Empty, File, ReadOnlyFile, Group, Match, ReadOnlyMatch, MatchGroup}
use Rattle.disk_volume.specs.Fields.{EX}
use Rattle.disk_volume.specs.Name.{name_of, name_at}
use Rattle.disk_volume.specs.Entry.{Entry, extent, block_in, with_block, of_file, matches}
use Rattle.disk_volume.specs.Directory.{slot_at}
use Rattle.disk_volume.specs.Record.{record_slot, record_block, counted, present, record_at}
use Rattle.disk_held.specs.Held.{lowest_free}
use Rattle.call_answers.specs.declared.Refusal.{Refusal}
use Rattle.call_answers.specs.declared.Refusal.TheVariants.{NoMatch, NoFile, ReadOnly, Exists, Absent, Outside, NoSlot, NoBlock}
use Rattle.call_answers.specs.Refusal.{test}
use Rattle.call_open.specs.Open.{open_slot, close_slot}
use Rattle.call_search.specs.declared.SearchKind.{SearchKind}
use Rattle.call_search.specs.declared.SearchKind.TheVariants.{Nothing, Pattern, Everything}
use Rattle.call_search.specs.Search.{sought, hit_from}
use Rattle.call_size.specs.Size.{entry_end, larger, size_of}
use Rattle.call_read.specs.Read.{read_block, read_tests, read_bytes}
use Rattle.call_delete.specs.Delete.{delete_tests, free_place, free_entry, free_slot, free_matches}
use Rattle.call_make.specs.Make.{make_tests}
use Rattle.call_rename.specs.Rename.{rename_tests}
use Rattle.call_entry.specs.Alloc.{nearest_below, alloc}
use Rattle.call_entry.specs.Grown.{like_entry, written_entry}
use Rattle.call_decide.specs.Write.{write_slot, base_entry, needs_block, write_block, entry_after, write_tests}
use Rattle.unskewed.specs.Unskewed.{straightened, unskewed}
use Rattle.unskewed.proofs.Seen.{slot_seen, block_seen, from_seen, find_seen, found_seen}

-- ---- a step for each of some numbers
fold_ext : {A : Type 0} (f h : A → ℕ → A) (a : A) (i k : ℕ) → ((x : A) (m : ℕ) → i ≤ m → m < i + k → f x m ≡ h x m) → fold f a i k ≡ fold h a i k
unfolding fold
fold_ext f h a i zero e = refl
fold_ext f h a i (suc k) e =
    ap (λ (x : _). fold f x (suc i) k) (e a i (omega arith) (omega arith))
    ∙ fold_ext f h (h a i) (suc i) k (λ x m low high. e x m (omega arith) (omega arith))

-- ---- what does not look at the placing
module _ (g : Geometry) where
  sought_same : (kind : SearchKind) (ex : ℕ) → sought (straightened g) kind ex ≡ sought g kind ex
  unfolding group_of
  sought_same Nothing ex = refl
  sought_same Pattern ex = refl
  sought_same Everything ex = refl

  nearest_same : (e : Entry) (p : ℕ) → nearest_below (straightened g) e p ≡ nearest_below g e p
  unfolding nearest_below block_in
  nearest_same e zero = refl
  nearest_same e (suc p) = ap (λ (x : ℕ). cond (eqb (block_in g e p) 0) x (block_in g e p)) (nearest_same e p)

  alloc_same : (held : List ℕ) (e : Entry) (p : ℕ) → alloc (straightened g) held e p ≡ alloc g held e p
  unfolding alloc
  alloc_same held e p =
      ap
      (λ (x : ℕ).
      cond (ltb (lowest_free held (max (directory_blocks_of g) (x + 1)) (blocks g)) (blocks g)) (lowest_free held (max (directory_blocks_of g) (x + 1)) (blocks g)) (lowest_free held (directory_blocks_of g) (blocks g)))
      (nearest_same e p)

  pub written_same : (e : Entry) (n b : ℕ) → written_entry (straightened g) e n b ≡ written_entry g e n b
  unfolding written_entry with_block place_of
  written_same e n b = refl

  free_same : (e : Entry) (held : List ℕ) → free_entry (straightened g) e held ≡ free_entry g e held
  unfolding free_entry free_place inside places block_in
  free_same e held = refl

-- ---- a volume of the geometry's length, a user and a name (or pattern)
module _ (g : Geometry) (good : lawful g ≡ true) (v : List ℕ) (size : length v ≡ bytes g) (u : ℕ) where
  -- open, close, search, size
  pub open_seen : (fcb : List ℕ) → open_slot (straightened g) (unskewed g v) u fcb ≡ open_slot g v u fcb
  unfolding open_slot group_of
  open_seen fcb = find_seen g good v size u (name_of fcb) (MatchGroup (group_of g (byte fcb EX)))

  pub opened_seen : (fcb : List ℕ) → slot_at (straightened g) (unskewed g v) (open_slot (straightened g) (unskewed g v) u fcb) ≡ slot_at g v (open_slot g v u fcb)
  unfolding open_slot group_of
  opened_seen fcb = found_seen g good v size u (name_of fcb) (MatchGroup (group_of g (byte fcb EX)))

  pub close_seen : (fcb : List ℕ) → close_slot (straightened g) (unskewed g v) u fcb ≡ close_slot g v u fcb
  unfolding close_slot group_of
  close_seen fcb = find_seen g good v size u (name_of fcb) (Group (group_of g (extent fcb)))

  pub hit_seen : (kind : SearchKind) (pattern : List ℕ) (i : ℕ) → hit_from (straightened g) (unskewed g v) kind u pattern i ≡ hit_from g v kind u pattern i
  unfolding hit_from
  hit_seen kind pattern i = rw (sought_same g kind (byte pattern 11)) (from_seen g good v size u (name_at pattern 0) (sought g kind (byte pattern 11)) i)

  pub size_seen : (name : List ℕ) → size_of (straightened g) (unskewed g v) u name ≡ size_of g v u name
  unfolding size_of larger
  size_seen name =
      fold_ext _ _ 0 0 (slots g) (λ m i low high.
      ap (λ (e : Entry). cond (of_file u name e) (max m (entry_end e)) m) (slot_seen g good v size i (omega arith)))

  -- the tests of delete, make and rename
  pub delete_tests_seen : (pattern : List ℕ) → delete_tests (straightened g) (unskewed g v) u pattern ≡ delete_tests g v u pattern
  unfolding delete_tests
  delete_tests_seen pattern = rw (find_seen g good v size u pattern Match, find_seen g good v size u pattern ReadOnlyMatch)

  pub make_tests_seen : (name : List ℕ) → make_tests (straightened g) (unskewed g v) u name ≡ make_tests g v u name
  unfolding make_tests
  make_tests_seen name = rw (find_seen g good v size u name File, find_seen g good v size u name Empty)

  pub rename_tests_seen : (name new : List ℕ) → rename_tests (straightened g) (unskewed g v) u name new ≡ rename_tests g v u name new
  unfolding rename_tests
  rename_tests_seen name new =
      λ i.
      test NoMatch (leb (slots g) (find_seen g good v size u name File i))
      ∷ test ReadOnly (ltb (find_seen g good v size u name ReadOnlyFile i) (slots g))
      ∷ test Exists (ltb (find_seen g good v size u new File i) (slots g))
      ∷ []

  -- the blocks that a delete frees
  pub freed_seen : (pattern held : List ℕ) → free_matches (straightened g) (unskewed g v) u pattern held ≡ free_matches g v u pattern held
  unfolding free_matches free_slot
  freed_seen pattern held =
      fold_ext _ _ held 0 (slots g) (λ h i low high.
      ap (λ (e : Entry). cond (matches u pattern e) (free_entry (straightened g) e h) h) (slot_seen g good v size i (omega arith))
      ∙ ap (λ (x : List ℕ). cond (matches u pattern (slot_at g v i)) x h) (free_same g (slot_at g v i) h))

  -- ---- record n of a file
  module _ (name : List ℕ) (n : ℕ) where
    pub record_slot_seen : record_slot (straightened g) (unskewed g v) u name n ≡ record_slot g v u name n
    unfolding record_slot group_of
    record_slot_seen = find_seen g good v size u name (Group (group_of g (n / 128)))

    pub record_entry_seen : slot_at (straightened g) (unskewed g v) (record_slot (straightened g) (unskewed g v) u name n) ≡ slot_at g v (record_slot g v u name n)
    unfolding record_slot group_of
    record_entry_seen = found_seen g good v size u name (Group (group_of g (n / 128)))

    present_seen : present (straightened g) (unskewed g v) u name n ≡ present g v u name n
    unfolding present counted block_in place_of
    present_seen = λ i. ltb (record_slot_seen i) (slots g) && counted g (record_entry_seen i) n

    pub read_block_seen : read_block (straightened g) (unskewed g v) u name n ≡ read_block g v u name n
    unfolding read_block block_in place_of
    read_block_seen = λ i. record_block g (record_entry_seen i) n

    pub read_tests_seen : (missing : Refusal) → read_tests (straightened g) (unskewed g v) u name n missing ≡ read_tests g v u name n missing
    unfolding read_tests inside
    read_tests_seen missing =
        λ i.
        test NoFile (leb (slots g) (find_seen g good v size u name File i))
        ∷ test missing (leb (slots g) (record_slot_seen i))
        ∷ test Absent (not (present_seen i))
        ∷ test Outside (not (inside g (read_block_seen i)))
        ∷ []

    pub read_bytes_seen : read_block g v u name n < g.blocks → read_bytes (straightened g) (unskewed g v) u name n ≡ read_bytes g v u name n
    unfolding read_bytes
    read_bytes_seen h = ap (λ (b : ℕ). record_at (straightened g) (unskewed g v) b n) read_block_seen ∙ block_seen g good v size (read_block g v u name n) n h

    -- what a write means
    pub write_slot_seen : write_slot (straightened g) (unskewed g v) u name n ≡ write_slot g v u name n
    unfolding write_slot
    write_slot_seen = λ i. cond (ltb (record_slot_seen i) (slots g)) (record_slot_seen i) (find_seen g good v size u name Empty i)

    base_seen : base_entry (straightened g) (unskewed g v) u name n ≡ base_entry g v u name n
    unfolding base_entry
    base_seen = λ i. cond (ltb (record_slot_seen i) (slots g)) (record_entry_seen i) (like_entry (found_seen g good v size u name File i))

    pub needs_seen : needs_block (straightened g) (unskewed g v) u name n ≡ needs_block g v u name n
    unfolding needs_block block_in place_of
    needs_seen = λ i. eqb (record_block g (base_seen i) n) 0

    given_seen : (held : List ℕ) → alloc (straightened g) held (base_entry (straightened g) (unskewed g v) u name n) (place_of (straightened g) n) ≡ alloc g held (base_entry g v u name n) (place_of g n)
    unfolding place_of
    given_seen held = alloc_same g held (base_entry (straightened g) (unskewed g v) u name n) (place_of g n) ∙ ap (λ (e : Entry). alloc g held e (place_of g n)) base_seen

    pub write_block_seen : (held : List ℕ) → write_block (straightened g) held (unskewed g v) u name n ≡ write_block g held v u name n
    unfolding write_block block_in place_of
    write_block_seen held = λ i. cond (needs_seen i) (given_seen held i) (record_block g (base_seen i) n)

    pub after_seen : (held : List ℕ) → entry_after (straightened g) held (unskewed g v) u name n ≡ entry_after g held v u name n
    after_seen held =
        written_same g (base_entry (straightened g) (unskewed g v) u name n) n (write_block (straightened g) held (unskewed g v) u name n)
        ∙ (λ i. written_entry g (base_seen i) n (write_block_seen held i))

    pub write_tests_seen : (held : List ℕ) → write_tests (straightened g) held (unskewed g v) u name n ≡ write_tests g held v u name n
    unfolding write_tests inside block_in place_of
    write_tests_seen held =
        λ i.
        test NoFile (leb (slots g) (find_seen g good v size u name File i))
        ∷ test ReadOnly (ltb (find_seen g good v size u name ReadOnlyFile i) (slots g))
        ∷ test Outside (not (needs_seen i) && not (inside g (record_block g (base_seen i) n)))
        ∷ test NoSlot (not (ltb (record_slot_seen i) (slots g)) && leb (slots g) (find_seen g good v size u name Empty i))
        ∷ test NoBlock (needs_seen i && leb (blocks g) (given_seen held i))
        ∷ []
