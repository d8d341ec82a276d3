-- Each call does the same on the unskewed volume: the same refusal, or the same code, change of the state, stores, control block and
-- buffer; and each of its stores is a record of the volume's blocks.
use mathlib.Core.Path.{◌≡◌, refl, sym, ap, ◌∙◌}
use mathlib.Core.Bool.{Bool, true, false, not, cond, ◌&&◌, ◌||◌, true≢false}
use mathlib.Core.List.{List, [], ◌∷◌, ◌++◌}
use Prim.Native.Nat.{ℕ, ◌+◌, ◌%◌, ◌<◌}
use native.Mathlib.Omega.{arith}
use lib.Dec.{leb, ltb, eqb}
use lib.ListN.{length}
use borrow.Author.Tests.{eq-eqb, eqb-true, leb-false, not-false}
use Rattle.lists.specs.Bytes.{byte, part}
use Rattle.lists.proofs.PartLaws.{length_part}
use Rattle.disk_geometry.specs.declared.Geometry.{Geometry}
use Rattle.disk_geometry.specs.Geometry.{lawful, bytes, slots, inside}
use Rattle.disk_geometry.proofs.InsideLaws.{inside_is}
use Rattle.disk_volume.specs.declared.Wanted.TheVariants.{Empty, File}
use Rattle.disk_volume.specs.Fields.{NAME, EX}
use Rattle.disk_volume.specs.Name.{WILDCARD, name_of, good_name}
use Rattle.disk_volume.specs.Entry.{of_file, matches}
use Rattle.disk_volume.specs.Directory.{find_slot}
use Rattle.disk_volume.specs.Record.{slot_record}
use Rattle.disk_volume.proofs.FindLaws.{find_le}
use Rattle.disk_stores.specs.Stores.{Store, entry_stores}
use Rattle.call_answers.specs.declared.Refusal.{Refusal}
use Rattle.call_answers.specs.declared.Refusal.TheVariants.{Closed, VolumeLength, FcbLength, DriveCode, Name, Position, NoMatch, NoGroup, Absent, Outside}
use Rattle.call_answers.specs.Refusal.{Test, test, is_none, first_met}
use Rattle.call_answers.proofs.Ladder.{unmet}
use Rattle.call_fcb.specs.Fcb.{DR, NEWNAME, new_name, position, random, ex_fits, extent_fits, set_to, opened, made, with_random}
use Rattle.call_search.specs.Search.{kind_asked, pattern_of}
use Rattle.call_read.specs.Read.{read_block, read_tests}
use Rattle.call_sweep.specs.Sweep.{erased, renamed, attributed}
use Rattle.call_sweep.proofs.EditLaws.{erased_length, renamed_length, attributed_length}
use Rattle.call_make.specs.Make.{fresh_entry}
use Rattle.call_decide.specs.Write.{needs_block, write_block, write_slot, entry_after, write_tests}
use Rattle.call_decide.proofs.WriteLaws.{write_passed, length_entry_after}
use Rattle.call_store.specs.Stores.{data_then_entry}
use Rattle.filecalls.specs.declared.Drive.{Drive}
use Rattle.filecalls.specs.declared.KeptSearch.{KeptSearch}
use Rattle.filecalls.specs.State.{is_open}
use Rattle.filecalls.specs.Tests.{closed_state, volume_length, fcb_length, buffer_length, drive_code, bad_name, untypeable, too_large, protected_drive}
use Rattle.filecalls.specs.Outcome.{keeps, takes, frees, searches, Act, deny, done, act_stores, unless}
use Rattle.filecalls.specs.Open.{open_tests, open_act, close_tests, close_act, size_tests, size_act}
use Rattle.filecalls.specs.Search.{examined, kept_at, new_search, is_kept, hit_act, first_tests, search_first_act, next_tests, search_next_act}
use Rattle.filecalls.specs.Names.{delete_ladder, delete_act, make_ladder, make_act, rename_ladder, rename_act, attributes_ladder, attributes_act}
use Rattle.filecalls.specs.Read.{sequential_tests, random_tests, read_done, read_sequential_act, read_random_act}
use Rattle.filecalls.specs.Write.{write_entry, write_done, directory_tests, write_sequential_act, write_direct_act}
use Rattle.filecalls.proofs.StateLaws.{both_clear}
use Rattle.unskewed.specs.Unskewed.{straightened, unskewed}
use Rattle.unskewed.proofs.Logical.{straight_good, unskewed_size, Within, none}
use Rattle.unskewed.proofs.Seen.{slot_record_seen, find_seen}
use Rattle.unskewed.proofs.Asked.{open_seen, opened_seen, close_seen, hit_seen, size_seen, delete_tests_seen, make_tests_seen, rename_tests_seen, record_entry_seen, read_tests_seen, read_bytes_seen, write_slot_seen, needs_seen, write_block_seen, after_seen, write_tests_seen}
use Rattle.unskewed.proofs.Stored.{entry_seen, entry_within, sweep_seen, sweep_within, write_seen, write_within}
use Rattle.demands.specs.EightInch.{with_geometry}
use Rattle.demands.proofs.Demand2Writes.{clear_sequential, clear_random}
use Rattle.demands.proofs.NewEntry.{fresh_32}

-- the state with a straight geometry
abbrev pub placed : Drive → Drive
placed d = with_geometry d (straightened d.geometry)

pub placed_open : (d : Drive) → lawful d.geometry ≡ true → is_open (placed d) ≡ is_open d
unfolding is_open
placed_open d good = rw (straight_good d.geometry good, good)

-- ---- ladders
-- what is left of a ladder that is not met
later : (t : Test) (ts : List Test) → is_none (first_met (t ∷ ts)) ≡ true → is_none (first_met ts) ≡ true
later t ts h = (both_clear (t ∷ []) ts h).1

-- a control block that passed 34
fcb_36 : (f : List ℕ) (ts : List Test) → is_none (first_met (fcb_length f ∷ ts)) ≡ true → length f ≡ 36
fcb_36 f ts h = eqb-true (length f) 36 (not-false _ (unmet FcbLength (not (eqb (length f) 36)) ts refl h).0)

-- ---- acts
-- what a call does on the image, and what it does on the unskewed volume: the same, and P holds of its stores
pub record Same (P : List Store → Type 0) (act act' : Act) : Type 0 where
  pub same : act' ≡ act
  pub stores : P (act_stores act)

-- a call that stores nothing, and one whose stores are records of the volume's blocks
abbrev pub AsksSame : Act → Act → Type 0
AsksSame = Same (λ ss. ss ≡ [])

abbrev pub StoresSame : Geometry → Act → Act → Type 0
StoresSame g = Same (Within g)

same_unless : (P : List Store → Type 0) → P [] → (ts ts' : List Test) (act act' : Act) → ts' ≡ ts → (is_none (first_met ts) ≡ true → Same P act act')
    → Same P (unless ts act) (unless ts' act')
unfolding unless
same_unless P p ts ts' act act' e h = go (is_none (first_met ts)) refl
  where
    go : (t : Bool) → is_none (first_met ts) ≡ t
        → Same P (cond (is_none (first_met ts)) act (deny (first_met ts))) (cond (is_none (first_met ts')) act' (deny (first_met ts')))
    go true q = let k = h q in record { same = rw (e, q) k.same; stores = rw q k.stores }
    go false q = record { same = rw (e, q); stores = rw q p }

asks : (ts ts' : List Test) (act act' : Act) → ts' ≡ ts → (is_none (first_met ts) ≡ true → AsksSame act act') → AsksSame (unless ts act) (unless ts' act')
asks = same_unless (λ ss. ss ≡ []) refl

changes : (g : Geometry) (ts ts' : List Test) (act act' : Act) → ts' ≡ ts → (is_none (first_met ts) ≡ true → StoresSame g act act')
    → StoresSame g (unless ts act) (unless ts' act')
changes g = same_unless (Within g) none

module _ (d : Drive) (good : lawful d.geometry ≡ true) (v : List ℕ) (size : length v ≡ bytes d.geometry) where
  abbrev g : Geometry
  g = d.geometry

  abbrev s : Drive
  s = placed d

  abbrev w : List ℕ
  w = unskewed d.geometry v

  -- 32 and 33
  pub length_same : eqb (length w) (bytes (straightened g)) ≡ eqb (length v) (bytes g)
  length_same = eq-eqb _ _ (unskewed_size g good v size) ∙ sym (eq-eqb _ _ size)

  -- the first two tests of every ladder
  lent : (ts ts' : List Test) → ts' ≡ ts → closed_state s ∷ volume_length s w ∷ ts' ≡ closed_state d ∷ volume_length d v ∷ ts
  lent ts ts' e = λ i. test Closed (not (placed_open d good i)) ∷ test VolumeLength (not (length_same i)) ∷ e i

  -- ---- open, close, size
  pub open_act_lem : (f : List ℕ) → AsksSame (open_act d v f) (open_act s w f)
  unfolding open_act open_tests
  open_act_lem f =
      asks _ _ _ _
      (lent _ _ (λ i. fcb_length f ∷ drive_code f ∷ bad_name true f NAME ∷ too_large (ex_fits f)
      ∷ test NoMatch (leb (slots g) (open_seen g good v size d.user f i)) ∷ []))
      (λ h. record {
        same = λ i. done (open_seen g good v size d.user f i % 4) keeps [] (opened f (opened_seen g good v size d.user f i)) [];
        stores = refl;
      })

  pub close_act_lem : (f : List ℕ) → AsksSame (close_act d v f) (close_act s w f)
  unfolding close_act close_tests
  close_act_lem f =
      asks _ _ _ _
      (lent _ _ (λ i. fcb_length f ∷ drive_code f ∷ bad_name false f NAME ∷ too_large (extent_fits f)
      ∷ test NoMatch (leb (slots g) (close_seen g good v size d.user f i)) ∷ []))
      (λ h. record { same = λ i. done (close_seen g good v size d.user f i % 4) keeps [] f []; stores = refl })

  pub size_act_lem : (f : List ℕ) → AsksSame (size_act d v f) (size_act s w f)
  unfolding size_act size_tests
  size_act_lem f =
      asks _ _ _ _
      (lent _ _ (λ i. fcb_length f ∷ drive_code f ∷ bad_name false f NAME
      ∷ test NoMatch (leb (slots g) (find_seen g good v size d.user (name_of f) File i)) ∷ []))
      (λ h. record { same = λ i. done 0 keeps [] (with_random f (size_seen g good v size d.user (name_of f) i)) []; stores = refl })

  -- ---- search
  hit_act_lem : (f : List ℕ) (q : KeptSearch) (i i' : ℕ) → i' ≡ i → i < slots g → hit_act s w f q i' ≡ hit_act d v f q i
  unfolding hit_act
  hit_act_lem f q i i' e i< =
      ap (λ (x : ℕ). done (x % 4) (searches (kept_at q x)) [] f (slot_record (straightened g) w x)) e
      ∙ ap (done (i % 4) (searches (kept_at q i)) [] f) (slot_record_seen g good v size i (omega arith))

  no_match : (i : ℕ) (ts : List Test) → is_none (first_met (test NoMatch (leb (slots g) i) ∷ ts)) ≡ true → i < slots g
  no_match i ts h = leb-false (slots g) i (unmet NoMatch (leb (slots g) i) ts refl h).0

  pub first_act : (f b : List ℕ) → AsksSame (search_first_act d v f b) (search_first_act s w f b)
  unfolding search_first_act first_tests new_search hit_act
  first_act f b =
      let e = hit_seen g good v size d.user (kind_asked (byte f DR)) (pattern_of f) 0 in
      asks _ _ _ _
      (lent _ _ (λ i. fcb_length f ∷ buffer_length b
      ∷ test DriveCode (ltb 1 (byte f DR) && examined f)
      ∷ test Name (examined f && not (good_name true (name_of f)))
      ∷ test Position (examined f && ltb 31 (byte f EX) && not (eqb (byte f EX) WILDCARD))
      ∷ test NoMatch (leb (slots g) (e i)) ∷ []))
      (λ h. record {
        same = hit_act_lem f _ _ _ e (no_match _ _ (later _ _ (later _ _ (later _ _ (later _ _ (later _ _ (later _ _ (later _ _ h))))))));
        stores = refl;
      })

  next_hit_lem : (t : Bool) (i : ℕ) → is_none (first_met (test NoMatch (t || leb (slots g) i) ∷ [])) ≡ true → i < slots g
  next_hit_lem true i h = absurd (true≢false (unmet NoMatch true [] refl h).0)
  next_hit_lem false i h = no_match i [] h

  pub next_act : (b : List ℕ) → AsksSame (search_next_act d v b) (search_next_act s w b)
  unfolding search_next_act next_tests hit_act
  next_act b =
      let q = d.search in
      let e = hit_seen g good v size q.user q.kind q.pattern (q.last + 1) in
      asks _ _ _ _
      (lent _ _ (λ i. buffer_length b ∷ test NoMatch (not (is_kept q.kind) || leb (slots g) (e i)) ∷ []))
      (λ h. record { same = hit_act_lem [] q _ _ e (next_hit_lem (not (is_kept q.kind)) _ (later _ _ (later _ _ (later _ _ h)))); stores = refl })

  -- ---- delete, make, rename, attributes
  pub delete_act_lem : (f : List ℕ) → StoresSame g (delete_act d v f) (delete_act s w f)
  unfolding delete_act delete_ladder
  delete_act_lem f =
      changes g _ _ _ _
      (lent _ _ (λ i. fcb_length f ∷ drive_code f ∷ bad_name true f NAME ∷ protected_drive d ∷ delete_tests_seen g good v size d.user (name_of f) i))
      (λ h. record {
        same = λ i. done 0 (frees d.user (name_of f)) (sweep_seen g good v size (matches d.user (name_of f)) erased i) f [];
        stores = sweep_within g good v size (matches d.user (name_of f)) erased erased_length;
      })

  pub make_act_lem : (f : List ℕ) → StoresSame g (make_act d v f) (make_act s w f)
  unfolding make_act make_ladder
  make_act_lem f =
      let i₀ = find_slot g v d.user (name_of f) Empty in
      let e = find_seen g good v size d.user (name_of f) Empty in
      let le = find_le g v d.user (name_of f) Empty in
      changes g _ _ _ _
      (lent _ _ (λ i. fcb_length f ∷ drive_code f ∷ bad_name false f NAME ∷ untypeable f NAME ∷ too_large (eqb (byte f EX) 0)
      ∷ protected_drive d ∷ make_tests_seen g good v size d.user (name_of f) i))
      (λ h. record {
        same =
            ap (λ (x : ℕ). done (x % 4) keeps (entry_stores (straightened g) w x (fresh_entry d.user (name_of f))) (made f (name_of f)) []) e
            ∙ ap (λ (x : List Store). done (i₀ % 4) keeps x (made f (name_of f)) []) (entry_seen g good v size i₀ le (fresh_entry d.user (name_of f)));
        stores = entry_within g good v size i₀ le (fresh_entry d.user (name_of f))
            (fresh_32 d.user f (fcb_36 f _ (later _ _ (later _ _ h))));
      })

  pub rename_act_lem : (f : List ℕ) → StoresSame g (rename_act d v f) (rename_act s w f)
  unfolding rename_act rename_ladder
  rename_act_lem f =
      let meant = of_file d.user (name_of f) in
      changes g _ _ _ _
      (lent _ _ (λ i. fcb_length f ∷ drive_code f ∷ bad_name false f NAME ∷ bad_name false f NEWNAME ∷ untypeable f NEWNAME
      ∷ protected_drive d ∷ rename_tests_seen g good v size d.user (name_of f) (new_name f) i))
      (λ h.
      let l : length f ≡ 36 = fcb_36 f _ (later _ _ (later _ _ h)) in
      record {
        same = λ i. done 0 keeps (sweep_seen g good v size meant (λ e. renamed e (part f 17 11)) i) f [];
        stores = sweep_within g good v size meant (λ e. renamed e (part f 17 11)) (renamed_length (part f 17 11) (length_part f 17 11 (omega arith)));
      })

  pub attributes_act_lem : (f : List ℕ) → StoresSame g (attributes_act d v f) (attributes_act s w f)
  unfolding attributes_act attributes_ladder
  attributes_act_lem f =
      let meant = of_file d.user (name_of f) in
      changes g _ _ _ _
      (lent _ _ (λ i. fcb_length f ∷ drive_code f ∷ bad_name false f NAME ∷ protected_drive d
      ∷ test NoMatch (leb (slots g) (find_seen g good v size d.user (name_of f) File i)) ∷ []))
      (λ h. record {
        same = λ i. done 0 keeps (sweep_seen g good v size meant (λ e. attributed e (part f 1 11)) i) f [];
        stores = sweep_within g good v size meant (λ e. attributed e (part f 1 11)) (attributed_length (part f 1 11));
      })

  -- ---- reads
  sequential_tests_lem : (f b : List ℕ) → sequential_tests s w f b ≡ sequential_tests d v f b
  unfolding sequential_tests
  sequential_tests_lem f b = lent _ _ refl

  random_tests_lem : (f b : List ℕ) → random_tests s w f b ≡ random_tests d v f b
  unfolding random_tests
  random_tests_lem f b = lent _ _ refl

  read_done_lem : (f : List ℕ) (n cr : ℕ) (missing : Refusal) → is_none (first_met (read_tests g v d.user (name_of f) n missing)) ≡ true
      → AsksSame (read_done d v f n cr) (read_done s w f n cr)
  unfolding read_done read_tests
  read_done_lem f n cr missing h =
      let b = read_block g v d.user (name_of f) n in
      let b< = (inside_is g b (not-false _ (unmet Outside (not (inside g b)) [] refl (later _ _ (later _ _ (later _ _ h)))).0)).1 in
      record {
        same = λ i. done 0 keeps [] (set_to f (record_entry_seen g good v size d.user (name_of f) n i) n cr)
            (read_bytes_seen g good v size d.user (name_of f) n b< i);
        stores = refl;
      }

  pub read_sequential_act_lem : (f b : List ℕ) → AsksSame (read_sequential_act d v f b) (read_sequential_act s w f b)
  unfolding read_sequential_act
  read_sequential_act_lem f b =
      asks _ _ _ _ (λ i. sequential_tests_lem f b i ++ read_tests_seen g good v size d.user (name_of f) (position f) Absent i)
      (λ h. read_done_lem f (position f) (position f % 128 + 1) Absent (both_clear (sequential_tests d v f b) _ h).1)

  pub read_random_act_lem : (f b : List ℕ) → AsksSame (read_random_act d v f b) (read_random_act s w f b)
  unfolding read_random_act
  read_random_act_lem f b =
      asks _ _ _ _ (λ i. random_tests_lem f b i ++ read_tests_seen g good v size d.user (name_of f) (random f) NoGroup i)
      (λ h. read_done_lem f (random f) (random f % 128) NoGroup (both_clear (random_tests d v f b) _ h).1)

  -- ---- writes
  write_done_lem : (f : List ℕ) (n cr : ℕ) (fills : Bool) (b : List ℕ) → length b ≡ 128
      → is_none (first_met (write_tests g d.held v d.user (name_of f) n)) ≡ true
      → StoresSame g (write_done d v f n cr fills b) (write_done s w f n cr fills b)
  unfolding write_done write_entry
  write_done_lem f n cr fills b b128 h =
      let u = d.user in
      let name = name_of f in
      let p = write_passed g d.held v u name n h in
      let block = write_block g d.held v u name n in
      let slot = write_slot g v u name n in
      let entry = entry_after g d.held v u name n in
      let stores
      = (λ i. data_then_entry (straightened g) (fills && needs_seen g good v size u name n i) w (write_block_seen g good v size u name n d.held i) n b
      (write_slot_seen g good v size u name n i) (after_seen g good v size u name n d.held i))
      ∙ write_seen g good v size (fills && needs_block g v u name n) block n p.block_high b b128 slot (omega (arith, p.slot_in)) entry in
      record {
        same = λ i. done 0 (takes (needs_seen g good v size u name n i) (write_block_seen g good v size u name n d.held i)) (stores i)
            (set_to f (after_seen g good v size u name n d.held i) n cr) b;
        stores = write_within g good v size (fills && needs_block g v u name n) block n p.block_high b b128 slot (omega (arith, p.slot_in)) entry
            (length_entry_after g d.held v u name n good size h);
      }

  directory_tests_lem : (f : List ℕ) (n : ℕ) → directory_tests s w f n ≡ directory_tests d v f n
  directory_tests_lem f n = λ i. protected_drive d ∷ write_tests_seen g good v size d.user (name_of f) n d.held i

  pub write_sequential_act_lem : (f b : List ℕ) → StoresSame g (write_sequential_act d v f b) (write_sequential_act s w f b)
  unfolding write_sequential_act
  write_sequential_act_lem f b =
      changes g _ _ _ _ (λ i. sequential_tests_lem f b i ++ directory_tests_lem f (position f) i)
      (λ h.
      let l = clear_sequential d v f b h in
      write_done_lem f (position f) (position f % 128 + 1) false b l.record128 l.passed)

  pub write_direct_act_lem : (fills : Bool) (f b : List ℕ) → StoresSame g (write_direct_act fills d v f b) (write_direct_act fills s w f b)
  write_direct_act_lem fills f b =
      changes g _ _ _ _ (λ i. random_tests_lem f b i ++ directory_tests_lem f (random f) i)
      (λ h.
      let l = clear_random d v f b h in
      write_done_lem f (random f) (random f % 128) fills b l.record128 l.passed)
