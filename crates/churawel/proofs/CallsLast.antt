-- Every call on an open state that is carried leaves such a state; log-in leaves one that is carried.
use mathlib.Core.Path.{◌≡◌, refl}
use mathlib.Core.Bool.{Bool, true, false, not, cond, ◌&&◌, true≢false}
use mathlib.Core.List.{List, [], ◌++◌}
use Prim.Native.Nat.{ℕ, ◌+◌, ◌*◌, ◌≤◌, ◌<◌}
use native.Mathlib.Omega.{arith}
use lib.Dec.{leb, ltb, eqb}
use lib.ListN.{length}
use borrow.Author.Tests.{not-false, eqb-true, eqb-false, ltb-false, lt-ltb, le-leb}
use Rattle.lists.specs.Bytes.{byte}
use Rattle.lists.proofs.BoolLaws.{and_parts, or_parts}
use Rattle.lists.proofs.PartLaws.{length_part}
use Rattle.disk_geometry.specs.Geometry.{blocks, slots}
use Rattle.disk_volume.specs.Name.{name_of, good_name}
use Rattle.call_fcb.specs.Fcb.{position, random}
use Rattle.call_answers.specs.declared.Refusal.TheVariants.{Closed, VolumeLength, FcbLength, BufferLength, DriveCode, UserCode, Name, Position, Protected, NoMatch, NoGroup, Absent}
use Rattle.call_answers.specs.Refusal.{is_none, first_met}
use Rattle.call_answers.proofs.Ladder.{unmet}
use Rattle.disk_held.specs.Held.{word_bits}
use Rattle.disk_held.proofs.WordsLaws.{first_hold}
use Rattle.call_search.specs.declared.SearchKind.{SearchKind}
use Rattle.call_search.specs.declared.SearchKind.TheVariants.{Nothing, Pattern, Everything}
use Rattle.call_search.specs.Search.{kind_asked, pattern_of}
use Rattle.call_read.specs.Read.{read_tests}
use Rattle.call_decide.specs.Write.{needs_block, write_block}
use Rattle.call_decide.proofs.WriteLaws.{write_passed}
use Rattle.filecalls.specs.declared.Drive.{Drive}
use Rattle.filecalls.specs.State.{good_pattern, good_kept}
use Rattle.call_write.specs.Write.{hold_if}
use Rattle.filecalls.specs.Outcome.{keeps, takes, becomes, protects, frees, searches, done, with_held, changed_state}
use Rattle.filecalls.specs.Open.{open_tests, open_act, close_tests, close_act, size_tests, size_act}
use Rattle.filecalls.specs.Search.{examined, hit, is_kept, kept_at, new_search, hit_act, first_tests, search_first_act, next_tests, search_next_act}
use Rattle.filecalls.specs.Names.{delete_ladder, delete_act, make_ladder, make_act, rename_ladder, rename_act, attributes_ladder, attributes_act}
use Rattle.filecalls.specs.Read.{sequential_tests, random_tests, read_done, read_sequential_act, read_random_act}
use Rattle.filecalls.specs.Write.{directory_tests, write_done, write_sequential_act, write_direct_act, write_random_act, write_zero_fill_act}
use Rattle.filecalls.specs.Small.{protect_tests, protect_act, user_tests, user_act, set_random_tests, set_random_act}
use Rattle.filecalls.proofs.StateLaws.{is_open_lem, both_clear}
use Rattle.filecalls.specs.Leaves.{read_sequential_leaves, write_sequential_leaves}
use Rattle.several.specs.Several.{on_piece, several}
use Rattle.several.proofs.SeveralLaws.{several_keeps}
use Rattle.drive_bytes.specs.Layout.{stored_words}
use Rattle.churawel.proofs.LastingLaws.{Lasts, Lasting, does, lasting_unless, outcome_lasts, held_lasts, protects_lasts, user_lasts, search_lasts, words_free, words_of, block_room, hit_low, first_pattern}

module _ (d : Drive) (v f b : List ℕ) (l : Lasts d) where
  still : Lasts (changed_state d v keeps)
  unfolding changed_state
  still = l

  -- ---- the writes
  -- a block that is newly given is one below T
  write_lasts : (n : ℕ) → is_none (first_met (directory_tests d v f n)) ≡ true
      → Lasts (changed_state d v (takes (needs_block d.geometry v d.user (name_of f) n) (write_block d.geometry d.held v d.user (name_of f) n)))
  unfolding changed_state
  write_lasts n h = go (needs_block d.geometry v d.user (name_of f) n)
    where
      low : write_block d.geometry d.held v d.user (name_of f) n < word_bits * stored_words (blocks d.geometry)
      low =
          block_room d.geometry (is_open_lem d l.opens).law _
          (write_passed d.geometry d.held v d.user (name_of f) n (unmet Protected _ _ refl h).1).block_high

      go : (t : Bool) → Lasts (with_held d (hold_if t d.held (write_block d.geometry d.held v d.user (name_of f) n)))
      go true = held_lasts d l _ (first_hold _ d.held _ low (words_of d l.carried))
      go false = held_lasts d l _ (words_of d l.carried)

  pub write_sequential_lasting : Lasting d v (write_sequential_act d v f b)
  unfolding write_sequential_act write_done
  write_sequential_lasting =
      lasting_unless (sequential_tests d v f b ++ directory_tests d v f (position f)) _
      (λ h. does (write_lasts (position f) (both_clear (sequential_tests d v f b) (directory_tests d v f (position f)) h).1))

  write_direct_lasting : (fills : Bool) → Lasting d v (write_direct_act fills d v f b)
  unfolding write_done
  write_direct_lasting fills =
      lasting_unless (random_tests d v f b ++ directory_tests d v f (random f)) _
      (λ h. does (write_lasts (random f) (both_clear (random_tests d v f b) (directory_tests d v f (random f)) h).1))

  pub write_random_lasting : Lasting d v (write_random_act d v f b)
  unfolding write_random_act
  write_random_lasting = write_direct_lasting false

  pub write_zero_fill_lasting : Lasting d v (write_zero_fill_act d v f b)
  unfolding write_zero_fill_act
  write_zero_fill_lasting = write_direct_lasting true

  -- ---- the calls on names
  pub delete_lasting : Lasting d v (delete_act d v f)
  unfolding delete_act
  delete_lasting = lasting_unless (delete_ladder d v f) _ (λ h. does freed)
    where
      freed : Lasts (changed_state d v (frees d.user (name_of f)))
      freed = unfold changed_state in held_lasts d l _ (words_free d.geometry (is_open_lem d l.opens).law v d.user (name_of f) d.held (words_of d l.carried))

  pub make_lasting : Lasting d v (make_act d v f)
  unfolding make_act
  make_lasting = lasting_unless (make_ladder d v f) _ (λ h. does still)

  pub rename_lasting : Lasting d v (rename_act d v f)
  unfolding rename_act
  rename_lasting = lasting_unless (rename_ladder d v f) _ (λ h. does still)

  pub attributes_lasting : Lasting d v (attributes_act d v f)
  unfolding attributes_act
  attributes_lasting = lasting_unless (attributes_ladder d v f) _ (λ h. does still)

  -- ---- the calls that only read
  pub open_lasting : Lasting d v (open_act d v f)
  unfolding open_act
  open_lasting = lasting_unless (open_tests d v f) _ (λ h. does still)

  pub close_lasting : Lasting d v (close_act d v f)
  unfolding close_act
  close_lasting = lasting_unless (close_tests d v f) _ (λ h. does still)

  pub size_lasting : Lasting d v (size_act d v f)
  unfolding size_act
  size_lasting = lasting_unless (size_tests d v f) _ (λ h. does still)

  pub read_sequential_lasting : Lasting d v (read_sequential_act d v f b)
  unfolding read_sequential_act read_done
  read_sequential_lasting =
      lasting_unless (sequential_tests d v f b ++ read_tests d.geometry v d.user (name_of f) (position f) Absent) _ (λ h. does still)

  pub read_random_lasting : Lasting d v (read_random_act d v f b)
  unfolding read_random_act read_done
  read_random_lasting = lasting_unless (random_tests d v f b ++ read_tests d.geometry v d.user (name_of f) (random f) NoGroup) _ (λ h. does still)

  -- ---- the calls that look at no volume
  pub protect_lasting : Lasting d v (protect_act d)
  unfolding protect_act
  protect_lasting = lasting_unless (protect_tests d) _ (λ h. does guarded)
    where
      guarded : Lasts (changed_state d v protects)
      guarded = unfold changed_state in protects_lasts d l

  pub set_random_lasting : Lasting d v (set_random_act d f)
  unfolding set_random_act
  set_random_lasting = lasting_unless (set_random_tests d f) _ (λ h. does still)

  -- a code that is no 255 and was not refused is 0 to 15
  low_code : (p : ℕ) → p < 256 → is_none (first_met (user_tests d p)) ≡ true → eqb p 255 ≡ false → p ≤ 15
  unfolding user_tests
  low_code p small h n =
      let met = (unmet UserCode (ltb 15 p && ltb p 255) [] refl (unmet Closed _ _ refl h).1).0 in
      go (ltb 15 p) (ltb p 255) refl refl met
    where
      go : (t u : Bool) → ltb 15 p ≡ t → ltb p 255 ≡ u → (ltb 15 p && ltb p 255) ≡ false → p ≤ 15
      go false u x y e = ltb-false 15 p x
      go true true x y e = absurd (true≢false (rw (x, y) at e))
      go true false x y e = absurd (omega (arith, ltb-false p 255 y, eqb-false p 255 n, small))

  pub user_lasting : (p : ℕ) → p < 256 → Lasting d v (user_act d p)
  unfolding user_act
  user_lasting p small = lasting_unless (user_tests d p) _ (λ h. go (eqb p 255) refl h)
    where
      becomes_lasts : p ≤ 15 → Lasts (changed_state d v (becomes p))
      becomes_lasts k = unfold changed_state in user_lasts d l p k

      go : (t : Bool) → eqb p 255 ≡ t → is_none (first_met (user_tests d p)) ≡ true
          → Lasting d v (cond t (done d.user keeps [] [] []) (done 0 (becomes p) [] [] []))
      go true e h = does still
      go false e h = does (becomes_lasts (low_code p small h e))

-- ---- several records: each single call leaves a state that lasts
pub read_several_lasts : (d : Drive) (v f b : List ℕ) (k : ℕ) → Lasts d → Lasts (several read_sequential_leaves d v f b k).drive
unfolding on_piece
read_several_lasts =
    several_keeps read_sequential_leaves (λ d v f b. Lasts d) (λ i d v f b l. outcome_lasts d v f _ (read_sequential_act d v f _) l (read_sequential_lasting d v f _ l))

pub write_several_lasts : (d : Drive) (v f b : List ℕ) (k : ℕ) → Lasts d → Lasts (several write_sequential_leaves d v f b k).drive
unfolding on_piece
write_several_lasts =
    several_keeps write_sequential_leaves (λ d v f b. Lasts d) (λ i d v f b l. outcome_lasts d v f _ (write_sequential_act d v f _) l (write_sequential_lasting d v f _ l))

-- ---- the searches
-- a search that is within the rules stays so at another slot
good_at_lem : (kind : SearchKind) (user last i : ℕ) (pattern : List ℕ) (n : ℕ) → i < n → good_kept kind user last pattern n ≡ true → good_kept kind user i pattern n ≡ true
good_at_lem Nothing user last i pattern n h e = refl
good_at_lem Everything user last i pattern n h e = rw (lt-ltb i n h, (and_parts (leb user 15) (ltb last n) e).0)
good_at_lem Pattern user last i pattern n h e =
    let p = and_parts (leb user 15 && ltb last n) (good_pattern pattern) e in
    rw (lt-ltb i n h, (and_parts (leb user 15) (ltb last n) p.0).0, p.1)

-- what next learns from its tests
pub record NextPassed (d : Drive) (v : List ℕ) : Type 0 where
  pub kept : is_kept d.search.kind ≡ true
  pub hits : leb (slots d.geometry) (hit d.geometry v d.search (d.search.last + 1)) ≡ false

next_passed : (d : Drive) (v b : List ℕ) → is_none (first_met (next_tests d v b)) ≡ true → NextPassed d v
unfolding next_tests
next_passed d v b h =
    let x = unmet BufferLength _ _ refl (unmet VolumeLength _ _ refl (unmet Closed _ _ refl h).1).1 in
    let p = or_parts (not (is_kept d.search.kind)) _ (unmet NoMatch _ _ refl x.1).0 in
    record { kept = not-false (is_kept d.search.kind) p.0; hits = p.1 }

-- what first learns from its tests
record FirstPassed (d : Drive) (v f : List ℕ) : Type 0 where
  size : length f ≡ 36
  name : (examined f && not (good_name true (name_of f))) ≡ false
  extent : (examined f && ltb 31 (byte f 12) && not (eqb (byte f 12) 63)) ≡ false
  hits : leb (slots d.geometry) (hit d.geometry v (new_search d f) 0) ≡ false

first_passed : (d : Drive) (v f b : List ℕ) → is_none (first_met (first_tests d v f b)) ≡ true → FirstPassed d v f
unfolding first_tests
first_passed d v f b h =
    let x = unmet FcbLength _ _ refl (unmet VolumeLength _ _ refl (unmet Closed _ _ refl h).1).1 in
    let n = unmet Name _ _ refl (unmet DriveCode _ _ refl (unmet BufferLength _ _ refl x.1).1).1 in
    let e = unmet Position _ _ refl n.1 in
    record { size = eqb-true (length f) 36 (not-false (eqb (length f) 36) x.0); name = n.0; extent = e.0; hits = (unmet NoMatch _ _ refl e.1).0 }

first_kind : (dr : ℕ) → is_kept (kind_asked dr) ≡ true
first_kind dr = go (eqb dr 63)
  where
    go : (t : Bool) → is_kept (cond t Everything Pattern) ≡ true
    go true = refl
    go false = refl

first_good : (d : Drive) (v f : List ℕ) (i : ℕ) → FirstPassed d v f → leb d.user 15 ≡ true → ltb i (slots d.geometry) ≡ true
    → good_kept (kind_asked (byte f 0)) d.user i (pattern_of f) (slots d.geometry) ≡ true
first_good d v f i p u low = go (eqb (byte f 0) 63) refl
  where
    go : (t : Bool) → eqb (byte f 0) 63 ≡ t → good_kept (cond t Everything Pattern) d.user i (pattern_of f) (slots d.geometry) ≡ true
    go true e = rw (u, low)
    go false e =
        let good : good_name true (name_of f) ≡ true = not-false (good_name true (name_of f)) (rw e at p.name) in
        let ex : (ltb 31 (byte f 12) && not (eqb (byte f 12) 63)) ≡ false = rw e at p.extent in
        rw (u, low, first_pattern f p.size good ex)

module _ (d : Drive) (v f b : List ℕ) (l : Lasts d) where
  next_kept : NextPassed d v → Lasts (changed_state d v (searches (kept_at d.search (hit d.geometry v d.search (d.search.last + 1)))))
  unfolding changed_state kept_at
  next_kept p =
      let o = is_open_lem d l.opens in
      let low = hit_low d o.law p.hits in
      search_lasts d l _ low.1 l.carried.pattern p.kept
      (good_at_lem d.search.kind d.search.user d.search.last _ d.search.pattern (slots d.geometry) low.0 o.kept)

  pub next_lasting : Lasting d v (search_next_act d v b)
  unfolding search_next_act hit_act
  next_lasting = lasting_unless (next_tests d v b) _ (λ h. does (next_kept (next_passed d v b h)))

  first_kept : FirstPassed d v f → Lasts (changed_state d v (searches (kept_at (new_search d f) (hit d.geometry v (new_search d f) 0))))
  unfolding changed_state kept_at new_search
  first_kept p =
      let o = is_open_lem d l.opens in
      let low = hit_low d o.law p.hits in
      search_lasts d l _ low.1 (unfold pattern_of in length_part f 1 12 (omega (arith, p.size))) (first_kind (byte f 0))
      (first_good d v f _ p (le-leb d.user 15 o.user15) (lt-ltb _ (slots d.geometry) low.0))

  pub first_lasting : Lasting d v (search_first_act d v f b)
  unfolding search_first_act hit_act
  first_lasting = lasting_unless (first_tests d v f b) _ (λ h. does (first_kept (first_passed d v f b h)))
