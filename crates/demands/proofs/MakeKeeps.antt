-- Make keeps state and volume consistent and leaves every file but the one that it names.
use mathlib.Core.Path.{◌≡◌, refl, sym, ap, ◌∙◌}
use mathlib.Core.Logic.{inl, ◌≢◌}
use mathlib.Core.Bool.{true, false, ◌&&◌, true≢false}
use mathlib.Core.List.{List}
use Prim.Native.Nat.{ℕ, ◌≤◌, ◌<◌}
use native.Mathlib.Omega.{arith}
use native.Mathlib.Decide.{ℕ_discrete}
use lib.Dec.{eqb}
use lib.ListN.{length}
use borrow.Author.Tests.{not-false, eqb-true, ltb-false, leb-false}
use Rattle.disk_geometry.specs.declared.Geometry.{Geometry}
use Rattle.disk_volume.specs.declared.Wanted.TheVariants.{Empty, File}
use Rattle.disk_geometry.specs.Geometry.{slots, places}
use Rattle.disk_volume.specs.Name.{name_of, good_name, same}
use Rattle.disk_volume.specs.Entry.{Entry, is_empty, block_in, of_file}
use Rattle.disk_volume.specs.Directory.{slot_at, put_slot, find_slot}
use Rattle.disk_volume.specs.Record.{record_at}
use Rattle.disk_volume.proofs.FindLaws.{found_fits, not_found}
use Rattle.disk_geometry.proofs.GeometryLaws.{bounds}
use Rattle.disk_volume.proofs.DirectoryLaws.{put_slot_length, slot_put_slot, slot_put_slot_other, record_put_slot}
use Rattle.disk_stores.proofs.LaidLaws.{entry_laid}
use Rattle.disk_stores.proofs.OrderLaws.{entry_ordered}
use Rattle.call_answers.specs.declared.Refusal.TheVariants.{Closed, VolumeLength, FcbLength, DriveCode, Name, Untypeable, Position, Protected, Exists, NoRoom}
use Rattle.call_answers.specs.Refusal.{is_none, first_met}
use Rattle.call_answers.proofs.Ladder.{unmet}
use Rattle.call_make.specs.Make.{make_tests, fresh_entry}
use Rattle.filecalls.specs.declared.Drive.{Drive}
use Rattle.filecalls.specs.State.{is_open}
use Rattle.filecalls.specs.Outcome.{changed_state}
use Rattle.filecalls.specs.Names.{make_ladder, make_act}
use Rattle.filecalls.proofs.StateLaws.{is_open_lem}
use Rattle.demands.proofs.Orderly.{Live, Laid, Fresh, HeldAnew, sound_laid, held_laid}
use Rattle.demands.proofs.Frame.{Touch, unchanged, foreign, Apart}
use Rattle.demands.proofs.Acts.{Consistent, Safe, safe_none, Keeps, does, keeps_unless, leaves_apart}
use Rattle.demands.proofs.Files.{of_file_lem, other_file, user_live, file_block, empty_foreign}
use Rattle.demands.proofs.OneStore.{entry_cut}
use Rattle.demands.proofs.NewEntry.{fresh_32, fresh_user, fresh_name, fresh_block, fresh_in_order}

-- what is known once no test of make is met
record Ready (d : Drive) (v f : List ℕ) : Type 0 where
  user15 : d.user ≤ 15
  fcb36 : length f ≡ 36
  good_name_lem : good_name false (name_of f) ≡ true
  unused : slots d.geometry ≤ find_slot d.geometry v d.user (name_of f) File
  room : find_slot d.geometry v d.user (name_of f) Empty < slots d.geometry

ready : (d : Drive) (v f : List ℕ) → is_none (first_met (make_ladder d v f)) ≡ true → Ready d v f
unfolding make_ladder make_tests
ready d v f h =
    let closed = unmet Closed _ _ refl h in
    let volume = unmet VolumeLength _ _ refl closed.1 in
    let fcb = unmet FcbLength _ _ refl volume.1 in
    let drive = unmet DriveCode _ _ refl fcb.1 in
    let name = unmet Name _ _ refl drive.1 in
    let typing = unmet Untypeable _ _ refl name.1 in
    let position = unmet Position _ _ refl typing.1 in
    let protection = unmet Protected _ _ refl position.1 in
    let exists = unmet Exists _ _ refl protection.1 in
    let full = unmet NoRoom _ _ refl exists.1 in
    record {
      user15 = (is_open_lem d (not-false (is_open d) closed.0)).user15;
      fcb36 = eqb-true (length f) 36 (not-false _ fcb.0);
      good_name_lem = not-false _ name.0;
      unused = ltb-false _ _ exists.0;
      room = leb-false _ _ full.0;
    }

module _ (d : Drive) (v f : List ℕ) (c : Consistent d v) (r : Ready d v f) where
  abbrev g : Geometry
  g = d.geometry

  abbrev i : ℕ
  i = find_slot d.geometry v d.user (name_of f) Empty

  abbrev e : Entry
  e = fresh_entry d.user (name_of f)

  abbrev v' : List ℕ
  v' = put_slot d.geometry v (find_slot d.geometry v d.user (name_of f) Empty) (fresh_entry d.user (name_of f))

  e32 : length e ≡ 32
  e32 = fresh_32 d.user f r.fcb36

  was_empty : is_empty (slot_at g v i) ≡ true
  was_empty = found_fits g v d.user (name_of f) Empty r.room

  live : Live e
  live = user_live e (rw (fresh_user d.user f r.fcb36) r.user15)

  laid : Laid g (slot_at g v) (slot_at g v') i e
  laid = record { here = slot_put_slot g c.law v c.size i r.room e e32; there = slot_put_slot_other g c.law v c.size i r.room e e32 }

  fresh : Fresh g (slot_at g v) i e
  fresh = record {
    blocks = λ j p q j< ne l p< q< nz same. nz (fresh_block d.user f r.fcb36 g p);
    unlike = λ j j< ne l k. true≢false
        (sym (of_file_lem d.user (name_of f) (slot_at g v j)
        (record { user = sym k.user ∙ fresh_user d.user f r.fcb36; name_is = sym k.name ∙ fresh_name d.user f r.fcb36 }))
        ∙ not_found g v d.user (name_of f) File r.unused j j<);
  }

  no_block : (p : ℕ) → g.directory_blocks ≤ block_in g e p → ⊥
  no_block p h = omega (arith, (bounds g c.law).directory_low, fresh_block d.user f r.fcb36 g p)

  anew : HeldAnew g d.held d.held (slot_at g v) i e
  anew = record {
    size = c.held.size;
    live = live;
    stays = λ b h. h;
    only = λ b low high h. inl h;
    keeps = λ p p< l low. absurd (true≢false (sym was_empty ∙ l));
    holds_all = λ p p< low high. absurd (no_block p low);
  }

  consistent : Consistent d v'
  consistent = record {
    law = c.law;
    size = put_slot_length g c.law v c.size i r.room e e32 ∙ c.size;
    sound = sound_laid g (slot_at g v) (slot_at g v') i e c.sound laid (fresh_in_order d.user f r.fcb36 g r.user15 r.good_name_lem) fresh;
    held = held_laid g d.held d.held (slot_at g v) (slot_at g v') i e r.room c.held laid anew;
  }

  apart : (u : ℕ) (name : List ℕ) → u ≤ 15 → (eqb u d.user && same name (name_of f)) ≡ false → Apart g u name v v'
  apart u name u15 other = record { entries = λ j j<. entry j j< (ℕ_discrete j i); bytes = bytes_there }
    where
      entry : (j : ℕ) → j < slots g → Dec (j ≡ i) → Touch u name (slot_at g v j) (slot_at g v' j)
      entry j j< (no z) = unchanged (laid.there j j< z)
      entry j j< (yes z) =
          foreign (ap (λ (x : ℕ). of_file u name (slot_at g v x)) z ∙ empty_foreign u name (slot_at g v i) u15 was_empty)
          (ap (λ (x : ℕ). of_file u name (slot_at g v' x)) z ∙ ap (of_file u name) laid.here
          ∙ other_file d.user (name_of f) u name e other (fresh_user d.user f r.fcb36) (fresh_name d.user f r.fcb36))

      bytes_there : (j p n : ℕ) → j < slots g → p < places g → of_file u name (slot_at g v j) ≡ true → block_in g (slot_at g v j) p ≢ 0
          → record_at g v' (block_in g (slot_at g v j) p) n ≡ record_at g v (block_in g (slot_at g v j) p) n
      bytes_there j p n j< p< own nz =
          let b = file_block g v c.sound u name u15 j p j< p< own nz in
          record_put_slot g c.law v c.size i r.room e e32 (block_in g (slot_at g v j) p) n b.0 b.1

pub make_keeps : (d : Drive) (v f : List ℕ) → Consistent d v → Keeps (λ u name. eqb u d.user && same name (name_of f)) d v (make_act d v f)
unfolding make_act changed_state
make_keeps d v f c = keeps_unless (make_ladder d v f) _ (λ h.
    let g = d.geometry in
    let r = ready d v f h in
    let new = consistent d v f c r in
    let all = entry_laid g c.law v c.size (i d v f c r) r.room (e d v f c r) in
    does (record {
      consistent = rw all new;
      cuts = entry_cut (Safe (λ u name. eqb u d.user && same name (name_of f)) g v) g v (i d v f c r) (e d v f c r) (safe_none c) (rw all (record {
        same_size = new.size ∙ sym c.size;
        sound = new.sound;
        others = λ u name u15 other. leaves_apart g c.law u name v _ (apart d v f c r u name u15 other);
      }));
      ordered = entry_ordered g c.law v c.size (i d v f c r) r.room (e d v f c r) (e32 d v f c r);
    }))
