-- Delete keeps state and volume consistent and leaves every file that its pattern does not match.
use mathlib.Core.Path.{◌≡◌, refl, sym, ap, ◌∙◌}
use mathlib.Core.Logic.{◌≢◌}
use mathlib.Core.Bool.{Bool, true, false, not, cond, ◌&&◌, true≢false}
use mathlib.Core.List.{List}
use Prim.Native.Nat.{ℕ, ◌≤◌, ◌<◌}
use native.Mathlib.Omega.{arith}
use lib.Dec.{eqb}
use lib.ListN.{length}
use borrow.Author.Tests.{not-true, not-false}
use Rattle.lists.specs.Bounded.{any_from}
use Rattle.lists.proofs.BoolLaws.{and_parts}
use Rattle.lists.proofs.BoundedLaws.{any_false, any_none}
use Rattle.disk_geometry.specs.declared.Geometry.{Geometry}
use Rattle.disk_geometry.specs.Geometry.{lawful, bytes, slots}
use Rattle.disk_volume.specs.Name.{name_of, like}
use Rattle.disk_volume.specs.Entry.{Entry, is_empty, block_in, matches}
use Rattle.disk_volume.specs.Directory.{slot_at}
use Rattle.disk_geometry.proofs.GeometryLaws.{bounds}
use Rattle.disk_volume.proofs.DirectoryLaws.{slot_length}
use Rattle.disk_stores.specs.Pieces.{meant_only}
use Rattle.disk_stores.proofs.OrderLaws.{sweep_ordered}
use Rattle.disk_held.specs.Held.{holds}
use Rattle.call_answers.specs.declared.Refusal.TheVariants.{Closed}
use Rattle.call_answers.specs.Refusal.{is_none, first_met}
use Rattle.call_answers.proofs.Ladder.{unmet}
use Rattle.call_sweep.specs.Sweep.{erased}
use Rattle.call_sweep.proofs.EditLaws.{erased_length}
use Rattle.call_delete.specs.Delete.{free_matches}
use Rattle.disk_geometry.proofs.InsideLaws.{is_inside}
use Rattle.filecalls.specs.declared.Drive.{Drive}
use Rattle.filecalls.specs.State.{is_open}
use Rattle.filecalls.specs.Outcome.{changed_state}
use Rattle.filecalls.specs.Names.{delete_ladder, delete_act}
use Rattle.filecalls.proofs.StateLaws.{is_open_lem}
use Rattle.demands.proofs.Orderly.{Live, Orderly, HeldBy, Held}
use Rattle.demands.proofs.Acts.{Consistent, Keeps, does, keeps_unless}
use Rattle.demands.proofs.Files.{matched, user_live}
use Rattle.demands.proofs.Swept.{cut_swept, laid_swept, laid_slots}
use Rattle.demands.proofs.EntriesGone.{erased_empty, gone_safe}
use Rattle.call_delete.specs.Freed.{match_names}
use Rattle.call_delete.proofs.MatchLaws.{match_at, at_match}
use Rattle.call_delete.proofs.FreedHolds.{freed}

-- ---- the held blocks, where every entry that matches is gone
module _ (g : Geometry) (law : lawful g ≡ true) (v : List ℕ) (size : length v ≡ bytes g) (sound : Orderly g (slot_at g v)) (h : List ℕ) (held : Held g h (slot_at g v))
    (u : ℕ) (u15 : u ≤ 15) (pattern v' : List ℕ)
    (after : (j : ℕ) → j < slots g → slot_at g v' j ≡ meant_only (matches u pattern) erased (slot_at g v j)) where
  abbrev h' : List ℕ
  h' = free_matches g v u pattern h

  after_miss : (j : ℕ) → j < slots g → matches u pattern (slot_at g v j) ≡ false → slot_at g v' j ≡ slot_at g v j
  after_miss j j< q = after j j< ∙ ap (λ (s : Bool). cond s (erased (slot_at g v j)) (slot_at g v j)) q

  after_hit : (j : ℕ) → j < slots g → matches u pattern (slot_at g v j) ≡ true → is_empty (slot_at g v' j) ≡ true
  after_hit j j< q =
      ap is_empty (after j j< ∙ ap (λ (s : Bool). cond s (erased (slot_at g v j)) (slot_at g v j)) q) ∙ erased_empty (slot_at g v j) (slot_length g law v size j j<)

  -- an entry that is left did not match
  missed : (j : ℕ) → j < slots g → Live (slot_at g v' j) → matches u pattern (slot_at g v j) ≡ false
  missed j j< l = go (matches u pattern (slot_at g v j)) refl
    where
      go : (t : Bool) → matches u pattern (slot_at g v j) ≡ t → t ≡ false
      go false q = refl
      go true q = absurd (true≢false (sym (after_hit j j< q) ∙ l))

  hit_live : (j : ℕ) → matches u pattern (slot_at g v j) ≡ true → Live (slot_at g v j)
  hit_live j q = user_live (slot_at g v j) (omega (arith, (matched u pattern (slot_at g v j) q).user))

  pub delete_held : Held g h' (slot_at g v')
  delete_held = record { size = (freed g law v u u15 pattern h held.size).words; sound = sound_after; whole = whole_after }
    where
      is : (b : ℕ) → g.directory_blocks ≤ b → b < g.blocks → holds h' b ≡ (holds h b && not (any_from (match_names g v u pattern b) 0 (slots g)))
      is b low high = (freed g law v u u15 pattern h held.size).inside_blocks b (is_inside g b low high)

      sound_after : (b : ℕ) → g.directory_blocks ≤ b → b < g.blocks → holds h' b ≡ true → HeldBy g (slot_at g v') b
      sound_after b low high t =
          let x = and_parts (holds h b) (not (any_from (match_names g v u pattern b) 0 (slots g))) (sym (is b low high) ∙ t) in
          let w = held.sound b low high x.0 in
          go w (not-true _ x.1) (matches u pattern (slot_at g v w.slot)) refl
        where
          go : (w : HeldBy g (slot_at g v) b) → any_from (match_names g v u pattern b) 0 (slots g) ≡ false → (t : Bool) → matches u pattern (slot_at g v w.slot) ≡ t → HeldBy g (slot_at g v') b
          go w none false q =
              let k : slot_at g v' w.slot ≡ slot_at g v w.slot = after_miss w.slot w.slot< q in
              record { slot = w.slot; place = w.place; slot< = w.slot<; place< = w.place<; live = rw k w.live; is = rw k w.is }
          go w none true q =
              absurd (true≢false (sym (at_match g v u u15 pattern b w.slot (record { hit = q; place = w.place; in_map = w.place<; is = w.is })) ∙ any_false (match_names g v u pattern b) 0 (slots g) none w.slot (omega arith) (omega (arith, w.slot<))))

      whole_after : (b : ℕ) → g.directory_blocks ≤ b → b < g.blocks → HeldBy g (slot_at g v') b → holds h' b ≡ true
      whole_after b low high w =
          let m : matches u pattern (slot_at g v w.slot) ≡ false = missed w.slot w.slot< w.live in
          let k : slot_at g v' w.slot ≡ slot_at g v w.slot = after_miss w.slot w.slot< m in
          let l : Live (slot_at g v w.slot) = ap is_empty (sym k) ∙ w.live in
          let z : block_in g (slot_at g v w.slot) w.place ≡ b = ap (λ (x : Entry). block_in g x w.place) (sym k) ∙ w.is in
          let t = held.whole b low high (record { slot = w.slot; place = w.place; slot< = w.slot<; place< = w.place<; live = l; is = z }) in
          let none = any_none (match_names g v u pattern b) 0 (slots g) (λ j x y. not_freed m l z j (omega arith) (match_names g v u pattern b j) refl) in
          is b low high ∙ rw (t, none)
        where
          not_freed : matches u pattern (slot_at g v w.slot) ≡ false → Live (slot_at g v w.slot) → block_in g (slot_at g v w.slot) w.place ≡ b
              → (j : ℕ) → j < slots g → (t : Bool) → match_names g v u pattern b j ≡ t → t ≡ false
          not_freed m l z j j< false q = refl
          not_freed m l z j j< true q =
              let x = match_at g v u u15 pattern b j q in
              let nz : block_in g (slot_at g v j) x.place ≢ 0 = λ o. let y : b ≡ 0 = sym x.is ∙ o in omega (arith, (bounds g law).directory_low) in
              let s : j ≡ w.slot = sound.alone j w.slot x.place w.place j< w.slot< (hit_live j x.hit) l x.in_map w.place< nz (x.is ∙ sym z) in
              absurd (true≢false (sym x.hit ∙ ap (λ (y : ℕ). matches u pattern (slot_at g v y)) s ∙ m))

pub delete_keeps : (d : Drive) (v f : List ℕ) → Consistent d v → Keeps (λ u name. eqb u d.user && like name (name_of f)) d v (delete_act d v f)
unfolding delete_act changed_state
delete_keeps d v f c = keeps_unless (delete_ladder d v f) _ (λ h.
    let g = d.geometry in
    let meant : Entry → Bool = matches d.user (name_of f) in
    let all = laid_swept g c.law meant erased erased_length v c.size in
    does (record {
      consistent = record {
        law = c.law;
        size = all.size;
        sound = (gone_safe g c.law v c.size c.sound d.user (name_of f) _ all).sound;
        held = delete_held g c.law v c.size c.sound d.held c.held d.user (user15 h) (name_of f) _ (laid_slots g c.law meant erased erased_length v c.size);
      };
      cuts = λ k. gone_safe g c.law v c.size c.sound d.user (name_of f) _ (cut_swept g c.law meant erased erased_length v c.size k);
      ordered = sweep_ordered g c.law meant erased erased_length v c.size;
    }))
  where
    user15 : is_none (first_met (delete_ladder d v f)) ≡ true → d.user ≤ 15
    user15 h = (is_open_lem d (not-false (is_open d) (unfold delete_ladder in (unmet Closed _ _ refl h).0))).user15
