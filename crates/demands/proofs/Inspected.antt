-- A volume passes inspection exactly when its directory is sound; the blocks that log-in works out are those of the entries.
use mathlib.Core.Path.{◌≡◌, refl, sym, ap, ◌∙◌}
use mathlib.Core.Logic.{⊎_elim, inl, inr, ◌⊎◌}
use mathlib.Core.Bool.{Bool, true, false}
use mathlib.Core.List.{List}
use Prim.Native.Nat.{ℕ, ◌<◌}
use native.Mathlib.Omega.{arith}
use native.Mathlib.Decide.{ℕ_discrete}
use lib.Dec.{eqb}
use Rattle.lists.proofs.BoolLaws.{and_right}
use Rattle.disk_geometry.specs.declared.Geometry.{Geometry}
use Rattle.disk_geometry.specs.Geometry.{lawful, slots, inside, places}
use Rattle.disk_volume.specs.Entry.{is_empty, block_in}
use Rattle.disk_volume.specs.Directory.{slot_at}
use Rattle.disk_geometry.proofs.GeometryLaws.{bounds}
use Rattle.disk_rules.specs.GoodSlot.{named_below, good_slot, lowest_bad}
use Rattle.disk_rules.specs.Named.{named, held_of}
use Rattle.disk_rules.proofs.GoodLaws.{Good, is_good, fields_good, good_fields_lem}
use Rattle.disk_rules.proofs.TwinLaws.{twin, twin_true, twins}
use Rattle.disk_rules.proofs.AcceptedLaws.{accepts, good_entry_lem, one_place, one_entry}
use Rattle.disk_rules.proofs.NamedLaws.{named_at, at_named, holds_held, words_held}
use Rattle.disk_geometry.proofs.InsideLaws.{is_inside}
use Rattle.demands.proofs.Orderly.{Live, InOrder, Orderly, HeldBy, Held}

module _ (g : Geometry) (v : List ℕ) where
  pub accepted_sound : lowest_bad g v ≡ slots g → Orderly g (slot_at g v)
  accepted_sound ok = record {
    order = order;
    alone = λ i j p q i< j< li lj p< q< nz same. (one_place g v ok i p j q (record { slot = i<; used = li; place = p< }) (record { slot = j<; used = lj; place = q< }) nz same).0;
    unlike = λ i j i< j< li lj k. one_entry g v ok i j i< j< li lj (twins g (slot_at g v i) (slot_at g v j) k);
  }
    where
      order : (i : ℕ) → i < slots g → Live (slot_at g v i) → InOrder g (slot_at g v i)
      order i i< l =
          let k = good_entry_lem g v ok i i< l in
          record {
            fields = fields_good (slot_at g v i) k.fields;
            name = k.name;
            top_bits = k.top_bits;
            range = λ p p< nz. ⊎_elim (λ z. absurd (nz z)) (λ w. w) (k.block p p<);
            once = λ p q p< q< nz same. (one_place g v ok i p i q (record { slot = i<; used = l; place = p< }) (record { slot = i<; used = l; place = q< }) nz same).1;
          }

  empty_good : (i : ℕ) → is_empty (slot_at g v i) ≡ true → good_slot g v i ≡ true
  unfolding good_slot
  empty_good i e = rw e

  pub sound_accepted : Orderly g (slot_at g v) → lowest_bad g v ≡ slots g
  sound_accepted sound = accepts g v (λ i i<. go i i< (is_empty (slot_at g v i)) refl)
    where
      unlike : (i j : ℕ) → i < slots g → j < i → Live (slot_at g v i) → (t : Bool) → twin g (slot_at g v i) (slot_at g v j) ≡ t → t ≡ false
      unlike i j i< j< l false e = refl
      unlike i j i< j< l true e =
          let k = twin_true g (slot_at g v i) (slot_at g v j) e in
          let z : i ≡ j = sound.unlike i j i< (omega arith) l (ap (λ (x : ℕ). eqb x 229) (sym k.user) ∙ l) k in
          absurd (omega arith)

      block : (i p : ℕ) → InOrder g (slot_at g v i) → p < places g → Dec (block_in g (slot_at g v i) p ≡ 0) → (block_in g (slot_at g v i) p ≡ 0) ⊎ (inside g (block_in g (slot_at g v i) p) ≡ true)
      block i p k p< (yes z) = inl z
      block i p k p< (no z) = inr (k.range p p< z)

      good : (i : ℕ) → i < slots g → Live (slot_at g v i) → InOrder g (slot_at g v i) → Good g v i
      good i i< l k = record {
        fields = good_fields_lem (slot_at g v i) k.fields;
        name = k.name;
        top_bits = k.top_bits;
        block = λ p p<. block i p k p< (ℕ_discrete (block_in g (slot_at g v i) p) 0);
        once = λ p q q<p p< nz same. let z : p ≡ q = k.once p q p< (omega arith) nz (sym same) in absurd (omega arith);
        alone = λ p p< nz j j<i lj q q< same. let z : i ≡ j = sound.alone i j p q i< (omega arith) l lj p< q< nz (sym same) in absurd (omega arith);
        unlike = λ j j<i. unlike i j i< j<i l (twin g (slot_at g v i) (slot_at g v j)) refl;
      }

      go : (i : ℕ) → i < slots g → (t : Bool) → is_empty (slot_at g v i) ≡ t → good_slot g v i ≡ true
      go i i< true e = empty_good i e
      go i i< false e = is_good g v i (good i i< e (sound.order i i< e))

  pub held_sound : (b : ℕ) → named g v b ≡ true → HeldBy g (slot_at g v) b
  unfolding named
  held_sound b e =
      let w = named_at g v (slots g) b (and_right (inside g b) (named_below g v (slots g) b) e) in
      record { slot = w.slot; place = w.place; slot< = w.below; place< = w.in_map; live = w.used; is = w.is }

  held_whole : (b : ℕ) → inside g b ≡ true → HeldBy g (slot_at g v) b → named g v b ≡ true
  unfolding named
  held_whole b e w =
      rw (e, at_named g v (slots g) b (record { slot = w.slot; below = w.slot<; used = w.live; place = w.place; in_map = w.place<; is = w.is }))

  pub held_of_lem : lawful g ≡ true → Held g (held_of g v) (slot_at g v)
  held_of_lem law = record {
    size = (words_held g v).size;
    sound = λ b low high t. held_sound b (sym (holds_held g v b (omega (arith, (bounds g law).blocks_high))) ∙ t);
    whole = λ b low high w. holds_held g v b (omega (arith, (bounds g law).blocks_high)) ∙ held_whole b (is_inside g b low high) w;
  }
