-- Entries of a file take a name that no other entry of the user has, some of them or all: the directory stays sound, each
-- block stays where it is, and every file of another name stays as it is. Rename gives a new name, attributes give the
-- file's own. No two entries are alike while some have the new name and some the old one, since their groups differ.
use mathlib.Core.Path.{◌≡◌, refl, sym, ap, ◌∙◌}
use mathlib.Core.Bool.{Bool, true, false, ◌&&◌, true≢false}
use mathlib.Core.List.{List}
use Prim.Native.Nat.{ℕ, ◌≤◌, ◌<◌}
use native.Mathlib.Omega.{arith}
use lib.Dec.{eqb}
use lib.ListN.{length}
use Rattle.lists.specs.Bytes.{byte}
use Rattle.disk_geometry.specs.declared.Geometry.{Geometry}
use Rattle.disk_geometry.specs.Geometry.{lawful, bytes, slots, group_of}
use Rattle.disk_volume.specs.Name.{name_of, good_name, same}
use Rattle.disk_volume.specs.Entry.{Entry, extent, block_in, of_file}
use Rattle.disk_volume.specs.Directory.{slot_at}
use Rattle.disk_volume.proofs.MapLaws.{block_same}
use Rattle.disk_volume.proofs.DirectoryLaws.{slot_length}
use Rattle.disk_rules.proofs.TwinLaws.{Twins}
use Rattle.demands.proofs.Orderly.{InOrder, Orderly, Changed, Held, sound_changed, held_changed}
use Rattle.demands.proofs.Frame.{Touch, unchanged, foreign, Apart}
use Rattle.demands.proofs.Files.{IsOf, is_of, of_file_lem, other_file, file_block}
use Rattle.demands.proofs.Acts.{Safe, leaves_apart}
use Rattle.demands.proofs.NamedEntry.{Renames}
use Rattle.demands.proofs.Swept.{Swept}
use Rattle.demands.proofs.Swept as sweep

-- the edit f, of the entries of the file (u, name), which take the name `to`
pub record Edits (u : ℕ) (name to : List ℕ) (f : Entry → Entry) : Type 0 where
  pub keeps_32 : (e : Entry) → length e ≡ 32 → length (f e) ≡ 32
  pub meant : (e : Entry) → length e ≡ 32 → IsOf u name e → Renames to e (f e)

module _ (g : Geometry) (law : lawful g ≡ true) (v : List ℕ) (size : length v ≡ bytes g) (sound : Orderly g (slot_at g v))
    (u : ℕ) (name to : List ℕ) (good : good_name false to ≡ true) (f : Entry → Entry) (edits : Edits u name to f)
    (free : (j : ℕ) → j < slots g → of_file u name (slot_at g v j) ≡ false → of_file u to (slot_at g v j) ≡ false)
    (w : List ℕ) (swept : Swept g (of_file u name) f v w) where
  -- a slot afterwards
  data After (j : ℕ) : Type 0 where
    edited : IsOf u name (slot_at g v j) → Renames to (slot_at g v j) (slot_at g w j) → After j
    stays : slot_at g w j ≡ slot_at g v j → After j

  after : (j : ℕ) → j < slots g → After j
  after j j< = go (swept.slot j j<)
    where
      go : sweep.After (of_file u name) f (slot_at g v j) (slot_at g w j) → After j
      go (sweep.changed q is) =
          let own = is_of u name (slot_at g v j) q in
          edited own (rw is (edits.meant (slot_at g v j) (slot_length g law v size j j<) own))
      go (sweep.stays s) = stays s

  user_same : (j : ℕ) → After j → byte (slot_at g w j) 0 ≡ byte (slot_at g v j) 0
  user_same j (edited own r) = r.user
  user_same j (stays s) = ap (λ (e : Entry). byte e 0) s

  rest_same : (j : ℕ) → After j → (k : ℕ) → 12 ≤ k → byte (slot_at g w j) k ≡ byte (slot_at g v j) k
  rest_same j (edited own r) k l = r.rest k l
  rest_same j (stays s) k l = ap (λ (e : Entry). byte e k) s

  group_same : (j : ℕ) → After j → group_of g (extent (slot_at g w j)) ≡ group_of g (extent (slot_at g v j))
  group_same j a = rw (rest_same j a 12 (omega arith), rest_same j a 14 (omega arith))

  blocks_same : (j : ℕ) → After j → (p : ℕ) → block_in g (slot_at g w j) p ≡ block_in g (slot_at g v j) p
  blocks_same j a = block_same g (slot_at g w j) (slot_at g v j) (λ k l. rest_same j a k (omega arith))

  changed : Changed g (slot_at g v) (slot_at g w)
  changed = record {
    empty = λ j j<. ap (λ (x : ℕ). eqb x 229) (user_same j (after j j<));
    blocks = λ j p j< p<. blocks_same j (after j j<) p;
    order = λ j j< l k. order j k (after j j<);
    twins = λ i j i< j< li lj k. twins i j i< j< k (after i i<) (after j j<);
  }
    where
      order : (j : ℕ) → InOrder g (slot_at g v j) → After j → InOrder g (slot_at g w j)
      order j k (stays s) = rw s k
      order j k (edited own r) =
          let n = k.fields in
          let a = edited own r in
          record {
            fields = record {
              user = omega (arith, r.user, n.user);
              ex = omega (arith, r.rest 12 (omega arith), n.ex);
              s1 = r.rest 13 (omega arith) ∙ n.s1;
              s2 = omega (arith, r.rest 14 (omega arith), n.s2);
              rc = omega (arith, r.rest 15 (omega arith), n.rc);
            };
            name = rw r.name good;
            top_bits = r.top_bits k.top_bits;
            range = λ p p< nz. let b = blocks_same j a p in rw b (k.range p p< (λ o. nz (b ∙ o)));
            once = λ p q p< q< nz s. k.once p q p< q< (λ o. nz (blocks_same j a p ∙ o)) (sym (blocks_same j a p) ∙ s ∙ blocks_same j a q);
          }

      twins : (i j : ℕ) → i < slots g → j < slots g → Twins g (slot_at g w i) (slot_at g w j) → After i → After j → Twins g (slot_at g v i) (slot_at g v j)
      twins i j i< j< k a b = record { user = users; name = names a b; group = sym (group_same i a) ∙ k.group ∙ group_same j b }
        where
          users : byte (slot_at g v i) 0 ≡ byte (slot_at g v j) 0
          users = sym (user_same i a) ∙ k.user ∙ user_same j b

          -- no entry but the file's has the name
          clash : (m : ℕ) → m < slots g → of_file u name (slot_at g v m) ≡ false → byte (slot_at g v m) 0 ≡ u → name_of (slot_at g v m) ≡ to → ⊥
          clash m m< q x y = true≢false (sym (of_file_lem u to (slot_at g v m) (record { user = x; name_is = y })) ∙ free m m< q)

          -- an entry that has the name and was not reached is the file's, whose own name this is
          late : (m : ℕ) → m < slots g → (n : List ℕ) → n ≡ name → byte (slot_at g v m) 0 ≡ u → name_of (slot_at g v m) ≡ to → name_of (slot_at g v m) ≡ n
          late m m< n z x y = go (of_file u name (slot_at g v m)) refl
            where
              go : (t : Bool) → of_file u name (slot_at g v m) ≡ t → name_of (slot_at g v m) ≡ n
              go true q = (is_of u name (slot_at g v m) q).name_is ∙ sym z
              go false q = absurd (clash m m< q x y)

          names : After i → After j → name_of (slot_at g v i) ≡ name_of (slot_at g v j)
          names (edited a r) (edited x s) = a.name_is ∙ sym x.name_is
          names (stays r) (stays s) = ap name_of (sym r) ∙ k.name ∙ ap name_of s
          names (edited a r) (stays s) = sym (late j j< (name_of (slot_at g v i)) a.name_is (sym users ∙ a.user) (ap name_of (sym s) ∙ sym k.name ∙ r.name))
          names (stays r) (edited x s) = late i i< (name_of (slot_at g v j)) x.name_is (users ∙ x.user) (ap name_of (sym r) ∙ k.name ∙ s.name)

  edit_sound : Orderly g (slot_at g w)
  edit_sound = sound_changed g (slot_at g v) (slot_at g w) sound changed

  pub edit_held : (h : List ℕ) → Held g h (slot_at g v) → Held g h (slot_at g w)
  edit_held h held = held_changed g h (slot_at g v) (slot_at g w) changed held

  edit_apart : (x : ℕ) (other : List ℕ) → x ≤ 15 → (eqb x u && same other name) ≡ false → (eqb x u && same other to) ≡ false → Apart g x other v w
  edit_apart x other x15 not-name not-to = record {
    entries = λ j j<. entry j (after j j<);
    bytes = λ j p n j< p< own nz.
        let b = file_block g v sound x other x15 j p j< p< own nz in
        swept.beyond (block_in g (slot_at g v j) p) n b.0 b.1;
  }
    where
      entry : (j : ℕ) → After j → Touch x other (slot_at g v j) (slot_at g w j)
      entry j (stays s) = unchanged s
      entry j (edited own r) =
          foreign (other_file u name x other (slot_at g v j) not-name own.user own.name_is) (other_file u to x other (slot_at g w j) not-to (r.user ∙ own.user) r.name)

  -- by the files that the call touches: that of either name
  pub edit_safe : (touches : ℕ → List ℕ → Bool)
      → ((x : ℕ) (other : List ℕ) → touches x other ≡ false → ((eqb x u && same other name) ≡ false) × ((eqb x u && same other to) ≡ false))
      → Safe touches g v w
  edit_safe touches neither = record {
    same_size = swept.size ∙ sym size;
    sound = edit_sound;
    others = λ x other x15 h. let n = neither x other h in leaves_apart g law x other v w (edit_apart x other x15 n.0 n.1);
  }
