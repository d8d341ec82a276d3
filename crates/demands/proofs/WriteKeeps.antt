-- A write keeps the directory sound and the held blocks those of the directory, and leaves every file but the one that it
-- names: the block that it stores to is the entry's own, or one that no entry names.
use mathlib.Core.Path.{◌≡◌, refl, sym, ap, ◌∙◌}
use mathlib.Core.Logic.{◌⊎◌, inl, inr, ◌≢◌}
use mathlib.Core.Bool.{Bool, true, false, ◌&&◌, true≢false, false≢true}
use mathlib.Core.List.{List}
use Prim.Native.Nat.{ℕ, ◌/◌, ◌≤◌, ◌<◌}
use native.Mathlib.Omega.{arith}
use native.Mathlib.Decide.{ℕ_discrete}
use lib.Dec.{eqb}
use lib.ListN.{length}
use borrow.Author.Tests.{ltb-true, ltb-false, eqb-true, eq-eqb}
use Rattle.lists.specs.Bytes.{byte}
use Rattle.lists.proofs.BoolLaws.{and_left, and_right}
use Rattle.disk_geometry.specs.declared.Geometry.{Geometry}
use Rattle.disk_volume.specs.declared.Wanted.TheVariants.{Empty, File, Group}
use Rattle.disk_geometry.specs.Geometry.{lawful, bytes, slots, inside, group_of, place_of, places}
use Rattle.disk_volume.specs.Name.{name_of, same}
use Rattle.disk_volume.specs.Entry.{Entry, is_empty, extent, block_in, of_file, of_group}
use Rattle.disk_volume.specs.Directory.{slot_at, find_slot}
use Rattle.disk_volume.specs.Record.{record_slot, record_block, record_at}
use Rattle.disk_volume.proofs.FindLaws.{found_fits, not_found}
use Rattle.disk_geometry.proofs.GeometryLaws.{bounds, place_lt}
use Rattle.disk_volume.proofs.DirectoryLaws.{slot_length}
use Rattle.disk_held.specs.Held.{room, held_words, holds, hold}
use Rattle.disk_held.proofs.HoldLaws.{length_hold, holds_hold_same, holds_hold_other}
use Rattle.call_answers.specs.Refusal.{is_none, first_met}
use Rattle.disk_rules.proofs.TwinLaws.{Twins}
use Rattle.call_decide.specs.Write.{has_group, write_slot, base_entry, needs_block, write_block, entry_after, write_tests}
use Rattle.call_entry.specs.Grown.{like_entry}
use Rattle.call_entry.specs.Alloc.{alloc}
use Rattle.call_write.proofs.AfterLaws.{written, held_after, after_file, after_group, after_size, after_slot, after_slot_other, after_record_other}
use Rattle.call_entry.proofs.AllocLaws.{alloc_given}
use Rattle.call_entry.proofs.GrowLaws.{written_block, written_other}
use Rattle.call_decide.proofs.WriteLaws.{length_base, write_passed}
use Rattle.disk_geometry.proofs.InsideLaws.{is_inside}
use Rattle.demands.proofs.Orderly.{Live, InOrder, Orderly, Laid, Fresh, Held, InMap, HeldAnew, sound_laid, held_laid}
use Rattle.demands.proofs.Frame.{Touch, unchanged, foreign, Apart}
use Rattle.demands.proofs.Files.{IsOf, is_of, of_file_lem, other_file, user_live, file_live, file_block, empty_foreign}
use Rattle.demands.proofs.NewEntry.{like_block, like_in_order}
use Rattle.demands.proofs.WrittenEntry.{written_fields, written_user, written_name, written_top_bits}

-- ---- what the write has chosen
module _ (g : Geometry) (h v : List ℕ) (u : ℕ) (name : List ℕ) (n : ℕ) where
  base_old : has_group g v u name n ≡ true → base_entry g v u name n ≡ slot_at g v (record_slot g v u name n)
  unfolding base_entry
  base_old q = rw q

  base_new : has_group g v u name n ≡ false → base_entry g v u name n ≡ like_entry (slot_at g v (find_slot g v u name File))
  unfolding base_entry
  base_new q = rw q

  slot_old : has_group g v u name n ≡ true → write_slot g v u name n ≡ record_slot g v u name n
  unfolding write_slot
  slot_old q = rw q

  slot_new : has_group g v u name n ≡ false → write_slot g v u name n ≡ find_slot g v u name Empty
  unfolding write_slot
  slot_new q = rw q

  in_group : has_group g v u name n ≡ true → of_group g u name (group_of g (n / 128)) (slot_at g v (record_slot g v u name n)) ≡ true
  unfolding record_slot
  in_group q = found_fits g v u name (Group (group_of g (n / 128))) (ltb-true _ _ q)

  no_group : has_group g v u name n ≡ false → (j : ℕ) → j < slots g → of_group g u name (group_of g (n / 128)) (slot_at g v j) ≡ false
  unfolding record_slot
  no_group q = not_found g v u name (Group (group_of g (n / 128))) (ltb-false _ _ q)

  block_own : needs_block g v u name n ≡ false → write_block g h v u name n ≡ record_block g (base_entry g v u name n) n
  unfolding write_block
  block_own q = rw q

  block_given : needs_block g v u name n ≡ true → write_block g h v u name n ≡ alloc g h (base_entry g v u name n) (place_of g n)
  unfolding write_block
  block_given q = rw q

  place_zero : needs_block g v u name n ≡ true → record_block g (base_entry g v u name n) n ≡ 0
  unfolding needs_block
  place_zero q = eqb-true _ _ q

module _ (g : Geometry) (u : ℕ) (name : List ℕ) (k : ℕ) (e : Entry) where
  pub group_file : of_group g u name k e ≡ true → of_file u name e ≡ true
  unfolding of_group
  group_file q = and_left (of_file u name e) (eqb (group_of g (extent e)) k) q

  pub group_is : of_group g u name k e ≡ true → group_of g (extent e) ≡ k
  unfolding of_group
  group_is q = eqb-true (group_of g (extent e)) k (and_right (of_file u name e) (eqb (group_of g (extent e)) k) q)

  of_group_lem : of_file u name e ≡ true → group_of g (extent e) ≡ k → of_group g u name k e ≡ true
  unfolding of_group
  of_group_lem own z = rw (own, eq-eqb (group_of g (extent e)) k z)

module _ (g : Geometry) (law : lawful g ≡ true) (v : List ℕ) (size : length v ≡ bytes g) (sound : Orderly g (slot_at g v)) (h : List ℕ) (held : Held g h (slot_at g v))
    (u : ℕ) (u15 : u ≤ 15) (name : List ℕ) (n : ℕ) (n< : n < 65536) (passed : is_none (first_met (write_tests g h v u name n)) ≡ true) where
  abbrev base : Entry
  base = base_entry g v u name n

  abbrev i : ℕ
  i = write_slot g v u name n

  abbrev b : ℕ
  b = write_block g h v u name n

  abbrev e : Entry
  e = entry_after g h v u name n

  abbrev at : ℕ
  at = place_of g n

  abbrev group : ℕ
  group = group_of g (n / 128)

  slot_in : i < slots g
  slot_in = (write_passed g h v u name n passed).slot_in

  low : g.directory_blocks ≤ b
  low = (write_passed g h v u name n passed).block_low

  high : b < g.blocks
  high = (write_passed g h v u name n passed).block_high

  has_bit : (h : List ℕ) → length h ≡ held_words → b < room h
  has_bit h size = omega (arith, (bounds g law).blocks_high, high, size)

  some_directory : 1 ≤ g.directory_blocks
  some_directory = (bounds g law).directory_low

  base_32 : length base ≡ 32
  base_32 = length_base g v u name n law size (write_passed g h v u name n passed).file

  -- the slot's own entry grows, or a new one in an empty slot
  data From : Type 0 where
    old : slot_at g v i ≡ base → group_of g (extent base) ≡ group → From
    new : is_empty (slot_at g v i) ≡ true → ((p : ℕ) → block_in g base p ≡ 0) → ((j : ℕ) → j < slots g → of_group g u name group (slot_at g v j) ≡ false) → From

  from : From
  from = go (has_group g v u name n) refl
    where
      go : (t : Bool) → has_group g v u name n ≡ t → From
      go true q =
          old (ap (slot_at g v) (slot_old g h v u name n q) ∙ sym (base_old g h v u name n q))
          (ap (λ (x : Entry). group_of g (extent x)) (base_old g h v u name n q) ∙ group_is g u name group (slot_at g v (record_slot g v u name n)) (in_group g h v u name n q))
      go false q =
          let file = (write_passed g h v u name n passed).file in
          let z = slot_new g h v u name n q in
          new (ap (λ (x : ℕ). is_empty (slot_at g v x)) z ∙ found_fits g v u name Empty (rw z at slot_in))
          (λ p. ap (λ (x : Entry). block_in g x p) (base_new g h v u name n q) ∙ like_block (slot_at g v (find_slot g v u name File)) (slot_length g law v size (find_slot g v u name File) file) g p)
          (no_group g h v u name n q)

  base_order : InOrder g base
  base_order = go (has_group g v u name n) refl
    where
      go : (t : Bool) → has_group g v u name n ≡ t → InOrder g base
      go true q =
          let s = record_slot g v u name n in
          let own = group_file g u name group (slot_at g v s) (in_group g h v u name n q) in
          rw (base_old g h v u name n q) (sound.order s (ltb-true _ _ q) (file_live u name (slot_at g v s) u15 own))
      go false q =
          let s = find_slot g v u name File in
          let file = (write_passed g h v u name n passed).file in
          rw (base_new g h v u name n q)
          (like_in_order (slot_at g v s) (slot_length g law v size s file) g (sound.order s file (file_live u name (slot_at g v s) u15 (found_fits g v u name File file))))

  base_live : Live base
  base_live = user_live base base_order.fields.user

  -- the place has its block, or is given one that is not held
  data Block : Type 0 where
    kept : needs_block g v u name n ≡ false → block_in g base at ≡ b → Block
    taken : needs_block g v u name n ≡ true → block_in g base at ≡ 0 → holds h b ≡ false → Block

  block : Block
  block = go (needs_block g v u name n) refl
    where
      go : (t : Bool) → needs_block g v u name n ≡ t → Block
      go false q = kept q (sym (block_own g h v u name n q))
      go true q =
          let z = block_given g h v u name n q in
          taken q (place_zero g h v u name n q) (rw z (alloc_given g h base at (rw z at high)).free)

  -- a block of an entry is held
  named_held : (j p c : ℕ) → j < slots g → Live (slot_at g v j) → p < places g → block_in g (slot_at g v j) p ≡ c → g.directory_blocks ≤ c → c < g.blocks → holds h c ≡ true
  named_held j p c j< l p< z lo hi = held.whole c lo hi (record { slot = j; place = p; slot< = j<; place< = p<; live = l; is = z })

  -- no other place of the entry has the block
  not_twice : (q : ℕ) → q < places g → q ≢ at → block_in g base q ≢ b
  not_twice q q< ne z = go block from
    where
      go : Block → From → ⊥
      go (kept t y) f = ne (sym (base_order.once at q (place_lt g law n) q< (λ o. let x : b ≡ 0 = sym y ∙ o in omega (arith, low, some_directory)) (y ∙ sym z)))
      go (taken t y free) (old s gr) =
          false≢true (sym free ∙ named_held i q b slot_in (ap is_empty s ∙ base_live) q< (ap (λ (x : Entry). block_in g x q) s ∙ z) low high)
      go (taken t y free) (new em zs none) = let x : b ≡ 0 = sym z ∙ zs q in omega (arith, low, some_directory)

  -- nor has any place of another entry
  not_elsewhere : (j q : ℕ) → j < slots g → j ≢ i → Live (slot_at g v j) → q < places g → block_in g (slot_at g v j) q ≢ b
  not_elsewhere j q j< ne l q< z = go block from
    where
      go : Block → From → ⊥
      go (kept t y) (old s gr) =
          let x : block_in g (slot_at g v i) at ≡ b = ap (λ (x : Entry). block_in g x at) s ∙ y in
          ne (sym (sound.alone i j at q slot_in j< (ap is_empty s ∙ base_live) l (place_lt g law n) q< (λ o. let w : b ≡ 0 = sym x ∙ o in omega (arith, low, some_directory)) (x ∙ sym z)))
      go (kept t y) (new em zs none) = let x : b ≡ 0 = sym y ∙ zs at in omega (arith, low, some_directory)
      go (taken t y free) f = false≢true (sym free ∙ named_held j q b j< l q< z low high)

  here : block_in g e at ≡ b
  here = written_block g base n b law base_32

  there : (p : ℕ) → p ≢ at → block_in g e p ≡ block_in g base p
  there p ne = written_other g base n b p ne

  -- ---- the entry is in order, and owes nothing to the others
  order : InOrder g e
  order = record {
    fields = written_fields base n base_32 n< base_order.fields g b;
    name = rw (written_name g base n b base_32) base_order.name;
    top_bits = written_top_bits g base n b base_32 base_order.top_bits;
    range = λ p p< nz. range p p< nz (ℕ_discrete p at);
    once = λ p q p< q< nz z. once p q p< q< nz z (ℕ_discrete p at) (ℕ_discrete q at);
  }
    where
      range : (p : ℕ) → p < places g → block_in g e p ≢ 0 → Dec (p ≡ at) → inside g (block_in g e p) ≡ true
      range p p< nz (yes z) = rw (z, here) (is_inside g b low high)
      range p p< nz (no z) = rw (there p z) (base_order.range p p< (rw (there p z) at nz))

      once : (p q : ℕ) → p < places g → q < places g → block_in g e p ≢ 0 → block_in g e p ≡ block_in g e q → Dec (p ≡ at) → Dec (q ≡ at) → p ≡ q
      once p q p< q< nz z (yes x) (yes y) = x ∙ sym y
      once p q p< q< nz z (yes x) (no y) = absurd (not_twice q q< y (sym (there q y) ∙ sym z ∙ ap (block_in g e) x ∙ here))
      once p q p< q< nz z (no x) (yes y) = absurd (not_twice p p< x (sym (there p x) ∙ z ∙ ap (block_in g e) y ∙ here))
      once p q p< q< nz z (no x) (no y) = base_order.once p q p< q< (rw (there p x) at nz) (sym (there p x) ∙ z ∙ there q y)

  fresh : Fresh g (slot_at g v) i e
  fresh = record { blocks = λ j p q j< ne l p< q< nz z. blocks j p q j< ne l p< q< nz z (ℕ_discrete p at) from; unlike = λ j j< ne l k. unlike j j< ne l k from }
    where
      blocks : (j p q : ℕ) → j < slots g → j ≢ i → Live (slot_at g v j) → p < places g → q < places g → block_in g e p ≢ 0 → block_in g e p ≡ block_in g (slot_at g v j) q
          → Dec (p ≡ at) → From → ⊥
      blocks j p q j< ne l p< q< nz z (yes x) f = not_elsewhere j q j< ne l q< (sym z ∙ ap (block_in g e) x ∙ here)
      blocks j p q j< ne l p< q< nz z (no x) (old s gr) =
          let w : block_in g e p ≡ block_in g (slot_at g v i) p = there p x ∙ ap (λ (y : Entry). block_in g y p) (sym s) in
          ne (sym (sound.alone i j p q slot_in j< (ap is_empty s ∙ base_live) l p< q< (λ o. nz (w ∙ o)) (sym w ∙ z)))
      blocks j p q j< ne l p< q< nz z (no x) (new em zs none) = nz (there p x ∙ zs p)

      e_group : group_of g (extent e) ≡ group
      e_group = group_is g u name group e (after_group g h v u name n law size passed)

      unlike : (j : ℕ) → j < slots g → j ≢ i → Live (slot_at g v j) → Twins g e (slot_at g v j) → From → ⊥
      unlike j j< ne l k (old s gr) =
          ne (sym (sound.unlike i j slot_in j< (ap is_empty s ∙ base_live) l (record {
            user = ap (λ (x : Entry). byte x 0) s ∙ sym (written_user g base n b base_32) ∙ k.user;
            name = ap name_of s ∙ sym (written_name g base n b base_32) ∙ k.name;
            group = ap (λ (x : Entry). group_of g (extent x)) s ∙ gr ∙ sym e_group ∙ k.group;
          })))
      unlike j j< ne l k (new em zs none) =
          let own = is_of u name e (after_file g h v u name n law size passed) in
          true≢false
          (sym (of_group_lem g u name group (slot_at g v j)
          (of_file_lem u name (slot_at g v j) (record { user = sym k.user ∙ own.user; name_is = sym k.name ∙ own.name_is }))
          (sym k.group ∙ e_group))
          ∙ none j j<)

  e_live : Live e
  e_live = file_live u name e u15 (after_file g h v u name n law size passed)

  -- ---- the held blocks
  old_held : (p : ℕ) → p < places g → p ≢ at → g.directory_blocks ≤ block_in g e p → block_in g e p < g.blocks → From → holds h (block_in g e p) ≡ true
  old_held p p< ne lo hi (old s gr) = named_held i p (block_in g e p) slot_in (ap is_empty s ∙ base_live) p< (ap (λ (x : Entry). block_in g x p) s ∙ sym (there p ne)) lo hi
  old_held p p< ne lo hi (new em zs none) = let x : block_in g e p ≡ 0 = there p ne ∙ zs p in absurd (omega (arith, some_directory))

  in_e : (p : ℕ) → p < places g → p ≢ at → slot_at g v i ≡ base → InMap g e (block_in g (slot_at g v i) p)
  in_e p p< ne s = record { place = p; place< = p<; is = there p ne ∙ ap (λ (x : Entry). block_in g x p) (sym s) }

  anew_kept : block_in g base at ≡ b → HeldAnew g h h (slot_at g v) i e
  anew_kept y = record {
    size = held.size;
    live = e_live;
    stays = λ c t. t;
    only = λ c lo hi t. inl t;
    keeps = λ p p< l lo. keeps p p< l (ℕ_discrete p at) from;
    holds_all = λ p p< lo hi. all p p< lo hi (ℕ_discrete p at) from;
  }
    where
      keeps : (p : ℕ) → p < places g → Live (slot_at g v i) → Dec (p ≡ at) → From → InMap g e (block_in g (slot_at g v i) p)
      keeps p p< l d (new em zs none) = absurd (true≢false (sym em ∙ l))
      keeps p p< l (no ne) (old s gr) = in_e p p< ne s
      keeps p p< l (yes z) (old s gr) = record { place = p; place< = p<; is = ap (block_in g e) z ∙ here ∙ sym y ∙ ap (block_in g base) (sym z) ∙ ap (λ (x : Entry). block_in g x p) (sym s) }

      all : (p : ℕ) → p < places g → g.directory_blocks ≤ block_in g e p → block_in g e p < g.blocks → Dec (p ≡ at) → From → holds h (block_in g e p) ≡ true
      all p p< lo hi (no ne) f = old_held p p< ne lo hi f
      all p p< lo hi (yes z) (old s gr) =
          named_held i p (block_in g e p) slot_in (ap is_empty s ∙ base_live) p< (ap (λ (x : Entry). block_in g x p) s ∙ ap (block_in g base) z ∙ y ∙ sym here ∙ ap (block_in g e) (sym z)) lo hi
      all p p< lo hi (yes z) (new em zs none) = let x : b ≡ 0 = sym y ∙ zs at in absurd (omega (arith, low, some_directory))

  anew_taken : block_in g base at ≡ 0 → HeldAnew g h (hold h b) (slot_at g v) i e
  anew_taken y = record {
    size = length_hold h b ∙ held.size;
    live = e_live;
    stays = stays;
    only = λ c lo hi t. only c t (ℕ_discrete c b);
    keeps = λ p p< l lo. keeps p p< l lo (ℕ_discrete p at) from;
    holds_all = λ p p< lo hi. all p p< lo hi (ℕ_discrete p at);
  }
    where
      stays : (c : ℕ) → holds h c ≡ true → holds (hold h b) c ≡ true
      stays c t = go (ℕ_discrete c b)
        where
          go : Dec (c ≡ b) → holds (hold h b) c ≡ true
          go (yes z) = rw z (holds_hold_same h b (has_bit h held.size))
          go (no z) = holds_hold_other h b (has_bit h held.size) c z ∙ t

      only : (c : ℕ) → holds (hold h b) c ≡ true → Dec (c ≡ b) → (holds h c ≡ true) ⊎ InMap g e c
      only c t (yes z) = inr (record { place = at; place< = place_lt g law n; is = here ∙ sym z })
      only c t (no z) = inl (sym (holds_hold_other h b (has_bit h held.size) c z) ∙ t)

      keeps : (p : ℕ) → p < places g → Live (slot_at g v i) → g.directory_blocks ≤ block_in g (slot_at g v i) p → Dec (p ≡ at) → From → InMap g e (block_in g (slot_at g v i) p)
      keeps p p< l lo d (new em zs none) = absurd (true≢false (sym em ∙ l))
      keeps p p< l lo (no ne) (old s gr) = in_e p p< ne s
      keeps p p< l lo (yes z) (old s gr) =
          let x : block_in g (slot_at g v i) p ≡ 0 = ap (λ (x : Entry). block_in g x p) s ∙ ap (block_in g base) z ∙ y in
          absurd (omega (arith, some_directory))

      all : (p : ℕ) → p < places g → g.directory_blocks ≤ block_in g e p → block_in g e p < g.blocks → Dec (p ≡ at) → holds (hold h b) (block_in g e p) ≡ true
      all p p< lo hi (no ne) = stays (block_in g e p) (old_held p p< ne lo hi from)
      all p p< lo hi (yes z) = let x : block_in g e p ≡ b = ap (block_in g e) z ∙ here in rw x (holds_hold_same h b (has_bit h held.size))

  anew : HeldAnew g h (held_after g h v u name n) (slot_at g v) i e
  anew = go block
    where
      go : Block → HeldAnew g h (held_after g h v u name n) (slot_at g v) i e
      go (kept q y) = rw q (anew_kept y)
      go (taken q y free) = rw q (anew_taken y)

  -- ---- the volume
  module _ (fills : Bool) (r : List ℕ) (r128 : length r ≡ 128) where
    abbrev v' : List ℕ
    v' = written g h v u name n fills r

    laid : Laid g (slot_at g v) (slot_at g v') i e
    laid = record { here = after_slot g h v u name n law size passed fills r r128; there = after_slot_other g h v u name n law size passed fills r r128 }

    pub write_size : length v' ≡ bytes g
    write_size = after_size g h v u name n law size passed fills r r128

    pub write_sound : Orderly g (slot_at g v')
    write_sound = sound_laid g (slot_at g v) (slot_at g v') i e sound laid order fresh

    pub write_held : Held g (held_after g h v u name n) (slot_at g v')
    write_held = held_laid g h (held_after g h v u name n) (slot_at g v) (slot_at g v') i e slot_in held laid anew

    pub write_apart : (w : ℕ) (other : List ℕ) → w ≤ 15 → (eqb w u && same other name) ≡ false → Apart g w other v v'
    write_apart w other w15 differ = record { entries = λ j j<. entry j j< (ℕ_discrete j i); bytes = λ j p m j< p< own nz. record_there j p m j< p< own nz }
      where
        own : IsOf u name e
        own = is_of u name e (after_file g h v u name n law size passed)

        before : From → of_file w other (slot_at g v i) ≡ false
        before (old s gr) =
            ap (of_file w other) s ∙ other_file u name w other base differ (sym (written_user g base n b base_32) ∙ own.user) (sym (written_name g base n b base_32) ∙ own.name_is)
        before (new em zs none) = empty_foreign w other (slot_at g v i) w15 em

        entry : (j : ℕ) → j < slots g → Dec (j ≡ i) → Touch w other (slot_at g v j) (slot_at g v' j)
        entry j j< (no z) = unchanged (laid.there j j< z)
        entry j j< (yes z) =
            foreign (ap (λ (x : ℕ). of_file w other (slot_at g v x)) z ∙ before from)
            (ap (λ (x : ℕ). of_file w other (slot_at g v' x)) z ∙ ap (of_file w other) laid.here ∙ other_file u name w other e differ own.user own.name_is)

        record_there : (j p m : ℕ) → j < slots g → p < places g → of_file w other (slot_at g v j) ≡ true → block_in g (slot_at g v j) p ≢ 0
            → record_at g v' (block_in g (slot_at g v j) p) m ≡ record_at g v (block_in g (slot_at g v j) p) m
        record_there j p m j< p< mine nz =
            let c = file_block g v sound w other w15 j p j< p< mine nz in
            let ne : j ≢ i = λ z. true≢false (sym mine ∙ ap (λ (x : ℕ). of_file w other (slot_at g v x)) z ∙ before from) in
            after_record_other g h v u name n law size passed fills r r128 (block_in g (slot_at g v j) p) m c.0 c.1
            (not_elsewhere j p j< ne (file_live w other (slot_at g v j) w15 mine) p<)
