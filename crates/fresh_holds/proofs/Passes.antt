-- The fresh disk passes inspection. Its entries are those of the worn disk but for their maps, and its blocks have numbers that
-- rise as they come.
use mathlib.Core.Path.{◌≡◌, refl, sym, ap, ◌∙◌}
use mathlib.Core.Bool.{Bool, true, false, true≢false}
use mathlib.Core.Logic.{◌⊎◌, inl, inr, ◌≢◌}
use mathlib.Core.List.{List}
use Prim.Native.Nat.{ℕ, ◌+◌, ◌≤◌, ◌<◌}
use native.Mathlib.Decide.{dec_lt}
use native.Mathlib.Omega.{arith}
use lib.ListN.{length, get_or, take}
use Rattle.lists.specs.Bytes.{byte}
use Rattle.disk_geometry.specs.declared.Geometry.{Geometry}
use Rattle.disk_geometry.specs.Geometry.{lawful, bytes, slots, places, group_of, inside}
use Rattle.disk_geometry.proofs.GeometryLaws.{bounds}
use Rattle.disk_geometry.proofs.InsideLaws.{is_inside}
use Rattle.disk_volume.specs.Name.{name_of, good_name}
use Rattle.disk_volume.specs.Entry.{Entry, is_empty, extent, block_in, of_group}
use Rattle.disk_volume.specs.Directory.{slot_at}
use Rattle.disk_rules.specs.GoodSlot.{twin, good_slot, lowest_bad}
use Rattle.disk_rules.proofs.GoodLaws.{Good, is_good}
use Rattle.disk_rules.proofs.AcceptedLaws.{accepts, good_entry_lem, one_entry}
use Rattle.files.specs.Files.{is_used}
use Rattle.fresh_order.specs.Order.{order}
use Rattle.fresh_order.proofs.OrderLaws.{one_of}
use Rattle.fresh_volume.specs.Copy.{numbered, first_number, fresh}
use Rattle.fresh_volume.proofs.NumberedLaws.{numbered_length, numbered_head, numbered_block, numbered_zero, numbered_used, below_low, turns_apart}
use Rattle.fresh_holds.proofs.SameHead.{same_byte, same_empty, same_name, same_extent, same_group, same_fields, same_top_bits}
use Rattle.fresh_volume.proofs.Copied.{many, entry, place, is_entry_lem, entry_length, slot_fresh, slot_blank, block_low}

module _ (g : Geometry) (v : List ℕ) (law : lawful g ≡ true) (size : length v ≡ bytes g) (ok : lowest_bad g v ≡ slots g)
    (w : List ℕ) (w-size : length w ≡ bytes g) where
  abbrev m : ℕ
  m = many g v law size ok

  abbrev e : ℕ → Entry
  e = entry g v law size ok

  -- slot k of the fresh disk
  abbrev y : ℕ → Entry
  y k = slot_at g (fresh g v w) k

  -- ---- it is entry k but for its map
  is_numbered : (k : ℕ) → k < m → y k ≡ numbered g (first_number g v (order g v) k) (e k)
  is_numbered k h = slot_fresh g v law size ok w w-size k h

  pub fresh_length : (k : ℕ) → k < m → length (y k) ≡ 32
  fresh_length k h = ap length (is_numbered k h) ∙ numbered_length g (first_number g v (order g v) k) (e k) (entry_length g v law size ok k h)

  pub fresh_head : (k : ℕ) → k < m → take 16 (y k) ≡ take 16 (e k)
  fresh_head k h = ap (take 16) (is_numbered k h) ∙ numbered_head g (first_number g v (order g v) k) (e k) (entry_length g v law size ok k h)

  pub fresh_used : (k p : ℕ) → k < m → p < places g → is_used g (y k) p ≡ is_used g (e k) p
  fresh_used k p h q =
      ap (λ (x : Entry). is_used g x p) (is_numbered k h)
      ∙ numbered_used g (first_number g v (order g v) k) (e k) (entry_length g v law size ok k h) (omega (arith, (bounds g law).directory_low)) p q

  pub fresh_number : (k p : ℕ) → k < m → p < places g → is_used g (e k) p ≡ true → block_in g (y k) p ≡ g.directory_blocks + place g v law size ok k p
  fresh_number k p h q u =
      ap (λ (x : Entry). block_in g x p) (is_numbered k h)
      ∙ numbered_block g (first_number g v (order g v) k) (e k) (entry_length g v law size ok k h) p q u ∙ omega arith

  fresh_zero : (k p : ℕ) → k < m → is_used g (e k) p ≡ false → block_in g (y k) p ≡ 0
  fresh_zero k p h u =
      ap (λ (x : Entry). block_in g x p) (is_numbered k h) ∙ numbered_zero g (first_number g v (order g v) k) (e k) (entry_length g v law size ok k h) p u

  -- ---- what is the same of it
  module _ (k : ℕ) (h : k < m) where
    y32 : length (y k) ≡ 32
    y32 = fresh_length k h

    e32 : length (e k) ≡ 32
    e32 = entry_length g v law size ok k h

    pub fresh_empty : is_empty (y k) ≡ false
    fresh_empty = same_empty (y k) (e k) y32 e32 (fresh_head k h) ∙ (is_entry_lem g v law size ok k h).1

    pub fresh_user : byte (y k) 0 ≡ byte (e k) 0
    fresh_user = same_byte (y k) (e k) y32 e32 (fresh_head k h) 0 (omega arith)

    pub fresh_name : name_of (y k) ≡ name_of (e k)
    fresh_name = same_name (y k) (e k) y32 e32 (fresh_head k h)

    pub fresh_extent : extent (y k) ≡ extent (e k)
    fresh_extent = same_extent (y k) (e k) y32 e32 (fresh_head k h)

    pub fresh_group : (u : ℕ) (name : List ℕ) (x : ℕ) → of_group g u name x (y k) ≡ of_group g u name x (e k)
    fresh_group = same_group (y k) (e k) y32 e32 (fresh_head k h) g

  -- a slot that is not empty is one of the first m
  pub fresh_low : (k : ℕ) → k < slots g → is_empty (y k) ≡ false → k < m
  fresh_low k h u = elim (dec_lt k m) [
    | yes l ↦ l
    | no l ↦ absurd (true≢false (sym (ap is_empty (slot_blank g v law size ok w w-size k (omega arith) h)) ∙ u))
  ]

  -- ---- no two entries of one user, name and group
  fresh_twin : (k j : ℕ) → k < m → j < m → twin g (y k) (y j) ≡ twin g (e k) (e j)
  fresh_twin k j h l = rw (fresh_user k h, fresh_name k h, fresh_extent k h) (fresh_group j l (byte (e k) 0) (name_of (e k)) (group_of g (extent (e k))))

  pub alike : (k j : ℕ) → k < m → j < m → twin g (e k) (e j) ≡ true → k ≡ j
  alike k j h l t =
      let a = is_entry_lem g v law size ok k h in
      let b = is_entry_lem g v law size ok j l in
      one_of g v law ok k j h l (one_entry g v ok (get_or (order g v) k 0) (get_or (order g v) j 0) a.0 b.0 a.1 b.1 t)

  unlike : (k j : ℕ) → k < m → j < k → twin g (y k) (y j) ≡ false
  unlike k j h l = go (twin g (y k) (y j)) refl
    where
      go : (t : Bool) → twin g (y k) (y j) ≡ t → t ≡ false
      go true q = absurd (omega (arith, alike k j h (omega arith) (sym (fresh_twin k j h (omega arith)) ∙ q)))
      go false q = refl

  -- ---- every slot is good
  -- two places whose blocks have different turns
  numbers_apart : (k p j q : ℕ) → k < m → j < m → p < places g → q < places g → block_in g (y k) p ≢ 0
      → (is_used g (e j) q ≡ true → place g v law size ok j q < place g v law size ok k p) → block_in g (y j) q ≢ block_in g (y k) p
  numbers_apart k p j q h l p< q< n before z = go (is_used g (e k) p) refl (is_used g (e j) q) refl
    where
      go : (t : Bool) → is_used g (e k) p ≡ t → (s : Bool) → is_used g (e j) q ≡ s → ⊥
      go false u s x = n (fresh_zero k p h u)
      go true u true x = omega (arith, before x, fresh_number k p h p< u, fresh_number j q l q< x)
      go true u false x = n (sym z ∙ fresh_zero j q l x)

  good_at_lem : (k : ℕ) → k < m → Good g (fresh g v w) k
  good_at_lem k h =
      let a = is_entry_lem g v law size ok k h in
      let good = good_entry_lem g v ok (get_or (order g v) k 0) a.0 a.1 in
      record {
        fields = same_fields (y k) (e k) (y32 k h) (e32 k h) (fresh_head k h) ∙ good.fields;
        name = ap (good_name false) (fresh_name k h) ∙ good.name;
        top_bits = same_top_bits (y k) (e k) (y32 k h) (e32 k h) (fresh_head k h) ∙ good.top_bits;
        block = λ p l. block p l (is_used g (e k) p) refl;
        once = λ p q l p< n. numbers_apart k p k q h h p< (omega arith) n (λ u. omega (arith, below_low g (e k) q p l u));
        alone = λ p p< n j l used q q<.
            numbers_apart k p j q h (omega arith) p< q< n (λ u. turns_apart g v (order g v) j q k p l q< u);
        unlike = λ j l. unlike k j h l;
      }
    where
      block : (p : ℕ) → p < places g → (t : Bool) → is_used g (e k) p ≡ t → (block_in g (y k) p ≡ 0) ⊎ (inside g (block_in g (y k) p) ≡ true)
      block p l true u =
          let b = g.directory_blocks + place g v law size ok k p in
          inr (rw (fresh_number k p h l u) (is_inside g b (omega arith) (block_low g v law size ok w w-size k p h l u)))
      block p l false u = inl (fresh_zero k p h u)

  pub fresh_passes : lowest_bad g (fresh g v w) ≡ slots g
  fresh_passes = accepts g (fresh g v w) (λ k h. at k h (dec_lt k m))
    where
      blank : (k : ℕ) → k < slots g → m ≤ k → good_slot g (fresh g v w) k ≡ true
      blank k h l = unfold good_slot in rw (slot_blank g v law size ok w w-size k l h)

      at : (k : ℕ) → k < slots g → Dec (k < m) → good_slot g (fresh g v w) k ≡ true
      at k h (yes l) = is_good g (fresh g v w) k (good_at_lem k l)
      at k h (no l) = blank k h (omega arith)
