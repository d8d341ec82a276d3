-- The held blocks place by place: on a volume that passes inspection every held block stands in one place of one entry,
-- so there are as many as used places.
use mathlib.Core.Path.{◌≡◌, refl, sym, ◌∙◌}
use mathlib.Core.Bool.{Bool, true, false, cond, true≢false}
use mathlib.Core.Logic.{◌≢◌, ◌⊎◌, inl, inr}
use mathlib.Core.List.{List}
use Prim.Native.Nat.{ℕ, ◌-◌, ◌≤◌, ◌<◌}
use native.Mathlib.Omega.{arith}
use borrow.Author.Tests.{leb-true, le-leb, ltb-true, lt-ltb, eqb-true, eq-eqb, ne_eqb}
use lib.Dec.{leb, ltb, eqb}
use Rattle.lists.specs.Bounded.{count_from}
use Rattle.lists.proofs.BoolLaws.{and_parts}
use Rattle.disk_geometry.specs.declared.Geometry.{Geometry}
use Rattle.disk_geometry.specs.Geometry.{lawful, slots, inside, places}
use Rattle.disk_geometry.proofs.GeometryLaws.{bounds}
use Rattle.disk_volume.specs.Entry.{is_empty, block_in}
use Rattle.disk_volume.specs.Directory.{slot_at}
use Rattle.disk_rules.specs.GoodSlot.{lowest_bad, named_below}
use Rattle.disk_rules.specs.Named.{named}
use Rattle.disk_rules.proofs.NamedLaws.{NamedAt, named_at, at_named}
use Rattle.disk_rules.proofs.AcceptedLaws.{good_entry_lem, one_place}
use Rattle.files.specs.Files.{is_used, used_places}
use Rattle.shelf_holdings.specs.Holdings.{is_entry, blocks_held}
use Rattle.shelf_holdings.specs.CodeEntries.{slot_places}
use Rattle.sums.specs.Sum.{sum_from, sum}
use Rattle.sums.proofs.SumLaws.{sum_ext, sum_zero, sum_swap, sum_one, count_sum}

-- "from D to T-1"
pub inside_range : (g : Geometry) (b : ℕ) → inside g b ≡ true → (g.directory_blocks ≤ b) × (b < g.blocks)
unfolding inside
inside_range g b h = let p = and_parts (leb g.directory_blocks b) (ltb b g.blocks) h in (leb-true _ _ p.0, ltb-true _ _ p.1)

pub range_inside : (g : Geometry) (b : ℕ) → g.directory_blocks ≤ b → b < g.blocks → inside g b ≡ true
unfolding inside
range_inside g b l h = rw (le-leb g.directory_blocks b l, lt-ltb b g.blocks h)

module _ (g : Geometry) (v : List ℕ) (law : lawful g ≡ true) (ok : lowest_bad g v ≡ slots g) where
  -- how often slot j has block b: place by place, of an entry
  abbrev at_place : ℕ → ℕ → ℕ → ℕ
  at_place b j p = cond (eqb (block_in g (slot_at g v j) p) b) 1 0

  abbrev in_slot : ℕ → ℕ → ℕ
  in_slot b j = cond (is_entry g v j) (sum (places g) (at_place b j)) 0

  -- a block that is named stands once
  once_own : (b : ℕ) → b ≢ 0 → (n : NamedAt g v (slots g) b) → in_slot b n.slot ≡ 1
  once_own b nz n =
      let s : sum (places g) (at_place b n.slot) ≡ at_place b n.slot n.place
      = sum_one (at_place b n.slot) 0 (places g) n.place (omega arith) (omega (arith, n.in_map)) (λ m a l k. at m (omega arith) k (eqb (block_in g (slot_at g v n.slot) m) b) refl) in
      rw (n.used, s, eq-eqb (block_in g (slot_at g v n.slot) n.place) b n.is)
    where
      at : (m : ℕ) → m < places g → m ≢ n.place → (t : Bool) → eqb (block_in g (slot_at g v n.slot) m) b ≡ t → at_place b n.slot m ≡ 0
      at m l k false e = rw e
      at m l k true e =
          let q = eqb-true (block_in g (slot_at g v n.slot) m) b e in
          absurd (k (one_place g v ok n.slot m n.slot n.place
          (record { slot = n.below; used = n.used; place = l }) (record { slot = n.below; used = n.used; place = n.in_map })
          (λ z. nz (sym q ∙ z)) (q ∙ sym n.is)).1)

  once_other : (b : ℕ) → b ≢ 0 → (n : NamedAt g v (slots g) b) → (j : ℕ) → j < slots g → j ≢ n.slot → in_slot b j ≡ 0
  once_other b nz n j l k = go (is_empty (slot_at g v j)) refl
    where
      at : is_empty (slot_at g v j) ≡ false → (m : ℕ) → m < places g → (t : Bool) → eqb (block_in g (slot_at g v j) m) b ≡ t → at_place b j m ≡ 0
      at u m h false e = rw e
      at u m h true e =
          let q = eqb-true (block_in g (slot_at g v j) m) b e in
          absurd (k (one_place g v ok j m n.slot n.place
          (record { slot = l; used = u; place = h }) (record { slot = n.below; used = n.used; place = n.in_map })
          (λ z. nz (sym q ∙ z)) (q ∙ sym n.is)).0)

      go : (t : Bool) → is_empty (slot_at g v j) ≡ t → in_slot b j ≡ 0
      go true e = rw e
      go false e = rw e (sum_zero (at_place b j) 0 (places g) (λ m a h. at e m (omega arith) (eqb (block_in g (slot_at g v j) m) b) refl))

  nowhere : (b : ℕ) → named_below g v (slots g) b ≡ false → (j : ℕ) → j < slots g → in_slot b j ≡ 0
  nowhere b f j l = go (is_empty (slot_at g v j)) refl
    where
      at : is_empty (slot_at g v j) ≡ false → (m : ℕ) → m < places g → (t : Bool) → eqb (block_in g (slot_at g v j) m) b ≡ t → at_place b j m ≡ 0
      at u m h false e = rw e
      at u m h true e =
          absurd (true≢false (sym (at_named g v (slots g) b (record { slot = j; below = l; used = u; place = m; in_map = h; is = eqb-true (block_in g (slot_at g v j) m) b e })) ∙ f))

      go : (t : Bool) → is_empty (slot_at g v j) ≡ t → in_slot b j ≡ 0
      go true e = rw e
      go false e = rw e (sum_zero (at_place b j) 0 (places g) (λ m a h. at e m (omega arith) (eqb (block_in g (slot_at g v j) m) b) refl))

  once : (b : ℕ) → g.directory_blocks ≤ b → b < g.blocks → cond (named g v b) 1 0 ≡ sum (slots g) (in_slot b)
  unfolding named
  once b lo hi = rw (range_inside g b lo hi) (go (named_below g v (slots g) b) refl)
    where
      nz : b ≢ 0
      nz z = let h = (bounds g law).directory_low in absurd (omega arith)

      go : (t : Bool) → named_below g v (slots g) b ≡ t → cond (named_below g v (slots g) b) 1 0 ≡ sum (slots g) (in_slot b)
      go true e =
          let n = named_at g v (slots g) b e in
          rw e (sym (sum_one (in_slot b) 0 (slots g) n.slot (omega arith) (omega (arith, n.below)) (λ j a l k. once_other b nz n j (omega arith) k) ∙ once_own b nz n))
      go false e = rw e (sym (sum_zero (in_slot b) 0 (slots g) (λ j a l. nowhere b e j (omega arith))))

  -- every used place has one of the blocks from D to T-1
  one_block : (j : ℕ) → j < slots g → is_empty (slot_at g v j) ≡ false → (p : ℕ) → p < places g
      → sum_from (λ b. at_place b j p) g.directory_blocks (g.blocks - g.directory_blocks) ≡ cond (is_used g (slot_at g v j) p) 1 0
  one_block j l u p h = go ((good_entry_lem g v ok j l u).block p h)
    where
      low : 1 ≤ g.directory_blocks
      low = (bounds g law).directory_low

      go : (block_in g (slot_at g v j) p ≡ 0) ⊎ (inside g (block_in g (slot_at g v j) p) ≡ true)
          → sum_from (λ b. at_place b j p) g.directory_blocks (g.blocks - g.directory_blocks) ≡ cond (is_used g (slot_at g v j) p) 1 0
      go (inl z) =
          sum_zero (λ b. at_place b j p) g.directory_blocks (g.blocks - g.directory_blocks)
          (λ m a b. rw (ne_eqb (block_in g (slot_at g v j) p) m (omega (arith, low))))
          ∙ rw (eq-eqb (block_in g (slot_at g v j) p) 0 z)
      go (inr i) =
          let r = inside_range g (block_in g (slot_at g v j) p) i in
          sum_one (λ b. at_place b j p) g.directory_blocks (g.blocks - g.directory_blocks) (block_in g (slot_at g v j) p) r.0 (omega (arith, r, low))
          (λ m a b k. rw (ne_eqb (block_in g (slot_at g v j) p) m (λ z. k (sym z))))
          ∙ rw (eq-eqb (block_in g (slot_at g v j) p) (block_in g (slot_at g v j) p) refl, ne_eqb (block_in g (slot_at g v j) p) 0 (omega (arith, r, low)))

  in_slot_lem : (j : ℕ) → j < slots g → sum_from (λ b. in_slot b j) g.directory_blocks (g.blocks - g.directory_blocks) ≡ slot_places g v j
  unfolding slot_places used_places
  in_slot_lem j l = go (is_empty (slot_at g v j)) refl
    where
      go : (t : Bool) → is_empty (slot_at g v j) ≡ t
          → sum_from (λ b. in_slot b j) g.directory_blocks (g.blocks - g.directory_blocks) ≡ cond (is_entry g v j) (count_from (is_used g (slot_at g v j)) 0 (places g)) 0
      go true e = sum_zero (λ b. in_slot b j) g.directory_blocks (g.blocks - g.directory_blocks) (λ m a b. rw e) ∙ rw e
      go false e =
          sum_ext (λ b. in_slot b j) (λ b. sum (places g) (at_place b j)) g.directory_blocks (g.blocks - g.directory_blocks) (λ m a b. rw e)
          ∙ sum_swap (λ b p. at_place b j p) g.directory_blocks (g.blocks - g.directory_blocks) 0 (places g)
          ∙ sum_ext (λ p. sum_from (λ b. at_place b j p) g.directory_blocks (g.blocks - g.directory_blocks)) (λ p. cond (is_used g (slot_at g v j) p) 1 0) 0 (places g) (λ p a b. one_block j l e p (omega arith))
          ∙ sym (count_sum (is_used g (slot_at g v j)) 0 (places g))
          ∙ rw e

  pub held_places : blocks_held g v ≡ sum (slots g) (slot_places g v)
  unfolding blocks_held
  held_places =
      count_sum (named g v) g.directory_blocks (g.blocks - g.directory_blocks)
      ∙ sum_ext (λ b. cond (named g v b) 1 0) (λ b. sum (slots g) (in_slot b)) g.directory_blocks (g.blocks - g.directory_blocks) (λ b lo hi. once b lo (omega arith))
      ∙ sum_swap (λ b j. in_slot b j) g.directory_blocks (g.blocks - g.directory_blocks) 0 (slots g)
      ∙ sum_ext (λ j. sum_from (λ b. in_slot b j) g.directory_blocks (g.blocks - g.directory_blocks)) (slot_places g v) 0 (slots g) (λ j a l. in_slot_lem j (omega arith))
