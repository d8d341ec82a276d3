-- "Log-in accepts exactly when all slots are good": what an accepted directory is as a whole.
-- In it a block stands in one place of one slot, and a user's file has one entry of each group.
use mathlib.Core.Path.{◌≡◌, refl, sym, ap, ◌∙◌}
use mathlib.Core.Bool.{Bool, true, false, not, true≢false}
use mathlib.Core.Logic.{⊎_elim, ◌≢◌}
use mathlib.Core.List.{List}
use Prim.Native.Nat.{ℕ, ◌≤◌, ◌<◌}
use native.Mathlib.Decide.{ℕ_discrete, dec_lt}
use native.Mathlib.Omega.{arith}
use borrow.Author.Tests.{not-true, not-false}
use Rattle.lists.proofs.BoundedLaws.{low_le, low_hit, low_miss, low_no}
use Rattle.disk_geometry.specs.declared.Geometry.{Geometry}
use Rattle.disk_geometry.specs.Geometry.{slots, inside, places}
use Rattle.disk_volume.specs.Entry.{is_empty, block_in}
use Rattle.disk_volume.specs.Directory.{slot_at}
use Rattle.disk_rules.specs.GoodSlot.{good_slot, lowest_bad}
use Rattle.disk_rules.specs.Named.{named}
use Rattle.disk_rules.proofs.GoodLaws.{Good, good_facts}
use Rattle.disk_rules.proofs.NamedLaws.{at_named}
use Rattle.disk_rules.proofs.TwinLaws.{twin, twin_sym}

-- ---- all slots are good
abbrev bad : Geometry → List ℕ → ℕ → Bool
bad g v i = not (good_slot g v i)

-- the lowest bad slot
pub record LowestBad (g : Geometry) (v : List ℕ) (i : ℕ) : Type 0 where
  pub below : i < slots g
  pub is_bad : good_slot g v i ≡ false
  pub lower_good : (j : ℕ) → j < i → good_slot g v j ≡ true

module _ (g : Geometry) (v : List ℕ) where
  pub lowest_bad_le : lowest_bad g v ≤ slots g
  unfolding lowest_bad
  lowest_bad_le = omega (arith, low_le (bad g v) 0 (slots g))

  pub accepted : lowest_bad g v ≡ slots g → (i : ℕ) → i < slots g → good_slot g v i ≡ true
  unfolding lowest_bad
  accepted e i h = not-false (good_slot g v i) (low_miss (bad g v) 0 (slots g) (omega arith) i (omega arith) (omega arith))

  pub accepts : ((i : ℕ) → i < slots g → good_slot g v i ≡ true) → lowest_bad g v ≡ slots g
  unfolding lowest_bad
  accepts h = low_no (bad g v) 0 (slots g) (λ i a l. ap not (h i (omega arith))) ∙ omega arith

  pub refused : lowest_bad g v < slots g → LowestBad g v (lowest_bad g v)
  unfolding lowest_bad
  refused h =
      let l = low_hit (bad g v) 0 (slots g) (lowest_bad g v) refl (omega arith) in
      record { below = h; is_bad = not-true _ l.passes; lower_good = λ j k. not-false _ (l.first j (omega arith) k) }

-- ---- in an accepted directory
module _ (g : Geometry) (v : List ℕ) (ok : lowest_bad g v ≡ slots g) where
  pub good_entry_lem : (i : ℕ) → i < slots g → is_empty (slot_at g v i) ≡ false → Good g v i
  good_entry_lem i h used = good_facts g v i (accepted g v ok i h) used

  -- a place of the map of an entry
  pub record Place (i p : ℕ) : Type 0 where
    pub slot : i < slots g
    pub used : is_empty (slot_at g v i) ≡ false
    pub place : p < places g

  -- each block in a map is held
  pub place_named : (i p : ℕ) → Place i p → block_in g (slot_at g v i) p ≢ 0 → named g v (block_in g (slot_at g v i) p) ≡ true
  unfolding named
  place_named i p a n =
      let b = block_in g (slot_at g v i) p in
      let in_g : inside g b ≡ true = ⊎_elim (λ z. absurd (n z)) (λ w. w) ((good_entry_lem i a.slot a.used).block p a.place) in
      rw (in_g, at_named g v (slots g) b (record { slot = i; below = a.slot; used = a.used; place = p; in_map = a.place; is = refl }))

  -- a block stands in one place of one slot
  pub one_place : (i p j q : ℕ) → Place i p → Place j q → block_in g (slot_at g v i) p ≢ 0 → block_in g (slot_at g v i) p ≡ block_in g (slot_at g v j) q → (i ≡ j) × (p ≡ q)
  one_place i p j q a b n e = go (ℕ_discrete i j) (ℕ_discrete p q)
    where
      m : block_in g (slot_at g v j) q ≢ 0
      m z = n (e ∙ z)

      places_apart : (x y : ℕ) → Place i x → y < x → block_in g (slot_at g v i) x ≢ 0 → block_in g (slot_at g v i) y ≢ block_in g (slot_at g v i) x
      places_apart x y c h k = (good_entry_lem i c.slot c.used).once x y h c.place k

      within : i ≡ j → p ≢ q → ⊥
      within z k =
          let f : block_in g (slot_at g v i) p ≡ block_in g (slot_at g v i) q = e ∙ ap (λ (x : ℕ). block_in g (slot_at g v x) q) (sym z) in
          elim (dec_lt p q) [
            | yes h ↦ places_apart q p (record { slot = a.slot; used = a.used; place = b.place }) h (λ w. n (f ∙ w)) f
            | no h ↦ places_apart p q a (omega arith) n (sym f)
          ]

      across : i ≢ j → ⊥
      across k = elim (dec_lt i j) [
        | yes h ↦ (good_entry_lem j b.slot b.used).alone q b.place m i h a.used p a.place e
        | no h ↦ (good_entry_lem i a.slot a.used).alone p a.place n j (omega arith) b.used q b.place (sym e)
      ]

      go : Dec (i ≡ j) → Dec (p ≡ q) → (i ≡ j) × (p ≡ q)
      go (yes z) (yes w) = (z, w)
      go (yes z) (no w) = absurd (within z w)
      go (no z) w = absurd (across z)

  -- two entries of one user, name and group are one
  pub one_entry : (i j : ℕ) → i < slots g → j < slots g → is_empty (slot_at g v i) ≡ false → is_empty (slot_at g v j) ≡ false
      → twin g (slot_at g v i) (slot_at g v j) ≡ true → i ≡ j
  one_entry i j a b c d t = elim (ℕ_discrete i j) [
    | yes z ↦ z
    | no n ↦ elim (dec_lt i j) [
      | yes h ↦ absurd (true≢false (sym (twin_sym g (slot_at g v i) (slot_at g v j) t) ∙ (good_entry_lem j b d).unlike i h))
      | no h ↦ absurd (true≢false (sym t ∙ (good_entry_lem i a c).unlike j (omega arith)))
    ]
  ]
