-- The records of one entry: those of its group that are below the run of what it counts, where their place names a block.
use mathlib.Core.Path.{◌≡◌, refl, sym, ap, ◌∙◌}
use mathlib.Core.Bool.{Bool, true, false, cond, ◌&&◌, and-true, and-false}
use mathlib.Core.Logic.{◌≢◌}
use Prim.Native.Nat.{ℕ, suc, ◌+◌, ◌-◌, ◌*◌, ◌/◌, ◌%◌, ◌≤◌, ◌<◌, min}
use native.Mathlib.Decide.{dec_lt}
use native.Mathlib.Nat.{div-add-mod', mul-le-mul_right}
use native.Mathlib.Omega.{arith}
use lib.Arith.{digits_div, digits_mod}
use borrow.Author.Tests.{lt-ltb, le-ltb, ltb-true, ltb-false, eq-eqb, ne_eqb}
use lib.Dec.{ltb}
use Rattle.lists.specs.Bounded.{count_from}
use Rattle.lists.specs.Bytes.{byte}
use Rattle.sums.specs.Sum.{sum_from}
use Rattle.lists.proofs.BoundedLaws.{count_ext}
use Rattle.sums.proofs.SumLaws.{sum_ext, sum_le, sum_times, sum_pieces, count_sum, count_below}
use Rattle.disk_geometry.specs.declared.Geometry.{Geometry}
use Rattle.disk_geometry.specs.Geometry.{lawful, records, extents, group_of, places, place_of}
use Rattle.disk_geometry.proofs.GeometryLaws.{bounds}
use Rattle.disk_volume.specs.Entry.{Entry, extent, block_in, count_of}
use Rattle.disk_volume.specs.Record.{counted}
use Rattle.disk_volume.proofs.EntryLaws.{count_below as extent-full, count_above, count_own}
use Rattle.files.specs.Files.{is_used, used_places}
use Rattle.shelf_holdings.specs.CodeEntries.{run, place_records, entry_records}

-- two tests that say the same
same_test : (a b c d : ℕ) → (a < b → c < d) → (c < d → a < b) → ltb a b ≡ ltb c d
same_test a b c d f h = go (ltb a b) refl
  where
    go : (t : Bool) → ltb a b ≡ t → ltb a b ≡ ltb c d
    go true e = e ∙ sym (lt-ltb c d (f (ltb-true a b e)))
    go false e = e ∙ sym (back (ltb c d) refl)
      where
        back : (t : Bool) → ltb c d ≡ t → ltb c d ≡ false
        back true q = absurd (omega (arith, ltb-false a b e, h (ltb-true c d q)))
        back false q = q

module _ (g : Geometry) (law : lawful g ≡ true) (e : Entry) where
  -- the number of the first record of the entry's group
  abbrev first : ℕ
  first = group_of g (extent e) * (128 * extents g)

  -- record d of the group counts if it is below the run
  below_run : (d : ℕ) → ltb ((first + d) % 128) (count_of e ((first + d) / 128)) ≡ ltb d (run g e)
  unfolding group_of
  below_run d =
      let k = extent e / extents g in
      let q : k * extents g + extent e % extents g ≡ extent e = div-add-mod' (extent e) (extents g) in
      let m : (k * (128 * extents g) + d) % 128 ≡ d % 128 = omega arith in
      let n : (k * (128 * extents g) + d) / 128 ≡ k * extents g + d / 128 = omega arith in
      rw (m, n) (go k q (dec_lt (d / 128) (extent e % extents g)) (dec_lt (extent e % extents g) (d / 128)))
    where
      go : (k : ℕ) → k * extents g + extent e % extents g ≡ extent e → Dec (d / 128 < extent e % extents g) → Dec (extent e % extents g < d / 128)
          → ltb (d % 128) (count_of e (k * extents g + d / 128)) ≡ ltb d (run g e)
      go k q (yes l) h =
          rw (extent-full e (k * extents g + d / 128) (omega arith), lt-ltb (d % 128) 128 (omega arith), lt-ltb d (run g e) (omega arith))
      go k q (no l) (yes h) =
          rw (count_above e (k * extents g + d / 128) (omega arith), le-ltb (d % 128) 0 (omega arith), le-ltb d (run g e) (omega arith))
      go k q (no l) (no h) =
          rw (count_own e (k * extents g + d / 128) (omega arith))
          (same_test (d % 128) (min (byte e 15) 128) d (run g e) (λ a. omega arith) (λ a. omega arith))

  counted_at : (p d : ℕ) → p * records g ≤ d → d < p * records g + records g → d < 128 * extents g → counted g e (first + d) ≡ (ltb d (run g e) && is_used g e p)
  unfolding counted place_of
  counted_at p d low high within =
      let z : p * records g + (d - p * records g) ≡ d = omega arith in
      let in_group : (first + d) % (128 * extents g) ≡ d = digits_mod (group_of g (extent e)) within in
      let place : d / records g ≡ p = ap (λ (x : ℕ). x / records g) (sym z) ∙ digits_div p (omega arith) in
      rw (below_run d, in_group, place)

  module _ (p : ℕ) (p< : p < places g) where
    -- the place lies in the group
    place_within : p * records g + records g ≤ 128 * extents g
    place_within = let a : suc p * records g ≤ places g * records g = mul-le-mul_right (records g) p< in omega (arith, (bounds g law).entry_records_lem)

    -- a record's number from the place's first on, below which number it counts
    abbrev limit : ℕ
    limit = cond (is_used g e p) (first + run g e) 0

    counted_below : (m : ℕ) → first + p * records g ≤ m → m < first + p * records g + records g → counted g e m ≡ ltb m limit
    counted_below m a b =
        let z : first + (m - first) ≡ m = omega arith in
        ap (counted g e) (sym z) ∙ counted_at p (m - first) (omega arith) (omega arith) (omega (arith, place_within)) ∙ go (is_used g e p) refl
      where
        go : (t : Bool) → is_used g e p ≡ t → (ltb (m - first) (run g e) && is_used g e p) ≡ ltb m limit
        go true u = rw (u, and-true) (same_test (m - first) (run g e) m (first + run g e) (λ h. omega arith) (λ h. omega arith))
        go false u = rw (u, and-false, le-ltb m 0 (omega arith))

    place_count : count_from (counted g e) (first + p * records g) (records g) ≡ place_records g e p
    unfolding place_records
    place_count =
        count_ext (counted g e) (λ m. ltb m limit) (first + p * records g) (records g) counted_below
        ∙ count_below limit (first + p * records g) (records g)
        ∙ go (is_used g e p) refl
      where
        go : (t : Bool) → is_used g e p ≡ t
            → min (cond (is_used g e p) (first + run g e) 0 - (first + p * records g)) (records g) ≡ cond (is_used g e p) (min (run g e - p * records g) (records g)) 0
        go true u = rw u (omega arith)
        go false u = rw u (omega arith)

  -- all records of the entry's group, one by one
  pub entry_run : entry_records g e ≡ count_from (counted g e) (group_of g (extent e) * (128 * extents g)) (128 * extents g)
  unfolding entry_records
  entry_run =
      let z : first + 0 * records g ≡ first = omega arith in
      sum_ext (place_records g e) (λ p. sum_from (λ n. cond (counted g e n) 1 0) (first + p * records g) (records g)) 0 (places g)
      (λ p b c. sym (place_count p (omega arith)) ∙ count_sum (counted g e) (first + p * records g) (records g))
      ∙ sum_pieces (λ n. cond (counted g e n) 1 0) first (records g) 0 (places g)
      ∙ rw (z, (bounds g law).entry_records_lem) (sym (count_sum (counted g e) first (128 * extents g)))

-- ---- as code asks it
module _ (g : Geometry) (e : Entry) (p : ℕ) where
  pub place_unused : block_in g e p ≡ 0 → place_records g e p ≡ 0
  unfolding place_records
  place_unused z = rw (eq-eqb (block_in g e p) 0 z)

  pub place_used : (left : ℕ) → block_in g e p ≢ 0 → left ≡ run g e - p * records g → place_records g e p ≡ min left (records g)
  unfolding place_records
  place_used left n q = rw (ne_eqb (block_in g e p) 0 n, q)

-- no place has more records present than its block has room for, and so no entry
pub place_most : (g : Geometry) (e : Entry) (p : ℕ) → place_records g e p ≤ cond (is_used g e p) 1 0 * records g
unfolding place_records
place_most g e p = go (is_used g e p)
  where
    go : (t : Bool) → cond t (min (run g e - p * records g) (records g)) 0 ≤ cond t 1 0 * records g
    go true = omega arith
    go false = omega arith

pub entry_most : (g : Geometry) (e : Entry) → entry_records g e ≤ used_places g e * records g
unfolding entry_records used_places
entry_most g e =
    rw (count_sum (is_used g e) 0 (places g), ← sum_times (λ p. cond (is_used g e p) 1 0) (records g) 0 (places g))
    (sum_le (place_records g e) (λ p. cond (is_used g e p) 1 0 * records g) 0 (places g) (λ p a b. place_most g e p))
