-- Where records lie on an eight-inch disk: in a sector behind the reserved tracks, and no two in one. What the table has to do
-- with it is tested once, over all its places.
use mathlib.Core.Path.{◌≡◌, refl, sym, ◌∙◌}
use mathlib.Core.Bool.{Bool, true, false, not, ◌&&◌, true≢false}
use mathlib.Core.Logic.{◌⊎◌, inl, inr, ⊎_elim, ◌≢◌}
use Prim.Native.Nat.{ℕ, ◌+◌, ◌/◌, ◌%◌, ◌≤◌, ◌<◌}
use native.Mathlib.Decide.{ℕ_discrete}
use native.Mathlib.Omega.{arith}
use lib.Dec.{leb, ltb, eqb}
use borrow.Author.Tests.{leb-true, ltb-true, ltb-false, eq-eqb}
use Rattle.lists.specs.Bounded.{any_from, every_from, any, every}
use Rattle.lists.proofs.BoolLaws.{and_parts}
use Rattle.lists.proofs.BoundedLaws.{any_false, every_true}
use Rattle.disk_geometry.specs.EightInch.{track_sectors, sector_at, image_start, image_bytes, reserved_bytes, track_records}

-- of two numbers one is the smaller
pub less_or_more : (p q : ℕ) → p ≢ q → (p < q) ⊎ (q < p)
less_or_more p q ne = go (ltb p q) refl
  where
    go : (t : Bool) → ltb p q ≡ t → (p < q) ⊎ (q < p)
    go true e = inl (ltb-true p q e)
    go false e = inr (omega (arith, ltb-false p q e))

-- ---- the table
-- the sector of place k is one of the track's, and no lower place has it
abbrev own_sector : ℕ → Bool
own_sector k = leb 1 (sector_at k) && leb (sector_at k) track_sectors && not (any k (λ j. eqb (sector_at j) (sector_at k)))

table_good : every track_sectors own_sector ≡ true
unfolding every_from any_from sector_at
table_good = refl

record Own (k : ℕ) : Type 0 where
  low : 1 ≤ sector_at k
  high : sector_at k ≤ 26
  alone : any k (λ j. eqb (sector_at j) (sector_at k)) ≡ false

not-true : (t : Bool) → not t ≡ true → t ≡ false
not-true true e = sym e
not-true false e = refl

own : (k : ℕ) → k < 26 → Own k
own k h =
    let p = and_parts _ _ (every_true own_sector 0 26 table_good k (omega arith) (omega arith)) in
    let q = and_parts _ _ p.0 in
    record { low = leb-true _ _ q.0; high = leb-true _ _ q.1; alone = not-true _ p.1 }

-- two places of a track have two sectors
lower_differs : (j k : ℕ) → j < k → k < 26 → sector_at j ≢ sector_at k
lower_differs j k low high e =
    let f : eqb (sector_at j) (sector_at k) ≡ false = any_false (λ i. eqb (sector_at i) (sector_at k)) 0 k (own k high).alone j (omega arith) (omega arith) in
    let z : true ≡ false = sym (eq-eqb (sector_at j) (sector_at k) e) ∙ f in
    true≢false z

sectors_differ : (j k : ℕ) → j < 26 → k < 26 → j ≢ k → sector_at j ≢ sector_at k
sectors_differ j k hj hk ne e = ⊎_elim (λ (l : j < k). lower_differs j k l hk e) (λ (l : k < j). lower_differs k j l hj (sym e)) (less_or_more j k ne)

-- ---- the disk
-- "two tracks reserved"
pub image_reserved : (q : ℕ) → reserved_bytes ≤ image_start q
unfolding image_start
image_reserved q = let o = own (q % 26) (omega arith) in omega (arith, o.low)

pub image_in : (q : ℕ) → q < track_records → image_start q + 128 ≤ image_bytes
unfolding image_start
image_in q h = let o = own (q % 26) (omega arith) in omega (arith, o.low, o.high)

-- "no two records share a sector"
pub image_apart : (p q : ℕ) → p ≢ q → (image_start p + 128 ≤ image_start q) ⊎ (image_start q + 128 ≤ image_start p)
unfolding image_start
image_apart p q ne = go (own (p % 26) (omega arith)) (own (q % 26) (omega arith)) (ℕ_discrete (p / 26) (q / 26))
  where
    go : Own (p % 26) → Own (q % 26) → Dec (p / 26 ≡ q / 26) → (image_start p + 128 ≤ image_start q) ⊎ (image_start q + 128 ≤ image_start p)
    go a b (yes z) =
        ⊎_elim
        (λ (l : sector_at (p % 26) < sector_at (q % 26)). inl (omega (arith, a.low)))
        (λ (l : sector_at (q % 26) < sector_at (p % 26)). inr (omega (arith, b.low)))
        (less_or_more (sector_at (p % 26)) (sector_at (q % 26)) (sectors_differ (p % 26) (q % 26) (omega arith) (omega arith) (omega arith)))
    go a b (no z) =
        ⊎_elim
        (λ (l : p / 26 < q / 26). inl (omega (arith, a.low, a.high, b.low)))
        (λ (l : q / 26 < p / 26). inr (omega (arith, b.low, b.high, a.low)))
        (less_or_more (p / 26) (q / 26) z)
