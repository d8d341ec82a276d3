-- The rule as code follows it: the places from p downward until one is used, and then the lowest free block above the one
-- that stands there. A number outside D to T-1, which an altered volume may have there, has none above it or all.
use mathlib.Core.Path.{◌≡◌, sym, ap, ◌∙◌}
use mathlib.Core.Bool.{true, false, cond, true≢false}
use mathlib.Core.Logic.{◌≢◌}
use mathlib.Core.List.{List}
use Prim.Native.Nat.{ℕ, zero, suc, ◌+◌, ◌-◌, ◌≤◌, ◌<◌, max}
use native.Mathlib.Decide.{dec_lt}
use native.Mathlib.Omega.{arith}
use borrow.Author.Tests.{eq-eqb, ne_eqb}
use lib.Dec.{eqb}
use Rattle.disk_volume.specs.Entry.{Entry, block_in}
use Rattle.disk_geometry.specs.Geometry.{inside}
use Rattle.disk_geometry.specs.declared.Geometry.{Geometry}
use Rattle.disk_held.proofs.FreeLaws.{lowest_free_is}
use Rattle.disk_held.specs.Held.{lowest_free}
use Rattle.call_entry.specs.Alloc.{nearest_below, alloc}
use Rattle.call_entry.proofs.AllocLaws.{above, lowest, alloc_above, alloc_lowest}
use Rattle.disk_geometry.proofs.InsideLaws.{inside_is, is_inside}

-- ---- one place further down
module _ (g : Geometry) (e : Entry) where
  nearest_next : (q : ℕ) → 0 < q
      → nearest_below g e q ≡ cond (eqb (block_in g e (q - 1)) 0) (nearest_below g e (q - 1)) (block_in g e (q - 1))
  unfolding nearest_below
  nearest_next zero h = absurd (omega arith)
  nearest_next (suc q) h = let z : suc q - 1 ≡ q = omega arith in rw z

  pub nearest_used : (q : ℕ) → 0 < q → block_in g e (q - 1) ≢ 0 → nearest_below g e q ≡ block_in g e (q - 1)
  nearest_used q h n = nearest_next q h ∙ rw (ne_eqb (block_in g e (q - 1)) 0 n)

  pub nearest_passed : (q : ℕ) → 0 < q → block_in g e (q - 1) ≡ 0 → nearest_below g e q ≡ nearest_below g e (q - 1)
  nearest_passed q h z = nearest_next q h ∙ rw (eq-eqb (block_in g e (q - 1)) 0 z)

  pub nearest_none : (q : ℕ) → q ≤ 0 → nearest_below g e q ≡ 0
  unfolding nearest_below
  nearest_none q h = let z : q ≡ 0 = omega arith in rw z

-- ---- the block above b, which stands in the nearest lower used place
module _ (g : Geometry) (held : List ℕ) (e : Entry) (p b : ℕ) (near : b ≡ nearest_below g e p) where
  from_next : inside g b ≡ true → above g held e p ≡ lowest_free held (b + 1) g.blocks
  from_next h =
      let i = inside_is g b h in
      let m : max g.directory_blocks (nearest_below g e p + 1) ≡ b + 1 = omega (arith, near, i) in
      ap (λ (x : ℕ). lowest_free held x g.blocks) m

  pub given_above : inside g b ≡ true → (a : ℕ) → a ≡ lowest_free held (b + 1) g.blocks → a < g.blocks → a ≡ alloc g held e p
  given_above h a q l = q ∙ sym (from_next h) ∙ sym (alloc_above g held e p (omega (arith, from_next h, q, l)))

  pub none_above : inside g b ≡ true → (a : ℕ) → a ≡ lowest_free held (b + 1) g.blocks → g.blocks ≤ a → alloc g held e p ≡ lowest g held
  none_above h a q l = alloc_lowest g held e p (omega (arith, from_next h, q, l))

  pub outside_above : inside g b ≡ false → alloc g held e p ≡ lowest g held
  outside_above h = elim (dec_lt (above g held e p) g.blocks) [
    | yes l ↦ alloc_above g held e p l ∙ ap (λ (x : ℕ). lowest_free held x g.blocks) (below l)
    | no n ↦ alloc_lowest g held e p (omega arith)
  ]
    where
      -- b is below T, since a block above it is, and so it is below D
      below : above g held e p < g.blocks → max g.directory_blocks (nearest_below g e p + 1) ≡ g.directory_blocks
      below l =
          let i = (lowest_free_is held (max g.directory_blocks (nearest_below g e p + 1)) g.blocks l).from in
          elim (dec_lt b g.directory_blocks) [
            | yes d ↦ omega (arith, near, d)
            | no d ↦ absurd (true≢false (sym (is_inside g b (omega arith) (omega (arith, near, i, l))) ∙ h))
          ]
