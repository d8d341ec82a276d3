-- The block that a place is given: it is one from D to T-1 that the state doesn't hold, and there is none exactly when
-- each of them is held. Callers rest on these laws alone, whichever of the free blocks the rule prefers.
use mathlib.Core.Path.{◌≡◌, sym, ◌∙◌}
use mathlib.Core.Bool.{true, false, true≢false}
use mathlib.Core.List.{List}
use Prim.Native.Nat.{ℕ, ◌+◌, ◌≤◌, ◌<◌, max}
use native.Mathlib.Decide.{dec_lt}
use native.Mathlib.Omega.{arith}
use borrow.Author.Tests.{lt-ltb, le-ltb}
use Rattle.disk_volume.specs.Entry.{Entry}
use Rattle.disk_geometry.specs.Geometry.{lawful}
use Rattle.disk_geometry.specs.declared.Geometry.{Geometry}
use Rattle.disk_geometry.proofs.GeometryLaws.{bounds}
use Rattle.disk_held.proofs.FreeLaws.{lowest_free_is, lowest_free_le, lowest_free_none, none_lowest_free, lowest_free_ext}
use Rattle.disk_held.specs.Held.{holds, lowest_free}
use Rattle.call_entry.specs.Alloc.{nearest_below, alloc}

pub record Given (g : Geometry) (held : List ℕ) (b : ℕ) : Type 0 where
  pub low : g.directory_blocks ≤ b
  pub high : b < g.blocks
  pub free : holds held b ≡ false

module _ (g : Geometry) (held : List ℕ) where
  -- the lowest free block of all
  abbrev pub lowest : ℕ
  lowest = lowest_free held g.directory_blocks g.blocks

  given_from : (d : ℕ) → g.directory_blocks ≤ d → lowest_free held d g.blocks < g.blocks → Given g held (lowest_free held d g.blocks)
  given_from d from h =
      let l = lowest_free_is held d g.blocks h in
      record { low = omega (arith, from, l.from); high = l.below; free = l.free }

  module _ (e : Entry) (p : ℕ) where
    -- the lowest free block above the one in the nearest lower used place
    abbrev pub above : ℕ
    above = lowest_free held (max g.directory_blocks (nearest_below g e p + 1)) g.blocks

    -- the place is given that one, or else the lowest of all
    pub alloc_above : above < g.blocks → alloc g held e p ≡ above
    unfolding alloc
    alloc_above h = rw (lt-ltb above g.blocks h)

    pub alloc_lowest : g.blocks ≤ above → alloc g held e p ≡ lowest
    unfolding alloc
    alloc_lowest h = rw (le-ltb above g.blocks h)

    given_above : above < g.blocks → Given g held above
    given_above l = given_from (max g.directory_blocks (nearest_below g e p + 1)) (omega arith) l

    pub alloc_given : alloc g held e p < g.blocks → Given g held (alloc g held e p)
    alloc_given h = elim (dec_lt above g.blocks) [
      | yes l ↦ rw (alloc_above l) (given_above l)
      | no n ↦
          let q = alloc_lowest (omega arith) in
          rw q (given_from g.directory_blocks (omega arith) (rw q at h))
    ]

    module _ (good : lawful g ≡ true) where
      pub alloc_le : alloc g held e p ≤ g.blocks
      alloc_le = elim (dec_lt above g.blocks) [
        | yes l ↦ omega (arith, alloc_above l, l)
        | no n ↦ omega (arith, alloc_lowest (omega arith), lowest_free_le held g.directory_blocks g.blocks (omega (arith, bounds g good)))
      ]

      pub alloc_none : alloc g held e p ≡ g.blocks → (b : ℕ) → g.directory_blocks ≤ b → b < g.blocks → holds held b ≡ true
      alloc_none q = elim (dec_lt above g.blocks) [
        | yes l ↦ absurd (omega (arith, alloc_above l, l, q))
        | no n ↦
            lowest_free_none held g.directory_blocks g.blocks (omega (arith, bounds g good)) (sym (alloc_lowest (omega arith)) ∙ q)
      ]

      pub none_alloc : ((b : ℕ) → g.directory_blocks ≤ b → b < g.blocks → holds held b ≡ true) → alloc g held e p ≡ g.blocks
      none_alloc h = elim (dec_lt above g.blocks) [
        | yes l ↦
            let f = given_above l in
            absurd (true≢false (sym (h above f.low f.high) ∙ f.free))
        | no n ↦
            alloc_lowest (omega arith) ∙ none_lowest_free held g.directory_blocks g.blocks (omega (arith, bounds g good)) h
      ]

-- it depends on nothing but which of those blocks are held
pub alloc_ext : (g : Geometry) (held other : List ℕ) (e : Entry) (p : ℕ) → ((b : ℕ) → g.directory_blocks ≤ b → b < g.blocks → holds held b ≡ holds other b) → alloc g held e p ≡ alloc g other e p
unfolding alloc
alloc_ext g held other e p h =
    let d = max g.directory_blocks (nearest_below g e p + 1) in
    rw (lowest_free_ext held other d g.blocks (λ m a b. h m (omega arith) b), lowest_free_ext held other g.directory_blocks g.blocks h)
