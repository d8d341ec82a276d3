-- A reading by the tests that code asks; and that a shelf of up to 65,535 volumes stays one, with fewer readings to come each time.
use mathlib.Core.Path.{◌≡◌, refl}
use mathlib.Core.Bool.{Bool, true, false, cond, ◌||◌}
use mathlib.Core.List.{List}
use Prim.Native.Nat.{ℕ, ◌+◌, ◌-◌, ◌<◌}
use native.Mathlib.Omega.{arith}
use borrow.Author.Tests.{leb-false}
use lib.Dec.{eqb, leb}
use lib.ListN.{length}
use Rattle.listing.specs.Listing.{geometry_v}
use Rattle.shelf_figures.specs.declared.Shelf.{Shelf}
use Rattle.shelf_figures.specs.Shelf.{most_volumes, put}
use Rattle.shelf_figures.specs.Order.{Within}
use Rattle.shelf_figures.proofs.OrderLaws.{put_within}
use Rattle.shelf_report.specs.Room.{OfVolumes}
use Rattle.shelf.specs.declared.Reading.{Reading}
use Rattle.shelf.specs.Reading.{volume_bytes, after_read}

-- how many readings may follow
abbrev pub left : Shelf → Bool → ℕ
left s more = cond more (65536 - s.seen) 0

pub record Next (s : Shelf) (r : Reading) : Type 0 where
  pub of_volumes : OfVolumes r.shelf
  pub fewer : left r.shelf r.more < 65536 - s.seen

-- no more is put on the shelf; a volume is
stays : (s : Shelf) → OfVolumes s → Next s (record { shelf = s; more = false })
stays s o = record { of_volumes = o; fewer = omega (arith, o.few, o.within.seen) }

grows : (s t : Shelf) (more : Bool) → OfVolumes s → s.seen < 65535 → Within (s.seen + 1) t → Next s (record { shelf = t; more = more })
grows s t more o h w = record { of_volumes = record { many = s.seen + 1; few = omega arith; within = w }; fewer = go more }
  where
    go : (m : Bool) → left t m < 65536 - s.seen
    go true = omega (arith, w.seen)
    go false = omega arith

module _ (s : Shelf) (read : List ℕ) where
  -- as code asks, of which n is the length
  pub ended : (n : ℕ) → n ≡ length read → (eqb n 0 || leb most_volumes s.seen) ≡ true → record { shelf = s; more = false } ≡ after_read s read
  unfolding after_read
  ended n long e = rw (← long, e)

  pub went_on : (n : ℕ) (t : Shelf) → n ≡ length read → (eqb n 0 || leb most_volumes s.seen) ≡ false → t ≡ (put s geometry_v read).shelf
      → record { shelf = t; more = eqb n volume_bytes } ≡ after_read s read
  unfolding after_read
  went_on n t long e is = rw (← long, e, is)

  pub next_read : (r : Reading) → r ≡ after_read s read → OfVolumes s → Next s r
  unfolding after_read
  next_read r is o = rw is (go (eqb (length read) 0) (leb most_volumes s.seen) refl)
    where
      seen_is : o.many ≡ s.seen
      seen_is = omega (arith, o.within.seen)

      put_one : s.seen < 65535 → Within (s.seen + 1) (put s geometry_v read).shelf
      put_one h = put_within s.seen s (record { geometry = geometry_v; bytes = read }) (rw seen_is at o.within) h

      go : (none full : Bool) → leb most_volumes s.seen ≡ full
          → Next s (cond (none || full) (record { shelf = s; more = false }) (record { shelf = (put s geometry_v read).shelf; more = eqb (length read) volume_bytes }))
      go true full e = stays s o
      go false true e = stays s o
      go false false e =
          let h = leb-false most_volumes s.seen e in
          grows s (put s geometry_v read).shelf (eqb (length read) volume_bytes) o h (put_one h)
