-- What code learns of a shelf at the seam, and that its bytes carry the figures.
use mathlib.Core.Path.{◌≡◌, refl, ap, ◌∙◌}
use mathlib.Core.List.{List, [], ◌∷◌}
use Prim.Native.Nat.{ℕ, ◌+◌, ◌≤◌, ◌<◌}
use native.Mathlib.Omega.{arith}
use lib.ListN.{length}
use Rattle.std.specs.Prelude.{Err}
use borrow.Author.Tests.{eq-eqb, ne_eqb}
use Rattle.disk_geometry.specs.declared.Geometry.{Geometry}
use Rattle.shelf_figures.specs.declared.Shelf.{Shelf}
use Rattle.shelf_figures.specs.declared.ShelfRefusal.TheVariants.{Outside}
use Rattle.shelf_figures.specs.declared.Added.{Added}
use Rattle.shelf_figures.specs.Shelf.{bare, put}
use Rattle.shelf_figures.specs.Order.{Within, Volume, shelve}
use Rattle.shelf_figures.proofs.ShelfLaws.{within_kept}
use Rattle.shelf_figures.proofs.OrderLaws.{bare_within, put_within, put_counts}
use Rattle.shelf_bytes.specs.Layout.{encoded, decoded}
use Rattle.shelf_bytes.proofs.LayoutLaws.{round_trip}
use Rattle.seam_shelf.specs.Shelf.{shelved_answer, shelf_sealed, shelved_in, shelf_at_seam, shelve_bytes, ShelfFaithful}

module _ (g : Geometry) (v b : List ℕ) where
  pub shelf_refused : {r : ℕ} → (length b ≡ 64 → ⊥) → r ≡ shelved_answer (Err Outside) → shelf_sealed r b v ≡ shelf_at_seam g v b
  unfolding shelf_at_seam
  shelf_refused n e = rw (ne_eqb (length b) 64 n, e)

  pub shelf_done : {r : ℕ} {s : Shelf} {a : Added} {c : List ℕ} → length b ≡ 64 → s ≡ decoded b → a ≡ put s g v
      → c ≡ shelved_in a b → r ≡ shelved_answer a.answer → shelf_sealed r c v ≡ shelf_at_seam g v b
  unfolding shelf_at_seam
  shelf_done l d p e q = rw (eq-eqb (length b) 64 l, ← d, ← p, ← e, ← q)

-- one volume more, in bytes and as a shelf
bytes_next : (n : ℕ) (s : Shelf) (x : Volume) → Within n s → n < 65535
    → (shelf_at_seam x.geometry x.bytes (encoded s)).shelf ≡ encoded (put s x.geometry x.bytes).shelf
unfolding shelf_at_seam shelved_in
bytes_next n s x w h =
    rw (
      eq-eqb (length (encoded s)) 64 (round_trip.long s),
      round_trip.read_back s (within_kept n s (omega arith) w),
      put_counts n s x w h,
    )

bytes_carry : (n : ℕ) (s : Shelf) (vs : List Volume) → Within n s → n + length vs ≤ 65535 → shelve_bytes (encoded s) vs ≡ encoded (shelve s vs)
unfolding shelve_bytes shelve
bytes_carry n s [] w h = refl
bytes_carry n s (x ∷ xs) w h =
    ap (λ (b : List ℕ). shelve_bytes b xs) (bytes_next n s x w (omega arith))
    ∙ bytes_carry (n + 1) (put s x.geometry x.bytes).shelf xs (put_within n s x w (omega arith)) (omega arith)

pub shelf_faithful : ShelfFaithful
shelf_faithful vs h = rw (← round_trip.zeros) (bytes_carry 0 bare vs bare_within (omega arith))
