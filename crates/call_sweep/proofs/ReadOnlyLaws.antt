-- A search for less starts where the search for more ended: the lowest read-only match is not below the lowest match.
use mathlib.Core.Path.{◌≡◌, refl, sym, ◌∙◌}
use mathlib.Core.Bool.{Bool, false, ◌&&◌}
use mathlib.Core.List.{List}
use Prim.Native.Nat.{ℕ, zero, suc, ◌-◌, ◌≤◌, ◌<◌}
use native.Mathlib.Decide.{dec_lt}
use native.Mathlib.Numerals.{add-one}
use native.Mathlib.Omega.{arith}
use Rattle.lists.specs.Bounded.{low_from, lowest}
use Rattle.lists.proofs.BoundedLaws.{Searched, searched_start, searched_next, from_zero, low_hit, low_miss, low_le}
use Rattle.disk_geometry.specs.declared.Geometry.{Geometry}
use Rattle.disk_volume.specs.declared.Wanted.TheVariants.{File, ReadOnlyFile, Match, ReadOnlyMatch}
use Rattle.disk_geometry.specs.Geometry.{slots}
use Rattle.disk_volume.specs.Entry.{read_only, of_file, matches}
use Rattle.disk_volume.specs.Directory.{slot_at, slot_fits, find_slot}

-- numbers that are passed over
passed : (p : ℕ → Bool) (n m : ℕ) → m ≤ n → ((k : ℕ) → k < m → p k ≡ false) → Searched p 0 n m
passed p n zero h f = searched_start
passed p n (suc m) h f = rw (← add-one m) (searched_next (passed p n m (omega arith) (λ k l. f k (omega arith))) (omega arith) (f m (omega arith)))

below_lowest : (q : ℕ → Bool) (n k : ℕ) → k < lowest n q → q k ≡ false
below_lowest q n k h = go (dec_lt (lowest n q) n)
  where
    go : Dec (lowest n q < n) → q k ≡ false
    go (yes l) = (low_hit q 0 n (lowest n q) refl (omega arith)).first k (omega arith) h
    go (no l) = low_miss q 0 n (omega arith) k (omega arith) (omega (arith, low_le q 0 n))

-- the search for q, from where the search for p ended
less_from : (p q : ℕ → Bool) (n : ℕ) → ((k : ℕ) → p k ≡ false → q k ≡ false) → lowest n q ≡ low_from q (lowest n p) (n - lowest n p)
less_from p q n f =
    sym (from_zero q n) ∙ (passed q n (lowest n p) (omega (arith, low_le p 0 n)) (λ k h. f k (below_lowest p n k h))).rest

and-false : (a b : Bool) → a ≡ false → a && b ≡ false
and-false a b e = rw e

module _ (g : Geometry) (v : List ℕ) (u : ℕ) (name : List ℕ) where
  pub read_only_match_from : find_slot g v u name ReadOnlyMatch ≡ low_from (slot_fits g v u name ReadOnlyMatch) (find_slot g v u name Match) (slots g - find_slot g v u name Match)
  unfolding find_slot
  read_only_match_from =
      less_from (slot_fits g v u name Match) (slot_fits g v u name ReadOnlyMatch) (slots g) (λ k. and-false (matches u name (slot_at g v k)) (read_only (slot_at g v k)))

  pub read_only_file_from : find_slot g v u name ReadOnlyFile ≡ low_from (slot_fits g v u name ReadOnlyFile) (find_slot g v u name File) (slots g - find_slot g v u name File)
  unfolding find_slot
  read_only_file_from =
      less_from (slot_fits g v u name File) (slot_fits g v u name ReadOnlyFile) (slots g) (λ k. and-false (of_file u name (slot_at g v k)) (read_only (slot_at g v k)))
