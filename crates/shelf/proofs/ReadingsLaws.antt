-- Whole volumes are put on the shelf one after another, and then the reading ends as the last piece says.
use mathlib.Core.Path.{◌≡◌, refl, ◌∙◌}
use mathlib.Core.Bool.{Bool, true, false, ◌||◌}
use mathlib.Core.List.{List, [], ◌∷◌, ◌++◌, map}
use Prim.Native.Nat.{ℕ, ◌+◌, ◌≤◌, ◌<◌}
use native.Mathlib.Omega.{arith}
use borrow.Author.Tests.{le-leb, lt-leb, eq-eqb, ne_eqb}
use lib.Dec.{eqb, leb}
use lib.ListN.{length}
use Rattle.listing.specs.Listing.{geometry_v}
use Rattle.shelf_figures.specs.declared.Shelf.{Shelf}
use Rattle.shelf_figures.specs.Shelf.{bare, most_volumes, put}
use Rattle.shelf_figures.specs.Order.{Within, shelve}
use Rattle.shelf_figures.proofs.OrderLaws.{bare_within, put_within}
use Rattle.shelf.specs.Reading.{volume_bytes, after_read}
use Rattle.shelf.specs.Readings.{readings, Whole, none, then_one, of_v, shelved, Reads}
use Rattle.shelf.proofs.ReadingLaws.{ended}

-- a piece that has bytes, on a shelf that is not full
module _ (s : Shelf) (x : List ℕ) (some : 0 < length x) (few : s.seen < 65535) where
  counted : after_read s x ≡ record { shelf = (put s geometry_v x).shelf; more = eqb (length x) volume_bytes }
  unfolding after_read
  counted = rw (ne_eqb (length x) 0 (λ e. omega arith), lt-leb most_volumes s.seen few)

  counted_whole : (xs : List (List ℕ)) → length x ≡ volume_bytes → readings s (x ∷ xs) ≡ readings (put s geometry_v x).shelf xs
  unfolding readings
  counted_whole xs e = rw (counted, eq-eqb (length x) volume_bytes e)

  counted_short : (xs : List (List ℕ)) → length x < volume_bytes → readings s (x ∷ xs) ≡ (put s geometry_v x).shelf
  unfolding readings
  counted_short xs h = rw (counted, ne_eqb (length x) volume_bytes (λ e. omega arith))

-- nothing, and a piece on a full shelf
pub nothing : (s : Shelf) (xs : List (List ℕ)) → readings s ([] ∷ xs) ≡ s
unfolding readings after_read
nothing s xs = refl

or_full : (t : Bool) → (t || true) ≡ true
or_full true = refl
or_full false = refl

full : (s : Shelf) (x : List ℕ) (xs : List (List ℕ)) → s.seen ≡ 65535 → readings s (x ∷ xs) ≡ s
unfolding readings
full s x xs e =
    let ends : (eqb (length x) 0 || leb most_volumes s.seen) ≡ true = rw (le-leb most_volumes s.seen (omega arith)) (or_full (eqb (length x) 0)) in
    rw (← ended s x (length x) refl ends)

-- whole volumes in front
record Passed (n : ℕ) (s : Shelf) (vs rest : List (List ℕ)) : Type 0 where
  reads : readings s (vs ++ rest) ≡ readings (shelve s (map of_v vs)) rest
  within : Within (n + length vs) (shelve s (map of_v vs))

pass : (n : ℕ) (s : Shelf) (vs rest : List (List ℕ)) → Within n s → Whole vs → n + length vs ≤ 65535 → Passed n s vs rest
unfolding shelve
pass n s vs rest w none h = let z : n ≡ n + length {A = List ℕ} [] = omega arith in record { reads = refl; within = rw (← z) w }
pass n s vs rest w (then_one x xs e more) h =
    let few : s.seen < 65535 = omega (arith, w.seen) in
    let next = pass (n + 1) (put s geometry_v x).shelf xs rest (put_within n s (of_v x) w (omega arith)) more (omega arith) in
    let z : (n + 1) + length xs ≡ n + length (x ∷ xs) = omega arith in
    record { reads = counted_whole s x (omega arith) few (xs ++ rest) e ∙ next.reads; within = rw (← z) next.within }

pub reads : Reads
reads =
    record {
      to_the_end = λ vs behind all h. (pass 0 bare vs ([] ∷ behind) bare_within all (omega arith)).reads ∙ nothing (shelved vs) behind;
      to_a_short_one = λ vs behind last all h some short.
          let p = pass 0 bare vs (last ∷ behind) bare_within all (omega arith) in
          p.reads ∙ counted_short (shelved vs) last some (omega (arith, p.within.seen)) behind short;
      to_one_too_many = λ vs behind last all h.
          let p = pass 0 bare vs (last ∷ behind) bare_within all (omega arith) in
          p.reads ∙ full (shelved vs) last behind (omega (arith, p.within.seen));
    }
