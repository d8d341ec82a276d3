-- The header, as its code looks at it.
use mathlib.Core.Path.{◌≡◌, sym, ◌∙◌}
use mathlib.Core.Bool.{Bool, true, false}
use mathlib.Core.List.{List}
use Prim.Native.Nat.{ℕ, ◌+◌, ◌-◌, ◌≤◌, ◌<◌}
use native.Mathlib.Numerals.{add-one}
use native.Mathlib.Omega.{arith}
use borrow.Author.Tests.{lt-ltb, le-ltb}
use lib.Dec.{ltb, eqb}
use Rattle.lists.specs.Bounded.{low_from, every, every_from}
use Rattle.lists.proofs.BoundedLaws.{from_zero}
use Rattle.load_header.specs.Header.{CODE, DATA, length_at, groups, type_at, place_of, page_place, image_start}

pub every_zero : (p : ℕ → Bool) (n : ℕ) → every_from p 0 (n - 0) ≡ every n p
every_zero p n = let z : n - 0 ≡ n = omega arith in rw z

pub place_is : (h : List ℕ) (type : ℕ) {n i : ℕ} → n ≡ groups h → low_from (λ j. eqb (type_at h j) type) 0 (n - 0) ≡ i → i ≡ place_of h type
unfolding place_of
place_is h type {n} {i} e s = rw (← e) (sym s ∙ from_zero (λ j. eqb (type_at h j) type) n)

module _ (h : List ℕ) {d n : ℕ} (e : d ≡ place_of h DATA) (f : n ≡ groups h) where
  pub page_data : d < n → d ≡ page_place h
  unfolding page_place
  page_data k = let t : ltb (place_of h DATA) (groups h) ≡ true = rw (← e, ← f) (lt-ltb d n k) in rw t e

  pub page_code : {r : ℕ} → n ≤ d → r ≡ place_of h CODE → r ≡ page_place h
  unfolding page_place
  page_code k z = let t : ltb (place_of h DATA) (groups h) ≡ false = rw (← e, ← f) (le-ltb d n k) in rw t z

pub start_next : (h : List ℕ) (i : ℕ) → image_start h (i + 1) ≡ image_start h i + length_at h i
unfolding image_start
start_next h i = rw add-one
