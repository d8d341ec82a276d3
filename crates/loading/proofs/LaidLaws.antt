-- The memory, as its parts are laid.
use mathlib.Core.Path.{◌≡◌, refl, ap, ◌∙◌}
use mathlib.Core.List.{List, ◌++◌}
use Prim.Native.Nat.{ℕ, zero, suc, ◌+◌, ◌-◌, ◌≤◌, ◌<◌}
use native.Mathlib.Omega.{arith}
use lib.ListN.{length, take, drop, get_or, length-append, length-take, length-drop}
use lib.Seq.{drop_at, take_all}
use Rattle.lists.specs.Bytes.{part, put}
use Rattle.memory_spans.specs.declared.Span.{Span}
use Rattle.memory_spans.specs.Span.{places, none}
use Rattle.memory_regions.specs.declared.Regions.{Regions}
use Rattle.memory_regions.specs.Places.{places_of}
use Rattle.memory_regions.proofs.PlaceLaws.{padded_used}
use Rattle.load_header.specs.Header.{length_at, image_start}
use Rattle.load_grants.proofs.GrantsLaws.{Fits}
use Rattle.loading.specs.CodeLoad.{Held}

-- a part of the memory that was lent, and filled from a part of the image
pub lent_part : (memory image : List ℕ) (a k f : ℕ) {at n from to : ℕ} {x : List ℕ} → at ≡ a → n ≡ k → from ≡ f → to ≡ at + n → a + k ≤ length memory
    → x ≡ part image from (length (take (to - at) (drop at memory)))
    → take at memory ++ (x ++ drop (to - at) (drop at memory)) ≡ put memory a k (part image f k)
unfolding put
lent_part memory image a k f {at} {n} {from} {to} {x} p q r e h z =
    let y : to - at ≡ k = omega arith in
    let m : length (take k (drop a memory)) ≡ k = simp (length-take, length-drop) (omega arith) in
    let w : x ≡ part image f k = z ∙ rw (y, p, r) (ap (part image f) m) in
    rw (y, p, w)

-- a part of the memory that was lent, and filled
pub put_is : (l : List ℕ) (at k : ℕ) {m : ℕ} {x new : List ℕ} → m ≡ k → x ≡ new → take at l ++ (x ++ drop m (drop at l)) ≡ put l at k new
unfolding put
put_is l at k e z = rw (e, z)

-- the image of the groups before group n is a part of the whole
pub start_more : (h : List ℕ) (i k : ℕ) → image_start h i ≤ image_start h (k + i)
unfolding image_start
start_more h i zero = let z : 0 + i ≡ i = omega arith in rw z (omega arith)
start_more h i (suc k) =
    let s = start_more h i k in
    let z : suc k + i ≡ suc (k + i) = omega arith in
    rw z (omega (arith, s))

pub start_in : (h : List ℕ) (i n : ℕ) → i < n → image_start h i + length_at h i ≤ image_start h n
unfolding image_start
start_in h i n l =
    let s = start_more h (suc i) (n - suc i) in
    let z : n - suc i + suc i ≡ n = omega arith in
    rw z at s

-- what was granted stands behind the regions of before
pub in_use : (regions granted : List Span) {next : Regions} {used : List Span} → next ≡ places_of (regions ++ granted) → length (regions ++ granted) ≤ places
    → used ≡ take next.count next.list → used ≡ regions ++ granted
in_use regions granted e few eu = eu ∙ ap (λ (x : Regions). take x.count x.list) e ∙ padded_used places (regions ++ granted) few

pub behind_them : (regions granted : List Span) → take (length (regions ++ granted) - length regions) (drop (length regions) (regions ++ granted)) ≡ granted
behind_them regions granted =
    let n : length granted ≤ length (regions ++ granted) - length regions = rw length-append (omega arith) in
    rw (drop_at regions granted (length regions) refl) (take_all (length (regions ++ granted) - length regions) granted n)

-- a group's image fits into its region
pub held_in : (bytes : ℕ) (h : List ℕ) (granted : List Span) (n : ℕ) → ((j : ℕ) → j < n → Fits bytes h (0 + j) (get_or granted j none)) → Held h granted bytes n
held_in bytes h granted n f =
    record {
      inside = λ i l.
          let z : 0 + i ≡ i = omega arith in
          let g = rw z at (f i l) in
          omega (arith, g.enough, g.inside);
    }
