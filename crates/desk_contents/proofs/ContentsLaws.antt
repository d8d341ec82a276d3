-- The contents: how the number of records listed grows, and where a chapter's body lies.
use mathlib.Core.Path.{◌≡◌, refl, sym, ◌∙◌}
use mathlib.Core.Bool.{Bool, true, false, not, ◌&&◌}
use mathlib.Core.List.{List}
use Prim.Native.Nat.{ℕ, zero, suc, ◌+◌, ◌-◌, ◌≤◌, ◌<◌}
use native.Mathlib.Numerals.{add-one}
use native.Mathlib.Omega.{arith}
use lib.Dec.{eqb, ltb}
use borrow.Author.Tests.{eqb-true, not-true}
use Rattle.lists.specs.Bounded.{every, every_from}
use Rattle.lists.proofs.BoolLaws.{and_parts}
use Rattle.lists.proofs.BoundedLaws.{low_hit, every_true}
use Rattle.desk_contents.specs.Contents.{chapter_at, first_at, count_at, zero_at, clear, others, total, used_place, place_fits, good_contents, has_chapter, chapter_place}

pub every_zero : (p : ℕ → Bool) (n : ℕ) → every_from p 0 (n - 0) ≡ every n p
every_zero p n = let z : n - 0 ≡ n = omega arith in rw z

pub total_next : (s : List ℕ) (i : ℕ) → total s (i + 1) ≡ total s i + count_at s i
unfolding total
total_next s i = rw add-one

pub total_start : (s : List ℕ) → 0 ≡ total s 0
unfolding total
total_start s = refl

-- more places list no fewer records
total_more : (s : List ℕ) (i k : ℕ) → total s i ≤ total s (k + i)
unfolding total
total_more s i zero = let z : 0 + i ≡ i = omega arith in rw z (omega arith)
total_more s i (suc k) =
    let h = total_more s i k in
    let z : suc k + i ≡ suc (k + i) = omega arith in
    rw z (omega (arith, h))

pub total_in : (s : List ℕ) (i : ℕ) → i < 16 → total s i + count_at s i ≤ total s 16
total_in s i h =
    let m = total_more s (i + 1) (16 - (i + 1)) in
    let z : 16 - (i + 1) + (i + 1) ≡ 16 = omega arith in
    let y = total_next s i in
    rw y at (rw z at m)

-- a used place
pub good_used : (s : List ℕ) (i : ℕ) → eqb (chapter_at s i) 0 ≡ false → place_fits s i ≡ used_place s i
unfolding place_fits
good_used s i e = rw e

pub good_clear : (s : List ℕ) (i : ℕ) → eqb (chapter_at s i) 0 ≡ true → place_fits s i ≡ clear s i
unfolding place_fits
good_clear s i e = rw e

first_is : (s : List ℕ) (i : ℕ) → used_place s i ≡ true → first_at s i ≡ total s i + 1
unfolding used_place
first_is s i e =
    let a = and_parts (eqb (first_at s i) (total s i + 1) && ltb 0 (count_at s i) && eqb (zero_at s i) 0) (others s (chapter_at s i) i) e in
    let b = and_parts (eqb (first_at s i) (total s i + 1) && ltb 0 (count_at s i)) (eqb (zero_at s i) 0) a.0 in
    let c = and_parts (eqb (first_at s i) (total s i + 1)) (ltb 0 (count_at s i)) b.0 in
    eqb-true (first_at s i) (total s i + 1) c.0

-- the chapter's place lies among the sixteen, is used, and its body among the records listed
pub body_in : (s : List ℕ) (chapter : ℕ) → good_contents s ≡ true → chapter_place s chapter < 16
    → (1 ≤ first_at s (chapter_place s chapter)) × (first_at s (chapter_place s chapter) + count_at s (chapter_place s chapter) ≤ 1 + total s 16)
unfolding good_contents chapter_place
body_in s chapter g h =
    let p = chapter_place s chapter in
    let l = low_hit (has_chapter s chapter) 0 16 p refl h in
    let q = and_parts (not (eqb chapter 0)) (eqb (chapter_at s p) chapter) l.passes in
    let used : eqb (chapter_at s p) 0 ≡ false = rw (eqb-true (chapter_at s p) chapter q.1) (not-true (eqb chapter 0) q.0) in
    let good = sym (good_used s p used) ∙ every_true (place_fits s) 0 16 g p (omega arith) h in
    let f = first_is s p good in
    let t = total_in s p h in
    (rw f (omega arith), rw f (omega (arith, t)))
