-- Laws of names that can be typed: a blank stands before a later non-blank exactly where one stands just before it, which is
-- what the loop looks for.
use mathlib.Core.Path.{◌≡◌, refl, ◌∙◌}
use mathlib.Core.Bool.{Bool, true, false, not, cond, ◌&&◌, and-false}
use mathlib.Core.List.{List, [], ◌∷◌}
use Prim.Native.Nat.{ℕ, zero, suc, ◌-◌, ◌≤◌, ◌%◌}
use native.Mathlib.Omega.{arith}
use lib.ListN.{length}
use Rattle.lists.specs.Bounded.{every_from}
use Rattle.lists.specs.Bytes.{byte, all}
use Rattle.lists.proofs.BoundedLaws.{every_ext}
use Rattle.disk_volume.specs.Name.{strip}
use Rattle.call_typing.specs.Typing.{is_blank, blank_before}
use Rattle.disk_volume.proofs.NameLaws.{shift}

-- what the loop asks at place k: no blank just before a non-blank
abbrev pub last_at : List ℕ → ℕ → Bool
last_at l k = not (is_blank (byte l (k - 1) % 128) && not (is_blank (byte l k % 128)))

-- a blank in front decides by the byte behind it, any other byte does not count
in_front : (x y : ℕ) (ys : List ℕ) → not (blank_before (x ∷ y ∷ ys)) ≡ cond (not (is_blank x && not (is_blank y))) (not (blank_before (y ∷ ys))) false
unfolding blank_before all
in_front x y ys = go (is_blank x) (is_blank y) (all is_blank ys)
  where
    go : (a b c : Bool) → not (cond (a && not (cond b c false)) true (cond (b && not c) true (blank_before ys)))
        ≡ cond (not (a && not b)) (not (cond (b && not c) true (blank_before ys))) false
    go true true true = refl
    go true true false = refl
    go true false c = refl
    go false b c = refl

pub last_places : (l : List ℕ) → not (blank_before (strip l)) ≡ every_from (last_at l) 1 (length l - 1)
unfolding every_from strip
last_places [] = unfold blank_before in refl
last_places (x ∷ []) = unfold blank_before all in rw (and-false (is_blank (x % 128)))
last_places (x ∷ y ∷ ys) =
    let behind : every_from (λ k. last_at (x ∷ y ∷ ys) (suc k)) 1 (length ys) ≡ every_from (last_at (y ∷ ys)) 1 (length ys)
    = every_ext (λ k. last_at (x ∷ y ∷ ys) (suc k)) (last_at (y ∷ ys)) 1 (length ys) (λ k a b. one_less k a) in
    let l : length (x ∷ y ∷ ys) - 1 ≡ suc (length ys) = omega arith in
    let m : length (y ∷ ys) - 1 ≡ length ys = omega arith in
    let later : not (blank_before (strip (y ∷ ys))) ≡ every_from (last_at (y ∷ ys)) 1 (length ys) = rw m at (last_places (y ∷ ys)) in
    in_front (x % 128) (y % 128) (strip ys) ∙ rw (later, l, shift (last_at (x ∷ y ∷ ys)) 1 (length ys), behind)
  where
    one_less : (k : ℕ) → 1 ≤ k → last_at (x ∷ y ∷ ys) (suc k) ≡ last_at (y ∷ ys) k
    one_less zero a = absurd (omega arith)
    one_less (suc k) a =
        let y : suc (suc k) - 1 ≡ suc k = omega arith in
        let z : suc k - 1 ≡ k = omega arith in
        rw (y, z)
