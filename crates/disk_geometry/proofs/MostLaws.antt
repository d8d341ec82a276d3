-- The rule for the number of blocks by the most that each block size allows.
use mathlib.Core.Path.{◌≡◌, refl, sym, ap, ◌∙◌}
use mathlib.Core.Bool.{Bool, true, false, ◌&&◌, ◌||◌, false≢true}
use Prim.Native.Nat.{ℕ, ◌*◌, ◌≤◌}
use native.Mathlib.Omega.{arith}
use lib.Dec.{leb, ltb, eqb}
use borrow.Author.Tests.{leb-true, leb-false, le-leb, ltb-true, eqb-true}
use Rattle.lists.proofs.BoolLaws.{and_parts}
use Rattle.disk_geometry.specs.declared.Geometry.{Geometry}
use Rattle.disk_geometry.specs.Geometry.{lawful_sizes}
use Rattle.disk_geometry.specs.CodeMost.{most_of}

-- two tests that pass together are one
together : (p q : Bool) → (p ≡ true → q ≡ true) → (q ≡ true → p ≡ true) → p ≡ q
together true q f g = sym (f refl)
together false true f g = g refl
together false false f g = refl

-- numbers of one byte, or of two in at most 8 MiB
abbrev numbered : ℕ → ℕ → Bool
numbered t b = leb t 256 || (leb t 4096 && leb 2048 b && leb (t * b) 8388608)

narrow : (t : ℕ) → numbered t 1024 ≡ leb t 256
narrow t = go (leb t 256) (leb t 4096)
  where
    go : (x y : Bool) → x || (y && false && leb (t * 1024) 8388608) ≡ x
    go true y = refl
    go false true = refl
    go false false = refl

module _ (t b most : ℕ) (low : 256 ≤ most) (high : most ≤ 4096) (wide : 2048 ≤ b) (fits : t * b ≤ 8388608 → t ≤ most) (back : t ≤ most → t * b ≤ 8388608) where
  several : numbered t b ≡ leb t most
  several = together _ _ (λ e. go (leb t 256) refl e) (λ e. from (leb t 256) refl (leb-true t most e))
    where
      go : (x : Bool) → leb t 256 ≡ x → x || (leb t 4096 && leb 2048 b && leb (t * b) 8388608) ≡ true → leb t most ≡ true
      go true q e = le-leb t most (omega (arith, leb-true t 256 q))
      go false q e = le-leb t most (fits (leb-true (t * b) 8388608 (and_parts (leb t 4096 && leb 2048 b) (leb (t * b) 8388608) e).1))

      from : (x : Bool) → leb t 256 ≡ x → t ≤ most → x || (leb t 4096 && leb 2048 b && leb (t * b) 8388608) ≡ true
      from true q h = refl
      from false q h = rw (le-leb t 4096 (omega arith), le-leb 2048 b wide, le-leb (t * b) 8388608 (back h))

-- no number is at least 2 and at most 0
none : (t : ℕ) → leb 2 t && leb t 0 ≡ false
none t = go (leb 2 t) (leb t 0) refl refl
  where
    go : (x y : Bool) → leb 2 t ≡ x → leb t 0 ≡ y → x && y ≡ false
    go true true p q = absurd (omega (arith, leb-true 2 t p, leb-true t 0 q))
    go true false p q = refl
    go false y p q = refl

-- the rule with this test of T's size
abbrev rule : ℕ → ℕ → Bool → Bool
rule t d sized = leb 2 t && sized && leb 1 d && leb d 16 && ltb d t

-- T is above D, so it is 2 at least
two_at_least : (t d : ℕ) (sized : Bool) → rule t d sized ≡ (sized && leb 1 d && leb d 16 && ltb d t)
two_at_least t d sized = go (leb 2 t) refl
  where
    go : (x : Bool) → leb 2 t ≡ x → (x && sized && leb 1 d && leb d 16 && ltb d t) ≡ (sized && leb 1 d && leb d 16 && ltb d t)
    go true q = refl
    go false q =
        together false (sized && leb 1 d && leb d 16 && ltb d t) (λ e. absurd (false≢true e))
        (λ e.
        let p = and_parts (sized && leb 1 d && leb d 16) (ltb d t) e in
        let r = and_parts (sized && leb 1 d) (leb d 16) p.0 in
        absurd (omega (arith, leb-false 2 t q, ltb-true d t p.1, leb-true 1 d (and_parts sized (leb 1 d) r.0).1)))

pub by_most : (g : Geometry) → lawful_sizes g ≡ rule g.blocks g.directory_blocks (leb g.blocks (most_of g))
by_most g = one (eqb b 1024) refl
  where
    t : ℕ
    t = g.blocks

    d : ℕ
    d = g.directory_blocks

    b : ℕ
    b = g.block_bytes

    Says : Type 0
    Says = lawful_sizes g ≡ rule g.blocks g.directory_blocks (leb g.blocks (most_of g))

    four : (x : Bool) → eqb b 1024 ≡ false → eqb b 2048 ≡ false → eqb b 4096 ≡ x → Says
    four true p q r = rw (eqb-true b 4096 r) (ap (rule t d) (several t 4096 2048 (omega arith) (omega arith) (omega arith) (λ h. omega (arith, h)) (λ h. omega (arith, h))))
    four false p q r = rw (p, q, r) (sym (ap (λ (x : Bool). x && leb 1 d && leb d 16 && ltb d t) (none t)))

    two : (x : Bool) → eqb b 1024 ≡ false → eqb b 2048 ≡ x → Says
    two true p q = rw (eqb-true b 2048 q) (ap (rule t d) (several t 2048 4096 (omega arith) (omega arith) (omega arith) (λ h. omega (arith, h)) (λ h. omega (arith, h))))
    two false p q = four (eqb b 4096) p q refl

    one : (x : Bool) → eqb b 1024 ≡ x → Says
    one true p = rw (eqb-true b 1024 p) (ap (rule t d) (narrow t))
    one false p = two (eqb b 2048) p refl

-- the tests as code asks them
pub by_tests : (g : Geometry) → lawful_sizes g ≡ (leb g.blocks (most_of g) && leb 1 g.directory_blocks && leb g.directory_blocks 16 && ltb g.directory_blocks g.blocks)
by_tests g = by_most g ∙ two_at_least g.blocks g.directory_blocks (leb g.blocks (most_of g))
