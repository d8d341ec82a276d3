-- The rule that is told of is broken, and no rule before it is.
use Rattle.std.specs.Prelude.{Option, Some, None}
use mathlib.Core.Path.{◌≡◌, refl}
use mathlib.Core.Bool.{Bool, true, false, cond, ◌&&◌}
use mathlib.Core.List.{List, [], ◌∷◌, ◌++◌}
use Prim.Native.Nat.{ℕ, ◌≤◌, ◌<◌}
use native.Mathlib.Omega.{arith}
use borrow.Author.Tests.{leb-true}
use lib.Dec.{leb}
use Rattle.lists.proofs.BoolLaws.{and_left, and_right}
use Rattle.disk_geometry.specs.declared.Geometry.{Geometry}
use Rattle.disk_volume.specs.Entry.{is_empty}
use Rattle.disk_volume.specs.Directory.{slot_at}
use Rattle.disk_faults.specs.declared.MapRule.TheVariants.{Outside, Twice, Lower}
use Rattle.disk_faults.specs.declared.Rule.{Rule}
use Rattle.disk_faults.specs.declared.Rule.TheVariants.{UserByte, NameByte, TopBit, ExByte, S1Byte, S2Byte, RcByte, Map, Twin}
use Rattle.disk_faults.specs.declared.Fault.{Fault}
use Rattle.disk_faults.specs.Faults.{rules, breaks, told, first_of, first_broken, rule_number, IsFirst}

-- the numbers begin at 1
pub numbered : (rule : Rule) → 0 < rule_number rule
numbered UserByte = omega arith
numbered NameByte = omega arith
numbered TopBit = omega arith
numbered ExByte = omega arith
numbered S1Byte = omega arith
numbered S2Byte = omega arith
numbered RcByte = omega arith
numbered (Map Outside) = omega arith
numbered (Map Twice) = omega arith
numbered (Map Lower) = omega arith
numbered Twin = omega arith

-- no rule of the list has a higher number than this one
none_above : Rule → List Rule → Bool
none_above rule [] = true
none_above rule (r ∷ before) = leb (rule_number r) (rule_number rule) && none_above rule before

module _ (g : Geometry) (v : List ℕ) (i : ℕ) where
  told_rule : (rule : Rule) → (told g v i rule).rule ≡ rule
  unfolding told
  told_rule UserByte = refl
  told_rule NameByte = refl
  told_rule TopBit = refl
  told_rule ExByte = refl
  told_rule S1Byte = refl
  told_rule S2Byte = refl
  told_rule RcByte = refl
  told_rule (Map rule) = refl
  told_rule Twin = refl

  -- the first rule of a list is broken, where there is one
  first_broken_lem : (l : List Rule) (f : Fault) → first_of g v i l ≡ Some f → breaks g v i f.rule ≡ true
  unfolding first_of
  first_broken_lem [] f e = cc
  first_broken_lem (rule ∷ later) f e = go (breaks g v i rule) refl e (first_broken_lem later f)
    where
      go : (t : Bool) → breaks g v i rule ≡ t → cond t (Some (told g v i rule)) (first_of g v i later) ≡ Some f
          → (first_of g v i later ≡ Some f → breaks g v i f.rule ≡ true) → breaks g v i f.rule ≡ true
      go true b q next = let k : told g v i rule ≡ f = cc in rw (← k, told_rule rule) b
      go false b q next = next q

  -- a rule that is broken is not before the first one
  not_before : (rule : Rule) (before later : List Rule) (f : Fault) → breaks g v i rule ≡ true → none_above rule before ≡ true
      → first_of g v i (before ++ (rule ∷ later)) ≡ Some f → rule_number f.rule ≤ rule_number rule
  unfolding first_of none_above
  not_before rule [] later f b h e =
      let q = rw b at e in
      let k : told g v i rule ≡ f = cc in
      rw (← k, told_rule rule) (omega arith)
  not_before rule (r ∷ before) later f b h e = go (breaks g v i r) e (not_before rule before later f b (and_right (leb (rule_number r) (rule_number rule)) (none_above rule before) h))
    where
      rest : Option Fault
      rest = first_of g v i (before ++ (rule ∷ later))

      go : (t : Bool) → cond t (Some (told g v i r)) rest ≡ Some f → (rest ≡ Some f → rule_number f.rule ≤ rule_number rule) → rule_number f.rule ≤ rule_number rule
      go true q next =
          let k : told g v i r ≡ f = cc in
          rw (← k, told_rule r) (leb-true (rule_number r) (rule_number rule) (and_left (leb (rule_number r) (rule_number rule)) (none_above rule before) h))
      go false q next = next q

  at_most : (rule : Rule) (f : Fault) → breaks g v i rule ≡ true → first_of g v i rules ≡ Some f → rule_number f.rule ≤ rule_number rule
  unfolding breaks none_above
  at_most UserByte f b e = not_before UserByte [] _ f b refl e
  at_most NameByte f b e = not_before NameByte (UserByte ∷ []) _ f b refl e
  at_most TopBit f b e = not_before TopBit (UserByte ∷ NameByte ∷ []) _ f b refl e
  at_most ExByte f b e = not_before ExByte (UserByte ∷ NameByte ∷ TopBit ∷ []) _ f b refl e
  at_most S1Byte f b e = not_before S1Byte (UserByte ∷ NameByte ∷ TopBit ∷ ExByte ∷ []) _ f b refl e
  at_most S2Byte f b e = not_before S2Byte (UserByte ∷ NameByte ∷ TopBit ∷ ExByte ∷ S1Byte ∷ []) _ f b refl e
  at_most RcByte f b e = not_before RcByte (UserByte ∷ NameByte ∷ TopBit ∷ ExByte ∷ S1Byte ∷ S2Byte ∷ []) _ f b refl e
  at_most (Map Outside) f b e = not_before (Map Outside) (UserByte ∷ NameByte ∷ TopBit ∷ ExByte ∷ S1Byte ∷ S2Byte ∷ RcByte ∷ []) _ f b refl e
  at_most (Map Twice) f b e = not_before (Map Twice) (UserByte ∷ NameByte ∷ TopBit ∷ ExByte ∷ S1Byte ∷ S2Byte ∷ RcByte ∷ Map Outside ∷ []) _ f b refl e
  at_most (Map Lower) f b e = not_before (Map Lower) (UserByte ∷ NameByte ∷ TopBit ∷ ExByte ∷ S1Byte ∷ S2Byte ∷ RcByte ∷ Map Outside ∷ Map Twice ∷ []) _ f b refl e
  at_most Twin f b e = not_before Twin (UserByte ∷ NameByte ∷ TopBit ∷ ExByte ∷ S1Byte ∷ S2Byte ∷ RcByte ∷ Map Outside ∷ Map Twice ∷ Map Lower ∷ []) _ f b refl e

  -- t: the slot is empty
  slot_broken : (t : Bool) (f : Fault) → cond t None (first_of g v i rules) ≡ Some f → breaks g v i f.rule ≡ true
  slot_broken true f e = cc
  slot_broken false f e = first_broken_lem rules f e

  slot_earlier : (t : Bool) (f : Fault) (rule : Rule) (b : Bool) → breaks g v i rule ≡ b → cond t None (first_of g v i rules) ≡ Some f
      → rule_number rule < rule_number f.rule → b ≡ false
  slot_earlier true f rule b q e h = cc
  slot_earlier false f rule false q e h = refl
  slot_earlier false f rule true q e h = let k = at_most rule f q e in absurd (omega arith)

pub is_first : IsFirst
unfolding first_broken
is_first g v i =
    let t = is_empty (slot_at g v i) in
    record { broken = slot_broken g v i t; earlier = λ f e rule h. slot_earlier g v i t f rule (breaks g v i rule) refl e h }
