-- What code finds is the first rule that is broken.
use Rattle.std.specs.Prelude.{Option, Some, None, option_map}
use Rattle.std.specs.Option.{option_or}
use mathlib.Core.Path.{◌≡◌, refl, sym}
use mathlib.Core.Bool.{Bool, true, false, not, cond}
use mathlib.Core.List.{List}
use Prim.Native.Nat.{ℕ, ◌+◌, ◌≤◌, ◌<◌}
use native.Mathlib.Decide.{dec_lt}
use native.Mathlib.Omega.{arith}
use borrow.Author.Tests.{ltb-true, ltb-false}
use lib.Dec.{leb, ltb, eqb}
use Rattle.lists.specs.Bounded.{lowest, any}
use Rattle.lists.specs.Bytes.{byte}
use Rattle.lists.proofs.BoundedLaws.{low_hit, low_miss, low_le, any_low, any_intro, any_none}
use Rattle.disk_geometry.specs.declared.Geometry.{Geometry}
use Rattle.disk_geometry.specs.Geometry.{slots, group_of, places}
use Rattle.disk_volume.specs.declared.Wanted.TheVariants.{Group}
use Rattle.disk_volume.specs.Fields.{USER, EX, S1, S2, RC}
use Rattle.disk_volume.specs.Name.{name_of, good_name}
use Rattle.disk_volume.specs.Entry.{extent}
use Rattle.disk_volume.specs.Directory.{slot_at, find_slot, slot_fits}
use Rattle.disk_rules.specs.GoodSlot.{good_top_bits, seen_below}
use Rattle.disk_faults.specs.declared.MapRule.{MapRule}
use Rattle.disk_faults.specs.declared.MapRule.TheVariants.{Outside, Twice, Lower}
use Rattle.disk_faults.specs.declared.Rule.TheVariants.{UserByte, NameByte, TopBit, ExByte, S1Byte, S2Byte, RcByte, Twin}
use Rattle.disk_faults.specs.declared.Fault.{Fault}
use Rattle.disk_faults.specs.Faults.{breaks_at, breaks, place_of, twin_slot, fault, alone, map_told, told, first_of, first_broken}
use Rattle.disk_faults.specs.CodeLadder.{entry_rule, map_fault, twin_fault, found}

-- ---- a rule of the map is broken in some place
module _ (g : Geometry) (v : List ℕ) (i : ℕ) where
  abbrev pub broken : MapRule → Bool
  broken rule = ltb (place_of g v i rule) (places g)

  pub broken_any : (rule : MapRule) → broken rule ≡ any (places g) (breaks_at g v i rule)
  unfolding place_of
  broken_any rule = let z : 0 + places g ≡ places g = omega arith in sym (rw z at (any_low (breaks_at g v i rule) 0 (places g)))

-- ---- the lowest slot of the same user, name and group
below_any : (p : ℕ → Bool) (n i : ℕ) → i ≤ n → ltb (lowest n p) i ≡ any i p
below_any p n i l = go (ltb (lowest n p) i) refl
  where
    go : (t : Bool) → ltb (lowest n p) i ≡ t → t ≡ any i p
    go true e =
        let h : lowest n p < i = ltb-true (lowest n p) i e in
        sym (any_intro p 0 i (lowest n p) (omega arith) (omega arith) (low_hit p 0 n (lowest n p) refl (omega arith)).passes)
    go false e =
        let h : i ≤ lowest n p = ltb-false (lowest n p) i e in
        sym (any_none p 0 i (λ m a b. before m (omega arith)))
      where
        before : (m : ℕ) → m < lowest n p → p m ≡ false
        before m h = elim (dec_lt (lowest n p) n) [
          | yes k ↦ (low_hit p 0 n (lowest n p) refl (omega arith)).first m (omega arith) h
          | no k ↦ low_miss p 0 n (omega arith) m (omega arith) (omega (arith, low_le p 0 n))
        ]

pub twin_seen : (g : Geometry) (v : List ℕ) (i : ℕ) → i < slots g → ltb (twin_slot g v i) i ≡ seen_below g v i
unfolding twin_slot seen_below find_slot
twin_seen g v i h =
    let e = slot_at g v i in
    below_any (slot_fits g v (byte e USER) (name_of e) (Group (group_of g (extent e)))) (slots g) i (omega arith)

-- ---- the whole
-- u to r: the entry breaks the rules of its own bytes; m is what its map breaks
seven : (u n t x a b r : Bool) (m : Option Fault)
    → (let rule = cond u (Some UserByte) (cond n (Some NameByte) (cond t (Some TopBit) (cond x (Some ExByte) (cond a (Some S1Byte) (cond b (Some S2Byte) (cond r (Some RcByte) None)))))) in option_or (option_map alone rule) m)
    ≡ cond u (Some (alone UserByte)) (cond n (Some (alone NameByte)) (cond t (Some (alone TopBit)) (cond x (Some (alone ExByte)) (cond a (Some (alone S1Byte)) (cond b (Some (alone S2Byte)) (cond r (Some (alone RcByte)) m))))))
seven true n t x a b r m = refl
seven false true t x a b r m = refl
seven false false true x a b r m = refl
seven false false false true a b r m = refl
seven false false false false true b r m = refl
seven false false false false false true r m = refl
seven false false false false false false true m = refl
seven false false false false false false false m = refl

-- o, t, l, w: the map breaks its three rules, and a lower slot is a twin
four : (o t l w : Bool) (a b c d : Fault)
    → option_or (option_or (option_or (cond o (Some a) None) (cond t (Some b) None)) (cond l (Some c) None)) (cond w (Some d) None)
    ≡ cond o (Some a) (cond t (Some b) (cond l (Some c) (cond w (Some d) None)))
four true t l w a b c d = refl
four false true l w a b c d = refl
four false false true w a b c d = refl
four false false false true a b c d = refl
four false false false false a b c d = refl

pub ladder : (g : Geometry) (v : List ℕ) (i : ℕ) → i < slots g → found g v i ≡ first_broken g v i
unfolding found first_broken first_of breaks told entry_rule map_fault twin_fault
ladder g v i h =
    let e = slot_at g v i in
    rw (broken_any g v i Outside, broken_any g v i Twice, broken_any g v i Lower, twin_seen g v i h, four _ _ _ _ (map_told g v i Outside) (map_told g v i Twice) (map_told g v i Lower) (fault Twin 0 0 (twin_slot g v i)), seven (not (leb (byte e USER) 15)) (not (good_name false (name_of e))) (not (good_top_bits e)) (not (leb (byte e EX) 31)) (not (eqb (byte e S1) 0)) (not (leb (byte e S2) 15)) (not (leb (byte e RC) 128)))
