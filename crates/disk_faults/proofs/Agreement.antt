-- The rules and log-in agree: a slot breaks none exactly where it is good.
use Rattle.std.specs.Prelude.{Option, Some, None, is_none, option_map}
use Rattle.std.specs.Option.{option_or}
use mathlib.Core.Path.{◌≡◌, refl, ap, ◌∙◌}
use mathlib.Core.Bool.{Bool, true, false, not, cond, ◌&&◌, ◌||◌}
use mathlib.Core.List.{List}
use Prim.Native.Nat.{ℕ, zero, suc, ◌<◌}
use lib.Dec.{leb, ltb, eqb}
use Rattle.lists.specs.Bounded.{any_from, every_from, every}
use Rattle.lists.specs.Bytes.{byte}
use Rattle.disk_geometry.specs.declared.Geometry.{Geometry}
use Rattle.disk_geometry.specs.Geometry.{slots, inside, places}
use Rattle.disk_volume.specs.Fields.{USER, EX, S1, S2, RC}
use Rattle.disk_volume.specs.Name.{name_of, good_name}
use Rattle.disk_volume.specs.Entry.{Entry, is_empty, block_in}
use Rattle.disk_volume.specs.Directory.{slot_at}
use Rattle.disk_rules.specs.GoodSlot.{good_fields, good_top_bits, in_places, named_below, good_entry, good_place, seen_below, good_slot}
use Rattle.disk_faults.specs.declared.MapRule.{MapRule}
use Rattle.disk_faults.specs.declared.MapRule.TheVariants.{Outside, Twice, Lower}
use Rattle.disk_faults.specs.declared.Rule.{Rule}
use Rattle.disk_faults.specs.declared.Rule.TheVariants.{UserByte, NameByte, TopBit, ExByte, S1Byte, S2Byte, RcByte}
use Rattle.disk_faults.specs.declared.Fault.{Fault}
use Rattle.disk_faults.specs.Faults.{breaks_at, twin_slot, alone, Agree}
use Rattle.disk_faults.specs.CodeLadder.{entry_rule, map_fault, twin_fault, found}
use Rattle.disk_faults.proofs.LadderLaws.{broken, broken_any, twin_seen, ladder}

-- ---- a map: three rules of places at once
-- z: the place is 0; x: its block is from D to T-1; y, w: it is against the other rules
one_place : (z x y w a b c : Bool)
    → cond (z || (x && not y && not w)) (not a && not b && not c) false
    ≡ (not (cond (not z && not x) true a) && not (cond (not z && y) true b) && not (cond (not z && w) true c))
one_place true x y w a b c = refl
one_place false false y w a b c = refl
one_place false true true w true b c = refl
one_place false true true w false b c = refl
one_place false true false true true b c = refl
one_place false true false true false true c = refl
one_place false true false true false false c = refl
one_place false true false false a b c = refl

module _ (z x y w : ℕ → Bool) where
  all_places : (i k : ℕ) → every_from (λ p. z p || (x p && not (y p) && not (w p))) i k
      ≡ (not (any_from (λ p. not (z p) && not (x p)) i k) && not (any_from (λ p. not (z p) && y p) i k) && not (any_from (λ p. not (z p) && w p) i k))
  unfolding every_from any_from
  all_places i zero = refl
  all_places i (suc k) = rw (all_places (suc i) k) (one_place (z i) (x i) (y i) (w i) _ _ _)

module _ (g : Geometry) (v : List ℕ) (i : ℕ) where
  map_good : every (places g) (good_place g v i) ≡ (not (broken g v i Outside) && not (broken g v i Twice) && not (broken g v i Lower))
  unfolding good_place breaks_at
  map_good =
      let b : ℕ → ℕ = λ p. block_in g (slot_at g v i) p in
      rw (broken_any g v i Outside, broken_any g v i Twice, broken_any g v i Lower)
      (all_places (λ p. eqb (b p) 0) (λ p. inside g (b p)) (λ p. in_places g (slot_at g v i) p (b p)) (λ p. named_below g v i (b p)) 0 (places g))

-- ---- of two options none is there where the first is not, and not the other
none_or : (a b : Option Fault) → is_none (option_or a b) ≡ (is_none a && is_none b)
none_or None b = refl
none_or (Some f) b = refl

none_if : (t : Bool) (f : Fault) → is_none (cond t (Some f) None) ≡ not t
none_if true f = refl
none_if false f = refl

kept_map : (g : Geometry) (v : List ℕ) (i : ℕ) (rule : MapRule) → is_none (map_fault g v i rule) ≡ not (broken g v i rule)
unfolding map_fault
kept_map g v i rule = none_if (broken g v i rule) _

kept_twin : (g : Geometry) (v : List ℕ) (i : ℕ) → i < slots g → is_none (twin_fault g v i) ≡ not (seen_below g v i)
unfolding twin_fault
kept_twin g v i h = none_if (ltb (twin_slot g v i) i) _ ∙ ap not (twin_seen g v i h)

-- the entry by itself: user, name, top bits, ex, s1, s2, rc
seven : (u n t x a b r : Bool)
    → is_none (cond (not u) (Some UserByte) (cond (not n) (Some NameByte) (cond (not t) (Some TopBit) (cond (not x) (Some ExByte) (cond (not a) (Some S1Byte) (cond (not b) (Some S2Byte) (cond (not r) (Some RcByte) None)))))))
    ≡ (u && x && a && b && r && n && t)
seven false n t x a b r = refl
seven true false t false a b r = refl
seven true false t true false b r = refl
seven true false t true true false r = refl
seven true false t true true true false = refl
seven true false t true true true true = refl
seven true true false false a b r = refl
seven true true false true false b r = refl
seven true true false true true false r = refl
seven true true false true true true false = refl
seven true true false true true true true = refl
seven true true true false a b r = refl
seven true true true true false b r = refl
seven true true true true true false r = refl
seven true true true true true true false = refl
seven true true true true true true true = refl

kept_entry : (e : Entry) → is_none (entry_rule e) ≡ good_entry e
unfolding entry_rule good_fields
kept_entry e = seven (leb (byte e USER) 15) (good_name false (name_of e)) (good_top_bits e) (leb (byte e EX) 31) (eqb (byte e S1) 0) (leb (byte e S2) 15) (leb (byte e RC) 128)

-- ---- the whole
module _ (g : Geometry) (v : List ℕ) (i : ℕ) (h : i < slots g) where
  abbrev map_rules : Option Fault
  map_rules = option_or (option_or (option_or (map_fault g v i Outside) (map_fault g v i Twice)) (map_fault g v i Lower)) (twin_fault g v i)

  kept_maps : is_none map_rules ≡ (every (places g) (good_place g v i) && not (seen_below g v i))
  kept_maps =
      rw (none_or, none_or, none_or, kept_map g v i Outside, kept_map g v i Twice, kept_map g v i Lower, kept_twin g v i h, map_good g v i)

-- r is the entry's rule, m the map's fault; k, n, s: they are good, and no lower slot is a twin
whole : (t : Bool) (r : Option Rule) (m : Option Fault) (k n s : Bool) → is_none r ≡ k → is_none m ≡ (n && s)
    → is_none (cond t None (option_or (option_map alone r) m)) ≡ (t || (k && n && s))
whole true r m k n s e f = refl
whole false None m true n s e f = f
whole false None m false n s e f = cc
whole false (Some rule) m true n s e f = cc
whole false (Some rule) m false n s e f = refl

pub agree : Agree
unfolding found good_slot
agree g v i h =
    rw (← ladder g v i h)
    (whole (is_empty (slot_at g v i)) (entry_rule (slot_at g v i)) (map_rules g v i h) _ _ _ (kept_entry (slot_at g v i)) (kept_maps g v i h))
