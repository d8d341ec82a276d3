-- Each rule evaluated: B 1,024, T 8, D 1, so 32 slots and blocks 1 to 7.
use Rattle.std.specs.Prelude.{Option, Some, None}
use mathlib.Core.Path.{◌≡◌, refl}
use mathlib.Core.List.{List, [], ◌∷◌, ◌++◌, map}
use Prim.Native.Nat.{ℕ, ◌-◌}
use lib.ListN.{replicate, length, set}
use Rattle.lists.specs.Bounded.{low_from, any_from, every_from}
use Rattle.lists.specs.Bytes.{part, all}
use Rattle.disk_geometry.specs.declared.Geometry.{Geometry}
use Rattle.disk_geometry.specs.Geometry.{start, slot_start, group_of, inside, places, geometry_of}
use Rattle.disk_volume.specs.Fields.{USER, NAME, T1, EX, S1, S2, RC, MAP}
use Rattle.disk_volume.specs.Name.{strip, name_at, same, good_name}
use Rattle.disk_volume.specs.Entry.{Entry, block_in, of_file, of_group}
use Rattle.disk_volume.specs.Directory.{slot_at, find_slot}
use Rattle.disk_rules.specs.GoodSlot.{good_top_bits, in_places, names_block, named_below, seen_below}
use Rattle.disk_faults.specs.declared.MapRule.TheVariants.{Outside, Twice, Lower}
use Rattle.disk_faults.specs.declared.Rule.TheVariants.{UserByte, NameByte, TopBit, ExByte, S1Byte, S2Byte, RcByte, Map, Twin}
use Rattle.disk_faults.specs.declared.Fault.{Fault}
use Rattle.disk_faults.specs.Faults.{rules, rule_number, breaks_at, breaks, place_of, slot_of, twin_slot, fault, alone, told, first_of, first_broken}

-- SIGLA.TXT of user 0, extent 0, with blocks 1 and 2 in places 0 and 2; one byte of it altered
abbrev sigla : Entry
sigla =
    0 ∷ 83 ∷ 73 ∷ 71 ∷ 76 ∷ 65 ∷ 32 ∷ 32 ∷ 32 ∷ 84 ∷ 88 ∷ 84 ∷ 0 ∷ 0 ∷ 0 ∷ 21
    ∷ 1 ∷ 0 ∷ 2 ∷ 0 ∷ 0 ∷ 0 ∷ 0 ∷ 0 ∷ 0 ∷ 0 ∷ 0 ∷ 0 ∷ 0 ∷ 0 ∷ 0 ∷ 0 ∷ []

abbrev with : ℕ → ℕ → Entry
with k b = set sigla k b

-- the same file in extent 1, with these blocks in the same places
abbrev next : ℕ → ℕ → Entry
next b c = set (set (with EX 1) MAP b) 18 c

-- what slot i breaks where these entries stand in the first slots, and all else is E5H
abbrev found_in : Geometry → ℕ → List ℕ → Option Fault
found_in g i entries = first_broken g (entries ++ replicate (8192 - length entries) 229) i

abbrev found : ℕ → List ℕ → Option Fault
found i entries = found_in (geometry_of 1024 8 1) i entries

pub record Examples : Type 0 where
  -- the rules have the numbers of their places in the list
  in_order : map rule_number rules ≡ 1 ∷ 2 ∷ 3 ∷ 4 ∷ 5 ∷ 6 ∷ 7 ∷ 8 ∷ 9 ∷ 10 ∷ 11 ∷ []
  good : found 0 sigla ≡ None
  empty : found 1 sigla ≡ None
  -- each limit is still good: user 15, ex 31, s2 15, rc 128, block T-1
  limits : found 0 (set (set (set (set (with USER 15) EX 31) S2 15) RC 128) 18 7) ≡ None
  user : found 0 (with USER 16) ≡ Some (alone UserByte)
  -- a blank in front, and 3FH
  first_blank : found 0 (with NAME 32) ≡ Some (alone NameByte)
  wildcard : found 0 (with 3 63) ≡ Some (alone NameByte)
  -- a top bit on byte 1, and on byte 9
  top_bit : found 0 (with NAME 211) ≡ Some (alone TopBit)
  read_only : found 0 (with T1 212) ≡ None
  ex : found 0 (with EX 32) ≡ Some (alone ExByte)
  s1 : found 0 (with S1 1) ≡ Some (alone S1Byte)
  s2 : found 0 (with S2 16) ≡ Some (alone S2Byte)
  rc : found 0 (with RC 129) ≡ Some (alone RcByte)
  -- block T in place 2
  outside : found 0 (with 18 8) ≡ Some (fault (Map Outside) 2 8 0)
  -- block 1 in place 0, where D is 2
  directory : found_in (geometry_of 1024 8 2) 0 sigla ≡ Some (fault (Map Outside) 0 1 0)
  -- block 1 in places 0 and 2
  twice : found 0 (with 18 1) ≡ Some (fault (Map Twice) 2 1 0)
  -- block 2 in slot 0 and in place 2 of slot 1; in an empty slot it doesn't count
  lower : found 1 (sigla ++ next 7 2) ≡ Some (fault (Map Lower) 2 2 0)
  lower_empty : found 1 (with USER 229 ++ next 7 2) ≡ None
  -- the lowest place, and the lowest slot that has the block
  lowest : found 2 (sigla ++ (next 7 2 ++ with USER 3)) ≡ Some (fault (Map Lower) 0 1 0)
  -- the same user, name and group as slot 0
  twin : found 2 (sigla ++ (next 3 4 ++ set (set sigla MAP 5) 18 6)) ≡ Some (fault Twin 0 0 0)
  -- a read_only mark doesn't make it another name, and another user's file is another
  twin_marked : found 1 (sigla ++ set (set (with T1 212) MAP 5) 18 6) ≡ Some (fault Twin 0 0 0)
  other_user : found 1 (sigla ++ set (set (with USER 3) MAP 5) 18 6) ≡ None
  -- several at once: the first in the order of the rules
  ex_before_rc : found 0 (set (with RC 129) EX 32) ≡ Some (alone ExByte)
  outside_before_twice : found 0 (set (set (with 17 1) 18 9) 19 9) ≡ Some (fault (Map Outside) 2 9 0)
  -- block 2 of slot 0 in places 0 and 2: twice in the entry, though place 0 alone is against the next rule
  twice_before_lower : found 1 (sigla ++ next 2 2) ≡ Some (fault (Map Twice) 2 2 0)
  lower_before_twin : found 1 (sigla ++ sigla) ≡ Some (fault (Map Lower) 0 1 0)

pub examples : Examples
unfolding first_broken first_of breaks breaks_at told good_top_bits place_of slot_of twin_slot in_places names_block named_below seen_below find_slot low_from any_from every_from part all start slot_start group_of inside strip name_at same good_name places block_in of_file of_group slot_at
examples = record {
  in_order = refl;
  good = refl;
  limits = refl;
  empty = refl;
  user = refl;
  first_blank = refl;
  wildcard = refl;
  top_bit = refl;
  read_only = refl;
  ex = refl;
  s1 = refl;
  s2 = refl;
  rc = refl;
  outside = refl;
  directory = refl;
  twice = refl;
  lower = refl;
  lower_empty = refl;
  lowest = refl;
  twin = refl;
  twin_marked = refl;
  other_user = refl;
  ex_before_rc = refl;
  outside_before_twice = refl;
  twice_before_lower = refl;
  lower_before_twin = refl;
}
