-- The other slot of a fault is never above the bad one.
use Rattle.std.specs.Prelude.{Option, Some, None, IfSome, option_map}
use Rattle.std.specs.Option.{option_or}
use mathlib.Core.Path.{◌≡◌, refl}
use mathlib.Core.Bool.{Bool, true, false, cond}
use mathlib.Core.List.{List}
use Prim.Native.Nat.{ℕ, ◌≤◌, ◌<◌}
use native.Mathlib.Omega.{arith}
use lib.Dec.{ltb}
use borrow.Author.Tests.{ltb-true}
use Rattle.lists.proofs.BoundedLaws.{low_le}
use Rattle.disk_geometry.specs.declared.Geometry.{Geometry}
use Rattle.disk_geometry.specs.Geometry.{slots, places}
use Rattle.disk_volume.specs.Entry.{is_empty, block_in}
use Rattle.disk_volume.specs.Directory.{slot_at}
use Rattle.disk_rules.specs.GoodSlot.{names_block}
use Rattle.disk_faults.specs.declared.MapRule.{MapRule}
use Rattle.disk_faults.specs.declared.MapRule.TheVariants.{Outside, Twice, Lower}
use Rattle.disk_faults.specs.declared.Rule.{Rule}
use Rattle.disk_faults.specs.declared.Rule.TheVariants.{Twin}
use Rattle.disk_faults.specs.declared.Fault.{Fault}
use Rattle.disk_faults.specs.Faults.{place_of, slot_of, twin_slot, other_slot, fault, alone, map_told, first_broken}
use Rattle.disk_faults.specs.CodeLadder.{entry_rule, map_fault, twin_fault, found}
use Rattle.disk_faults.proofs.LadderLaws.{ladder}

abbrev Below : ℕ → Option Fault → Type 0
Below i f = IfSome f (λ f. f.other ≤ i)

alone_below : (r : Option Rule) (i : ℕ) → Below i (option_map alone r)
alone_below None i = tt
alone_below (Some rule) i = omega arith

if_below : (t : Bool) (f : Fault) (i : ℕ) → (t ≡ true → f.other ≤ i) → Below i (cond t (Some f) None)
if_below true f i h = h refl
if_below false f i h = tt

or_below : (a b : Option Fault) (i : ℕ) → Below i a → Below i b → Below i (option_or a b)
or_below None b i h k = k
or_below (Some f) b i h k = h

module _ (g : Geometry) (v : List ℕ) (i : ℕ) where
  map_other : (rule : MapRule) (b : ℕ) → other_slot g v i rule b ≤ i
  unfolding slot_of
  map_other Outside b = omega arith
  map_other Twice b = omega arith
  map_other Lower b = omega (arith, low_le (λ j. names_block g (slot_at g v j) b) 0 i)

  map_below : (rule : MapRule) → Below i (map_fault g v i rule)
  unfolding map_fault
  map_below rule =
      let p = place_of g v i rule in
      let b = block_in g (slot_at g v i) p in
      if_below (ltb p (places g)) (map_told g v i rule) i (λ _. map_other rule b)

  twin_below : Below i (twin_fault g v i)
  unfolding twin_fault
  twin_below =
      let j = twin_slot g v i in
      if_below (ltb j i) (fault Twin 0 0 j) i (λ e. omega (arith, ltb-true j i e))

  found_below : Below i (found g v i)
  unfolding found
  found_below = go (is_empty (slot_at g v i))
    where
      rest : Option Fault
      rest = option_or (option_or (option_or (map_fault g v i Outside) (map_fault g v i Twice)) (map_fault g v i Lower)) (twin_fault g v i)

      rest_below : Below i rest
      rest_below = or_below _ _ i (or_below _ _ i (or_below _ _ i (map_below Outside) (map_below Twice)) (map_below Lower)) twin_below

      go : (t : Bool) → Below i (cond t None (option_or (option_map alone (entry_rule (slot_at g v i))) rest))
      go true = tt
      go false = or_below _ rest i (alone_below (entry_rule (slot_at g v i)) i) rest_below

pub other_below : (g : Geometry) (v : List ℕ) (i : ℕ) → i < slots g → IfSome (first_broken g v i) (λ f. f.other ≤ i)
other_below g v i h = rw (← ladder g v i h) (found_below g v i)
