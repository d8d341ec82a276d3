-- The slots passed so far are good, exactly the blocks that they name are held, and their marks are set.
use mathlib.Core.Path.{◌≡◌}
use mathlib.Core.Bool.{Bool, true, not}
use mathlib.Core.List.{List}
use Prim.Native.Nat.{ℕ}
use Rattle.lists.proofs.BoundedLaws.{Searched}
use Rattle.disk_geometry.specs.declared.Geometry.{Geometry}
use Rattle.disk_geometry.specs.Geometry.{slots}
use Rattle.disk_held.specs.Held.{words_of}
use Rattle.disk_rules.specs.GoodSlot.{good_slot}
use Rattle.disk_maps.specs.CodeHeldBelow.{held_below}
use Rattle.disk_marks.specs.CodeMarks.{all_marked}
use Rattle.disk_inspection.proofs.look.Given as goal

abbrev pub bad : Geometry → List ℕ → ℕ → Bool
bad g volume j = not (good_slot g volume j)

pub record SoFar (g : Geometry) (volume held marks : List ℕ) (i : ℕ) : Type 0 where
  pub good : Searched (bad g volume) 0 (slots g) i
  pub words : held ≡ words_of (held_below g volume i)
  pub seen : all_marked g volume marks i ≡ true

abbrev pub invariant-loop-i : goal.invariant-loop-i
invariant-loop-i l = SoFar l.g l.volume l.held l.marks l.i
