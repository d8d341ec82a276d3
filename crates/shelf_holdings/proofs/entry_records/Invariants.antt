-- Of the places passed so far the records are added up; what is left of the run begins at the next place.
use mathlib.Core.Path.{◌≡◌}
use mathlib.Core.List.{List}
use Prim.Native.Nat.{ℕ, ◌-◌, ◌*◌, ◌≤◌}
use Rattle.sums.proofs.SumLaws.{Summed}
use Rattle.disk_geometry.specs.declared.Geometry.{Geometry}
use Rattle.disk_geometry.specs.Geometry.{records, places}
use Rattle.shelf_holdings.specs.CodeEntries.{run, place_records}
use Rattle.shelf_holdings.proofs.entry_records.Given as goal

-- the places passed so far
pub record SoFar (g : Geometry) (e : List ℕ) (left m p : ℕ) : Type 0 where
  pub few : m ≤ 32 * p
  pub rest : left ≡ run g e - p * records g
  pub sum : Summed (place_records g e) (places g) m p

abbrev pub invariant-loop-p : goal.invariant-loop-p
invariant-loop-p l = SoFar l.g l.e l.left l.m l.p
