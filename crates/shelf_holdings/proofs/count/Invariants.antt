-- Files, entries and records of the slots passed so far are added up, and their files are in the tree.
use mathlib.Core.Bool.{cond}
use mathlib.Core.List.{List}
use Prim.Native.Nat.{ℕ, ◌*◌, ◌≤◌}
use Rattle.sums.proofs.SumLaws.{Summed}
use Rattle.disk_geometry.specs.declared.Geometry.{Geometry}
use Rattle.disk_geometry.specs.Geometry.{slots}
use Rattle.shelf_files.specs.declared.Tree.{Tree}
use Rattle.shelf_files.specs.CodeTree.{HoldsFirst}
use Rattle.shelf_holdings.specs.Holdings.{is_entry, is_file}
use Rattle.shelf_holdings.specs.CodeEntries.{slot_records}
use Rattle.shelf_holdings.proofs.count.Given as goal

-- the slots passed so far
pub record SoFar (g : Geometry) (v : List ℕ) (tree : Tree) (f e r i : ℕ) : Type 0 where
  pub few_files : f ≤ i
  pub few_entries : e ≤ i
  pub few_records : r ≤ 512 * i
  pub files_are : Summed (λ j. cond (is_file g v j) 1 0) (slots g) f i
  pub entries_are : Summed (λ j. cond (is_entry g v j) 1 0) (slots g) e i
  pub records_are : Summed (slot_records g v) (slots g) r i
  pub in_tree : HoldsFirst g v tree i

abbrev pub invariant-loop-i : goal.invariant-loop-i
invariant-loop-i l = SoFar l.g l.volume l.tree l.c.files l.c.entries l.c.records l.i
