-- The key so far is what the bytes passed so far make of it.
use Prim.Native.Nat.{◌<◌}
use Rattle.lists.proofs.FoldLaws.{Folded}
use Rattle.disk_volume.specs.Name.{strip}
use Rattle.shelf_files.specs.CodeTree.{KEYS, next_key}
use Rattle.shelf_files.proofs.key_of.Given as goal

abbrev pub invariant-loop-b : goal.invariant-loop-b
invariant-loop-b l = (l.key < KEYS) × Folded (next_key (strip l.name)) l.user 11 l.key l.b-index
