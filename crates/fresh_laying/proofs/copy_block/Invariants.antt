-- The records passed so far are laid, so what is still to be laid gives the whole.
use mathlib.Core.List.{List}
use Prim.Native.Nat.{ℕ}
use Rattle.lists.proofs.FoldLaws.{Folded}
use Rattle.disk_geometry.specs.Geometry.{records}
use Rattle.disk_volume.specs.Record.{record_at, put_record}
use Rattle.fresh_laying.proofs.copy_block.Given as goal

abbrev pub invariant-loop-k : goal.invariant-loop-k
invariant-loop-k l = Folded (λ (x : List ℕ) (i : ℕ). put_record l.g x l.c i (record_at l.g l.first l.b i)) l.initial.second (records l.g) l.second l.k
