-- The bytes passed so far are those of the name without top bits.
use mathlib.Core.Path.{◌≡◌}
use lib.Seq.{paste}
use Rattle.disk_volume.specs.Name.{strip}
use Rattle.call_sweep.proofs.lay_name.Given as goal

abbrev pub invariant-loop-i : goal.invariant-loop-i
invariant-loop-i l = l.dst ≡ paste l.initial.dst 0 (strip l.name) l.i
