-- No entry passed so far has what is wanted, so what is still to be searched gives the whole.
use Rattle.std.proofs.Common.{◌≡◌, ◌-◌, ◌/◌, ◌%◌, ◌≤◌, length}
use Rattle.lists.proofs.BoundedLaws.{Searched}
use Rattle.disk_volume.specs.Name.{strip}
use Rattle.disk_volume.specs.CodeRun.{run_entries, run_fits}
use Rattle.disk_volume.proofs.directory.find_in.Given as goal

abbrev pub invariant-loop-at : goal.invariant-loop-at
invariant-loop-at l =
    (l.at ≤ length l.entries) × (l.at % 32 ≡ 0) × Searched (run_fits l.g l.entries l.user (strip l.name) l.wanted) l.from (run_entries l.entries) (l.at / 32)

abbrev pub decreases-loop-at : goal.decreases-loop-at
decreases-loop-at l = l.end - l.at
