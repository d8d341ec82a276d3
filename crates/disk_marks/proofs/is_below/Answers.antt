-- The lowest slot that has the group is one of them, or none of them has it.
use mathlib.Core.Path.{sym}
use Rattle.disk_volume.specs.Name.{strip}
use Rattle.disk_volume.specs.declared.Wanted.TheVariants.{Group}
use Rattle.disk_volume.proofs.FindLaws.{any_below}
use Rattle.disk_marks.proofs.is_below.Goals as goal

pub returns-then-g-ne-STRAIGHT : goal.returns-then-g-ne-STRAIGHT
returns-then-g-ne-STRAIGHT c =
    let a = c.args in
    rw c.find-lowest.ensures.0 (sym (any_below a.g a.volume.now a.user (strip a.name.now) (Group a.k) a.n c.requires.n_bound.0))
