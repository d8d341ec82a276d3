-- The group takes the place of the part that was lent.
use Rattle.gencmd_lines.specs.Lines.{lines_in}
use Rattle.gencmd_groups.specs.Groups.{group_bytes}
use Rattle.gencmd_file.proofs.FileLaws.{lent_put}
use Rattle.gencmd_file.proofs.writing.put_group.Goals as goal

pub returns : goal.returns
returns c =
    let a = c.args in
    lent_put _ _ _ _ (group_bytes (lines_in a.text.now) a.group) c.requires c.lay_group.ensures
