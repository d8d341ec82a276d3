-- No slot is passed yet.
use Rattle.shelf_files.proofs.TreeLaws.{holds_none}
use Rattle.shelf_files.proofs.Tree.new.Goals as goal

pub returns : goal.returns
returns c = holds_none
