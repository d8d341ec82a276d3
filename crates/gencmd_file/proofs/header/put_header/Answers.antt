-- The header takes the place of the part that was lent.
use Rattle.lists.specs.Bytes.{put}
use Rattle.gencmd_file.proofs.header.put_header.Goals as goal

pub returns : goal.returns
unfolding put
returns c = rw c.lay_header.ensures
