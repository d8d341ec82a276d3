-- Where the siglum is not explained, the part is empty.
use Rattle.lists.specs.Bytes.{part}
use Rattle.desk_manuscripts.proofs.manuscript.Goals as goal

pub returns-in-Err : goal.returns-in-Err
unfolding part
returns-in-Err c = rw (← c.where_is.ensures.value, c.in-Err.is)
