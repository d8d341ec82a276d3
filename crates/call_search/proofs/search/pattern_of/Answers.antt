-- The twelve bytes are the control block's.
use Rattle.lists.specs.Bytes.{part}
use Rattle.call_search.specs.Search.{pattern_of}
use Rattle.call_search.proofs.search.pattern_of.Goals as goal

pub returns : goal.returns
unfolding pattern_of part
returns c = c.copy_from_slice.ensures.after
