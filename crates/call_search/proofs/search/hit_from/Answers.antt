-- The search is the definition's, by the pattern's eleven bytes and its ex.
use Rattle.lists.specs.Bytes.{part}
use Rattle.disk_volume.specs.Name.{name_at}
use Rattle.call_search.specs.Search.{hit_from}
use Rattle.call_search.proofs.search.hit_from.Goals as goal

pub returns : goal.returns
unfolding hit_from name_at part
returns c = c.find_sought.ensures
