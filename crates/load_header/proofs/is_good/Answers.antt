-- The rules one by one.
use Rattle.load_header.specs.Header.{good_header}
use Rattle.load_header.proofs.is_good.Goals as goal

pub returns : goal.returns
unfolding good_header
returns c = rw (c.need_at.ensures.0, c.page_place.ensures.0, c.place_of.ensures.0, c.are_good-good.ensures, c.groups-n.ensures.0)
