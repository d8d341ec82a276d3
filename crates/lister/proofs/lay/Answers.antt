-- The buffer has room for every listing.
use Rattle.listing.proofs.RoomLaws.{fits}
use Rattle.lister.proofs.lay.Goals as goal

pub returns : goal.returns
returns c =
    let a = c.args in
    (fits.whole a.volume.now a.out.now _ _ c.requires c.list.ensures.result_after, c.list.ensures.upper_bound)
