-- The buffer has room for every report.
use Rattle.shelf_report.proofs.RoomLaws.{fits}
use Rattle.shelf.proofs.lay.Goals as goal

pub returns : goal.returns
returns c =
    (fits.whole c.args.shelf c.args.out.now _ _ c.requires.1 c.requires.0 c.put_report.ensures.result_after, c.put_report.ensures.upper_bound)
