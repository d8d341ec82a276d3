-- A list of 4 GiB or more is refused by its length; in any other a place fits 32 bits.
use Rattle.seam_desk.proofs.SiglaLaws.{told_too_long, told_fits, told_where}
use Rattle.seam_desk.proofs.manuscript.Goals as goal

pub returns-then-is_too_long : goal.returns-then-is_too_long
returns-then-is_too_long c = told_too_long _ _ c.is_too_long.ensures c.is_too_long-2.ensures _ c.if-is_too_long.true c.told.ensures

pub told-requires-2 : goal.told-requires-2
told-requires-2 c =
    let g = c.args in
    told_fits g.own.now g.house.now c.is_too_long.ensures c.is_too_long-2.ensures c.if-is_too_long.false c.where_is.result c.where_is.ensures.in_lists

pub returns : goal.returns
returns c =
    told_where _ _ c.is_too_long.ensures c.is_too_long-2.ensures c.if-is_too_long.false _
    c.where_is.ensures.value c.told-2.ensures
