-- A place that names no block has none; another one has what is left of the run, at most a block's.
use mathlib.Core.Path.{sym, ◌∙◌}
use mathlib.Core.Logic.{◌≢◌}
use native.Mathlib.Omega.{arith}
use Rattle.disk_geometry.proofs.GeometryLaws.{bounds}
use Rattle.disk_volume.specs.Entry.{block_in}
use Rattle.shelf_holdings.proofs.PlaceLaws.{place_unused, place_used}
use Rattle.shelf_holdings.proofs.place_records.Goals as goal

pub returns-then-block_in-eq0 : goal.returns-then-block_in-eq0
returns-then-block_in-eq0 c = (sym (place_unused _ _ _ (sym c.block_in.ensures.0 ∙ c.if-block_in-eq0.true)), omega arith)

pub returns : goal.returns
returns c =
    let used : (let a = c.args in block_in a.g a.e.now a.p ≢ 0) = λ z. c.if-block_in-eq0.false (c.block_in.ensures.0 ∙ z) in
    let a = c.args in
    let is = place_used a.g a.e.now a.p a.left used c.requires.left_value in
    (omega (arith, c.records.ensures), omega (arith, c.records.ensures, (bounds _ c.requires.g_value.0).block_high))
