-- What was read has the length that was counted.
use mathlib.Core.Path.{ap, ◌∙◌}
use lib.ListN.{take}
use Rattle.disk_geometry.specs.declared.Geometry.{Geometry}
use Rattle.shelf_figures.specs.declared.Added.{Added}
use Rattle.shelf_figures.specs.Shelf.{put}
use Rattle.shelf.proofs.ReadingLaws.{ended, went_on}
use Rattle.shelf.proofs.after_read.Goals as goal

pub returns-then-n-shelf : goal.returns-then-n-shelf
returns-then-n-shelf c =
    ended c.args.shelf (take c.args.n c.args.buffer.now) c.args.n c.requires.1 c.if-n-shelf.true

pub returns : goal.returns
returns c =
    let read = take c.args.n c.args.buffer.now in
    let is = ap (λ (x : Added). x.shelf) c.put-added.ensures ∙ ap (λ (g : Geometry). (put c.args.shelf g read).shelf) c.geometry.ensures in
    went_on c.args.shelf read c.args.n _ c.requires.1 c.if-n-shelf.false is
