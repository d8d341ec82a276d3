-- A geometry that is not straight is lawful as an eight-inch disk alone. Of a straight one the tests are the rule's, with T's
-- size asked by the most blocks that the block size allows.
use mathlib.Core.Path.{sym, ◌∙◌}
use Rattle.disk_geometry.proofs.GeometryLaws.{lawful_placed, lawful_straight}
use Rattle.disk_geometry.proofs.MostLaws.{by_tests}
use Rattle.disk_geometry.proofs.Geometry.is_lawful.Goals as goal

pub returns-then-self-ne-STRAIGHT : goal.returns-then-self-ne-STRAIGHT
returns-then-self-ne-STRAIGHT c = c.is_floppy.ensures ∙ sym (lawful_placed _ c.if-self-ne-STRAIGHT.true)

pub returns : goal.returns
returns c =
    let g = c.args.self in
    rw c.most_blocks-most.ensures (sym (lawful_straight g c.if-self-ne-STRAIGHT.false ∙ by_tests g))
