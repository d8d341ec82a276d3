-- Eight bytes, as they are lent, are the number in their place.
use mathlib.Core.Path.{◌∙◌}
use Prim.Native.Nat.{◌*◌}
use Rattle.shelf_bytes.proofs.LayoutLaws.{lent_part}
use Rattle.shelf_bytes.proofs.figure_at.Goals as goal

pub returns : goal.returns
returns c = c.eight_of.ensures ∙ lent_part c.args.b.now (8 * c.args.k)
