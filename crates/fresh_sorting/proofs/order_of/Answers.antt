-- The slots passed so far are in order.
use Rattle.fresh_sorting.proofs.SortedLaws.{in_order_none}
use Rattle.fresh_sorting.proofs.order_of.Goals as goal

pub loop-i-init : goal.loop-i-init
loop-i-init c = in_order_none c.args.g c.args.volume.now c.args.kept.now c.requires.kept_len
