-- What was written is no longer than the buffer.
use Rattle.std.proofs.Common.{sym}
use Rattle.std.proofs.lemmas.List.{length-take-le}
use Rattle.gencmd_file.proofs.LengthLaws.{written_within}
use Rattle.gencmd.proofs.convert.Goals as goal

pub slice_bounds-deliver-end : goal.slice_bounds-deliver-end
slice_bounds-deliver-end g c = written_within c.args.text.now c.args.out.now c.in-Ok.ensures

pub slice_bounds-deliver-end-in-Ok : goal.slice_bounds-deliver-end-in-Ok
slice_bounds-deliver-end-in-Ok g c =
    sym (length-take-le _ _ (written_within c.args.text.now c.args.out.now c.in-Ok.ensures))
