-- Each part is laid behind the one before it; the places behind them are not used.
use Rattle.memory_regions.proofs.PlaceLaws.{places_are, three_laid}
use Rattle.memory_regions.specs.Places.{padded}
use mathlib.Core.List.{◌++◌}
use mathlib.Core.Path.{refl}
use native.Mathlib.Omega.{arith}
use Rattle.std.proofs.Common.{length-append}
use Rattle.memory_regions.proofs.joined.Goals as goal

pub returns : goal.returns
unfolding padded
returns c =
    let front = c.args.front.now in
    let middle = c.args.middle.now in
    let back = c.args.back.now in
    places_are (front ++ (middle ++ back)) _ _
    (three_laid front middle back refl c.copy_from_slice.ensures.after c.copy_from_slice-2.ensures.after c.copy_from_slice-3.ensures.after (omega arith) (omega arith) c.requires)
    (simp (length-append, length-append) (omega arith))
