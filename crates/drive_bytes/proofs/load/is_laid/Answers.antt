-- The words that code compares with zero, and the one that it compares with the placing, have the bytes that the layout asks to be
-- zero.
use Rattle.drive_bytes.proofs.LoadLaws.{idle_words, spare_word}
use Rattle.drive_bytes.specs.Layout.{laid_out}
use Rattle.lists.specs.Bytes.{part}
use Rattle.drive_bytes.proofs.load.is_laid.Goals as goal

pub returns : goal.returns
unfolding laid_out part
returns c =
    let s = c.args.s.now in
    let size = c.requires in
    rw (← idle_words s size, ← spare_word s size, c.eight_of-last.ensures, c.eight_of-a.ensures, c.eight_of-b.ensures, c.from-placing.ensures)
