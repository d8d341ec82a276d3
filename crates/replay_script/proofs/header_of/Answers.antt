-- The flag is the definition's test, and the numbers are those of the header.
use Rattle.replay_script.specs.Layout.{longest_volume}
use Rattle.replay_script.specs.Script.{header_of}
use lib.ListN.{length}
use lib.Dec.{leb}
use borrow.Author.Tests.{leb-true}
use Rattle.lists.proofs.BoolLaws.{and_right}
use Rattle.replay_script.proofs.header_of.Goals as goal

pub returns-then-not-good : goal.returns-then-not-good
unfolding header_of
returns-then-not-good c =
    record {
      value = rw (← c.four_at-volume_bytes.ensures, c.if-not-good.true);
      at_most = tt;
    }

pub returns : goal.returns
unfolding header_of
returns c =
    record {
      value = rw (← c.four_at-volume_bytes.ensures, c.if-not-good.false, ← c.two_at.ensures.0, ← c.two_at-2.ensures.0, ← c.byte_at.ensures, ← c.from.ensures, ← c.byte_at-2.ensures, ← c.from-2.ensures);
      at_most = leb-true c.four_at-volume_bytes.result longest_volume (and_right (leb 10 (length c.args.s.now)) (leb c.four_at-volume_bytes.result longest_volume) c.if-not-good.false);
    }
