-- Each return is one rung of the ladder.
use Rattle.gencmd_groups.proofs.ReachLaws.{sizes_within}
use Rattle.gencmd_file.specs.CodePlan.{plan_for}
use borrow.Author.Tests.{eq-eqb, ne_eqb, lt-ltb, le-ltb}
use borrow.Author.Rules.{rules}
use Rattle.gencmd_file.proofs.planning.plan_for.Goals as goal

pub returns-then-reach-eq0 : goal.returns-then-reach-eq0
unfolding plan_for
returns-then-reach-eq0 c =
    record {
      value = rw (eq-eqb _ _ c.if-reach-eq0.true);
      safe = tt;
    }

pub file_length-requires : goal.file_length-requires
file_length-requires c = rw c.sizes-s.ensures (sizes_within c.args.reach c.requires)

pub returns-then-room-file_length : goal.returns-then-room-file_length
unfolding plan_for
returns-then-room-file_length c =
    record {
      value = rw (ne_eqb _ _ c.if-reach-eq0.false, ← c.sizes-s.ensures, ← c.file_length.ensures, lt-ltb _ _ c.if-room-file_length.true);
      safe = tt;
    }

pub returns : goal.returns
unfolding plan_for
returns c =
    record {
      value = rw (ne_eqb _ _ c.if-reach-eq0.false, ← c.sizes-s.ensures, ← c.file_length.ensures, le-ltb _ _ c.if-room-file_length.false);
      safe = (rw c.sizes-s.ensures (sizes_within c.args.reach c.requires), search rules);
    }
