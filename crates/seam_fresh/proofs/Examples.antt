-- The answers of a copy at the seam as one number, evaluated on the disks of `fresh_copy/proofs/Examples`: the free blocks, or the bad slot,
-- from 65,536 on.
use mathlib.Core.Path.{◌≡◌}
use mathlib.Core.List.{[]}
use lib.ListN.{take}
use Rattle.fresh_volume.proofs.Examples.{G, worn, good, second}
use Rattle.fresh_copy.proofs.Examples.{twice, examples}
use Rattle.seam_words.specs.Answered.{answered}
use Rattle.seam_fresh.specs.SeamFresh.{fresh_sealed, fresh_at_seam}

pub record Examples : Type 0 where
  -- two blocks are free
  pub done : fresh_at_seam G worn second ≡ fresh_sealed 131072 worn good
  -- 36 with slot 2; 33 with no value
  pub bad_slot_lem : fresh_at_seam G twice [] ≡ fresh_sealed 131108 twice []
  pub second_short : fresh_at_seam G worn (take 100 second) ≡ fresh_sealed 33 worn (take 100 second)

pub at_seam_lem : Examples
unfolding fresh_at_seam answered
at_seam_lem = record { done = rw examples.done; bad_slot_lem = rw examples.bad_slot_lem; second_short = rw examples.second_short }
