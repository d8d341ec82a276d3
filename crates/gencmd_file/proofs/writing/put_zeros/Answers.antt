-- Zeros take the place of the part that was lent.
use lib.ListN.{replicate}
use Rattle.gencmd_file.proofs.FileLaws.{lent_put}
use Rattle.gencmd_file.proofs.writing.put_zeros.Goals as goal

pub returns : goal.returns
returns c =
    lent_put _ _ _ _ (λ n. replicate n 0) c.requires (c.fill.ensures.after (λ y e. e))
