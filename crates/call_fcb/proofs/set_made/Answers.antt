-- The name is copied, and the twenty bytes behind it are cleared.
use mathlib.Core.Path.{◌≡◌}
use borrow.Author.Rules.{rules}
use lib.ListN.{length}
use borrow.Rule.Slice.PartMut.{put_mid, mid_of, mid_len}
use Rattle.lists.specs.Bytes.{put}
use Rattle.call_fcb.specs.Fcb.{made}
use Rattle.call_fcb.proofs.set_made.Goals as goal

pub returns : goal.returns
unfolding made put
returns c =
    let l = put_mid 1 11 c.args.fcb.now c.copy_from_slice.new.self in
    let k : length (mid_of 12 20 l) ≡ 20 = mid_len 12 32 l (search rules) in
    rw (c.fill.ensures.after (λ y e. e), k, c.copy_from_slice.ensures.after)
