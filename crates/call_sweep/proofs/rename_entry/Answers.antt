-- The name laid whole, and two bytes of it marked: the renamed entry.
use borrow.Author.Rules.{rules}
use Rattle.lists.specs.Bytes.{byte, put}
use Rattle.call_sweep.specs.Sweep.{with_top_bit, renamed}
use Rattle.call_sweep.proofs.EditLaws.{named_and_marked}
use Rattle.call_sweep.proofs.rename_entry.Goals as goal

pub returns : goal.returns
unfolding renamed put
returns c =
    let a = c.args in
    let e = a.e.now in
    let n = a.new.now in
    rw (c.lay_name.ensures, c.with_top_bit-read_only.ensures, c.with_top_bit-system.ensures)
    (named_and_marked e n (with_top_bit (byte n 8) (byte e 9)) (with_top_bit (byte n 9) (byte e 10)) (search rules) (search rules))
