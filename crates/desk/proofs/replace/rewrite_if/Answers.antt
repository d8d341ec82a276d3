-- A record that is none to be rewritten leaves volume and stores as they are.
use Rattle.std.proofs.Common.{sym, arith}
use Rattle.disk_stores.proofs.CodeLaws.{cut_none}
use Rattle.desk.proofs.replace.rewrite_if.Goals as goal

pub returns-clause-stored : goal.returns-clause-stored
returns-clause-stored c =
    let a = c.args in
    rw c.if-hit.false (record { volume_is = sym (cut_none a.front.geometry a.volume.now a.left.now); left_is = omega arith })
