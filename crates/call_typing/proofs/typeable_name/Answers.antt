-- The bytes, and name and type apart.
use Rattle.lists.specs.Bytes.{part}
use Rattle.call_typing.specs.Typing.{typeable}
use Rattle.disk_volume.proofs.NameLaws.{strip_part}
use Rattle.call_typing.proofs.typeable_name.Goals as goal

pub returns : goal.returns
unfolding typeable part
returns c =
    let name = c.args.name.now in
    rw (c.typeable_bytes.ensures, c.blanks_last.ensures, c.blanks_last-2.ensures, ← strip_part name 0 8, ← strip_part name 8 3)
