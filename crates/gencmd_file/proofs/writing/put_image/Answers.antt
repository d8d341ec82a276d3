-- Four groups, each behind the one before.
use Rattle.load_header.specs.Header.{CODE, DATA, EXTRA, STACK}
use Rattle.gencmd_file.proofs.FileLaws.{put_one, and_put, image_is}
use Rattle.gencmd_groups.proofs.ListLaws.{length_list}
use Rattle.gencmd_lines.specs.Lines.{lines_in}
use Rattle.gencmd_groups.specs.Groups.{byte_at, group_bytes}
use lib.ListN.{length}
use Prim.Native.Nat.{◌≤◌}
use native.Mathlib.Omega.{arith}
use Rattle.gencmd_file.proofs.writing.put_image.Goals as goal

pub returns : goal.returns
returns c =
    let x = c.args in
    let ls = lines_in x.text.now in
    let h : x.at ≤ length x.out.now = omega (arith, c.requires) in
    image_is ls x.code x.«data» x.extra x.stack
    (and_put (group_bytes ls STACK x.stack)
    (and_put (group_bytes ls EXTRA x.extra)
    (and_put (group_bytes ls DATA x.«data») (put_one c.put_group.ensures (length_list (byte_at ls CODE) 0 x.code)) h (omega arith) c.put_group-2.ensures (length_list (byte_at ls DATA) 0 x.«data»))
    h (omega arith) c.put_group-3.ensures (length_list (byte_at ls EXTRA) 0 x.extra))
    h (omega arith) c.put_group-4.ensures (length_list (byte_at ls STACK) 0 x.stack))
