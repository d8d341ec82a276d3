-- The eight bytes are the definition's.
use Rattle.drive_bytes.proofs.LayLaws.{flag_byte, two_lowest}
use Rattle.drive_bytes.specs.Layout.{head_bytes}
use Rattle.drive_bytes.proofs.lay.put_head.Goals as goal

pub returns : goal.returns
unfolding head_bytes
returns c =
    let b = two_lowest _ _ c.to_le_bytes-block_bytes.ensures in
    let t = two_lowest _ _ c.to_le_bytes-blocks.ensures in
    let d = two_lowest _ _ c.to_le_bytes-directory_blocks.ensures in
    rw (b, t, d, ← flag_byte c.args.protected, ← c.from.ensures) c.copy_from_slice.ensures.after
