-- The stores are enough for every call.
use Rattle.call_served.specs.Asked.{asked}
use Rattle.drive_bytes.specs.Layout.{decoded}
use Rattle.seam_calls.proofs.CutLaws.{stores_most}
use Rattle.seam_calls.proofs.call.Goals as goal

pub returns : goal.returns
returns c =
    let a = c.args in
    c.call_most-told.ensures.whole (stores_most (asked a.function a.parameter a.fcb.now a.buffer.now) (decoded a.drive.now) a.volume.now)
