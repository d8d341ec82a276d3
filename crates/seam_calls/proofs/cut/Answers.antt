-- A drive of another length, one that counts as closed, and the call.
use mathlib.Core.Path.{ap}
use mathlib.Core.Bool.{not}
use native.Mathlib.Omega.{arith}
use Rattle.seam_calls.proofs.CutLaws.{opens_by, cut_other_length, cut_refused, cut_done}
use borrow.Author.Rules.{rules}
use Rattle.seam_calls.proofs.cut.Goals as goal

pub returns-then-not-has_length : goal.returns-then-not-has_length
returns-then-not-has_length c =
    let a = c.args in
    cut_other_length a.most a.function a.parameter a.drive.now a.volume.now a.fcb.now a.buffer.now c.has_length.ensures (ap not c.if-not-has_length.true) (c.seal.ensures.1 (omega arith))

pub returns-then-not-is_open : goal.returns-then-not-is_open
returns-then-not-is_open c =
    let a = c.args in
    cut_refused a.most a.function a.parameter a.drive.now a.volume.now a.fcb.now a.buffer.now c.has_length.ensures (ap not c.if-not-has_length.false) c.front-d.ensures c.is_open.ensures (search rules) (ap not c.if-not-is_open.true) (c.seal-then-not-is_open.ensures.1 (omega arith))

pub cut_open-r-requires : goal.cut_open-r-requires
cut_open-r-requires c = opens_by _ c.front-d.ensures c.is_open.ensures (ap not c.if-not-is_open.false)

pub returns : goal.returns
returns c =
    let a = c.args in
    let o = c.cut_open-r in
    let most = c.size.ensures in
    cut_done a.most a.function a.parameter a.drive.now a.volume.now a.fcb.now a.buffer.now c.has_length.ensures (ap not c.if-not-has_length.false) c.front-d.ensures c.is_open.ensures (search rules) (ap not c.if-not-is_open.false)
    (rw most at o.ensures.volume_after) (rw most at o.ensures.value)
