-- The spans of the places passed so far are read.
use Rattle.memory_bytes.proofs.BytesLaws.{spans_read}
use native.Mathlib.Omega.{arith}
use Rattle.memory_bytes.proofs.spans_at.Goals as goal

pub returns : goal.returns
returns c =
    let a = c.args in
    let l = c.loop-i in
    spans_read a.b.now a.a l.out l.invariant.0 (λ k h. l.invariant.1 k (omega arith))
