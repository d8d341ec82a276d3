-- The largest so far and those from place i on give the whole.
use Rattle.memory_spans.proofs.SpanLaws.{kept_start, kept_next, kept_end}
use Rattle.memory_spans.specs.Room.{room}
use native.Mathlib.Omega.{arith}
use Prim.Native.Nat.{max}
use mathlib.Core.Path.{ap, ◌∙◌}
use borrow.Author.Rules.{rules}
use Rattle.memory_spans.proofs.room_at.Goals as goal

pub loop-piece-init : goal.loop-piece-init
loop-piece-init c = (search rules, kept_start)

pub loop-piece-preserved : goal.loop-piece-preserved
loop-piece-preserved c =
    let l = c.loop-piece in
    (omega (arith, c.max-most.ensures, c.room_in.ensures.1, l.invariant.0), kept_next l.invariant.1 (omega arith) (c.max-most.ensures ∙ ap (max l.most) c.room_in.ensures.0))

pub returns : goal.returns
unfolding room
returns c = (kept_end c.loop-piece.invariant.1 (omega arith), c.loop-piece.invariant.0)
