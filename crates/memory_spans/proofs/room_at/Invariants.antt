-- The largest so far and those from place i on give the whole.
use Rattle.memory_spans.proofs.SpanLaws.{Kept}
use Rattle.memory_spans.specs.Room.{free_in, run}
use Prim.Native.Nat.{◌<◌}
use Rattle.memory_spans.proofs.room_at.Given as goal

abbrev pub invariant-loop-piece : goal.invariant-loop-piece
invariant-loop-piece l = (l.most < 65536) × Kept (λ piece. run (free_in piece l.regions) l.start piece.length) l.pieces l.most l.piece-index
