-- The bytes of the pieces passed so far were appended, and the others are left.
use Rattle.std.proofs.Common.{◌≡◌, ℕ, List, ◌++◌}
use Rattle.std.specs.Slice.Iter.{chunks_rest, chunks_size}
use Rattle.disk_geometry.specs.Geometry.{record_bytes}
use Rattle.text.specs.Writer.{Appends}
use Rattle.replay_transcript.specs.Hex.{hex}
use Rattle.replay_transcript.proofs.hex.put_hex.Given as goal

abbrev pub invariant-loop-piece : goal.invariant-loop-piece
invariant-loop-piece l =
    (chunks_size l.piece-iterator ≡ record_bytes)
    × ((done : List ℕ) × Appends l.initial.w (hex done) l.w × (done ++ chunks_rest l.piece-iterator ≡ l.s))
