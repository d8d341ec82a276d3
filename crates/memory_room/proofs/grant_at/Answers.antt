-- The test is the definition's; the room fits 16 bits.
use Rattle.memory_room.specs.Starts.{grant_at}
use Rattle.memory_spans.specs.Room.{has_room}
use Rattle.memory_spans.specs.Span.{paragraphs}
use lib.Dec.{ltb, leb, eqb}
use mathlib.Core.Bool.{true, false, not, ◌&&◌}
use mathlib.Core.Path.{◌≡◌}
use Rattle.memory_room.proofs.grant_at.Goals as goal

pub returns-then-start-need : goal.returns-then-start-need
unfolding grant_at has_room
returns-then-start-need c =
    let a = c.args in
    let room = c.room_at-room.result in
    let e : (ltb a.start paragraphs && (not (eqb a.need 0) && leb a.need room)) ≡ true = c.if-start-need.true in
    rw (← c.room_at-room.ensures.0, e, c.min-length.ensures, c.max.ensures)

pub returns-else-start-need : goal.returns-else-start-need
unfolding grant_at has_room
returns-else-start-need c =
    let a = c.args in
    let room = c.room_at-room.result in
    let e : (ltb a.start paragraphs && (not (eqb a.need 0) && leb a.need room)) ≡ false = c.if-start-need.false in
    rw (← c.room_at-room.ensures.0, e)
