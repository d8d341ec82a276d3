-- The room within a piece ends at the first granted paragraph, or where the piece ends.
use Rattle.memory_spans.proofs.RoomLaws.{room_within, room_outside}
use Rattle.memory_spans.proofs.SpanLaws.{Covers, covers_facts}
use native.Mathlib.Omega.{arith}
use mathlib.Core.Path.{sym, ◌∙◌}
use borrow.Author.Rules.{rules}
use Rattle.memory_spans.proofs.room_in.Goals as goal

pub first_taken-requires : goal.first_taken-requires
first_taken-requires c =
    let here : Covers c.args.piece c.args.start = covers_facts c.args.piece c.args.start (sym c.covers.ensures ∙ c.if-covers.true) in
    omega (arith, here.below, c.end_of-stop.ensures.0)

pub returns-then-covers : goal.returns-then-covers
returns-then-covers c =
    let here : Covers c.args.piece c.args.start = covers_facts c.args.piece c.args.start (sym c.covers.ensures ∙ c.if-covers.true) in
    let a = c.args in
    let f = c.first_taken.ensures in
    (rw (f.0, c.end_of-stop.ensures.0) (sym (room_within a.piece a.regions.now a.start (sym c.covers.ensures ∙ c.if-covers.true))), omega (arith, here.from, f.1.1, c.end_of-stop.ensures.1.1))

pub returns-else-covers : goal.returns-else-covers
returns-else-covers c =
    let a = c.args in
    (sym (room_outside a.piece a.regions.now a.start (sym c.covers.ensures ∙ c.if-covers.false)), search rules)
