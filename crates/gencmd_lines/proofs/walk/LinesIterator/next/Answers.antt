-- The place is the colon of the first of the lines that are left, and the others stand behind that line.
use Rattle.std.proofs.Common.{◌≡◌, ◌<◌, ◌∷◌, length, Some, arith, rules}
use Rattle.gencmd_lines.specs.CodeWalk.{behind, lines_at}
use Rattle.gencmd_lines.proofs.LinesLaws.{left_none, left_first, lines_end, lines_behind, lent_line}
use Rattle.gencmd_lines.proofs.walk.LinesIterator.next.Goals as goal

pub returns-then-self-at-clause-steps : goal.returns-then-self-at-clause-steps
returns-then-self-at-clause-steps c =
    let w = c.args.self.now in
    let t = w.text.now in
    (left_none t (behind t w.at) _ c.place-at.ensures c.if-self-at.true, lines_end t (behind t (Some c.place-at.result)) (omega arith))

pub returns-clause-steps : goal.returns-clause-steps
returns-clause-steps c =
    let w = c.args.self.now in
    let t = w.text.now in
    rw (lines_behind t c.place-at.result) (left_first t (behind t w.at) _ c.place-at.ensures (omega arith))

pub returns-clause-goes : goal.returns-clause-goes
returns-clause-goes c =
    let w = c.args.self.now in
    let t = w.text.now in
    let at = c.place-at.result in
    let e : lines_at t (behind t w.at) ≡ lent_line t at ∷ lines_at t (behind t (Some at)) = rw (lines_behind t at) (left_first t (behind t w.at) _ c.place-at.ensures (omega arith)) in
    let k : length (lines_at t (behind t (Some at))) < length (lines_at t (behind t w.at)) = rw e (omega arith) in
    record { on = λ f. search rules; keeps = search rules; rests = search rules }
