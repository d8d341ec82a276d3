-- The next colon behind the line taken last is the next line's; behind the end of the text there is none.
use Rattle.std.proofs.Common.{◌≡◌, sym, length, arith}
use Rattle.gencmd_lines.specs.CodeWalk.{next_line, behind}
use Rattle.gencmd_lines.proofs.LinesLaws.{next_colon_end}
use Rattle.gencmd_lines.proofs.walk.Lines.place.Goals as goal

pub returns-in-Some : goal.returns-in-Some
unfolding next_line
returns-in-Some c = rw c.in-Some.is c.next_line.ensures

pub returns-in-Some-2 : goal.returns-in-Some-2
returns-in-Some-2 c =
    let t = c.args.self.now.text.now in
    let e : behind t c.args.self.now.at ≡ length t = rw c.in-Some.is (omega arith) in
    rw e (sym (next_colon_end t))
