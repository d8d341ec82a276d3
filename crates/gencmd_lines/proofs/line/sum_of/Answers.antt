-- The sum so far and the bytes that are left add up to the sum of the line, modulo 256.
use Rattle.gencmd_lines.proofs.LineLaws.{sum_next, sum_end, mod_next}
use Rattle.gencmd_lines.specs.Line.{sum_from, sum_of, bytes_in}
use Rattle.gencmd_lines.specs.Digits.{line_byte}
use Rattle.std.proofs.Common.{◌≡◌, ◌+◌, ◌-◌, ◌<◌, ◌≤◌, arith}
use Rattle.gencmd_lines.proofs.line.sum_of.Goals as goal

pub loop-i-init : goal.loop-i-init
unfolding sum_of
loop-i-init c = let line = c.args.line.now in let z : bytes_in line - 0 ≡ bytes_in line = omega arith in rw z (omega arith)

pub loop-i-preserved : goal.loop-i-preserved
loop-i-preserved c =
    let line = c.args.line.now in
    let l = c.loop-i in
    let h : l.i < bytes_in line = omega (arith, c.count_of-n.ensures.0) in
    let k = sum_next (line_byte line) (bytes_in line) l.i h in
    mod_next _ l.sum (line_byte line l.i) (sum_from (line_byte line) (l.i + 1) (bytes_in line - (l.i + 1))) (sum_of line) (rw c.line_byte-sum.ensures) (rw (← k) l.invariant)

pub returns : goal.returns
returns c =
    let line = c.args.line.now in
    let l = c.loop-i in
    let h : bytes_in line ≤ l.i = omega (arith, c.count_of-n.ensures.0) in
    let k = sum_end (line_byte line) (bytes_in line) l.i h in
    omega (arith, l.invariant)
