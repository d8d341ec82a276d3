-- One line after another, each appended to what the lines before it left.
use Rattle.shelf_report.specs.Report.{report}
use Rattle.text.proofs.WriterLaws.{then, done_within}
use borrow.Author.Rules.{rules}
use native.Mathlib.Omega.{arith}
use Rattle.shelf_report.proofs.put_report.Goals as goal

pub returns : goal.returns
unfolding report
returns c =
    let all =
    then c.put_line.ensures
    (then c.put_line-2.ensures
    (then c.put_line-3.ensures
    (then c.put_line-4.ensures
    (then c.put_line-5.ensures
    (then c.put_line-6.ensures c.put_line-7.ensures))))) in
    let d = done_within all c.new-w.ensures.text (omega arith) c.at.ensures (search rules) in
    record { result_after = d.0; upper_bound = d.1 }
