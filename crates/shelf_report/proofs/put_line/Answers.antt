-- A number's digits, then the line's end.
use Rattle.shelf_report.specs.Report.{line}
use Rattle.text.proofs.WriterLaws.{then}
use Rattle.shelf_report.proofs.put_line.Goals as goal

pub returns : goal.returns
unfolding line
returns c = then c.decimal.ensures c.byte.ensures
