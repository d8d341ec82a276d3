-- The stores are enough for every record of a file.
use native.Mathlib.Omega.{arith}
use Rattle.desk.proofs.ReplaceLaws.{code_whole}
use Rattle.desk.proofs.replace.replace.Goals as goal

pub returns : goal.returns
returns c = code_whole _ _ _ _ _ _ 34603008 (omega arith) c.replace_most-answer.ensures
