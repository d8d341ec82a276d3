-- Where the first test is not met, the second decides.
use mathlib.Core.Path.{sym, ◌∙◌}
use native.Mathlib.Omega.{arith}
use Rattle.call_decide.proofs.WriteLaws.{no_file, some_file}
use Rattle.call_decide.proofs.file_why.Goals as goal

pub returns-then-slots-from : goal.returns-then-slots-from
returns-then-slots-from c =
    sym (no_file c.args.g _ _ _ c.args.from (omega (arith, c.slots-slots.ensures.0)))

pub returns : goal.returns
returns c =
    c.refuse.ensures ∙ rw (c.find-read_only_slot.ensures.0, c.slots-slots.ensures.0) (sym (some_file c.args.g _ _ _ c.args.from (omega (arith, c.slots-slots.ensures.0))))
