-- What moves is the part from `from` on.
use Rattle.replay_script.proofs.WindowLaws.{moved, shift_not}
use native.Mathlib.Omega.{arith}
use Rattle.replay_script.proofs.window.shift.Goals as goal

pub returns-then-window-from : goal.returns-then-window-from
returns-then-window-from c = shift_not c.args.window.now c.args.from c.args.n (omega arith)

pub returns-then-window-from-2 : goal.returns-then-window-from-2
returns-then-window-from-2 c = shift_not c.args.window.now c.args.from c.args.n (omega arith)

pub returns : goal.returns
returns c = moved _ _ _ _ c.copy_within.ensures.after (omega arith)
