-- The words below k are laid, and what stood behind them is still there.
use mathlib.Core.Path.{◌≡◌}
use Rattle.drive_bytes.proofs.WordLaws.{laid_to}
use Rattle.drive_bytes.proofs.lay.words.Given as goal

abbrev pub invariant-loop-k : goal.invariant-loop-k
invariant-loop-k l = l.out ≡ laid_to l.initial.out l.held l.k
