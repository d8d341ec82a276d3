-- `disk_held::free_count` meets its contract: of the t - d blocks those are free that are not held.
use native.Mathlib.Omega.{arith}
use Rattle.disk_held.proofs.CountLaws.{HeldAndFree, held_and_free}
use Rattle.disk_held.proofs.free_count.Goals as goal

counts : (c : goal.After-held_below-below_d) → (let a = c.args in HeldAndFree a.held.now a.d a.t)
counts c = held_and_free _ _ _ c.requires.0

pub overflow_sub-result-2 : goal.overflow_sub-result-2
overflow_sub-result-2 c = omega (arith, counts c)

pub overflow_sub-result-3 : goal.overflow_sub-result-3
overflow_sub-result-3 c = omega (arith, counts c)

pub returns : goal.returns
returns c = omega (arith, counts c)
