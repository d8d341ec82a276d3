-- The places passed so far are not used, so what is nearest below q is nearest below p.
use mathlib.Core.Path.{◌≡◌}
use Rattle.call_entry.specs.Alloc.{nearest_below}
use Rattle.call_entry.proofs.nearest_below.Given as goal

abbrev pub invariant-loop-q : goal.invariant-loop-q
invariant-loop-q l = nearest_below l.g l.e l.q ≡ nearest_below l.g l.e l.p
