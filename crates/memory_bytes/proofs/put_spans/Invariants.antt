-- The spans of the places passed so far are laid.
use Rattle.memory_bytes.specs.TableBytes.{span_bytes, span_laid}
use Rattle.joined.specs.Joined.{joined}
use Rattle.memory_spans.specs.Span.{none}
use lib.ListN.{take, get_or}
use Prim.Native.Nat.{◌*◌}
use mathlib.Core.Path.{◌≡◌}
use Rattle.memory_bytes.proofs.put_spans.Given as goal

abbrev pub invariant-loop-i : goal.invariant-loop-i
invariant-loop-i l = take (span_bytes * l.i) l.out ≡ joined (λ j. span_laid (get_or l.list j none)) 0 l.i
