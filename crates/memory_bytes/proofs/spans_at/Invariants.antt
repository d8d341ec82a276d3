-- The spans of the places passed so far are read.
use Rattle.memory_bytes.specs.TableBytes.{span_bytes, span_at}
use Rattle.memory_spans.specs.Span.{places, none}
use lib.ListN.{length, get_or}
use Prim.Native.Nat.{ℕ, ◌+◌, ◌*◌, ◌<◌}
use mathlib.Core.Path.{◌≡◌}
use Rattle.memory_bytes.proofs.spans_at.Given as goal

abbrev pub invariant-loop-i : goal.invariant-loop-i
invariant-loop-i l = (length l.out ≡ places) × ((k : ℕ) → k < l.i → get_or l.out k none ≡ span_at l.b (l.a + span_bytes * k))
