-- A step of the code's search for the first granted paragraph: none of the region from start up to r, and r is where it is met, or
-- stop; not for the reader of the paper.
use Rattle.std.specs.Prelude.{◌≡◌, true, false, ℕ, ◌≤◌, ◌<◌}
use Rattle.memory_spans.specs.declared.Span.{Span}
use Rattle.memory_spans.specs.Span.{covers}

pub record Met (region : Span) (start stop r : ℕ) : Type 0 where
  pub clear : (p : ℕ) → start ≤ p → p < r → covers region p ≡ false
  pub hit : r < stop → covers region r ≡ true
