-- What code may rely on once a table was found within the rules; not for the reader of the paper.
use Rattle.std.specs.Prelude.{ℕ, ◌≤◌, ◌<◌, get_or}
use Rattle.memory_spans.specs.Span.{places, paragraphs, none, end}
use Rattle.memory_calls.specs.declared.Table.{Table}

pub record Ready (t : Table) : Type 0 where
  pub few_pieces : t.used ≤ places
  pub few_regions : t.granted ≤ places
  pub named : (i : ℕ) → i < t.granted → end (get_or t.regions i none) ≤ paragraphs
