-- The eight region places of a table: the regions in their order, and zeros behind them.
use Rattle.std.specs.Prelude.{List, [], ◌∷◌, ℕ, zero, suc, length}
use Rattle.memory_spans.specs.declared.Span.{Span}
use Rattle.memory_spans.specs.Span.{places, none}
use Rattle.memory_regions.specs.declared.Regions.{Regions}

unfoldable pub padded : ℕ → List Span → List Span
padded zero l = []
padded (suc n) [] = none ∷ padded n []
padded (suc n) (x ∷ l) = x ∷ padded n l

abbrev pub places_of : List Span → Regions
places_of l = record { list = padded places l; count = length l }
