-- "prints the seven figures in this order, one a line".
use Rattle.std.specs.Prelude.{List, ◌++◌, ℕ}
use Rattle.text.specs.Decimal.{decimal}
use Rattle.text.specs.Letters.{line_end}
use Rattle.shelf_figures.specs.declared.Shelf.{Shelf}

unfoldable pub line : ℕ → List ℕ
line n = decimal n ++ line_end

unfoldable pub report : Shelf → List ℕ
report s =
    line s.refused
    ++ (line s.files ++ (line s.entries ++ (line s.records ++ (line s.held ++ (line s.free ++ line s.waste)))))
