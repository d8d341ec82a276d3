-- The shelf in 64 bytes: the seven figures in the paper's order, then the number of volumes seen; eight bytes each, low byte first.
use Rattle.std.specs.Prelude.{List, [], ◌∷◌, ◌++◌, ℕ, ◌*◌}
use Rattle.lists.specs.Bytes.{part}
use Rattle.numbers.specs.Numbers.{bytes_of, number}
use Rattle.shelf_figures.specs.declared.Shelf.{Shelf}
use Rattle.shelf_figures.specs.Shelf.{figures_of}

-- bytes of a figure, and of a shelf
abbrev pub figure_bytes : ℕ
figure_bytes = 8

abbrev pub shelf_bytes : ℕ
shelf_bytes = 64

-- numbers one behind the other
unfoldable pub laid : List ℕ → List ℕ
laid [] = []
laid (x ∷ xs) = bytes_of figure_bytes x ++ laid xs

unfoldable pub encoded : Shelf → List ℕ
encoded s = laid (figures_of s)

-- the number in place k, and the shelf in all places
abbrev pub figure_at : List ℕ → ℕ → ℕ
figure_at b k = number (part b (figure_bytes * k) figure_bytes)

unfoldable pub decoded : List ℕ → Shelf
decoded b =
    record {
      refused = figure_at b 0;
      files = figure_at b 1;
      entries = figure_at b 2;
      records = figure_at b 3;
      held = figure_at b 4;
      free = figure_at b 5;
      waste = figure_at b 6;
      seen = figure_at b 7;
    }
