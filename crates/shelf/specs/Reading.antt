-- "A program reads volumes of V's geometry on standard input (a short last one is refused) .. 47 for the 65,536th volume; the program
-- prints the figures before it." What one reading makes of the shelf, and whether another follows.
use Rattle.std.specs.Prelude.{false, cond, ◌||◌, List, ℕ, eqb, leb, length}
use Rattle.listing.specs.Listing.{geometry_v}
use Rattle.shelf_figures.specs.declared.Shelf.{Shelf}
use Rattle.shelf_figures.specs.Shelf.{most_volumes, put}
use Rattle.shelf.specs.declared.Reading.{Reading}

-- bytes of a volume of V's geometry
abbrev pub volume_bytes : ℕ
volume_bytes = 40960

-- nothing read, or the 65,536th volume: the figures before it, and no more; a volume is put on the shelf, and only a whole one has
-- another behind it
unfoldable pub after_read : Shelf → List ℕ → Reading
after_read s read =
    cond (eqb (length read) 0 || leb most_volumes s.seen) (record { shelf = s; more = false })
    (record { shelf = (put s geometry_v read).shelf; more = eqb (length read) volume_bytes })
