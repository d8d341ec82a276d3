-- "over up to 65,535 volumes, one after another, report the volumes refused at log-in, and over the others the files,
-- entries, records present, blocks held, blocks free, and waste".
use Rattle.std.specs.Prelude.{Bool, not, cond, ◌&&◌, List, [], ◌∷◌, ℕ, ◌+◌, leb, ltb, Result, Ok, Err}
use Rattle.disk_geometry.specs.declared.Geometry.{Geometry}
use Rattle.call_answers.specs.Answer.{number_of, succeeded}
use Rattle.filecalls.specs.LogIn.{log_in}
use Rattle.shelf_holdings.specs.declared.Holdings.{Holdings}
use Rattle.shelf_holdings.specs.Holdings.{holdings}
use Rattle.shelf_figures.specs.declared.Shelf.{Shelf}
use Rattle.shelf_figures.specs.declared.ShelfRefusal.{ShelfRefusal}
use Rattle.shelf_figures.specs.declared.ShelfRefusal.TheVariants.{Full, Outside}
use Rattle.shelf_figures.specs.declared.Added.{Added}

-- no volume seen
abbrev pub bare : Shelf
bare = record { refused = 0; files = 0; entries = 0; records = 0; held = 0; free = 0; waste = 0; seen = 0 }

-- the seven figures in the paper's order, then the number of volumes seen
abbrev pub figures_of : Shelf → List ℕ
figures_of s = s.refused ∷ s.files ∷ s.entries ∷ s.records ∷ s.held ∷ s.free ∷ s.waste ∷ s.seen ∷ []

-- two shelves as one
unfoldable pub plus : Shelf → Shelf → Shelf
plus a b =
    record {
      refused = a.refused + b.refused;
      files = a.files + b.files;
      entries = a.entries + b.entries;
      records = a.records + b.records;
      held = a.held + b.held;
      free = a.free + b.free;
      waste = a.waste + b.waste;
      seen = a.seen + b.seen;
    }

-- a volume that log-in refuses, and one that it accepts
abbrev pub refused_one : Shelf
refused_one = record { refused = 1; files = 0; entries = 0; records = 0; held = 0; free = 0; waste = 0; seen = 1 }

abbrev pub accepted_one : Holdings → Shelf
accepted_one h =
    record {
      refused = 0;
      files = h.files;
      entries = h.entries;
      records = h.records;
      held = h.held;
      free = h.free;
      waste = h.waste;
      seen = 1;
    }

-- the shelf that has this volume alone
unfoldable pub one : Geometry → List ℕ → Shelf
one g v = let all = accepted_one (holdings g v) in cond (succeeded (log_in g v).answer) all refused_one

-- figures below 2^48; those of a shelf that began bare always are: theorem `shelf-holds`
abbrev pub most_figure : ℕ
most_figure = 281474976710656

abbrev pub is_kept : Shelf → Bool
is_kept s =
    ltb s.refused most_figure
    && ltb s.files most_figure
    && ltb s.entries most_figure
    && ltb s.records most_figure
    && ltb s.held most_figure
    && ltb s.free most_figure
    && ltb s.waste most_figure
    && ltb s.seen most_figure

-- "over up to 65,535 volumes"
abbrev pub most_volumes : ℕ
most_volumes = 65535

-- the number of an answer, and the value beside it: what log-in answered to a volume that was counted
abbrev pub shelved_number : Result ℕ ShelfRefusal → ℕ
shelved_number (Ok said) = 0
shelved_number (Err Full) = 47
shelved_number (Err Outside) = 32

abbrev pub shelved_value : Result ℕ ShelfRefusal → ℕ
shelved_value (Ok said) = said
shelved_value (Err why) = 0

-- a volume put on a shelf: "47 for the 65,536th volume", which leaves the figures before it
unfoldable pub put : Shelf → Geometry → List ℕ → Added
put s g v =
    cond (not (is_kept s)) (record { answer = Err Outside; shelf = s })
    (cond (leb most_volumes s.seen) (record { answer = Err Full; shelf = s })
    (record { answer = Ok (number_of (log_in g v).answer); shelf = plus s (one g v) }))
