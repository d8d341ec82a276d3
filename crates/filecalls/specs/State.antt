-- The state: "the geometry and the held blocks", user, protection, and the search that is open.
use Rattle.std.specs.Prelude.{Bool, true, false, ◌&&◌, ◌||◌, List, ℕ, leb, ltb, eqb, replicate}
use Rattle.lists.specs.Bytes.{byte}
use Rattle.disk_geometry.specs.declared.Geometry.{Geometry}
use Rattle.disk_geometry.specs.Geometry.{lawful, slots, geometry_of}
use Rattle.disk_volume.specs.Fields.{name_bytes}
use Rattle.disk_volume.specs.Name.{WILDCARD, name_at, good_name}
use Rattle.disk_held.specs.Held.{none_held}
use Rattle.call_search.specs.declared.SearchKind.{SearchKind}
use Rattle.call_search.specs.declared.SearchKind.TheVariants.{Nothing, Pattern, Everything}
use Rattle.call_search.specs.Search.{pattern_bytes}
use Rattle.filecalls.specs.declared.KeptSearch.{KeptSearch}
use Rattle.filecalls.specs.declared.Drive.{Drive}

-- a kept search within the rules: its user is 0..15, its last hit is a slot, and its pattern passed 39 and 40; with dr
-- 3FH the pattern is not examined
abbrev pub good_pattern : List ℕ → Bool
good_pattern pattern =
    good_name true (name_at pattern 0) && (leb (byte pattern name_bytes) 31 || eqb (byte pattern name_bytes) WILDCARD)

abbrev pub good_kept : SearchKind → ℕ → ℕ → List ℕ → ℕ → Bool
good_kept Nothing user last pattern n = true
good_kept Everything user last pattern n = leb user 15 && ltb last n
good_kept Pattern user last pattern n = leb user 15 && ltb last n && good_pattern pattern

abbrev pub good_search : Drive → Bool
good_search d =
    good_kept d.search.kind d.search.user d.search.last d.search.pattern (slots d.geometry)

-- "A state whose geometry, user or kept search is outside the rules counts as closed."
unfoldable pub is_open : Drive → Bool
is_open d = lawful d.geometry && leb d.user 15 && good_search d

abbrev pub no_search : KeptSearch
no_search = record { kind = Nothing; user = 0; last = 0; pattern = replicate pattern_bytes 0 }

-- "the closed state, one fixed value"
abbrev pub closed : Drive
closed =
    record {
      geometry = geometry_of 0 0 0;
      user = 0;
      protected = false;
      search = no_search;
      held = none_held;
    }

-- "a state with user 0, not protected, no search open"
abbrev pub logged_in : Geometry → List ℕ → Drive
logged_in g held = record { geometry = g; user = 0; protected = false; search = no_search; held = held }
