-- Search: "slots matched as in open, ex 3FH matching any group. With dr 3FH every slot matches, empty ones too, of any
-- user, and name and ex are not examined."
use Rattle.std.specs.Prelude.{cond, List, ℕ, ◌-◌, eqb}
use Rattle.lists.specs.Bounded.{low_from}
use Rattle.lists.specs.Bytes.{byte, part}
use Rattle.disk_geometry.specs.declared.Geometry.{Geometry}
use Rattle.disk_volume.specs.declared.Wanted.{Wanted}
use Rattle.disk_volume.specs.declared.Wanted.TheVariants.{Any, Match, MatchGroup}
use Rattle.disk_geometry.specs.Geometry.{slots, group_of}
use Rattle.disk_volume.specs.Fields.{NAME, name_bytes}
use Rattle.disk_volume.specs.Name.{WILDCARD, name_at}
use Rattle.disk_volume.specs.Directory.{slot_fits}
use Rattle.call_search.specs.declared.SearchKind.{SearchKind}
use Rattle.call_search.specs.declared.SearchKind.TheVariants.{Nothing, Pattern, Everything}

-- a pattern's bytes: the name's eleven, and ex behind them
abbrev pub pattern_bytes : ℕ
pattern_bytes = 12

-- the kind of search that dr asks for
abbrev pub kind_asked : ℕ → SearchKind
kind_asked dr = cond (eqb dr WILDCARD) Everything Pattern

-- what a search of a kind looks for; ex 3FH is any group
abbrev pub sought : Geometry → SearchKind → ℕ → Wanted
sought g Nothing ex = Any
sought g Everything ex = Any
sought g Pattern ex = cond (eqb ex WILDCARD) Match (MatchGroup (group_of g ex))

-- the pattern that is kept
unfoldable pub pattern_of : List ℕ → List ℕ
pattern_of fcb = part fcb NAME pattern_bytes

-- the lowest slot from `from` on that the search hits, the number of slots where there is none
unfoldable pub hit_from : Geometry → List ℕ → SearchKind → ℕ → List ℕ → ℕ → ℕ
hit_from g v kind u pattern from =
    low_from (slot_fits g v u (name_at pattern 0) (sought g kind (byte pattern name_bytes))) from (slots g - from)
