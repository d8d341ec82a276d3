-- Search first (17) and next (18): "First starts at slot 0 and keeps pattern and user; next, lent no control block, goes
-- on after the last hit, whichever other calls came between. The transfer buffer gets the 128-byte directory record."
use Rattle.std.specs.Prelude.{Bool, true, false, not, ◌&&◌, ◌||◌, List, [], ◌∷◌, ℕ, ◌+◌, ◌%◌, leb, ltb, eqb}
use Rattle.lists.specs.Bytes.{byte}
use Rattle.disk_geometry.specs.declared.Geometry.{Geometry}
use Rattle.disk_geometry.specs.Geometry.{slots, record_slots}
use Rattle.disk_volume.specs.Fields.{EX}
use Rattle.disk_volume.specs.Name.{WILDCARD, name_of, good_name}
use Rattle.disk_volume.specs.Record.{slot_record}
use Rattle.call_fcb.specs.Fcb.{DR}
use Rattle.call_answers.specs.declared.Refusal.TheVariants.{DriveCode, Name, Position, NoMatch}
use Rattle.call_answers.specs.Refusal.{Test, test}
use Rattle.call_search.specs.declared.SearchKind.{SearchKind}
use Rattle.call_search.specs.declared.SearchKind.TheVariants.{Nothing, Pattern, Everything}
use Rattle.call_search.specs.Search.{kind_asked, pattern_of, hit_from}
use Rattle.filecalls.specs.declared.KeptSearch.{KeptSearch}
use Rattle.filecalls.specs.declared.Drive.{Drive}
use Rattle.filecalls.specs.Tests.{closed_state, volume_length, fcb_length, buffer_length}
use Rattle.filecalls.specs.Outcome.{searches, Act, done, unless}

-- dr 3FH: name and ex are not examined
abbrev pub examined : List ℕ → Bool
examined fcb = not (eqb (byte fcb DR) WILDCARD)

-- the hit of a search that has its last hit in slot i
unfoldable pub kept_at : KeptSearch → ℕ → KeptSearch
kept_at q i = record { kind = q.kind; user = q.user; last = i; pattern = q.pattern }

-- the search that first keeps
unfoldable pub new_search : Drive → List ℕ → KeptSearch
new_search d fcb = record { kind = kind_asked (byte fcb DR); user = d.user; last = 0; pattern = pattern_of fcb }

abbrev pub hit : Geometry → List ℕ → KeptSearch → ℕ → ℕ
hit g v q from = hit_from g v q.kind q.user q.pattern from

-- "First starts at slot 0", "next .. goes on after the last hit"
abbrev pub first_hit : Drive → List ℕ → List ℕ → ℕ
first_hit d v fcb = hit d.geometry v (new_search d fcb) 0

abbrev pub next_hit : Drive → List ℕ → ℕ
next_hit d v = hit d.geometry v d.search (d.search.last + 1)

-- the hit in slot i: the search kept, the record shown
unfoldable pub hit_act : Drive → List ℕ → List ℕ → KeptSearch → ℕ → Act
hit_act d v fcb q i = done (i % record_slots) (searches (kept_at q i)) [] fcb (slot_record d.geometry v i)

unfoldable pub first_tests : Drive → List ℕ → List ℕ → List ℕ → List Test
first_tests d v fcb b =
    closed_state d ∷ volume_length d v ∷ fcb_length fcb ∷ buffer_length b
    ∷ test DriveCode (ltb 1 (byte fcb DR) && examined fcb)
    ∷ test Name (examined fcb && not (good_name true (name_of fcb)))
    ∷ test Position (examined fcb && ltb 31 (byte fcb EX) && not (eqb (byte fcb EX) WILDCARD))
    ∷ test NoMatch (leb (slots d.geometry) (first_hit d v fcb))
    ∷ []

unfoldable pub search_first_act : Drive → List ℕ → List ℕ → List ℕ → Act
search_first_act d v fcb b = unless (first_tests d v fcb b) (hit_act d v fcb (new_search d fcb) (first_hit d v fcb))

-- is a search open?
abbrev pub is_kept : SearchKind → Bool
is_kept Nothing = false
is_kept Pattern = true
is_kept Everything = true

unfoldable pub next_tests : Drive → List ℕ → List ℕ → List Test
next_tests d v b =
    closed_state d ∷ volume_length d v ∷ buffer_length b
    ∷ test NoMatch (not (is_kept d.search.kind) || leb (slots d.geometry) (next_hit d v))
    ∷ []

unfoldable pub search_next_act : Drive → List ℕ → List ℕ → Act
search_next_act d v b = unless (next_tests d v b) (hit_act d v [] d.search (next_hit d v))
