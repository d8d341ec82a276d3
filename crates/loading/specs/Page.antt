-- "the base page .. takes 000's section 3.7 at offsets 0 to 2FH: each L the granted bytes less 1, absent and unused fields 0, with
-- code alone data as code". A field of six bytes for each of the types 1 to 8, in this order: L in three bytes, B in two, then an
-- unused byte, which in the first field is M80. h is the header, and granted is what its groups were granted, in header order.
use Rattle.std.specs.Prelude.{Bool, cond, ◌&&◌, List, [], ◌∷◌, ◌++◌, ℕ, ◌-◌, ◌*◌, eqb, get_or}
use Rattle.joined.specs.Joined.{joined}
use Rattle.numbers.specs.Numbers.{bytes_of}
use Rattle.memory_spans.specs.declared.Span.{Span}
use Rattle.memory_spans.specs.Span.{paragraph_bytes, none}
use Rattle.load_header.specs.Header.{CODE, DATA, LAST_AUX, groups, place_of, page_place}

abbrev pub field_bytes : ℕ
field_bytes = 6

-- offsets 0 to 2FH
abbrev pub page_bytes : ℕ
page_bytes = 48

-- what the group of that type was granted, nothing at paragraph 0 where there is none
unfoldable pub region_of : List ℕ → List Span → ℕ → Span
region_of h granted type = get_or granted (place_of h type) none

-- "code alone": code is the only group
abbrev pub code_alone : List ℕ → Bool
code_alone h = eqb (groups h) 1

-- the region that a type's field shows: "with code alone data as code"
unfoldable pub shown_of : List ℕ → List Span → ℕ → Span
shown_of h granted type = cond (code_alone h && eqb type DATA) (region_of h granted CODE) (region_of h granted type)

-- M80 is 1 in the 8080 model; all other unused bytes are 0
unfoldable pub last_of : List ℕ → ℕ → ℕ
last_of h type = cond (code_alone h && eqb type CODE) 1 0

-- "each L the granted bytes less 1", 0 where nothing was granted; then B
unfoldable pub field_of : Span → ℕ → List ℕ
field_of s last = bytes_of 3 (paragraph_bytes * s.length - 1) ++ (bytes_of 2 s.start ++ (last ∷ []))

unfoldable pub field : List ℕ → List Span → ℕ → List ℕ
field h granted type = field_of (shown_of h granted type) (last_of h type)

unfoldable pub base_page : List ℕ → List Span → List ℕ
base_page h granted = joined (field h granted) CODE LAST_AUX

-- the paragraph where the base page begins
unfoldable pub page_start : List ℕ → List Span → ℕ
page_start h granted = (get_or granted (page_place h) none).start
