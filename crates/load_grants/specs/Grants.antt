-- "Within one piece, and groups in header order, it is granted at its base if that is not 0, else at the lowest start with room,
-- as large as that start allows, up to most": each group up to its most before the next. "A load grants all groups or none":
-- the list ends before the first group that has no room, so all are granted exactly where it has as many as there are groups.
use Rattle.std.specs.Prelude.{Option, Some, None, List, [], ◌∷◌, ◌++◌, ℕ, zero, suc}
use Rattle.memory_spans.specs.declared.Span.{Span}
use Rattle.memory_room.specs.Starts.{grant_of}
use Rattle.load_header.specs.Header.{base_at, most_at, need}

-- what was granted, and what follows it
unfoldable pub followed : Option Span → (Span → List Span) → List Span
followed (Some s) rest = s ∷ rest s
followed None rest = []

-- what group i is granted beside the regions
abbrev pub granted_to : List ℕ → List Span → List Span → ℕ → Option Span
granted_to h pieces regions i = grant_of pieces regions (base_at h i) (need h i) (most_at h i)

-- what k groups from group i on are granted, one beside the other
unfoldable pub grants : List ℕ → List Span → List Span → ℕ → ℕ → List Span
grants h pieces regions i zero = []
grants h pieces regions i (suc k) =
    followed (granted_to h pieces regions i) (λ s. grants h pieces (regions ++ (s ∷ [])) (suc i) k)
