-- Groups granted, worked out by hand: one piece of 100H paragraphs from 100H on, of which the first 10H are granted. The header has
-- code of 0040H paragraphs, anywhere, and data that needs 0030H and takes up to 0100H.
use mathlib.Core.Path.{◌≡◌, refl}
use mathlib.Core.List.{List, [], ◌∷◌, ◌++◌}
use Prim.Native.Nat.{ℕ}
use lib.ListN.{replicate}
use Rattle.lists.specs.Bounded.{low_from}
use Rattle.memory_spans.specs.declared.Span.{Span}
use Rattle.memory_spans.specs.Span.{span, covers, any_of, most_of}
use Rattle.memory_spans.specs.Room.{taken, free_in, run, room, has_room}
use Rattle.memory_room.specs.Starts.{lowest_start, grant_at, grant_of}
use Rattle.load_grants.specs.Grants.{followed, grants}

abbrev pieces : List Span
pieces = span 0x100 0x100 ∷ []

abbrev regions : List Span
regions = span 0x100 0x10 ∷ []

abbrev descriptor : ℕ → ℕ → ℕ → ℕ → ℕ → List ℕ
descriptor form length base least most = form ∷ length ∷ 0 ∷ base ∷ 0 ∷ least ∷ 0 ∷ 0 ∷ most ∷ []

abbrev small : List ℕ
small = descriptor 0x01 0x40 0 0 0 ++ (descriptor 0x02 0x10 0 0x30 0x01 ++ replicate 110 0)

-- code at 110H, as large as it needs; data behind it, as large as the piece allows
granted : grants small pieces regions 0 2 ≡ span 0x110 0x40 ∷ span 0x150 0xB0 ∷ []
unfolding grants followed grant_of grant_at lowest_start low_from has_room room run free_in taken covers any_of most_of
granted = refl

-- "groups in header order": the stack group, which stands first, is granted first, and the code group behind it
ordered : grants (descriptor 0x04 0x20 0 0 0 ++ (descriptor 0x01 0x40 0 0 0 ++ replicate 110 0)) pieces regions 0 2
    ≡ span 0x110 0x20 ∷ span 0x130 0x40 ∷ []
unfolding grants followed grant_of grant_at lowest_start low_from has_room room run free_in taken covers any_of most_of
ordered = refl

-- each group up to its most before the next: code that needs 10H takes all 30H from 20H on, and none is left for data at 30H
greedy : grants (descriptor 0x01 0x10 0x20 0 0x01 ++ (descriptor 0x02 0x10 0x30 0 0 ++ replicate 110 0)) (span 0x20 0x30 ∷ []) [] 0 2
    ≡ span 0x20 0x30 ∷ []
unfolding grants followed grant_of grant_at has_room room run free_in taken covers any_of most_of
greedy = refl
