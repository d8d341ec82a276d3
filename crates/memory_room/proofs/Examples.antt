-- Definitions evaluated: two pieces, 100H to 13FH and 140H to 17FH, which touch; regions 110H to 11FH and 150H to 15FH.
use mathlib.Core.Path.{◌≡◌, refl}
use mathlib.Core.Bool.{true, false}
use mathlib.Core.List.{List, [], ◌∷◌}
use Rattle.lists.specs.Bounded.{low_from}
use Rattle.memory_spans.specs.declared.Span.{Span}
use Rattle.memory_spans.specs.Span.{span, covers, overlap, lies_in, any_of, all_of, most_of}
use Rattle.memory_spans.specs.Rules.{apart, lawful}
use Rattle.memory_spans.specs.Room.{taken, free_in, run, room, has_room}
use Rattle.std.specs.Prelude.{Some, None}
use Rattle.memory_room.specs.CodeCandidates.{room_below}
use Rattle.memory_room.proofs.CandidateLaws.{lower_of, lowest_by, longest_is}
use Rattle.memory_room.specs.Starts.{lowest_start, longest, grant_at, grant_of}

abbrev pieces : List Span
pieces = span 256 64 ∷ span 320 64 ∷ []

abbrev regions : List Span
regions = span 272 16 ∷ span 336 16 ∷ []

-- 110H to 11FH are granted, the rest of the first piece is free
room_low : room pieces regions 256 ≡ 16
unfolding room run free_in taken covers any_of most_of
room_low = refl

lowest_17 : lowest_start pieces regions 17 ≡ 288
unfolding lowest_start low_from has_room room run free_in taken covers any_of most_of
lowest_17 = refl

-- no run is longer than 32: the search of 65,536 paragraphs is evaluated by its candidates
lowest_none : lowest_start pieces regions 33 ≡ 65536
unfolding lower_of has_room room run free_in taken covers any_of most_of
lowest_none = lowest_by pieces regions 33

-- 120H to 13FH; 160H to 17FH are as many, and the pieces touch, but a run ends with its piece
longest_32 : longest pieces regions ≡ 32
unfolding room_below room run free_in taken covers any_of most_of
longest_32 = longest_is pieces regions

longest_at : lowest_start pieces regions 32 ≡ 288
unfolding lower_of has_room room run free_in taken covers any_of most_of
longest_at = lowest_by pieces regions 32

-- a group that needs 20 and takes up to 25 paragraphs; up to 100; at its base; with a most below its need; nowhere
granted_most : grant_of pieces regions 0 20 25 ≡ Some (span 288 25)
unfolding grant_of grant_at lower_of has_room room run free_in taken covers any_of most_of
granted_most = rw (lowest_by pieces regions 20)

granted_room : grant_of pieces regions 0 20 100 ≡ Some (span 288 32)
unfolding grant_of grant_at lower_of has_room room run free_in taken covers any_of most_of
granted_room = rw (lowest_by pieces regions 20)

granted_base : grant_of pieces regions 360 4 0 ≡ Some (span 360 4)
unfolding grant_of grant_at has_room room run free_in taken covers any_of most_of
granted_base = refl

granted_not : grant_of pieces regions 300 21 0 ≡ None
unfolding grant_of grant_at has_room room run free_in taken covers any_of most_of
granted_not = refl

-- "0 paragraphs have no room"
granted_none : grant_of pieces regions 300 0 10 ≡ None
unfolding grant_of grant_at has_room
granted_none = refl

-- the table is within the rules in a memory of 180H paragraphs, and not in one that is a byte shorter
lawful_here : lawful 6144 pieces regions ≡ true
unfolding lawful apart overlap lies_in any_of all_of
lawful_here = refl

lawful_short : lawful 6143 pieces regions ≡ false
unfolding lawful apart overlap lies_in any_of all_of
lawful_short = refl

-- a region over the seam of two pieces lies in no one piece; an empty region is compared by its ends
lawful_seam : lawful 6144 pieces (span 310 20 ∷ []) ≡ false
unfolding lawful apart overlap lies_in any_of all_of
lawful_seam = refl

lawful_empty : lawful 6144 pieces (span 384 0 ∷ span 272 16 ∷ span 272 0 ∷ []) ≡ true
unfolding lawful apart overlap lies_in any_of all_of
lawful_empty = refl
