-- Calls evaluated: one piece of 700H paragraphs from 100H on, in a memory of 800H paragraphs. The manual's example: a region of 600H
-- paragraphs at 100H; its last 200H are freed (from 500H on: the manual's 700H is the end of the region), and a region beside it stays.
use mathlib.Core.Path.{◌≡◌, refl}
use mathlib.Core.Bool.{false}
use mathlib.Core.List.{List, [], ◌∷◌, ◌++◌}
use Prim.Native.Nat.{ℕ}
use lib.ListN.{length}
use Rattle.std.specs.Prelude.{Ok}
use Rattle.memory_spans.specs.declared.Span.{Span}
use Rattle.memory_spans.specs.Span.{span, covers, overlap, lies_in, any_of, all_of, most_of}
use Rattle.memory_spans.specs.Rules.{apart, lawful}
use Rattle.memory_spans.specs.Room.{taken, free_in, run, room, has_room}
use Rattle.memory_room.specs.Starts.{lowest_start, longest}
use Rattle.memory_room.specs.CodeCandidates.{room_below}
use Rattle.memory_room.proofs.CandidateLaws.{lower_of, lowest_by, longest_is}
use Rattle.memory_regions.specs.Places.{padded}
use Rattle.memory_regions.specs.Freeing.{edge, freeable, left, freed}
use Rattle.memory_calls.specs.declared.Table.{Table}
use Rattle.memory_calls.specs.declared.Mcb.{Mcb}
use Rattle.memory_calls.specs.declared.Refusal.TheVariants.{NotServed, Rules, NoPlace, NoRoom, BadFree}
use Rattle.memory_calls.specs.Table.{within_rules}
use Rattle.memory_calls.specs.Calls.{refused, longest_run_of, tested, granted, granted_at, freeing, freeing_part, serve, memory_call}

abbrev pieces : List Span
pieces = span 256 1792 ∷ []

abbrev over : List Span → List Span → Table
over p l = record { pieces = padded 8 p; used = length p; regions = padded 8 l; granted = length l }

abbrev table : List Span → Table
table l = over pieces l

abbrev mcb : ℕ → ℕ → ℕ → Mcb
mcb base length ext = record { base = base; length = length; ext = ext }

abbrev two : List Span
two = span 256 1536 ∷ span 1792 256 ∷ []

-- 57 of the last 200H paragraphs: the region keeps its place, M-Ext becomes 0
last_part : memory_call 57 32768 (table two) (mcb 1280 512 7)
    ≡ record { answer = Ok tt; table = table (span 256 1024 ∷ span 1792 256 ∷ []); mcb = mcb 1280 512 0 }
unfolding memory_call serve freeing freeing_part freeable freed left edge padded within_rules lawful apart overlap lies_in any_of all_of
last_part = refl

-- of its first paragraph; of all of it: the places close up
first_part : memory_call 57 32768 (table two) (mcb 256 1 0)
    ≡ record { answer = Ok tt; table = table (span 257 1535 ∷ span 1792 256 ∷ []); mcb = mcb 256 1 0 }
unfolding memory_call serve freeing freeing_part freeable freed left edge padded within_rules lawful apart overlap lies_in any_of all_of
first_part = refl

whole : memory_call 57 32768 (table two) (mcb 256 1536 0) ≡ record { answer = Ok tt; table = table (span 1792 256 ∷ []); mcb = mcb 256 1536 0 }
unfolding memory_call serve freeing freeing_part freeable freed left edge padded within_rules lawful apart overlap lies_in any_of all_of
whole = refl

-- from the middle, and of 0 paragraphs: 64
middle : memory_call 57 32768 (table two) (mcb 300 10 0) ≡ refused BadFree (table two) (mcb 300 10 0)
unfolding memory_call serve freeing freeing_part freeable freed left edge padded within_rules lawful apart overlap lies_in any_of all_of
middle = refl

none_freed : memory_call 57 32768 (table two) (mcb 256 0 0) ≡ refused BadFree (table two) (mcb 256 0 0)
unfolding memory_call serve freeing freeing_part freeable freed left edge padded within_rules lawful apart overlap lies_in any_of all_of
none_freed = refl

-- M-Ext FFH, and 58: all
every : memory_call 57 32768 (table two) (mcb 300 10 255) ≡ record { answer = Ok tt; table = table []; mcb = mcb 300 10 0 }
unfolding memory_call serve freeing freeing_part freeable freed left edge padded within_rules lawful apart overlap lies_in any_of all_of
every = refl

all_freed : memory_call 58 32768 (table two) (mcb 300 10 255) ≡ record { answer = Ok tt; table = table []; mcb = mcb 300 10 255 }
unfolding memory_call serve padded within_rules lawful apart overlap lies_in any_of all_of
all_freed = refl

-- 56 straight behind a region; 54 over the last paragraph of one
beside : memory_call 56 32768 (table (span 256 16 ∷ [])) (mcb 272 8 9)
    ≡ record { answer = Ok tt; table = table (span 256 16 ∷ span 272 8 ∷ []); mcb = mcb 272 8 0 }
unfolding memory_call serve granted_at has_room room run free_in taken covers most_of padded within_rules lawful apart overlap lies_in any_of all_of
beside = refl

taken_there : memory_call 54 32768 (table (span 256 16 ∷ [])) (mcb 271 8 9) ≡ refused NoRoom (table (span 256 16 ∷ [])) (mcb 271 8 9)
unfolding memory_call serve tested has_room room run free_in taken covers most_of padded within_rules lawful apart overlap lies_in any_of all_of
taken_there = refl

-- an M-Base of 0 is paragraph 0, where there is no piece, and not "anywhere": 54 and 56
tested_at_0 : memory_call 54 32768 (table []) (mcb 0 8 9) ≡ refused NoRoom (table []) (mcb 0 8 9)
unfolding memory_call serve tested has_room room run free_in taken covers most_of padded within_rules lawful apart overlap lies_in any_of all_of
tested_at_0 = refl

granted_at_0 : memory_call 56 32768 (table []) (mcb 0 8 9) ≡ refused NoRoom (table []) (mcb 0 8 9)
unfolding memory_call serve granted_at has_room room run free_in taken covers most_of padded within_rules lawful apart overlap lies_in any_of all_of
granted_at_0 = refl

-- four regions that leave runs of 8, 16 and 16 free paragraphs, from 110H, 128H and 148H on
abbrev gaps : List Span
gaps = span 256 16 ∷ span 280 16 ∷ span 312 16 ∷ span 344 1704 ∷ []

longest_gap : longest pieces gaps ≡ 16
unfolding room_below room run free_in taken covers any_of most_of
longest_gap = longest_is pieces gaps

longest_at : lowest_start pieces gaps 16 ≡ 296
unfolding lower_of has_room room run free_in taken covers any_of most_of
longest_at = lowest_by pieces gaps 16

-- 53 asked for 4 paragraphs: the longest run, lowest of equals, and of it just 4; M-Ext becomes 0, and the M-Base asked is not looked at
longest_4 : memory_call 53 32768 (table gaps) (mcb 5 4 7) ≡ record { answer = Ok tt; table = table gaps; mcb = mcb 296 4 0 }
unfolding memory_call serve longest_run_of padded within_rules lawful apart overlap lies_in any_of all_of
longest_4 = rw (longest_gap, longest_at)

-- asked for 40: all of it
longest_40 : memory_call 53 32768 (table gaps) (mcb 5 40 7) ≡ record { answer = Ok tt; table = table gaps; mcb = mcb 296 16 0 }
unfolding memory_call serve longest_run_of padded within_rules lawful apart overlap lies_in any_of all_of
longest_40 = rw (longest_gap, longest_at)

-- asked for 0, and with no free paragraph: 62
longest_0 : memory_call 53 32768 (table gaps) (mcb 5 0 7) ≡ refused NoRoom (table gaps) (mcb 5 0 7)
unfolding memory_call serve longest_run_of padded within_rules lawful apart overlap lies_in any_of all_of
longest_0 = refl

longest_of_none : memory_call 53 32768 (table pieces) (mcb 5 4 7) ≡ refused NoRoom (table pieces) (mcb 5 4 7)
unfolding memory_call serve longest_run_of padded within_rules lawful apart overlap lies_in any_of all_of room_below room run free_in taken covers most_of
longest_of_none = rw (longest_is pieces pieces)

-- 55 of 4 and of 12 paragraphs: at the lowest start with room, as many as asked, behind the other regions
lowest_4 : memory_call 55 32768 (table gaps) (mcb 5 4 7) ≡ record { answer = Ok tt; table = table (gaps ++ (span 272 4 ∷ [])); mcb = mcb 272 4 0 }
unfolding memory_call serve granted padded within_rules lawful apart overlap lies_in any_of all_of lower_of has_room room run free_in taken covers most_of
lowest_4 = rw (lowest_by pieces gaps 4)

lowest_12 : memory_call 55 32768 (table gaps) (mcb 5 12 7)
    ≡ record { answer = Ok tt; table = table (gaps ++ (span 296 12 ∷ [])); mcb = mcb 296 12 0 }
unfolding memory_call serve granted padded within_rules lawful apart overlap lies_in any_of all_of lower_of has_room room run free_in taken covers most_of
lowest_12 = rw (lowest_by pieces gaps 12)

-- of 17, and of 0: 62
lowest_17 : memory_call 55 32768 (table gaps) (mcb 5 17 7) ≡ refused NoRoom (table gaps) (mcb 5 17 7)
unfolding memory_call serve granted padded within_rules lawful apart overlap lies_in any_of all_of lower_of has_room room run free_in taken covers most_of
lowest_17 = rw (lowest_by pieces gaps 17)

lowest_0 : memory_call 55 32768 (table gaps) (mcb 5 0 7) ≡ refused NoRoom (table gaps) (mcb 5 0 7)
unfolding memory_call serve granted padded within_rules lawful apart overlap lies_in any_of all_of lower_of has_room
lowest_0 = rw (lowest_by pieces gaps 0)

-- 65, in a memory of so many bytes: of 58 too, which looks at nothing else
abbrev AgainstRules : ℕ → Table → Type 0
AgainstRules bytes t = memory_call 58 bytes t (mcb 0 0 0) ≡ refused Rules t (mcb 0 0 0)

-- the memory is a byte too short; and a function that is none of 53 to 58
short : AgainstRules 32767 (table two)
unfolding memory_call serve padded within_rules lawful apart overlap lies_in any_of all_of
short = refl

other : memory_call 59 32768 (table two) (mcb 0 0 0) ≡ refused NotServed (table two) (mcb 0 0 0)
unfolding memory_call
other = refl

-- pieces that have paragraph 13FH both; regions that have 11FH both, with another between them in the table, and one within another: 65
pieces_overlap : AgainstRules 32768 (over (span 256 64 ∷ span 319 1 ∷ []) [])
unfolding memory_call padded within_rules lawful apart overlap lies_in any_of all_of
pieces_overlap = refl

regions_overlap : AgainstRules 32768 (table (span 272 16 ∷ span 400 1 ∷ span 287 1 ∷ []))
unfolding memory_call padded within_rules lawful apart overlap lies_in any_of all_of
regions_overlap = refl

region_within : AgainstRules 32768 (table (span 280 2 ∷ span 272 16 ∷ []))
unfolding memory_call padded within_rules lawful apart overlap lies_in any_of all_of
region_within = refl

-- a region over the seam of two pieces that touch; one that begins before its piece, and one that ends behind it: 65
in_two_pieces : AgainstRules 32768 (over (span 256 64 ∷ span 320 64 ∷ []) (span 310 20 ∷ []))
unfolding memory_call padded within_rules lawful apart overlap lies_in any_of all_of
in_two_pieces = refl

before_its_piece : AgainstRules 32768 (table (span 255 2 ∷ []))
unfolding memory_call padded within_rules lawful apart overlap lies_in any_of all_of
before_its_piece = refl

behind_its_piece : AgainstRules 32768 (table (span 2047 2 ∷ []))
unfolding memory_call padded within_rules lawful apart overlap lies_in any_of all_of
behind_its_piece = refl

-- the same where they only touch
all_touch : memory_call 58 32768 (over (span 256 64 ∷ span 320 64 ∷ []) (span 310 10 ∷ span 320 10 ∷ span 330 54 ∷ [])) (mcb 0 0 0)
    ≡ record { answer = Ok tt; table = over (span 256 64 ∷ span 320 64 ∷ []) []; mcb = mcb 0 0 0 }
unfolding memory_call serve padded within_rules lawful apart overlap lies_in any_of all_of
all_touch = refl

-- eight regions: 63, whether or not there is room; 53 and 54 never answer it
abbrev full : Table
full = table (span 256 1 ∷ span 258 1 ∷ span 260 1 ∷ span 262 1 ∷ span 264 1 ∷ span 266 1 ∷ span 268 1 ∷ span 270 1 ∷ [])

no_place : memory_call 56 32768 full (mcb 256 1 0) ≡ refused NoPlace full (mcb 256 1 0)
unfolding memory_call serve granted_at has_room room run free_in taken covers most_of padded within_rules lawful apart overlap lies_in any_of all_of
no_place = refl

asks_no_place : memory_call 54 32768 full (mcb 257 1 0) ≡ record { answer = Ok tt; table = full; mcb = mcb 257 1 0 }
unfolding memory_call serve tested has_room room run free_in taken covers most_of padded within_rules lawful apart overlap lies_in any_of all_of
asks_no_place = refl

-- nine regions are not within the rules
nine : within_rules 32768 (record { pieces = padded 8 pieces; used = 1; regions = padded 8 []; granted = 9 }) ≡ false
unfolding within_rules
nine = refl

-- a piece may end with paragraph FFFFH, and its region's end may be freed; one paragraph more is 65, whatever the memory
abbrev high : ℕ → List Span → Table
high size l = over (span 65520 size ∷ []) l

to_the_end : memory_call 57 1048832 (high 16 (span 65520 16 ∷ [])) (mcb 65535 1 0)
    ≡ record { answer = Ok tt; table = high 16 (span 65520 15 ∷ []); mcb = mcb 65535 1 0 }
unfolding memory_call serve freeing freeing_part freeable freed left edge padded within_rules lawful apart overlap lies_in any_of all_of
to_the_end = refl

beyond : AgainstRules 1048832 (high 17 [])
unfolding memory_call padded within_rules lawful apart overlap lies_in any_of all_of
beyond = refl
