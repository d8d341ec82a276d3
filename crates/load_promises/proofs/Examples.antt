-- Load's own refusals in their order, worked out by hand: what is wrong is mended one by one, from 65 to 62. The header has code alone, four
-- paragraphs of image that need 10H, at paragraph 20H; the memory has 30H paragraphs.
use mathlib.Core.Path.{◌≡◌, refl}
use mathlib.Core.List.{List, [], ◌∷◌}
use Prim.Native.Nat.{ℕ}
use lib.ListN.{length, replicate}
use Rattle.std.specs.Prelude.{Ok, Err}
use Rattle.lists.specs.Bounded.{low_from, any_from, every_from}
use Rattle.memory_spans.specs.declared.Span.{Span}
use Rattle.memory_spans.specs.Span.{span, covers, overlap, lies_in, any_of, all_of, most_of}
use Rattle.memory_spans.specs.Rules.{apart, lawful}
use Rattle.memory_spans.specs.Room.{taken, free_in, run, room, has_room}
use Rattle.memory_room.specs.Starts.{grant_at, grant_of}
use Rattle.memory_regions.specs.Places.{padded}
use Rattle.memory_calls.specs.declared.Table.{Table}
use Rattle.memory_calls.specs.Table.{within_rules}
use Rattle.load_header.specs.Header.{groups, type_at, good_group, place_of, page_place, good_header, image_start}
use Rattle.load_grants.specs.Grants.{followed, grants}
use Rattle.loading.specs.Load.{LoadAnswer, after, loaded, placed}
use Rattle.loading.specs.declared.LoadRefusal.TheVariants.{Rules, Header, Image, NoPlace, NoRoom}
use Rattle.loading.specs.Page.{page_start}

abbrev header : ℕ → List ℕ
header form = form ∷ 0x04 ∷ 0 ∷ 0x20 ∷ 0 ∷ 0x10 ∷ 0 ∷ 0 ∷ 0 ∷ replicate 119 0

abbrev table : ℕ → List Span → Table
table size l = record { pieces = padded 8 (span 0x20 size ∷ []); used = 1; regions = padded 8 l; granted = length l }

-- regions that take a place each, and no paragraph
abbrev seven : List Span
seven = span 0x20 0 ∷ span 0x20 0 ∷ span 0x20 0 ∷ span 0x20 0 ∷ span 0x20 0 ∷ span 0x20 0 ∷ span 0x20 0 ∷ []

abbrev full : List Span
full = span 0x20 0 ∷ seven

-- the answer over that header, so many records of image, and that table
abbrev answer : ℕ → ℕ → Table → LoadAnswer
answer form records t = (placed (header form) records [] t (replicate 0x300 0)).reply.answer

-- the piece leaves the memory; 10H is no type; no image; no region place; one paragraph too few
first_65 : answer 0x10 0 (table 0x11 full) ≡ Err Rules
unfolding placed within_rules lawful apart overlap lies_in any_of all_of padded
first_65 = refl

then_60 : answer 0x10 0 (table 0x0F full) ≡ Err Header
unfolding placed within_rules lawful apart overlap lies_in any_of all_of padded good_header good_group groups type_at place_of page_place low_from any_from every_from
then_60 = refl

then_61 : answer 0x01 0 (table 0x0F full) ≡ Err Image
unfolding placed within_rules lawful apart overlap lies_in any_of all_of padded good_header good_group groups type_at place_of page_place low_from any_from every_from image_start
then_61 = refl

then_63 : answer 0x01 1 (table 0x0F full) ≡ Err NoPlace
unfolding placed within_rules lawful apart overlap lies_in any_of all_of padded good_header good_group groups type_at place_of page_place low_from any_from every_from image_start
then_63 = refl

then_62 : answer 0x01 1 (table 0x0F []) ≡ Err NoRoom
unfolding placed within_rules lawful apart overlap lies_in any_of all_of padded good_header good_group groups type_at place_of page_place low_from any_from every_from image_start grants followed grant_of grant_at has_room room run free_in taken covers most_of
then_62 = refl

then_done : answer 0x01 1 (table 0x10 []) ≡ Ok 0x20
unfolding placed loaded page_start within_rules lawful apart overlap lies_in any_of all_of padded good_header good_group groups type_at place_of page_place low_from any_from every_from image_start grants followed grant_of grant_at has_room room run free_in taken covers most_of
then_done = refl

-- "A load grants all groups or none": code of four paragraphs at 20H, and data of one that needs 10H, at 24H
abbrev both : List ℕ
both = 0x01 ∷ 0x04 ∷ 0 ∷ 0x20 ∷ 0 ∷ 0 ∷ 0 ∷ 0 ∷ 0 ∷ 0x02 ∷ 0x01 ∷ 0 ∷ 0x24 ∷ 0 ∷ 0x10 ∷ 0 ∷ 0 ∷ 0 ∷ replicate 110 0

-- there is room for both; with a paragraph less code has room and data has none: 62, and neither the table nor a byte of the memory is altered
all_granted : (placed both 1 [] (table 0x14 []) (replicate 0x340 0xAA)).reply
    ≡ record { answer = Ok 0x24; table = table 0x14 (span 0x20 0x04 ∷ span 0x24 0x10 ∷ []) }
unfolding placed loaded page_start within_rules lawful apart overlap lies_in any_of all_of padded good_header good_group groups type_at place_of page_place low_from any_from every_from image_start grants followed grant_of grant_at has_room room run free_in taken covers most_of
all_granted = refl

-- the same room, and one place for two groups
one_place : (placed both 1 [] (table 0x14 seven) (replicate 0x340 0xAA)).reply ≡ record { answer = Err NoPlace; table = table 0x14 seven }
unfolding placed within_rules lawful apart overlap lies_in any_of all_of padded good_header good_group groups type_at place_of page_place low_from any_from every_from image_start
one_place = refl

none_granted : placed both 1 [] (table 0x13 []) (replicate 0x340 0xAA) ≡ after (record { answer = Err NoRoom; table = table 0x13 [] }) (replicate 0x340 0xAA)
unfolding placed within_rules lawful apart overlap lies_in any_of all_of padded good_header good_group groups type_at place_of page_place low_from any_from every_from image_start grants followed grant_of grant_at has_room room run free_in taken covers most_of
none_granted = refl

-- the first group does have that room
code_granted : grants both (span 0x20 0x13 ∷ []) [] 0 2 ≡ span 0x20 0x04 ∷ []
unfolding grants followed grant_of grant_at has_room room run free_in taken covers any_of most_of
code_granted = refl
