-- Base pages and a memory after a load, worked out by hand from 000, 3.7 and 4.4.
use mathlib.Core.Path.{◌≡◌, refl}
use mathlib.Core.List.{List, [], ◌∷◌, ◌++◌}
use Prim.Native.Nat.{ℕ}
use lib.ListN.{replicate}
use Rattle.lists.specs.Bounded.{low_from, fold}
use Rattle.lists.specs.Bytes.{part, put}
use Rattle.numbers.specs.Numbers.{bytes_of}
use Rattle.memory_spans.specs.Span.{span}
use Rattle.load_header.specs.Header.{groups, type_at, place_of, page_place, image_start}
use Rattle.joined.specs.Joined.{joined}
use Rattle.loading.specs.Page.{region_of, shown_of, last_of, field_of, field, base_page, page_start}
use Rattle.loading.specs.Laid.{group_laid, laid, with_page}

abbrev descriptor : ℕ → ℕ → ℕ → List ℕ
descriptor form length least = form ∷ length ∷ 0 ∷ 0 ∷ 0 ∷ least ∷ 0 ∷ 0 ∷ 0 ∷ []

-- code alone, granted 10H paragraphs at 0002H: LC is FFH, BC 0002H, M80 1, and data is shown as code
abbrev alone : List ℕ
alone = descriptor 0x01 0x04 0x10 ++ replicate 119 0

page_alone : base_page alone (span 0x02 0x10 ∷ [])
    ≡ 0xFF ∷ 0 ∷ 0 ∷ 0x02 ∷ 0 ∷ 1 ∷ 0xFF ∷ 0 ∷ 0 ∷ 0x02 ∷ 0 ∷ 0 ∷ replicate 36 0
unfolding base_page joined field field_of bytes_of shown_of last_of region_of place_of groups type_at low_from
page_alone = refl

-- code of 40H paragraphs at 0110H and data of B0H at 0150H: LC is 3FFH, LD is AFFH, M80 is 0
abbrev small : List ℕ
small = descriptor 0x01 0x40 0 ++ (descriptor 0x02 0x10 0x30 ++ replicate 110 0)

page_small : base_page small (span 0x110 0x40 ∷ span 0x150 0xB0 ∷ [])
    ≡ 0xFF ∷ 0x03 ∷ 0 ∷ 0x10 ∷ 0x01 ∷ 0 ∷ 0xFF ∷ 0x0A ∷ 0 ∷ 0x50 ∷ 0x01 ∷ 0 ∷ replicate 36 0
unfolding base_page joined field field_of bytes_of shown_of last_of region_of place_of groups type_at low_from
page_small = refl

page_in_data : page_start small (span 0x110 0x40 ∷ span 0x150 0xB0 ∷ []) ≡ 0x150
unfolding page_start page_place place_of groups type_at low_from
page_in_data = refl

-- the largest region: FFFFH paragraphs are FFFF0H bytes, and L has a third byte
page_large : base_page alone (span 0 0xFFFF ∷ [])
    ≡ 0xEF ∷ 0xFF ∷ 0x0F ∷ 0 ∷ 0 ∷ 1 ∷ 0xEF ∷ 0xFF ∷ 0x0F ∷ 0 ∷ 0 ∷ 0 ∷ replicate 36 0
unfolding base_page joined field field_of bytes_of shown_of last_of region_of place_of groups type_at low_from
page_large = refl

-- stack before code and no data: fields go by type and not by header order, M80, LD and BD are 0, and the page is in the code
abbrev stacked : List ℕ
stacked = descriptor 0x04 0x04 0 ++ (descriptor 0x01 0x10 0 ++ replicate 110 0)

page_stacked : base_page stacked (span 0x30 0x04 ∷ span 0x20 0x10 ∷ [])
    ≡ 0xFF ∷ 0 ∷ 0 ∷ 0x20 ∷ 0 ∷ 0 ∷ 0 ∷ 0 ∷ 0 ∷ 0 ∷ 0 ∷ 0 ∷ 0 ∷ 0 ∷ 0 ∷ 0 ∷ 0 ∷ 0 ∷ 0x3F ∷ 0 ∷ 0 ∷ 0x30 ∷ 0 ∷ 0 ∷ replicate 24 0
unfolding base_page joined field field_of bytes_of shown_of last_of region_of place_of groups type_at low_from
page_stacked = refl

page_in_code : page_start stacked (span 0x30 0x04 ∷ span 0x20 0x10 ∷ []) ≡ 0x20
unfolding page_start page_place place_of groups type_at low_from
page_in_code = refl

-- code alone, four paragraphs of image (64 bytes of 11H; the other half of the record is 22H), granted 10H paragraphs at 0002H in a memory
-- of 20H paragraphs of AAH: offsets 0 to 2FH are the base page, 30H to 3FH are the image, and what is behind it stays
memory_alone : with_page alone (span 0x02 0x10 ∷ []) (laid alone (span 0x02 0x10 ∷ []) (replicate 64 0x11 ++ replicate 64 0x22) (replicate 512 0xAA))
    ≡ replicate 32 0xAA
    ++ (0xFF ∷ 0 ∷ 0 ∷ 0x02 ∷ 0 ∷ 1 ∷ 0xFF ∷ 0 ∷ 0 ∷ 0x02 ∷ 0 ∷ 0 ∷ [])
    ++ replicate 36 0 ++ replicate 16 0x11 ++ replicate 416 0xAA
unfolding with_page laid group_laid fold part put image_start page_start page_place base_page joined field field_of bytes_of shown_of last_of region_of place_of groups type_at low_from
memory_alone = refl

-- two groups, of one paragraph of 11H and one of 22H: each image goes to its own region, whatever their order in the memory
abbrev both : List ℕ
both = descriptor 0x04 0x01 0 ++ (descriptor 0x01 0x01 0x10 ++ replicate 110 0)

memory_both : laid both (span 0x14 0x01 ∷ span 0x02 0x10 ∷ []) (replicate 16 0x11 ++ replicate 112 0x22) (replicate 512 0xAA)
    ≡ replicate 32 0xAA ++ replicate 16 0x22 ++ replicate 272 0xAA ++ replicate 16 0x11 ++ replicate 176 0xAA
unfolding laid group_laid fold part put image_start groups low_from
memory_both = refl
