-- A header worked out by hand from 000, 4.4 (figures 5 and 6): code of 0040H paragraphs, anywhere, and data of 0010H paragraphs of
-- which at least 0030H and at most 0100H are to be granted: 01 0040 0000 0000 0000, then 02 0010 0000 0030 0100, then a form of 0.
use mathlib.Core.Path.{◌≡◌, refl}
use mathlib.Core.Bool.{true, false}
use mathlib.Core.List.{List, [], ◌∷◌, ◌++◌}
use Prim.Native.Nat.{ℕ}
use lib.ListN.{replicate}
use Rattle.lists.specs.Bounded.{low_from, any_from, every_from}
use Rattle.load_header.specs.Header.{most_at, groups, type_at, need, good_group, place_of, page_place, good_header, image_start}

-- a descriptor by its form, length, base, least and most; each number is below 100H but for most, which is so many times 100H
abbrev descriptor : ℕ → ℕ → ℕ → ℕ → ℕ → List ℕ
descriptor form length base least most = form ∷ length ∷ 0 ∷ base ∷ 0 ∷ least ∷ 0 ∷ 0 ∷ most ∷ []

abbrev small : List ℕ
small = descriptor 0x01 0x40 0 0 0 ++ (descriptor 0x02 0x10 0 0x30 0x01 ++ replicate 110 0)

two_groups : groups small ≡ 2
unfolding groups low_from
two_groups = refl

data_needs : need small 1 ≡ 0x30
data_needs = refl

data_most_lem : most_at small 1 ≡ 0x100
data_most_lem = refl

page_in_data : page_place small ≡ 1
unfolding page_place place_of groups type_at low_from
page_in_data = refl

small_good : good_header small ≡ true
unfolding good_header good_group page_place place_of groups type_at low_from any_from every_from
small_good = refl

-- the image of the data stands behind that of the code
data_image : image_start small 1 ≡ 0x40
unfolding image_start
data_image = refl

all_image : image_start small 2 ≡ 0x50
unfolding image_start
all_image = refl

-- shared code (9) is code; code and shared code are code given twice
shared : good_header (descriptor 0x09 0x10 0 0 0 ++ replicate 119 0) ≡ true
unfolding good_header good_group page_place place_of groups type_at low_from any_from every_from
shared = refl

given_twice : good_header (descriptor 0x09 0x10 0 0 0 ++ (descriptor 0x01 0x10 0 0 0 ++ replicate 110 0)) ≡ false
unfolding good_header good_group page_place place_of groups type_at low_from any_from every_from
given_twice = refl

-- a form of 10H has type 0 and does not end the descriptors; 10 to 15 are not used
type_none : good_header (descriptor 0x01 0x10 0 0 0 ++ (descriptor 0x10 0x10 0 0 0 ++ replicate 110 0)) ≡ false
unfolding good_header good_group page_place place_of groups type_at low_from any_from every_from
type_none = refl

type_ten : good_header (descriptor 0x01 0x10 0 0 0 ++ (descriptor 0x0A 0x10 0 0 0 ++ replicate 110 0)) ≡ false
unfolding good_header good_group page_place place_of groups type_at low_from any_from every_from
type_ten = refl

-- no code; no group at all
no_code : good_header (descriptor 0x02 0x10 0 0 0 ++ replicate 119 0) ≡ false
unfolding good_header good_group page_place place_of groups type_at low_from any_from every_from
no_code = refl

no_group : good_header (replicate 128 0) ≡ false
unfolding good_header good_group page_place place_of groups type_at low_from any_from every_from
no_group = refl

-- a base page of 16 paragraphs: by the length, by the least, and one too few; the code group may be smaller where there is data
page_by_least : good_header (descriptor 0x01 0x01 0 0x10 0 ++ replicate 119 0) ≡ true
unfolding good_header good_group page_place place_of groups type_at low_from any_from every_from
page_by_least = refl

page_too_small : good_header (descriptor 0x01 0x0F 0 0x0F 0x01 ++ replicate 119 0) ≡ false
unfolding good_header good_group page_place place_of groups type_at low_from any_from every_from
page_too_small = refl

page_of_data : good_header (descriptor 0x01 0x01 0 0 0 ++ (descriptor 0x02 0x10 0 0 0 ++ replicate 110 0)) ≡ true
unfolding good_header good_group page_place place_of groups type_at low_from any_from every_from
page_of_data = refl

-- with data it is the data group that needs 16 paragraphs, however large the code
data_too_small : good_header (descriptor 0x01 0x40 0 0 0 ++ (descriptor 0x02 0x0F 0 0 0 ++ replicate 110 0)) ≡ false
unfolding good_header good_group page_place place_of groups type_at low_from any_from every_from
data_too_small = refl

-- eight descriptors: the ninth is not looked at
eight : groups (replicate 128 1) ≡ 8
unfolding groups low_from
eight = refl
