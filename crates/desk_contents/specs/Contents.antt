-- "A collation file begins with its contents: record 0 has sixteen places of 8 bytes (chapter, first record, count, zero;
-- 16 bits each, low byte first), used ones first (chapters not 0 and all different, counts at least 1) and the rest all
-- zero. The bodies follow from record 1 without gaps." s is record 0; the bodies stand in the order of the places. What the
-- desk lists, tests and changes (`desk/specs/Replace`) is said with these.
use Rattle.std.specs.Prelude.{Bool, not, cond, ◌&&◌, List, ℕ, zero, suc, ◌+◌, ◌*◌, eqb, ltb}
use Rattle.lists.specs.Bounded.{every, lowest}
use Rattle.numbers.specs.Numbers.{two}

-- "sixteen places of 8 bytes"
abbrev pub contents_places : ℕ
contents_places = 16

abbrev pub place_bytes : ℕ
place_bytes = 8

-- what stands in place i: "chapter, first record, count, zero"
abbrev pub chapter_at : List ℕ → ℕ → ℕ
chapter_at s i = two s (place_bytes * i)

abbrev pub first_at : List ℕ → ℕ → ℕ
first_at s i = two s (place_bytes * i + 2)

abbrev pub count_at : List ℕ → ℕ → ℕ
count_at s i = two s (place_bytes * i + 4)

abbrev pub zero_at : List ℕ → ℕ → ℕ
zero_at s i = two s (place_bytes * i + 6)

-- how many records the places below i list: their bodies are the records 1 to this number
unfoldable pub total : List ℕ → ℕ → ℕ
total s zero = 0
total s (suc i) = total s i + count_at s i

-- how many records all places list
abbrev pub listed : List ℕ → ℕ
listed s = total s contents_places

-- "the rest all zero"
abbrev pub clear : List ℕ → ℕ → Bool
clear s i = eqb (chapter_at s i) 0 && eqb (first_at s i) 0 && eqb (count_at s i) 0 && eqb (zero_at s i) 0

-- "used ones first", "all different": each place below i is used, and for another chapter
abbrev pub differs : List ℕ → ℕ → ℕ → Bool
differs s chapter j = not (eqb (chapter_at s j) 0) && not (eqb (chapter_at s j) chapter)

unfoldable pub others : List ℕ → ℕ → ℕ → Bool
others s chapter i = every i (differs s chapter)

-- a used place: "the bodies follow from record 1 without gaps", "counts at least 1"
unfoldable pub used_place : List ℕ → ℕ → Bool
used_place s i = eqb (first_at s i) (total s i + 1) && ltb 0 (count_at s i) && eqb (zero_at s i) 0 && others s (chapter_at s i) i

-- a place is used where its chapter is not 0
unfoldable pub place_fits : List ℕ → ℕ → Bool
place_fits s i = cond (eqb (chapter_at s i) 0) (clear s i) (used_place s i)

-- the contents are within the rules
unfoldable pub good_contents : List ℕ → Bool
good_contents s = every contents_places (place_fits s)

-- the chapter's place, 16 where it is not there; chapter 0 never is
abbrev pub has_chapter : List ℕ → ℕ → ℕ → Bool
has_chapter s chapter i = not (eqb chapter 0) && eqb (chapter_at s i) chapter

unfoldable pub chapter_place : List ℕ → ℕ → ℕ
chapter_place s chapter = lowest contents_places (has_chapter s chapter)
