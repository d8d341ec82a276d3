-- Contents within the rules, and contents against each of them.
use mathlib.Core.Path.{◌≡◌, refl}
use mathlib.Core.Bool.{true, false}
use mathlib.Core.List.{List, [], ◌∷◌, ◌++◌, map}
use Prim.Native.Nat.{ℕ}
use lib.ListN.{replicate}
use Rattle.lists.specs.Bounded.{low_from, every_from}
use Rattle.desk_contents.specs.Contents.{first_at, count_at, total, listed, others, used_place, place_fits, good_contents, chapter_place}

-- a place: chapter, first record, count, zero; and a record 0 with these places
abbrev place : ℕ → ℕ → ℕ → ℕ → List ℕ
place chapter first count last = chapter ∷ 0 ∷ first ∷ 0 ∷ count ∷ 0 ∷ last ∷ 0 ∷ []

abbrev rest : ℕ → List ℕ
rest n = replicate n 0

-- chapters 3 and 1, of two records and of one
abbrev good : List ℕ
good = place 3 1 2 0 ++ place 1 3 1 0 ++ rest 112

-- the first body from record 2 on, or a gap between bodies; a count of 0; a fourth number; a chapter twice; a used place
-- behind an unused one; unused places that are not all zero, in each number
abbrev bad : List (List ℕ)
bad =
    (place 3 2 2 0 ++ rest 120) ∷ (place 3 1 2 0 ++ place 1 4 1 0 ++ rest 112) ∷ (place 3 1 0 0 ++ rest 120) ∷ (place 3 1 2 1 ++ rest 120)
    ∷ (place 3 1 2 0 ++ place 3 3 1 0 ++ rest 112) ∷ (rest 8 ++ place 3 1 2 0 ++ rest 112) ∷ (place 0 1 0 0 ++ rest 120)
    ∷ (place 0 0 1 0 ++ rest 120) ∷ (place 0 0 0 1 ++ rest 120) ∷ []

-- sixteen chapters, 1 to 16, of one record each
abbrev full : List ℕ
full =
    place 1 1 1 0 ++ place 2 2 1 0 ++ place 3 3 1 0 ++ place 4 4 1 0 ++ place 5 5 1 0 ++ place 6 6 1 0 ++ place 7 7 1 0 ++ place 8 8 1 0
    ++ place 9 9 1 0 ++ place 10 10 1 0 ++ place 11 11 1 0 ++ place 12 12 1 0 ++ place 13 13 1 0 ++ place 14 14 1 0 ++ place 15 15 1 0
    ++ place 16 16 1 0

-- "16 bits each, low byte first": chapter 300 has 258 records, and chapter 44 one, which is record 259
abbrev wide : List ℕ
wide = 44 ∷ 1 ∷ 1 ∷ 0 ∷ 2 ∷ 1 ∷ 0 ∷ 0 ∷ 44 ∷ 0 ∷ 3 ∷ 1 ∷ 1 ∷ 0 ∷ 0 ∷ 0 ∷ rest 112

abbrev pub Examples : Type 0
Examples =
    (good_contents good ≡ true) × ((map good_contents bad ≡ replicate 9 false) × ((total good 16 ≡ 3)
    × ((good_contents (rest 128) ≡ true) × ((chapter_place good 1 ≡ 1) × ((chapter_place good 2 ≡ 16) × (chapter_place good 0 ≡ 16))))))

pub examples : Examples
unfolding good_contents place_fits used_place others chapter_place total low_from every_from
examples = (refl, (refl, (refl, (refl, (refl, (refl, refl))))))

-- every place is used; a chapter, a first record and a count above 255
pub all_used : (good_contents full ≡ true) × ((chapter_place full 16 ≡ 15) × ((chapter_place full 17 ≡ 16) × (listed full ≡ 16)))
unfolding good_contents place_fits used_place others chapter_place total low_from every_from
all_used = (refl, (refl, (refl, refl)))

pub above_255 : (good_contents wide ≡ true) × ((chapter_place wide 300 ≡ 0) × ((chapter_place wide 44 ≡ 1)
    × ((count_at wide 0 ≡ 258) × ((first_at wide 1 ≡ 259) × (listed wide ≡ 259)))))
unfolding good_contents place_fits used_place others chapter_place total low_from every_from
above_255 = (refl, (refl, (refl, (refl, (refl, refl)))))
