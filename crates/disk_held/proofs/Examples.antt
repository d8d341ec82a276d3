-- Definitions evaluated.
use mathlib.Core.Path.{◌≡◌, refl}
use mathlib.Core.List.{List, [], ◌∷◌, ◌++◌}
use Prim.Native.Nat.{ℕ}
use lib.Dec.{eqb}
use lib.ListN.{replicate}
use Rattle.lists.specs.Bounded.{low_from, count_from}
use Rattle.disk_held.specs.Held.{digit, holds, hold, release, word_of, words_of, none_held, lowest_free, free_count}

-- the paper's volume V, T 40 and D 1: 39 free, the lowest is 1; then blocks 1, 2 and 3 are taken
v_free : free_count none_held 1 40 ≡ 39
unfolding free_count count_from holds digit
v_free = refl

v_lowest : lowest_free none_held 1 40 ≡ 1
unfolding lowest_free low_from holds digit
v_lowest = refl

abbrev three : List ℕ
three = 14 ∷ replicate 63 0

v_three : hold (hold (hold none_held 1) 2) 3 ≡ three
unfolding hold
v_three = refl

v_three_free : free_count three 1 40 ≡ 36
unfolding free_count count_from holds digit
v_three_free = refl

v_three_lowest : lowest_free three 1 40 ≡ 4
unfolding lowest_free low_from holds digit
v_three_lowest = refl

v_released : lowest_free (release three 2) 1 40 ≡ 2
unfolding lowest_free low_from holds digit release
v_released = refl

-- T 2, D 1: with block 1 held there is none
none_left : lowest_free (hold none_held 1) 1 2 ≡ 2
unfolding lowest_free low_from holds digit hold
none_left = refl

-- full words, and the highest block
abbrev many : List ℕ
many = 18446744073709551614 ∷ 18446744073709551615 ∷ 7 ∷ 9223372036854775808 ∷ []

many_lowest : lowest_free many 1 256 ≡ 131
unfolding lowest_free low_from holds digit
many_lowest = refl

many_free : free_count many 1 256 ≡ 124
unfolding free_count count_from holds digit
many_free = refl

many_changed : release (hold (hold many 131) 200) 255 ≡ 18446744073709551614 ∷ 18446744073709551615 ∷ 15 ∷ 256 ∷ []
unfolding hold release
many_changed = refl

-- a set by its test: block 255 alone, and block 4,095, the highest that there is
last_set : words_of (λ b. eqb b 255) ≡ 0 ∷ 0 ∷ 0 ∷ 9223372036854775808 ∷ replicate 60 0
unfolding words_of word_of
last_set = refl

highest : List ℕ
highest = replicate 63 0 ++ (9223372036854775808 ∷ [])

highest_set : words_of (λ b. eqb b 4095) ≡ highest
unfolding highest words_of word_of
highest_set = refl

-- held and freed again: block 256, whose number takes two bytes, and block 4,095
two_byte_held : hold none_held 256 ≡ 0 ∷ 0 ∷ 0 ∷ 0 ∷ 1 ∷ replicate 59 0
unfolding hold
two_byte_held = refl

two_byte_freed : release (hold none_held 256) 256 ≡ none_held
unfolding hold release
two_byte_freed = refl

highest_held : hold none_held 4095 ≡ highest
unfolding highest hold
highest_held = refl

-- blocks 1 to 320 held: the lowest free one is 321, in the sixth word, and of T 4,096 with D 1 the rest are free
abbrev five : List ℕ
five = 18446744073709551614 ∷ 18446744073709551615 ∷ 18446744073709551615 ∷ 18446744073709551615 ∷ 18446744073709551615 ∷ 1 ∷ replicate 58 0

five_lowest : lowest_free five 1 4096 ≡ 321
unfolding lowest_free low_from holds digit
five_lowest = refl

five_free : free_count five 1 4096 ≡ 3775
unfolding free_count count_from holds digit
five_free = refl
