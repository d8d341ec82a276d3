-- The held blocks: a bit for each block, in words of 64 bits, block 0 lowest. A state has 64 words, a bit for each of 4,096 blocks;
-- what is said of words here is said of any number of them.
use Rattle.std.specs.Prelude.{◌≡◌, Bool, not, cond, ◌&&◌, ◌||◌, List, [], ◌∷◌, ℕ, zero, suc, ◌+◌, ◌-◌, ◌*◌, ◌/◌, ◌%◌, ◌^◌, ◌<◌, eqb, length, get_or, set, replicate}
use Rattle.std.specs.Int.Bits.{bit_or, bit_xor}
use Rattle.lists.specs.Bounded.{low_from, count_from}

-- bits of a word, words of a state, and how many blocks words have a bit for
abbrev pub word_bits : ℕ
word_bits = 64

abbrev pub held_words : ℕ
held_words = 64

abbrev pub room : List ℕ → ℕ
room held = word_bits * length held

-- the state holds block b
unfoldable pub digit : List ℕ → ℕ → ℕ
digit held b = get_or held (b / word_bits) 0 / 2 ^ (b % word_bits) % 2

unfoldable pub holds : List ℕ → ℕ → Bool
holds held b = eqb (digit held b) 1

-- block b is held from now on, and no longer: by the bits of its word
unfoldable pub hold : List ℕ → ℕ → List ℕ
hold held b = set held (b / word_bits) (bit_or (get_or held (b / word_bits) 0) (2 ^ (b % word_bits)))

unfoldable pub release : List ℕ → ℕ → List ℕ
release held b = set held (b / word_bits) (bit_xor (bit_or (get_or held (b / word_bits) 0) (2 ^ (b % word_bits))) (2 ^ (b % word_bits)))

-- the same in a sentence, of any words and of a block that they have a bit for: afterwards a block is held exactly if it was
-- held or is b, and exactly if it was held and is not b
abbrev pub HoldSays : Type 0
HoldSays =
    (held : List ℕ) (b : ℕ) → b < room held
    → (c : ℕ) → holds (hold held b) c ≡ (holds held c || eqb c b)

abbrev pub ReleaseSays : Type 0
ReleaseSays =
    (held : List ℕ) (b : ℕ) → b < room held
    → (c : ℕ) → holds (release held b) c ≡ (holds held c && not (eqb c b))

-- the words of a set of blocks, given by its test: k blocks from a on in one word, n words from a on, and those of a state
unfoldable pub word_of : (ℕ → Bool) → ℕ → ℕ → ℕ
word_of p a zero = 0
word_of p a (suc k) = cond (p (a + k)) 1 0 * 2 ^ k + word_of p a k

unfoldable pub words_from : (ℕ → Bool) → ℕ → ℕ → List ℕ
words_from p a zero = []
words_from p a (suc n) = word_of p a word_bits ∷ words_from p (a + word_bits) n

unfoldable pub words_of : (ℕ → Bool) → List ℕ
unfolding words_from
words_of p = words_from p 0 held_words

-- no block at all
abbrev pub none_held : List ℕ
none_held = replicate held_words 0

-- of the blocks from d to t - 1: the lowest that is free (t where none is), and how many are
abbrev pub is_free : List ℕ → ℕ → Bool
is_free held b = not (holds held b)

unfoldable pub lowest_free : List ℕ → ℕ → ℕ → ℕ
lowest_free held d t = low_from (is_free held) d (t - d)

unfoldable pub free_count : List ℕ → ℕ → ℕ → ℕ
free_count held d t = count_from (is_free held) d (t - d)
