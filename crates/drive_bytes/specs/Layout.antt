-- The drive in bytes: "0..5 B, T, D (16 bits each, low byte first); 6 user; 7 protected (0, 1); 8 search (0 none, 1 pattern, 2
-- dr 3FH); 9 its user; 10..11 its last slot; 12..23 pattern, 11 name bytes and ex; 24 placing (0 straight, 1 eight-inch);
-- 25..31 zero; from 32 on the held words, low byte first, four of them up to T 256, 64 above; for search 0 the bytes 9..23 are
-- zero; closed is all zeros, of either length. Any other length or byte pattern counts as closed".
use Rattle.std.specs.Prelude.{Bool, not, cond, ◌&&◌, ◌||◌, List, [], ◌∷◌, ◌++◌, ℕ, zero, suc, ◌+◌, ◌-◌, ◌*◌, leb, eqb, length, replicate}
use Rattle.disk_geometry.specs.Geometry.{narrow_blocks, block_bytes_of, blocks, directory_blocks_of, placing, geometry_of, with_placing}
use Rattle.disk_held.specs.Held.{held_words}
use Rattle.lists.specs.Bytes.{byte, part}
use Rattle.disk_geometry.specs.declared.Geometry.{Geometry}
use Rattle.call_search.specs.declared.SearchKind.{SearchKind}
use Rattle.call_search.specs.declared.SearchKind.TheVariants.{Nothing, Pattern, Everything}
use Rattle.filecalls.specs.declared.Drive.{Drive}
use Rattle.call_search.specs.Search.{pattern_bytes}
use Rattle.filecalls.specs.State.{closed}
use Rattle.numbers.specs.Numbers.{bytes_of, number, bytes_from, zeros}

-- where each field stands
abbrev pub BLOCK_BYTES_AT : ℕ
BLOCK_BYTES_AT = 0

abbrev pub BLOCKS_AT : ℕ
BLOCKS_AT = 2

abbrev pub DIRECTORY_BLOCKS_AT : ℕ
DIRECTORY_BLOCKS_AT = 4

abbrev pub USER_AT : ℕ
USER_AT = 6

abbrev pub PROTECTED_AT : ℕ
PROTECTED_AT = 7

abbrev pub SEARCH_AT : ℕ
SEARCH_AT = 8

abbrev pub SEARCH_USER_AT : ℕ
SEARCH_USER_AT = 9

abbrev pub LAST_AT : ℕ
LAST_AT = 10

abbrev pub PATTERN_AT : ℕ
PATTERN_AT = 12

abbrev pub PLACING_AT : ℕ
PLACING_AT = 24

abbrev pub SPARE_AT : ℕ
SPARE_AT = 25

abbrev pub HELD_AT : ℕ
HELD_AT = 32

-- how many held words a drive has up to T 256, where above it has all of a state's; how many bytes up to there, and above
abbrev pub narrow_words : ℕ
narrow_words = 4

abbrev pub narrow_bytes : ℕ
narrow_bytes = 64

abbrev pub wide_bytes : ℕ
wide_bytes = 544

-- how many held words and bytes a drive of so many blocks has
abbrev pub stored_words : ℕ → ℕ
stored_words t = cond (leb t narrow_blocks) narrow_words held_words

abbrev pub drive_bytes : ℕ → ℕ
drive_bytes t = cond (leb t narrow_blocks) narrow_bytes wide_bytes

-- ---- from the state to bytes
-- 0..7
unfoldable pub head_bytes : Geometry → ℕ → Bool → List ℕ
head_bytes g user protected =
    bytes_of 2 (block_bytes_of g) ++ bytes_of 2 (blocks g) ++ bytes_of 2 (directory_blocks_of g) ++ (user ∷ cond protected 1 0 ∷ [])

-- 8..23
unfoldable pub kept_bytes : ℕ → ℕ → ℕ → List ℕ → List ℕ
kept_bytes kind user last pattern = (kind ∷ user ∷ []) ++ bytes_of 2 last ++ bytes_from pattern 0 pattern_bytes

unfoldable pub search_bytes : SearchKind → ℕ → ℕ → List ℕ → List ℕ
search_bytes Nothing user last pattern = replicate (PLACING_AT - SEARCH_AT) 0
search_bytes Pattern user last pattern = kept_bytes 1 user last pattern
search_bytes Everything user last pattern = kept_bytes 2 user last pattern

-- 24..31
abbrev pub placing_bytes : Geometry → List ℕ
placing_bytes g = bytes_of 1 (placing g) ++ replicate (HELD_AT - SPARE_AT) 0

-- from 32 on: n words, from word k on
unfoldable pub held_bytes : List ℕ → ℕ → ℕ → List ℕ
held_bytes held k zero = []
held_bytes held k (suc n) = bytes_of 8 (byte held k) ++ held_bytes held (suc k) n

-- 0..31
unfoldable pub front_bytes : Drive → List ℕ
front_bytes d =
    head_bytes d.geometry d.user d.protected
    ++ search_bytes d.search.kind d.search.user d.search.last d.search.pattern
    ++ placing_bytes d.geometry

unfoldable pub encoded : Drive → List ℕ
encoded d = front_bytes d ++ held_bytes d.held 0 (stored_words (blocks d.geometry))

-- ---- from bytes to the state
unfoldable pub kind_stored : ℕ → SearchKind
kind_stored n = cond (eqb n 0) Nothing (cond (eqb n 1) Pattern Everything)

-- T, and held word k, of eight bytes; n words from word k on, and as many as a state has, the others without a block
abbrev pub blocks_at : List ℕ → ℕ
blocks_at s = number (part s BLOCKS_AT 2)

abbrev pub held_word : List ℕ → ℕ → ℕ
held_word s k = number (part s (HELD_AT + 8 * k) 8)

unfoldable pub words_at : List ℕ → ℕ → ℕ → List ℕ
words_at s k zero = []
words_at s k (suc n) = held_word s k ∷ words_at s (suc k) n

abbrev pub held_at : List ℕ → ℕ → List ℕ
held_at s n = words_at s 0 n ++ replicate (held_words - n) 0

unfoldable pub fields : List ℕ → Drive
fields s =
    record {
      geometry =
          with_placing (geometry_of (number (part s BLOCK_BYTES_AT 2)) (blocks_at s) (number (part s DIRECTORY_BLOCKS_AT 2)))
          (byte s PLACING_AT);
      user = byte s USER_AT;
      protected = eqb (byte s PROTECTED_AT) 1;
      search =
          record {
            kind = kind_stored (byte s SEARCH_AT);
            user = byte s SEARCH_USER_AT;
            last = number (part s LAST_AT 2);
            pattern = part s PATTERN_AT pattern_bytes;
          };
      held = held_at s (stored_words (blocks_at s));
    }

-- "7 protected (0, 1)"
abbrev pub good_flag : List ℕ → Bool
good_flag s = leb (byte s PROTECTED_AT) 1

-- the bytes are laid out as a drive's, and are as many as one of their T has
unfoldable pub laid_out : List ℕ → Bool
laid_out s =
    good_flag s
    && leb (byte s SEARCH_AT) 2
    && zeros (part s SPARE_AT (HELD_AT - SPARE_AT))
    && (not (eqb (byte s SEARCH_AT) 0) || zeros (part s SEARCH_USER_AT (PLACING_AT - SEARCH_USER_AT)))

unfoldable pub is_drive : List ℕ → Bool
is_drive s = eqb (length s) (drive_bytes (blocks_at s)) && laid_out s

unfoldable pub decoded : List ℕ → Drive
decoded s = cond (is_drive s) (fields s) closed

-- lent bytes take a state whose length they have; for any other, the closed one among them, they become zeros
unfoldable pub encoded_in : Drive → List ℕ → List ℕ
encoded_in d s = cond (eqb (length s) (drive_bytes (blocks d.geometry))) (encoded d) (replicate (length s) 0)
