-- What the program counts of an input: whole volumes are put on the shelf one after another, to the end of the input, to a short one, which
-- is put on it too, or to the 65,536th, which is not. Whatever is behind makes no difference. Proved in `proofs/ReadingsLaws`.
use Rattle.std.specs.Prelude.{◌≡◌, cond, List, [], ◌∷◌, ◌++◌, map, ℕ, ◌≤◌, ◌<◌, length}
use Rattle.listing.specs.Listing.{geometry_v}
use Rattle.shelf_figures.specs.declared.Shelf.{Shelf}
use Rattle.shelf_figures.specs.Shelf.{bare, most_volumes, put}
use Rattle.shelf_figures.specs.Order.{Volume, shelve}
use Rattle.shelf.specs.Reading.{volume_bytes, after_read}

-- what is read, piece by piece, until nothing more follows
unfoldable pub readings : Shelf → List (List ℕ) → Shelf
readings s [] = s
readings s (x ∷ xs) = cond (after_read s x).more (readings (after_read s x).shelf xs) (after_read s x).shelf

-- pieces of a volume's length
pub data Whole : List (List ℕ) → Type 0 where
  none : Whole []
  then_one : (x : List ℕ) (xs : List (List ℕ)) → length x ≡ volume_bytes → Whole xs → Whole (x ∷ xs)

-- the shelf that has these volumes of V's geometry
abbrev pub of_v : List ℕ → Volume
of_v v = record { geometry = geometry_v; bytes = v }

abbrev pub shelved : List (List ℕ) → Shelf
shelved vs = shelve bare (map of_v vs)

pub record Reads : Type 0 where
  -- to the end of the input
  pub to_the_end : (vs behind : List (List ℕ)) → Whole vs → length vs ≤ most_volumes → readings bare (vs ++ ([] ∷ behind)) ≡ shelved vs
  -- "a short last one"
  pub to_a_short_one : (vs behind : List (List ℕ)) (last : List ℕ) → Whole vs → length vs < most_volumes → 0 < length last → length last < volume_bytes
      → readings bare (vs ++ (last ∷ behind)) ≡ (put (shelved vs) geometry_v last).shelf
  -- "the 65,536th volume; the program prints the figures before it"
  pub to_one_too_many : (vs behind : List (List ℕ)) (last : List ℕ) → Whole vs → length vs ≡ most_volumes
      → readings bare (vs ++ (last ∷ behind)) ≡ shelved vs
