-- "Every figure is defined over the volumes' bytes, and their order makes no difference." For up to 65,535 volumes: with
-- one more the figures before it depend on which came first.
use Rattle.std.specs.Prelude.{◌≡◌, true, List, [], ◌∷◌, ◌++◌, ℕ, ◌+◌, ◌*◌, ◌≤◌, length, Err}
use Rattle.disk_geometry.specs.declared.Geometry.{Geometry}
use Rattle.shelf_holdings.specs.Sums.{most_of_volume}
use Rattle.shelf_figures.specs.declared.Shelf.{Shelf}
use Rattle.shelf_figures.specs.declared.ShelfRefusal.TheVariants.{Full}
use Rattle.shelf_figures.specs.Shelf.{bare, plus, one, is_kept, most_volumes, put}

pub record Volume : Type 0 where
  pub geometry : Geometry
  pub bytes : List ℕ

-- the volumes put on a shelf, one after another
unfoldable pub shelve : Shelf → List Volume → Shelf
shelve s [] = s
shelve s (x ∷ xs) = shelve (put s x.geometry x.bytes).shelf xs

-- each figure added up over the volumes
unfoldable pub total : List Volume → Shelf
total [] = bare
total (x ∷ xs) = plus (one x.geometry x.bytes) (total xs)

-- the same volumes in another order: nothing; the same one before a rearrangement; the first two exchanged; one
-- rearrangement after another
pub data Rearranged : List Volume → List Volume → Type 0 where
  nothing : Rearranged [] []
  then_same : (x : Volume) (xs ys : List Volume) → Rearranged xs ys → Rearranged (x ∷ xs) (x ∷ ys)
  exchanged : (x y : Volume) (xs : List Volume) → Rearranged (x ∷ (y ∷ xs)) (y ∷ (x ∷ xs))
  again : (xs ys zs : List Volume) → Rearranged xs ys → Rearranged ys zs → Rearranged xs zs

-- the figures of n volumes: none is above n times 65,536. Of 65,535 volumes none is above 4,294,901,760, so 32 bits have room.
pub record Within (n : ℕ) (s : Shelf) : Type 0 where
  pub refused : s.refused ≤ most_of_volume * n
  pub files : s.files ≤ most_of_volume * n
  pub entries : s.entries ≤ most_of_volume * n
  pub records : s.records ≤ most_of_volume * n
  pub held : s.held ≤ most_of_volume * n
  pub free : s.free ≤ most_of_volume * n
  pub waste : s.waste ≤ most_of_volume * n
  pub seen : s.seen ≡ n

-- proved in `proofs/OrderLaws`
pub record ShelfHolds : Type 0 where
  -- the figures are the sums over the volumes
  pub figures : (vs : List Volume) → length vs ≤ most_volumes → shelve bare vs ≡ total vs
  -- the order makes no difference
  pub order : (xs ys : List Volume) → Rearranged xs ys → length xs ≤ most_volumes → shelve bare xs ≡ shelve bare ys
  -- two shelves add up
  pub two_shelves : (xs ys : List Volume) → length xs + length ys ≤ most_volumes → shelve bare (xs ++ ys) ≡ plus (shelve bare xs) (shelve bare ys)
  -- no sum overflows: how large figures may be, every volume was seen, and the shelf is never outside its rules
  pub bounded : (vs : List Volume) → length vs ≤ most_volumes → Within (length vs) (shelve bare vs)
  pub never_outside : (vs : List Volume) → length vs ≤ most_volumes → is_kept (shelve bare vs) ≡ true
  -- the 65,536th is answered with 47 and leaves the figures before it
  pub one_too_many : (vs : List Volume) (x : Volume) → length vs ≡ most_volumes
      → put (shelve bare vs) x.geometry x.bytes ≡ record { answer = Err Full; shelf = shelve bare vs }
