-- What `churawel_shelf` leaves, for every input: its answer as one number, and every lent byte; and that the shelf's bytes carry
-- the figures from volume to volume.
use Rattle.std.specs.Prelude.{◌≡◌, cond, List, [], ◌∷◌, ℕ, ◌+◌, ◌*◌, ◌≤◌, eqb, length, replicate, Result, Err}
use Rattle.disk_geometry.specs.declared.Geometry.{Geometry}
use Rattle.shelf_figures.specs.declared.ShelfRefusal.{ShelfRefusal}
use Rattle.shelf_figures.specs.declared.ShelfRefusal.TheVariants.{Outside}
use Rattle.shelf_figures.specs.declared.Added.{Added}
use Rattle.shelf_figures.specs.Shelf.{bare, shelved_number, shelved_value, most_volumes, put}
use Rattle.shelf_figures.specs.Order.{Volume, shelve}
use Rattle.shelf_bytes.specs.Layout.{shelf_bytes, encoded, decoded}

-- the number in the low 16 bits, "what log-in answered" in the high 16
unfoldable pub shelved_answer : Result ℕ ShelfRefusal → ℕ
shelved_answer a = shelved_number a + 65536 * shelved_value a

-- the answer, and the bytes of shelf and volume
pub record ShelfSealed : Type 0 where
  pub answer : ℕ
  pub shelf : List ℕ
  pub volume : List ℕ

abbrev pub shelf_sealed : ℕ → List ℕ → List ℕ → ShelfSealed
shelf_sealed r b v = record { answer = r; shelf = b; volume = v }

-- the bytes afterwards: those of a shelf that did not count the volume stay
unfoldable pub shelved_in : Added → List ℕ → List ℕ
shelved_in r b = cond (eqb (shelved_number r.answer) 0) (encoded r.shelf) b

-- by geometry, and the bytes of volume and shelf; "32 for a shelf that is not 64 bytes"
unfoldable pub shelf_at_seam : Geometry → List ℕ → List ℕ → ShelfSealed
shelf_at_seam g v b =
    cond (eqb (length b) shelf_bytes)
    (shelf_sealed (shelved_answer (put (decoded b) g v).answer) (shelved_in (put (decoded b) g v) b) v)
    (shelf_sealed (shelved_answer (Err Outside)) b v)

-- the bytes after one volume and another
unfoldable pub shelve_bytes : List ℕ → List Volume → List ℕ
shelve_bytes b [] = b
shelve_bytes b (x ∷ xs) = shelve_bytes (shelf_at_seam x.geometry x.bytes b).shelf xs

-- "64 zero bytes are an empty shelf", and after up to 65,535 volumes the bytes are those of the shelf that has them
abbrev pub ShelfFaithful : Type 0
ShelfFaithful = (vs : List Volume) → length vs ≤ most_volumes → shelve_bytes (replicate shelf_bytes 0) vs ≡ encoded (shelve bare vs)
