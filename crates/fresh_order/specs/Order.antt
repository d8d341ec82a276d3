-- The order in which a fresh disk has the entries of a worn one, request (xiv): "Files go by their lowest slot, a file's entries by
-- rising extent". An entry is named by the slot that it has on the worn disk.
use Rattle.std.specs.Prelude.{Bool, cond, ◌&&◌, ◌||◌, List, [], ◌∷◌, ℕ, ltb, eqb}
use Rattle.lists.specs.Bounded.{fold}
use Rattle.lists.specs.Bytes.{byte}
use Rattle.disk_geometry.specs.declared.Geometry.{Geometry}
use Rattle.disk_volume.specs.declared.Wanted.TheVariants.{File}
use Rattle.disk_geometry.specs.Geometry.{slots}
use Rattle.disk_volume.specs.Fields.{USER}
use Rattle.disk_volume.specs.Name.{name_of}
use Rattle.disk_volume.specs.Entry.{is_empty, extent}
use Rattle.disk_volume.specs.Directory.{slot_at, find_slot}

-- the lowest slot of the file that has the entry in slot i
unfoldable pub file_slot : Geometry → List ℕ → ℕ → ℕ
file_slot g v i = find_slot g v (byte (slot_at g v i) USER) (name_of (slot_at g v i)) File

-- the entry in slot i goes before that in slot j
unfoldable pub goes_before : Geometry → List ℕ → ℕ → ℕ → Bool
goes_before g v i j =
    ltb (file_slot g v i) (file_slot g v j)
    || (eqb (file_slot g v i) (file_slot g v j) && ltb (extent (slot_at g v i)) (extent (slot_at g v j)))

-- x put into a list before the first number that passes, behind them all where none does
unfoldable pub put_before : (ℕ → Bool) → List ℕ → ℕ → List ℕ
put_before p [] x = x ∷ []
put_before p (y ∷ l) x = let rest = put_before p l x in cond (p y) (x ∷ y ∷ l) (y ∷ rest)

-- slot i put into slots that are in order, unless it is empty; all slots that are not empty, in order
unfoldable pub enter : Geometry → List ℕ → List ℕ → ℕ → List ℕ
enter g v l i = let more = put_before (goes_before g v i) l i in cond (is_empty (slot_at g v i)) l more

unfoldable pub order : Geometry → List ℕ → List ℕ
order g v = fold (enter g v) [] 0 (slots g)
