-- Make: "the lowest empty slot gets user, name without top bits, all else 0".
use Rattle.std.specs.Prelude.{List, [], ◌∷◌, ◌++◌, ℕ, ◌-◌, leb, ltb, replicate}
use Rattle.disk_geometry.specs.declared.Geometry.{Geometry}
use Rattle.disk_volume.specs.declared.Wanted.TheVariants.{Empty, File}
use Rattle.disk_geometry.specs.Geometry.{slots, entry_bytes}
use Rattle.disk_volume.specs.Fields.{EX}
use Rattle.disk_volume.specs.Entry.{Entry}
use Rattle.disk_volume.specs.Directory.{find_slot}
use Rattle.call_answers.specs.declared.Refusal.TheVariants.{Exists, NoRoom}
use Rattle.call_answers.specs.Refusal.{Test, test}

unfoldable pub make_tests : Geometry → List ℕ → ℕ → List ℕ → List Test
make_tests g v u name =
    test Exists (ltb (find_slot g v u name File) (slots g))
    ∷ test NoRoom (leb (slots g) (find_slot g v u name Empty))
    ∷ []

unfoldable pub fresh_entry : ℕ → List ℕ → Entry
fresh_entry u name = (u ∷ name) ++ replicate (entry_bytes - EX) 0
