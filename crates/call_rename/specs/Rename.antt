-- Rename and attributes: the tests that look at the directory.
use Rattle.std.specs.Prelude.{List, [], ◌∷◌, ℕ, leb, ltb}
use Rattle.disk_geometry.specs.declared.Geometry.{Geometry}
use Rattle.disk_volume.specs.declared.Wanted.TheVariants.{File, ReadOnlyFile}
use Rattle.disk_geometry.specs.Geometry.{slots}
use Rattle.disk_volume.specs.Directory.{find_slot}
use Rattle.call_answers.specs.declared.Refusal.TheVariants.{NoMatch, ReadOnly, Exists}
use Rattle.call_answers.specs.Refusal.{Test, test}

unfoldable pub rename_tests : Geometry → List ℕ → ℕ → List ℕ → List ℕ → List Test
rename_tests g v u name new =
    test NoMatch (leb (slots g) (find_slot g v u name File))
    ∷ test ReadOnly (ltb (find_slot g v u name ReadOnlyFile) (slots g))
    ∷ test Exists (ltb (find_slot g v u new File) (slots g))
    ∷ []

abbrev pub attribute_tests : Geometry → List ℕ → ℕ → List ℕ → List Test
attribute_tests g v u name = test NoMatch (leb (slots g) (find_slot g v u name File)) ∷ []
