-- The tests of make that look at the control block alone, as code asks them together: 45, then 40 ("make: ex not 0").
use Rattle.std.specs.Prelude.{not, List, [], ◌∷◌, ℕ, eqb}
use Rattle.lists.specs.Bytes.{byte}
use Rattle.disk_volume.specs.Fields.{EX}
use Rattle.disk_volume.specs.Name.{name_of}
use Rattle.call_typing.specs.Typing.{typeable}
use Rattle.call_answers.specs.declared.Refusal.TheVariants.{Untypeable, Position}
use Rattle.call_answers.specs.Refusal.{Test, test}

abbrev pub new_file_tests : List ℕ → List Test
new_file_tests fcb =
    test Untypeable (not (typeable (name_of fcb)))
    ∷ test Position (not (eqb (byte fcb EX) 0))
    ∷ []
