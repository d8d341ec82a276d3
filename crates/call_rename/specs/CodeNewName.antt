-- The tests of rename's new name that look at the control block alone, as code asks them together: 39, then 45.
use Rattle.std.specs.Prelude.{false, not, List, [], ◌∷◌, ℕ}
use Rattle.disk_volume.specs.Name.{good_name}
use Rattle.call_fcb.specs.Fcb.{new_name}
use Rattle.call_typing.specs.Typing.{typeable}
use Rattle.call_answers.specs.declared.Refusal.TheVariants.{Name, Untypeable}
use Rattle.call_answers.specs.Refusal.{Test, test}

abbrev pub new_name_tests : List ℕ → List Test
new_name_tests fcb =
    test Name (not (good_name false (new_name fcb)))
    ∷ test Untypeable (not (typeable (new_name fcb)))
    ∷ []
