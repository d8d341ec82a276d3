-- The calls that look at no volume: write protect (28), user (32), set random record (36).
use Rattle.std.specs.Prelude.{cond, ◌&&◌, List, [], ◌∷◌, ℕ, ltb, eqb}
use Rattle.call_fcb.specs.Fcb.{position, position_fits, with_random}
use Rattle.call_answers.specs.declared.Refusal.TheVariants.{UserCode}
use Rattle.call_answers.specs.Refusal.{Test, test}
use Rattle.filecalls.specs.declared.Drive.{Drive}
use Rattle.filecalls.specs.Tests.{closed_state, fcb_length, drive_code, too_large}
use Rattle.filecalls.specs.Outcome.{keeps, protects, becomes, Act, done, unless}

-- "protects until the next log-in"
unfoldable pub protect_tests : Drive → List Test
protect_tests d = closed_state d ∷ []

unfoldable pub protect_act : Drive → Act
protect_act d = unless (protect_tests d) (done 0 protects [] [] [])

-- "0..15 sets, answer 0; 255 answers the current code"
unfoldable pub user_tests : Drive → ℕ → List Test
user_tests d code = closed_state d ∷ test UserCode (ltb 15 code && ltb code 255) ∷ []

unfoldable pub user_act : Drive → ℕ → Act
user_act d code =
    unless (user_tests d code) (cond (eqb code 255) (done d.user keeps [] [] []) (done 0 (becomes code) [] [] []))

-- "the sequential position in r0 r1 r2"
unfoldable pub set_random_tests : Drive → List ℕ → List Test
set_random_tests d fcb = closed_state d ∷ fcb_length fcb ∷ drive_code fcb ∷ too_large (position_fits fcb) ∷ []

unfoldable pub set_random_act : Drive → List ℕ → Act
set_random_act d fcb = unless (set_random_tests d fcb) (done 0 keeps [] (with_random fcb (position fcb)) [])
