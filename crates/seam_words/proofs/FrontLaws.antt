-- Whether the state in the drive's bytes is open: code asks that of its front.
use mathlib.Core.Path.{◌≡◌, ap, ◌∙◌}
use mathlib.Core.Bool.{Bool}
use mathlib.Core.List.{List}
use Prim.Native.Nat.{ℕ}
use Rattle.filecalls.specs.declared.Drive.{Drive}
use Rattle.filecalls.specs.declared.Front.{Front}
use Rattle.filecalls.specs.CodeFront.{front_of, joined}
use Rattle.filecalls.specs.State.{is_open}

-- the state d is open, as code asks it of its front w
pub front_open : (d : Drive) {w : Front} {t : Bool} → w ≡ front_of d → ((held : List ℕ) → t ≡ is_open (joined w held)) → t ≡ is_open d
front_open d is asks = asks d.held ∙ ap (λ (x : Front). is_open (joined x d.held)) is
