-- "a number that is not served": 31, and nothing changes, whatever is lent and whatever the state.
use mathlib.Core.Path.{◌≡◌, refl}
use mathlib.Core.List.{List}
use Prim.Native.Nat.{ℕ}
use Rattle.disk_geometry.specs.declared.Geometry.{Geometry}
use Rattle.call_answers.specs.declared.Refusal.TheVariants.{NotServed}
use Rattle.call_answers.specs.declared.Answer.TheVariants.{Refused}
use Rattle.call_answers.specs.Answer.{number_of}
use Rattle.call_served.specs.Calls.{call_of}
use Rattle.call_served.specs.Asked.{asked}
use Rattle.filecalls.specs.declared.Drive.{Drive}
use Rattle.filecalls.specs.Outcome.{outcome}
use Rattle.bdos.specs.Step.{does, step}

-- function 14, which selects a drive, is the emulator's
pub not_served : (g : Geometry) (p : ℕ) (d : Drive) (v fcb b : List ℕ)
    → step g (asked 14 p fcb b) d v ≡ record { answer = Refused NotServed; drive = d; volume = v; fcb = fcb; buffer = b }
unfolding step does call_of outcome
not_served g p d v fcb b = refl

pub number_31 : number_of (Refused NotServed) ≡ 31
number_31 = refl
