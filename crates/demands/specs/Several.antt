-- Several records a call, at the door: "It equals k single calls in order, stopping at the first refused one." Function 220 is
-- function 20, and 221 is 21, done once for each record with what the last one left; whatever parameter the single calls are
-- given, they look at none.
use Rattle.std.specs.Prelude.{◌≡◌, List, ℕ}
use Rattle.disk_geometry.specs.declared.Geometry.{Geometry}
use Rattle.filecalls.specs.declared.Drive.{Drive}
use Rattle.several.specs.Several.{Single, several}
use Rattle.bdos.specs.Step.{step}
use Rattle.call_served.specs.Asked.{asked}

-- the call of this number at the door, as a single call
abbrev pub at_door : Geometry → ℕ → ℕ → Single
at_door g n p d v fcb b = step g (asked n p fcb b) d v

pub record EqualsSingles : Type 0 where
  pub reads : (g : Geometry) (p k : ℕ) (d : Drive) (v fcb b : List ℕ) → step g (asked 220 k fcb b) d v ≡ several (at_door g 20 p) d v fcb b k
  pub writes : (g : Geometry) (p k : ℕ) (d : Drive) (v fcb b : List ℕ) → step g (asked 221 k fcb b) d v ≡ several (at_door g 21 p) d v fcb b k
