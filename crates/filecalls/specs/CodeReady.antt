-- What code may rely on once the tests of what is lent have passed; not for the reader of the paper.
use Rattle.std.specs.Prelude.{◌≡◌, true, ℕ, ◌≤◌}
use Rattle.disk_geometry.specs.Geometry.{lawful, bytes, record_bytes}
use Rattle.call_fcb.specs.Fcb.{fcb_bytes}
use Rattle.filecalls.specs.declared.Drive.{Drive}
use Rattle.filecalls.specs.State.{good_search}

-- an open state
pub record OpenState (d : Drive) : Type 0 where
  pub law : lawful d.geometry ≡ true
  pub user15 : d.user ≤ 15
  pub kept : good_search d ≡ true

-- an open state, and lengths that are right
pub record Lent (d : Drive) (v f b : ℕ) : Type 0 where
  pub state : OpenState d
  pub volume : v ≡ bytes d.geometry
  pub fcb : f ≡ fcb_bytes
  pub buffer : b ≡ record_bytes
