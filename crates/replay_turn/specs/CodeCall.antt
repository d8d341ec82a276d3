-- What the code that does a call leaves, the call's head having been read.
use Rattle.std.specs.Prelude.{List, ℕ}
use Rattle.disk_geometry.specs.declared.Geometry.{Geometry}
use Rattle.filecalls.specs.declared.Drive.{Drive}
use Rattle.text.specs.Text.{Text}
use Rattle.replay_script.specs.declared.Head.{Head}
use Rattle.replay_script.specs.declared.Next.TheVariants.{Call}
use Rattle.replay_script.specs.Script.{lent_by}
use Rattle.replay_turn.specs.Play.{called, After, after_by}

abbrev pub after_call : Geometry → Head → List ℕ → Drive → List ℕ → Text → After
after_call g h s d v t = after_by (Call h) s d v t (called g (lent_by h s) d v t)
