-- The value beside a call's answer fits 16 bits: log-in's does, several records are at most 16, and every other answer has 0.
use mathlib.Core.List.{List, []}
use Prim.Native.Nat.{ℕ, ◌<◌}
use native.Mathlib.Omega.{arith}
use Rattle.disk_geometry.specs.declared.Geometry.{Geometry}
use Rattle.call_answers.specs.Answer.{value_of}
use Rattle.filecalls.specs.declared.Drive.{Drive}
use Rattle.filecalls.specs.Outcome.{Act, deny, done, outcome}
use Rattle.filecalls.specs.Leaves.{read_sequential_leaves, write_sequential_leaves}
use Rattle.several.proofs.SeveralLaws.{done_most}
use Rattle.call_served.specs.declared.Call.{Call}
use Rattle.call_served.specs.declared.Call.TheVariants.{LogIn, Open, Close, SearchFirst, SearchNext, Delete, Make, Rename, Protect, Attributes, User, Size, SetRandom, Moves, Unserved}
use Rattle.call_served.specs.declared.Transfer.TheVariants.{ReadSequential, WriteSequential, ReadRandom, WriteRandom, WriteZeroFill, ReadSeveral, WriteSeveral}
use Rattle.bdos.specs.Step.{carries, does, step}
use Rattle.call_served.specs.Asked.{Asked}
use Rattle.call_served.specs.Calls.{call_of}
use Rattle.seam_words.proofs.ValueLaws.{log_in_value}

-- an act's answer has no value beside it
act_value : (d : Drive) (v f b : List ℕ) (act : Act) → value_of (outcome d v f b act).answer < 65536
unfolding outcome
act_value d v f b (deny why) = omega arith
act_value d v f b (done code change stores f' b') = omega arith

call_value : (g : Geometry) (call : Call) (p : ℕ) (d : Drive) (v f b : List ℕ) → value_of (does g call p d v f b).answer < 65536
unfolding does carries
call_value g LogIn p d v f b = log_in_value g v
call_value g Open p d v f b = act_value d v f [] _
call_value g Close p d v f b = act_value d v f [] _
call_value g SearchFirst p d v f b = act_value d v f b _
call_value g SearchNext p d v f b = act_value d v [] b _
call_value g Delete p d v f b = act_value d v f [] _
call_value g (Moves ReadSequential) p d v f b = act_value d v f b _
call_value g (Moves WriteSequential) p d v f b = act_value d v f b _
call_value g Make p d v f b = act_value d v f [] _
call_value g Rename p d v f b = act_value d v f [] _
call_value g Protect p d v f b = act_value d [] [] [] _
call_value g Attributes p d v f b = act_value d v f [] _
call_value g User p d v f b = act_value d [] [] [] _
call_value g (Moves ReadRandom) p d v f b = act_value d v f b _
call_value g (Moves WriteRandom) p d v f b = act_value d v f b _
call_value g Size p d v f b = act_value d v f [] _
call_value g SetRandom p d v f b = act_value d [] f [] _
call_value g (Moves WriteZeroFill) p d v f b = act_value d v f b _
call_value g (Moves ReadSeveral) p d v f b = omega (arith, done_most read_sequential_leaves d v f b p)
call_value g (Moves WriteSeveral) p d v f b = omega (arith, done_most write_sequential_leaves d v f b p)
call_value g Unserved p d v f b = act_value d v f b _

pub step_value : (g : Geometry) (c : Asked) (d : Drive) (v : List ℕ) → value_of (step g c d v).answer < 65536
unfolding step
step_value g c d v = call_value g (call_of c.function) c.parameter d v c.fcb c.buffer
