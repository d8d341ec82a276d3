-- One door: the function's number, its parameter and what is lent decide the call; `step` is all that it leaves.
use Rattle.std.specs.Prelude.{List, ℕ}
use Rattle.disk_geometry.specs.declared.Geometry.{Geometry}
use Rattle.call_answers.specs.declared.Refusal.TheVariants.{NotServed}
use Rattle.call_served.specs.declared.Call.{Call}
use Rattle.call_served.specs.declared.Call.TheVariants.{LogIn, Open, Close, SearchFirst, SearchNext, Delete, Make, Rename, Protect, Attributes, User, Size, SetRandom, Moves, Unserved}
use Rattle.call_served.specs.declared.Transfer.{Transfer}
use Rattle.call_served.specs.declared.Transfer.TheVariants.{ReadSequential, WriteSequential, ReadRandom, WriteRandom, WriteZeroFill, ReadSeveral, WriteSeveral}
use Rattle.call_served.specs.Calls.{call_of}
use Rattle.call_served.specs.Asked.{Asked}
use Rattle.filecalls.specs.declared.Drive.{Drive}
use Rattle.filecalls.specs.Outcome.{deny, Outcome, outcome, left}
use Rattle.filecalls.specs.LogIn.{log_in}
use Rattle.filecalls.specs.Leaves.{open_leaves, close_leaves, size_leaves, delete_leaves, make_leaves, rename_leaves, attributes_leave, search_first_leaves, search_next_leaves, read_sequential_leaves, read_random_leaves, write_sequential_leaves, write_random_leaves, write_zero_fill_leaves, protect_leaves, user_leaves, set_random_leaves}
use Rattle.several.specs.Several.{several}

-- what a call is not lent stays as it is
abbrev pub keeps_buffer : List ℕ → Outcome → Outcome
keeps_buffer b o = record { answer = o.answer; drive = o.drive; volume = o.volume; fcb = o.fcb; buffer = b }

abbrev pub keeps_fcb : List ℕ → Outcome → Outcome
keeps_fcb fcb o = record { answer = o.answer; drive = o.drive; volume = o.volume; fcb = fcb; buffer = o.buffer }

abbrev pub keeps_volume : List ℕ → Outcome → Outcome
keeps_volume v o = record { answer = o.answer; drive = o.drive; volume = v; fcb = o.fcb; buffer = o.buffer }

-- a call that moves records, its parameter, state, volume, control block and buffer: all that is left
unfoldable pub carries : Transfer → ℕ → Drive → List ℕ → List ℕ → List ℕ → Outcome
carries ReadSequential p d v fcb b = read_sequential_leaves d v fcb b
carries WriteSequential p d v fcb b = write_sequential_leaves d v fcb b
carries ReadRandom p d v fcb b = read_random_leaves d v fcb b
carries WriteRandom p d v fcb b = write_random_leaves d v fcb b
carries WriteZeroFill p d v fcb b = write_zero_fill_leaves d v fcb b
carries ReadSeveral p d v fcb b = several read_sequential_leaves d v fcb b p
carries WriteSeveral p d v fcb b = several write_sequential_leaves d v fcb b p

-- the call, the parameter, state, volume, control block and buffer: all that is left
unfoldable pub does : Geometry → Call → ℕ → Drive → List ℕ → List ℕ → List ℕ → Outcome
does g LogIn p d v fcb b = left (log_in g v) v fcb b
does g Open p d v fcb b = keeps_buffer b (open_leaves d v fcb)
does g Close p d v fcb b = keeps_buffer b (close_leaves d v fcb)
does g SearchFirst p d v fcb b = search_first_leaves d v fcb b
does g SearchNext p d v fcb b = keeps_fcb fcb (search_next_leaves d v b)
does g Delete p d v fcb b = keeps_buffer b (delete_leaves d v fcb)
does g Make p d v fcb b = keeps_buffer b (make_leaves d v fcb)
does g Rename p d v fcb b = keeps_buffer b (rename_leaves d v fcb)
does g Protect p d v fcb b = keeps_volume v (keeps_fcb fcb (keeps_buffer b (protect_leaves d)))
does g Attributes p d v fcb b = keeps_buffer b (attributes_leave d v fcb)
does g User p d v fcb b = keeps_volume v (keeps_fcb fcb (keeps_buffer b (user_leaves d p)))
does g Size p d v fcb b = keeps_buffer b (size_leaves d v fcb)
does g SetRandom p d v fcb b = keeps_volume v (keeps_buffer b (set_random_leaves d fcb))
does g (Moves t) p d v fcb b = carries t p d v fcb b
does g Unserved p d v fcb b = outcome d v fcb b (deny NotServed)

-- the drive's geometry is that of its log-in
unfoldable pub step : Geometry → Asked → Drive → List ℕ → Outcome
step g c d v = does g (call_of c.function) c.parameter d v c.fcb c.buffer
