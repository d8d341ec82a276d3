-- How a call goes through the door, by the calls that it is done by: it logs in, it asks of state and volume, or it changes the
-- volume; not for the reader of the paper.
use Rattle.std.specs.Prelude.{Bool, true, false}
use Rattle.call_served.specs.declared.Call.{Call}
use Rattle.call_served.specs.declared.Call.TheVariants.{LogIn, Open, Close, SearchFirst, SearchNext, Delete, Make, Rename, Protect, Attributes, User, Size, SetRandom, Moves, Unserved}
use Rattle.call_served.specs.declared.Transfer.{Transfer}
use Rattle.call_served.specs.declared.Transfer.TheVariants.{ReadSequential, WriteSequential, ReadRandom, WriteRandom, WriteZeroFill, ReadSeveral, WriteSeveral}
use Rattle.bdos.specs.declared.Way.{Way}
use Rattle.bdos.specs.declared.Way.TheVariants.{LogsIn, Asks, Changes}

abbrev pub way_moved : Transfer → Way
way_moved ReadSequential = Asks
way_moved WriteSequential = Changes
way_moved ReadRandom = Asks
way_moved WriteRandom = Changes
way_moved WriteZeroFill = Changes
way_moved ReadSeveral = Asks
way_moved WriteSeveral = Changes

-- a number that is not served changes nothing
abbrev pub way_of : Call → Way
way_of LogIn = LogsIn
way_of Open = Asks
way_of Close = Asks
way_of SearchFirst = Asks
way_of SearchNext = Asks
way_of Delete = Changes
way_of Make = Changes
way_of Rename = Changes
way_of Protect = Asks
way_of Attributes = Changes
way_of User = Asks
way_of Size = Asks
way_of SetRandom = Asks
way_of (Moves t) = way_moved t
way_of Unserved = Asks

abbrev pub asks : Way → Bool
asks LogsIn = false
asks Asks = true
asks Changes = false

abbrev pub changes : Way → Bool
changes LogsIn = false
changes Asks = false
changes Changes = true

abbrev pub logs : Way → Bool
logs LogsIn = true
logs Asks = false
logs Changes = false
