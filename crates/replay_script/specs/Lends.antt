-- Which numbers are served, and what their calls are lent: "log-in, user and 28 no control block; only search, reads and
-- writes .. a transfer buffer", 40 among them; next is "lent no control block".
use Rattle.std.specs.Prelude.{Bool, true, false}
use Rattle.call_served.specs.declared.Call.{Call}
use Rattle.call_served.specs.declared.Call.TheVariants.{LogIn, Open, Close, SearchFirst, SearchNext, Delete, Make, Rename, Protect, Attributes, User, Size, SetRandom, Moves, Unserved}

abbrev pub is_served : Call → Bool
is_served LogIn = true
is_served Open = true
is_served Close = true
is_served SearchFirst = true
is_served SearchNext = true
is_served Delete = true
is_served Make = true
is_served Rename = true
is_served Protect = true
is_served Attributes = true
is_served User = true
is_served Size = true
is_served SetRandom = true
is_served (Moves t) = true
is_served Unserved = false

abbrev pub lends_fcb : Call → Bool
lends_fcb LogIn = false
lends_fcb Open = true
lends_fcb Close = true
lends_fcb SearchFirst = true
lends_fcb SearchNext = false
lends_fcb Delete = true
lends_fcb Make = true
lends_fcb Rename = true
lends_fcb Protect = false
lends_fcb Attributes = true
lends_fcb User = false
lends_fcb Size = true
lends_fcb SetRandom = true
lends_fcb (Moves t) = true
lends_fcb Unserved = false

abbrev pub lends_buffer : Call → Bool
lends_buffer LogIn = false
lends_buffer Open = false
lends_buffer Close = false
lends_buffer SearchFirst = true
lends_buffer SearchNext = true
lends_buffer Delete = false
lends_buffer Make = false
lends_buffer Rename = false
lends_buffer Protect = false
lends_buffer Attributes = false
lends_buffer User = false
lends_buffer Size = false
lends_buffer SetRandom = false
lends_buffer (Moves t) = true
lends_buffer Unserved = false
