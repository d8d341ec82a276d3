-- "Log-in (functions 13 and 37), 15 open, 16 close, 17 and 18 search, 19 delete, 20 and 21 sequential read and write, 22 make, 23
-- rename, 28 write protect, 30 attributes, 32 user, 33 and 34 random read and write, 35 size, 36 set random record, 40", and 220
-- and 221 of the requests: each number with its call, and no other number below 256 is served.
use mathlib.Core.Path.{◌≡◌, refl}
use mathlib.Core.Bool.{Bool, true, false}
use mathlib.Core.List.{List, [], ◌∷◌, map}
use Prim.Native.Nat.{ℕ}
use Rattle.lists.specs.Bounded.{count_from}
use Rattle.call_served.specs.declared.Call.{Call}
use Rattle.call_served.specs.declared.Call.TheVariants.{LogIn, Open, Close, SearchFirst, SearchNext, Delete, Make, Rename, Protect, Attributes, User, Size, SetRandom, Moves, Unserved}
use Rattle.call_served.specs.declared.Transfer.TheVariants.{ReadSequential, WriteSequential, ReadRandom, WriteRandom, WriteZeroFill, ReadSeveral, WriteSeveral}
use Rattle.call_served.specs.Calls.{call_of}

abbrev pub numbers : List ℕ
numbers = 13 ∷ 37 ∷ 15 ∷ 16 ∷ 17 ∷ 18 ∷ 19 ∷ 20 ∷ 21 ∷ 22 ∷ 23 ∷ 28 ∷ 30 ∷ 32 ∷ 33 ∷ 34 ∷ 35 ∷ 36 ∷ 40 ∷ 220 ∷ 221 ∷ []

abbrev pub calls : List Call
calls =
    LogIn ∷ LogIn ∷ Open ∷ Close ∷ SearchFirst ∷ SearchNext ∷ Delete
    ∷ Moves ReadSequential ∷ Moves WriteSequential ∷ Make ∷ Rename ∷ Protect ∷ Attributes ∷ User
    ∷ Moves ReadRandom ∷ Moves WriteRandom ∷ Size ∷ SetRandom ∷ Moves WriteZeroFill
    ∷ Moves ReadSeveral ∷ Moves WriteSeveral ∷ []

pub each_number : map call_of numbers ≡ calls
unfolding call_of
each_number = refl

-- of the numbers below 256 these 21 are served
abbrev pub served : Call → Bool
served Unserved = false
served LogIn = true
served Open = true
served Close = true
served SearchFirst = true
served SearchNext = true
served Delete = true
served Make = true
served Rename = true
served Protect = true
served Attributes = true
served User = true
served Size = true
served SetRandom = true
served (Moves t) = true

pub no_other : count_from (λ n. served (call_of n)) 0 256 ≡ 21
unfolding call_of count_from
no_other = refl
