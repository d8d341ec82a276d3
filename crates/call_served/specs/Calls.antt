-- The calls that are served, and their numbers.
-- "Log-in (functions 13 and 37), 15 open, 16 close, 17 and 18 search, 19 delete, 20 and 21 sequential read and write, 22
-- make, 23 rename, 28 write protect, 30 attributes, 32 user, 33 and 34 random read and write, 35 size, 36 set random
-- record, 40 .. One drive." Function 40 is "WRITE RANDOM WITH ZERO FILL" (000, 5.4.2.26). The forms with several records have
-- the numbers 220 (read) and 221 (write), and the number of records as their parameter.
use Rattle.std.specs.Prelude.{cond, ◌||◌, ℕ, eqb}
use Rattle.call_served.specs.declared.Call.{Call}
use Rattle.call_served.specs.declared.Call.TheVariants.{LogIn, Open, Close, SearchFirst, SearchNext, Delete, Make, Rename, Protect, Attributes, User, Size, SetRandom, Moves, Unserved}
use Rattle.call_served.specs.declared.Transfer.TheVariants.{ReadSequential, WriteSequential, ReadRandom, WriteRandom, WriteZeroFill, ReadSeveral, WriteSeveral}

-- the call of a function's number
unfoldable pub call_of : ℕ → Call
call_of n =
    cond (eqb n 13 || eqb n 37) LogIn
    (cond (eqb n 15) Open
    (cond (eqb n 16) Close
    (cond (eqb n 17) SearchFirst
    (cond (eqb n 18) SearchNext
    (cond (eqb n 19) Delete
    (cond (eqb n 20) (Moves ReadSequential)
    (cond (eqb n 21) (Moves WriteSequential)
    (cond (eqb n 22) Make
    (cond (eqb n 23) Rename
    (cond (eqb n 28) Protect
    (cond (eqb n 30) Attributes
    (cond (eqb n 32) User
    (cond (eqb n 33) (Moves ReadRandom)
    (cond (eqb n 34) (Moves WriteRandom)
    (cond (eqb n 35) Size
    (cond (eqb n 36) SetRandom
    (cond (eqb n 40) (Moves WriteZeroFill)
    (cond (eqb n 220) (Moves ReadSeveral)
    (cond (eqb n 221) (Moves WriteSeveral)
    Unserved)))))))))))))))))))
