-- "Numbers of refusal, in order of test": each case of the enum with the paper's number, and the ladder of tests.
use Rattle.std.specs.Prelude.{Bool, cond, List, [], ◌∷◌, ℕ, eqb}
use Rattle.call_answers.specs.declared.Refusal.{Refusal}
use Rattle.call_answers.specs.declared.Refusal.TheVariants.{None, NotServed, Closed, VolumeLength, FcbLength, BadCount, BufferLength, DriveCode, UserCode, Name, Untypeable, Position, Beyond, BadSlot, Protected, NoMatch, NoFile, ReadOnly, Exists, NoGroup, Absent, Outside, NoSlot, NoRoom, NoBlock}

abbrev pub refusal_number : Refusal → ℕ
refusal_number None = 0
-- a function that is not served: 01 gives it no number
refusal_number NotServed = 31
-- geometry outside the rules, or (not log-in) closed state
refusal_number Closed = 32
-- length of volume; control block not 36
refusal_number VolumeLength = 33
refusal_number FcbLength = 34
-- a number of records outside 1..16
refusal_number BadCount = 46
-- transfer buffer not 128, not 128k for k records
refusal_number BufferLength = 35
-- dr not 0 or 1 (search: 63 also)
refusal_number DriveCode = 42
-- user 16..254
refusal_number UserCode = 44
-- a name outside the inspection's byte rule
refusal_number Name = 39
-- make, rename: a (new) name that can't be typed
refusal_number Untypeable = 45
-- ex, s2 or cr too large where used
refusal_number Position = 40
-- random: r2 not 0; sequential reads and writes: position 65,536
refusal_number Beyond = 6
-- log-in only: a slot is bad
refusal_number BadSlot = 36
-- protected
refusal_number Protected = 37
-- no match
refusal_number NoMatch = 255
-- reads, writes: user has no entry of that name
refusal_number NoFile = 3
-- an entry is read-only
refusal_number ReadOnly = 38
-- the (new) name exists
refusal_number Exists = 43
-- random read: group has no entry
refusal_number NoGroup = 4
-- reads: record not present
refusal_number Absent = 1
-- the map place is not 0 and below D or beyond T-1
refusal_number Outside = 41
-- writes: a group is missing and no slot is empty
refusal_number NoSlot = 5
-- "make answers 255 here"
refusal_number NoRoom = 255
-- writes: a block is needed and none is free
refusal_number NoBlock = 2

abbrev pub is_none : Refusal → Bool
is_none why = eqb (refusal_number why) 0

-- one test: why the call is refused, and whether the test is met
pub record Test : Type 0 where
  pub why : Refusal
  pub met : Bool

abbrev pub test : Refusal → Bool → Test
test why met = record { why = why; met = met }

abbrev pub refusing : Refusal → Bool → Refusal
refusing why met = cond met why None

-- "A refusal .. alters no lent byte": the new bytes where there is no refusal, else the old ones
abbrev pub unless_refused : Refusal → List ℕ → List ℕ → List ℕ
unless_refused why new old = cond (is_none why) new old

-- the first of two refusals
abbrev pub first : Refusal → Refusal → Refusal
first a b = cond (is_none a) b a

-- a ladder of tests: the refusal of the first that is met, None where none is
unfoldable pub first_met : List Test → Refusal
first_met [] = None
first_met (t ∷ ts) = let rest = first_met ts in first (refusing t.why t.met) rest
