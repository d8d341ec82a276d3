-- "Numbers of refusal, in order of test": the paper's table as one list, the tests of every call, and what each call may
-- answer.
use Rattle.std.specs.Prelude.{Bool, true, false, cond, ◌||◌, List, [], ◌∷◌, ◌++◌, ℕ, ltb, eqb}
use Rattle.disk_geometry.specs.declared.Geometry.{Geometry}
use Rattle.disk_volume.specs.Name.{name_of}
use Rattle.call_fcb.specs.Fcb.{position, position_fits, random}
use Rattle.call_answers.specs.declared.Refusal.{Refusal}
use Rattle.call_answers.specs.declared.Refusal.TheVariants.{None, NotServed, Closed, VolumeLength, FcbLength, BadCount, BufferLength, DriveCode, UserCode, Name, Untypeable, Position, Beyond, BadSlot, Protected, NoMatch, NoFile, ReadOnly, Exists, NoGroup, Absent, Outside, NoSlot, NoRoom, NoBlock}
use Rattle.call_answers.specs.Refusal.{refusal_number, Test, test}
use Rattle.call_read.specs.Read.{read_tests}
use Rattle.filecalls.specs.declared.Drive.{Drive}
use Rattle.filecalls.specs.Tests.{drive_code, bad_name, too_large, beyond}
use Rattle.filecalls.specs.LogIn.{log_in_tests}
use Rattle.filecalls.specs.Open.{open_tests, close_tests, size_tests}
use Rattle.filecalls.specs.Search.{first_tests, next_tests}
use Rattle.filecalls.specs.Names.{delete_ladder, make_ladder, rename_ladder, attributes_ladder}
use Rattle.filecalls.specs.Read.{sequential_tests, random_tests}
use Rattle.filecalls.specs.Write.{directory_tests}
use Rattle.filecalls.specs.Small.{protect_tests, user_tests, set_random_tests}
use Rattle.several.specs.Several.{several_tests}
use Rattle.call_served.specs.declared.Call.{Call}
use Rattle.call_served.specs.declared.Call.TheVariants.{LogIn, Open, Close, SearchFirst, SearchNext, Delete, Make, Rename, Protect, Attributes, User, Size, SetRandom, Moves, Unserved}
use Rattle.call_served.specs.declared.Transfer.TheVariants.{ReadSequential, WriteSequential, ReadRandom, WriteRandom, WriteZeroFill, ReadSeveral, WriteSeveral}

-- the paper's table from top to bottom, 46 "straight before 35" and 45 "straight after 39"; "5 .. make answers 255 here" is two
-- cases of one row
abbrev pub paper_table : List Refusal
paper_table =
    Closed ∷ VolumeLength ∷ FcbLength ∷ BadCount ∷ BufferLength ∷ DriveCode ∷ UserCode ∷ Name ∷ Untypeable ∷ Position ∷ Beyond
    ∷ BadSlot ∷ Protected ∷ NoMatch ∷ NoFile ∷ ReadOnly ∷ Exists ∷ NoGroup ∷ Absent ∷ Outside ∷ NoSlot ∷ NoRoom ∷ NoBlock ∷ []

-- the numbers of refusals, and those that tests give
abbrev pub numbers_of : List Refusal → List ℕ
numbers_of [] = []
numbers_of (w ∷ ws) = refusal_number w ∷ numbers_of ws

abbrev pub reasons : List Test → List Refusal
reasons [] = []
reasons (t ∷ ts) = t.why ∷ reasons ts

-- the cases told apart; their numbers don't do it, for 255 is "no match" and also make's "no slot is empty"
abbrev pub case_of : Refusal → ℕ
case_of None = 0
case_of NotServed = 1
case_of Closed = 2
case_of VolumeLength = 3
case_of FcbLength = 4
case_of BadCount = 5
case_of BufferLength = 6
case_of DriveCode = 7
case_of UserCode = 8
case_of Name = 9
case_of Untypeable = 10
case_of Position = 11
case_of Beyond = 12
case_of BadSlot = 13
case_of Protected = 14
case_of NoMatch = 15
case_of NoFile = 16
case_of ReadOnly = 17
case_of Exists = 18
case_of NoGroup = 19
case_of Absent = 20
case_of Outside = 21
case_of NoSlot = 22
case_of NoRoom = 23
case_of NoBlock = 24

-- down the table: the tests at the front that stand in a row are passed (rename tests two names in one row), and at the
-- end none is left
abbrev pub after : Refusal → List Refusal → List Refusal
after row [] = []
after row (w ∷ ws) = let rest = after row ws in cond (eqb (case_of w) (case_of row)) rest (w ∷ ws)

abbrev pub none_left : List Refusal → Bool
none_left [] = true
none_left (w ∷ ws) = false

abbrev pub in_order : List Refusal → List Refusal → Bool
in_order ws [] = none_left ws
in_order ws (row ∷ rows) = in_order (after row ws) rows

-- what a sequential call tests of the control block once what is lent is right
abbrev pub fcb_tests : List ℕ → List Test
fcb_tests fcb = drive_code fcb ∷ bad_name false fcb 1 ∷ too_large (position_fits fcb) ∷ beyond (eqb (position fcb) 65536) ∷ []

-- every call's tests, whatever it is given; those of several records are of the first of them: where one is met none is done
abbrev pub tests_of : Geometry → Call → ℕ → Drive → List ℕ → List ℕ → List ℕ → List Test
tests_of g LogIn p d v fcb b = log_in_tests g v
tests_of g Open p d v fcb b = open_tests d v fcb
tests_of g Close p d v fcb b = close_tests d v fcb
tests_of g SearchFirst p d v fcb b = first_tests d v fcb b
tests_of g SearchNext p d v fcb b = next_tests d v b
tests_of g Delete p d v fcb b = delete_ladder d v fcb
tests_of g (Moves ReadSequential) p d v fcb b = sequential_tests d v fcb b ++ read_tests d.geometry v d.user (name_of fcb) (position fcb) Absent
tests_of g (Moves WriteSequential) p d v fcb b = sequential_tests d v fcb b ++ directory_tests d v fcb (position fcb)
tests_of g Make p d v fcb b = make_ladder d v fcb
tests_of g Rename p d v fcb b = rename_ladder d v fcb
tests_of g Protect p d v fcb b = protect_tests d
tests_of g Attributes p d v fcb b = attributes_ladder d v fcb
tests_of g User p d v fcb b = user_tests d p
tests_of g (Moves ReadRandom) p d v fcb b = random_tests d v fcb b ++ read_tests d.geometry v d.user (name_of fcb) (random fcb) NoGroup
tests_of g (Moves WriteRandom) p d v fcb b = random_tests d v fcb b ++ directory_tests d v fcb (random fcb)
tests_of g Size p d v fcb b = size_tests d v fcb
tests_of g SetRandom p d v fcb b = set_random_tests d fcb
tests_of g (Moves WriteZeroFill) p d v fcb b = random_tests d v fcb b ++ directory_tests d v fcb (random fcb)
tests_of g (Moves ReadSeveral) p d v fcb b = several_tests d v fcb b p ++ (fcb_tests fcb ++ read_tests d.geometry v d.user (name_of fcb) (position fcb) Absent)
tests_of g (Moves WriteSeveral) p d v fcb b = several_tests d v fcb b p ++ (fcb_tests fcb ++ directory_tests d v fcb (position fcb))
tests_of g Unserved p d v fcb b = test NotServed true ∷ []

-- the refusals of every call, as the paper's table gives them
abbrev pub refusals_of : Call → List Refusal
refusals_of LogIn = Closed ∷ VolumeLength ∷ BadSlot ∷ []
refusals_of Open = Closed ∷ VolumeLength ∷ FcbLength ∷ DriveCode ∷ Name ∷ Position ∷ NoMatch ∷ []
refusals_of Close = Closed ∷ VolumeLength ∷ FcbLength ∷ DriveCode ∷ Name ∷ Position ∷ NoMatch ∷ []
refusals_of SearchFirst = Closed ∷ VolumeLength ∷ FcbLength ∷ BufferLength ∷ DriveCode ∷ Name ∷ Position ∷ NoMatch ∷ []
refusals_of SearchNext = Closed ∷ VolumeLength ∷ BufferLength ∷ NoMatch ∷ []
refusals_of Delete = Closed ∷ VolumeLength ∷ FcbLength ∷ DriveCode ∷ Name ∷ Protected ∷ NoMatch ∷ ReadOnly ∷ []
refusals_of (Moves ReadSequential) =
    Closed ∷ VolumeLength ∷ FcbLength ∷ BufferLength ∷ DriveCode ∷ Name ∷ Position ∷ Beyond ∷ NoFile ∷ Absent ∷ Absent ∷ Outside ∷ []
refusals_of (Moves WriteSequential) =
    Closed ∷ VolumeLength ∷ FcbLength ∷ BufferLength ∷ DriveCode ∷ Name ∷ Position ∷ Beyond ∷ Protected ∷ NoFile ∷ ReadOnly ∷ Outside
    ∷ NoSlot ∷ NoBlock ∷ []
refusals_of Make = Closed ∷ VolumeLength ∷ FcbLength ∷ DriveCode ∷ Name ∷ Untypeable ∷ Position ∷ Protected ∷ Exists ∷ NoRoom ∷ []
refusals_of Rename = Closed ∷ VolumeLength ∷ FcbLength ∷ DriveCode ∷ Name ∷ Name ∷ Untypeable ∷ Protected ∷ NoMatch ∷ ReadOnly ∷ Exists ∷ []
refusals_of Protect = Closed ∷ []
refusals_of Attributes = Closed ∷ VolumeLength ∷ FcbLength ∷ DriveCode ∷ Name ∷ Protected ∷ NoMatch ∷ []
refusals_of User = Closed ∷ UserCode ∷ []
refusals_of (Moves ReadRandom) =
    Closed ∷ VolumeLength ∷ FcbLength ∷ BufferLength ∷ DriveCode ∷ Name ∷ Beyond ∷ NoFile ∷ NoGroup ∷ Absent ∷ Outside ∷ []
refusals_of (Moves WriteRandom) =
    Closed ∷ VolumeLength ∷ FcbLength ∷ BufferLength ∷ DriveCode ∷ Name ∷ Beyond ∷ Protected ∷ NoFile ∷ ReadOnly ∷ Outside ∷ NoSlot
    ∷ NoBlock ∷ []
refusals_of Size = Closed ∷ VolumeLength ∷ FcbLength ∷ DriveCode ∷ Name ∷ NoMatch ∷ []
refusals_of SetRandom = Closed ∷ FcbLength ∷ DriveCode ∷ Position ∷ []
refusals_of (Moves WriteZeroFill) =
    Closed ∷ VolumeLength ∷ FcbLength ∷ BufferLength ∷ DriveCode ∷ Name ∷ Beyond ∷ Protected ∷ NoFile ∷ ReadOnly ∷ Outside ∷ NoSlot
    ∷ NoBlock ∷ []
refusals_of (Moves ReadSeveral) =
    Closed ∷ VolumeLength ∷ FcbLength ∷ BadCount ∷ BufferLength ∷ DriveCode ∷ Name ∷ Position ∷ Beyond ∷ NoFile ∷ Absent ∷ Absent ∷ Outside ∷ []
refusals_of (Moves WriteSeveral) =
    Closed ∷ VolumeLength ∷ FcbLength ∷ BadCount ∷ BufferLength ∷ DriveCode ∷ Name ∷ Position ∷ Beyond ∷ Protected ∷ NoFile ∷ ReadOnly
    ∷ Outside ∷ NoSlot ∷ NoBlock ∷ []
refusals_of Unserved = NotServed ∷ []

-- how many codes, from 0 up, it answers with when it succeeds: a slot modulo 4, a user 0..15, or 0 alone
abbrev pub codes_of : Call → ℕ
codes_of LogIn = 1
codes_of Open = 4
codes_of Close = 4
codes_of SearchFirst = 4
codes_of SearchNext = 4
codes_of Delete = 1
codes_of Make = 4
codes_of Rename = 1
codes_of Protect = 1
codes_of Attributes = 1
codes_of User = 16
codes_of Size = 1
codes_of SetRandom = 1
codes_of (Moves t) = 1
codes_of Unserved = 0

-- n is one of the numbers
abbrev pub among : ℕ → List ℕ → Bool
among n [] = false
among n (x ∷ xs) = eqb n x || among n xs

-- the calls of several records
abbrev pub is_several : Call → Bool
is_several LogIn = false
is_several Open = false
is_several Close = false
is_several SearchFirst = false
is_several SearchNext = false
is_several Delete = false
is_several (Moves ReadSequential) = false
is_several (Moves WriteSequential) = false
is_several Make = false
is_several Rename = false
is_several Protect = false
is_several Attributes = false
is_several User = false
is_several (Moves ReadRandom) = false
is_several (Moves WriteRandom) = false
is_several Size = false
is_several SetRandom = false
is_several (Moves WriteZeroFill) = false
is_several (Moves ReadSeveral) = true
is_several (Moves WriteSeveral) = true
is_several Unserved = false

-- what it may answer when it succeeds: one of its codes, or, of several records, the number that stopped it after the first
abbrev pub answers_of : Call → ℕ → Bool
answers_of k n = cond (is_several k) (ltb n (codes_of k) || among n (numbers_of (refusals_of k))) (ltb n (codes_of k))
