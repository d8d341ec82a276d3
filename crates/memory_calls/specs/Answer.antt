-- What a memory call answers, and the paper's numbers.
use Rattle.std.specs.Prelude.{ℕ, Result, Ok, Err}
use Rattle.memory_calls.specs.declared.Refusal.{Refusal}
use Rattle.memory_calls.specs.declared.Refusal.TheVariants.{NotServed, Rules, NoPlace, NoRoom, BadFree}

abbrev pub refusal_number : Refusal → ℕ
-- a function that is not one of 53 to 58
refusal_number NotServed = 31
-- "65 pieces that overlap or leave the memory, regions that overlap or lie in no one piece"
refusal_number Rules = 65
-- "63 too few of the eight region places left"
refusal_number NoPlace = 63
-- "62 no such room exists"
refusal_number NoRoom = 62
-- "64 a free of 0 paragraphs or of anything but one region's start or end"
refusal_number BadFree = 64

-- done, or why it is refused
abbrev pub Answer : Type 0
Answer = Result (Unit {0}) Refusal

abbrev pub number_of : Answer → ℕ
number_of (Ok done) = 0
number_of (Err why) = refusal_number why
