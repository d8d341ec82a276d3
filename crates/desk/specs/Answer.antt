-- What a replacement answers: "the answer counts the matching records". "Refusals, after the file's own at record 0 (37 and 38
-- too): 50 contents against the rules, a listed record that cannot be read, or chapter not there". The answer is the count, or
-- why it is refused; each has the paper's number and the value beside it.
use Rattle.std.specs.Prelude.{ℕ, Result, Ok, Err}
use Rattle.call_answers.specs.Refusal.{refusal_number}
use Rattle.desk.specs.declared.Why.{Why}
use Rattle.desk.specs.declared.Why.TheVariants.{Call, Contents}

abbrev pub why_number : Why → ℕ
why_number (Call why) = refusal_number why
why_number Contents = 50

abbrev pub number_of : Result ℕ Why → ℕ
number_of (Ok n) = 0
number_of (Err why) = why_number why

abbrev pub value_of : Result ℕ Why → ℕ
value_of (Ok n) = n
value_of (Err why) = 0
