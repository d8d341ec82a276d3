-- The answers: "a definition gives this paper's number and values for each of the enum's cases".
use Rattle.std.specs.Prelude.{Bool, true, false, ℕ, ltb}
use Rattle.call_answers.specs.declared.Refusal.{Refusal}
use Rattle.call_answers.specs.declared.Refusal.TheVariants as refusal
use Rattle.call_answers.specs.declared.Answer.{Answer}
use Rattle.call_answers.specs.declared.Answer.TheVariants.{Done, Ready, BadSlot, Refused, Several}
use Rattle.call_answers.specs.Refusal.{refusal_number}

-- the number; of several records "the stopping number, 0 if none"
abbrev pub number_of : Answer → ℕ
number_of (Done code) = code
number_of (Ready free) = 0
number_of (BadSlot slot) = refusal_number refusal.BadSlot
number_of (Refused why) = refusal_number why
number_of (Several done why) = refusal_number why

-- the value beside it: "the number of free blocks", "the lowest bad slot in the count's place (0 for other refusals)", of
-- several records "how many were done"
abbrev pub value_of : Answer → ℕ
value_of (Done code) = 0
value_of (Ready free) = free
value_of (BadSlot slot) = slot
value_of (Refused why) = 0
value_of (Several done why) = done

-- the call succeeded; a number alone does not say so. A call of several records does where one was done: "records done
-- before a stop stay done and demand 3 counts the call as successful"
abbrev pub succeeded : Answer → Bool
succeeded (Done code) = true
succeeded (Ready free) = true
succeeded (BadSlot slot) = false
succeeded (Refused why) = false
succeeded (Several done why) = ltb 0 done

-- why it was refused or stopped
abbrev pub why_of : Answer → Refusal
why_of (Done code) = refusal.None
why_of (Ready free) = refusal.None
why_of (BadSlot slot) = refusal.BadSlot
why_of (Refused why) = why
why_of (Several done why) = why
