-- Laws of the answers: a refusal's number is that of its reason.
use mathlib.Core.Path.{◌≡◌, refl}
use mathlib.Core.Bool.{false, true≢false}
use Rattle.call_answers.specs.declared.Answer.{Answer}
use Rattle.call_answers.specs.declared.Answer.TheVariants.{Done, Ready, BadSlot, Refused, Several}
use Rattle.call_answers.specs.Refusal.{refusal_number}
use Rattle.call_answers.specs.Answer.{number_of, succeeded, why_of}

pub why_number_lem : (a : Answer) → succeeded a ≡ false → refusal_number (why_of a) ≡ number_of a
why_number_lem (Done code) h = absurd (true≢false h)
why_number_lem (Ready free) h = absurd (true≢false h)
why_number_lem (BadSlot slot) h = refl
why_number_lem (Refused why) h = refl
why_number_lem (Several done why) h = refl
