-- "Refusals, first line first: 70 .. 76": each case of the enum with the paper's number. Why something is refused is an `Option`: `None`
-- where it is not.
use Rattle.std.specs.Prelude.{ℕ, Bool, cond, is_none, Option, Some, None, Result, Ok, Err}
use Rattle.gencmd_lines.specs.declared.Refusal.{Refusal}
use Rattle.gencmd_lines.specs.declared.Refusal.TheVariants.{Digits, Sum, OtherType, Beyond, NoEnd, NoCode, Room}

abbrev pub refusal_number : Refusal → ℕ
-- "not 0 to 9 or A to F, or short"
refusal_number Digits = 70
-- "sum"
refusal_number Sum = 71
-- "other type"
refusal_number OtherType = 72
-- "beyond address FFFFH"
refusal_number Beyond = 73
-- "no 01 line"
refusal_number NoEnd = 74
-- "no code byte"
refusal_number NoCode = 75
-- "output buffer too short"
refusal_number Room = 76

-- the number of a refusal, 0 where there is none
abbrev pub told : Option Refusal → ℕ
told None = 0
told (Some why) = refusal_number why

-- the first of two refusals
abbrev pub first : Option Refusal → Option Refusal → Option Refusal
first a b = cond (is_none a) b a

abbrev pub refusing : Refusal → Bool → Option Refusal
refusing why met = cond met (Some why) None

-- the refusal, or else a value
abbrev pub unless : {A : Type 0} → Option Refusal → A → Result A Refusal
unless None a = Ok a
unless (Some why) a = Err why
