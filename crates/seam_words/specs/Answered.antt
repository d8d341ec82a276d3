-- An answer as one number.
use Rattle.std.specs.Prelude.{ℕ, ◌+◌, ◌*◌}
use Rattle.call_answers.specs.declared.Answer.{Answer}
use Rattle.call_answers.specs.Answer.{number_of, value_of}

-- "the answer's number in the low 16 bits, log-in's count or slot in the high 16"
unfoldable pub answered : Answer → ℕ
answered a = number_of a + 65536 * value_of a
