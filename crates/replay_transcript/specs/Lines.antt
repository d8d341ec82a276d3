-- The lines of a transcript, each with one line feed: "for each call one line of five fields with one blank between:
-- function, answer, value (log-in: count or slot; else 0), control block, buffer", `BAD SCRIPT n` and `END n`. Of several
-- records the value is how many were done.
use Rattle.std.specs.Prelude.{Bool, true, false, List, ◌++◌, ℕ}
use Rattle.text.specs.Decimal.{decimal}
use Rattle.text.specs.Letters.{letters, blank, line_end}
use Rattle.call_answers.specs.declared.Answer.{Answer}
use Rattle.call_answers.specs.Answer.{number_of, value_of}
use Rattle.call_served.specs.Calls.{call_of}
use Rattle.replay_transcript.specs.Hex.{hex}
use Rattle.replay_script.specs.Lends.{lends_fcb, lends_buffer}

-- "a lent one is `=` and its bytes afterwards in hex, `-` where the call is lent none"
unfoldable pub shown : Bool → List ℕ → List ℕ
shown true l = letters "=" ++ hex l
shown false l = letters "-"

-- "function, answer, value"
abbrev pub numbers_of : ℕ → Answer → List ℕ
numbers_of n a = decimal n ++ blank ++ decimal (number_of a) ++ blank ++ decimal (value_of a)

unfoldable pub call_line : ℕ → Answer → List ℕ → List ℕ → List ℕ
call_line n a fcb b =
    numbers_of n a ++ blank ++ shown (lends_fcb (call_of n)) fcb ++ blank ++ shown (lends_buffer (call_of n)) b ++ line_end

-- the words before the number of calls
abbrev pub bad_word : List ℕ
bad_word = letters "BAD SCRIPT "

abbrev pub end_word : List ℕ
end_word = letters "END "

unfoldable pub bad_line : ℕ → List ℕ
bad_line n = bad_word ++ decimal n ++ line_end

unfoldable pub end_line : ℕ → List ℕ
end_line n = end_word ++ decimal n ++ line_end
