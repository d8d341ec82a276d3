-- What the program says where it writes no file: "a refusal prints `REFUSED n` on standard error"; and "text longer than its room is refused by a
-- line that says so".
use Rattle.std.specs.Prelude.{List, ◌++◌, ℕ}
use Rattle.text.specs.Decimal.{decimal}
use Rattle.text.specs.Letters.{letters, line_end}
use Rattle.gencmd_lines.specs.declared.Refusal.{Refusal}
use Rattle.gencmd_lines.specs.Refusal.{refusal_number}

-- the most bytes of a text
abbrev pub text_most : ℕ
text_most = 4194304

-- a buffer of so many bytes has room for either line
abbrev pub line_bytes : ℕ
line_bytes = 64

unfoldable pub refused : Refusal → List ℕ
refused why = letters "REFUSED " ++ decimal (refusal_number why) ++ line_end

unfoldable pub too_long : List ℕ
too_long = letters "REFUSED: the text has more than " ++ decimal text_most ++ letters " bytes\n"
