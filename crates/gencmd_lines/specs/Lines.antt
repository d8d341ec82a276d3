-- The lines of a text: "a line runs from a colon through its checksum, and text between lines is ignored".
use Rattle.std.specs.Prelude.{ℕ, zero, suc, cond, Option, Some, None, List, [], ◌∷◌, ◌==◌}
use Prim.Native.Char.{code}
use Rattle.gencmd_lines.specs.declared.Refusal.{Refusal}
use Rattle.gencmd_lines.specs.declared.Refusal.TheVariants.{NoEnd}
use Rattle.gencmd_lines.specs.Refusal.{first}
use Rattle.gencmd_lines.specs.Line.{Line, digits_in, is_end, line_refusal}

abbrev pub colon : ℕ
colon = code ":"

-- the lines of a text whose first k bytes still belong to the line before
unfoldable pub lines_from : ℕ → List ℕ → List Line
lines_from k [] = []
lines_from (suc k) (c ∷ s) = lines_from k s
lines_from zero (c ∷ s) =
    let here = s ∷ lines_from (digits_in s) s in
    let later = lines_from 0 s in
    cond (c == colon) here later

abbrev pub lines_of : List ℕ → List Line
lines_of text = lines_from 0 text

-- "first line first .. then 74 no 01 line"; nothing behind the end line is read
unfoldable pub lines_refusal : List Line → Option Refusal
lines_refusal [] = Some NoEnd
lines_refusal (l ∷ ls) =
    let later = lines_refusal ls in
    first (line_refusal l) (cond (is_end l) None later)

-- the lines before the end line
unfoldable pub data_lines : List Line → List Line
data_lines [] = []
data_lines (l ∷ ls) =
    let later = data_lines ls in
    cond (is_end l) [] (l ∷ later)

-- the lines of a text that give bytes
abbrev pub lines_in : List ℕ → List Line
lines_in text = data_lines (lines_of text)
