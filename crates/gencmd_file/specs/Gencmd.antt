-- The call: why a text is refused, and else its CMD file, in the first bytes of the output buffer. A refusal alters no byte.
use Rattle.std.specs.Prelude.{Option, Some, None, Result, Ok, Err, List, ◌++◌, ℕ, eqb, ltb, length, drop}
use Rattle.load_header.specs.Header.{CODE}
use Rattle.gencmd_lines.specs.declared.Refusal.{Refusal}
use Rattle.gencmd_lines.specs.declared.Refusal.TheVariants.{NoCode, Room}
use Rattle.gencmd_lines.specs.Refusal.{refusal_number, first, refusing}
use Rattle.gencmd_lines.specs.Lines.{lines_of, lines_refusal, lines_in}
use Rattle.gencmd_groups.specs.Groups.{reach_of}
use Rattle.gencmd_file.specs.File.{file_of}

-- the paper's number for each case
abbrev pub number_of : Result ℕ Refusal → ℕ
number_of (Ok n) = 0
number_of (Err why) = refusal_number why

-- the length of the CMD file, 0 where there is none
abbrev pub length_of : Result ℕ Refusal → ℕ
length_of (Ok n) = n
length_of (Err why) = 0

-- "Refusals, first line first: 70 .. 73; then 74 no 01 line, 75 no code byte, 76 output buffer too short"
unfoldable pub refusal_of : List ℕ → ℕ → Option Refusal
refusal_of text room =
    first (lines_refusal (lines_of text))
    (first (refusing NoCode (eqb (reach_of (lines_in text) CODE) 0))
    (refusing Room (ltb room (length (file_of (lines_in text))))))

-- all that the call leaves: its answer, the length of the file or a refusal, and every byte of the output buffer
pub record After : Type 0 where
  pub answer : Result ℕ Refusal
  pub out : List ℕ

abbrev pub after : Result ℕ Refusal → List ℕ → After
after answer out = record { answer = answer; out = out }

abbrev pub written : List ℕ → List ℕ → After
written file out = after (Ok (length file)) (file ++ drop (length file) out)

-- a refusal, or else the file
abbrev pub answered : Option Refusal → List ℕ → List ℕ → After
answered None file out = written file out
answered (Some why) file out = after (Err why) out

unfoldable pub gencmd : List ℕ → List ℕ → After
gencmd text out = answered (refusal_of text (length out)) (file_of (lines_in text)) out
