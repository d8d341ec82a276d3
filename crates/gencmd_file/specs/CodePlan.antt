-- What the call decides before it writes: a refusal, or the sizes of the groups of a file that has room.
use Rattle.std.specs.Prelude.{cond, Result, Ok, Err, List, ◌++◌, ℕ, ◌≤◌, eqb, ltb, drop}
use Rattle.load_header.specs.Header.{CODE, DATA, EXTRA, STACK}
use Rattle.gencmd_lines.specs.declared.Refusal.{Refusal}
use Rattle.gencmd_lines.specs.declared.Refusal.TheVariants.{NoCode, Room}
use Rattle.gencmd_lines.specs.Line.{Line}
use Rattle.gencmd_lines.specs.Lines.{lines_of, lines_in}
use Rattle.gencmd_groups.specs.declared.Groups.{Groups}
use Rattle.gencmd_groups.specs.Groups.{group_bytes, sizes_of}
use Rattle.gencmd_groups.specs.CodeMeasure.{measured, SizeWithin}
use Rattle.gencmd_file.specs.File.{file_length, file_with}
use Rattle.gencmd_file.specs.Gencmd.{After, after}

unfoldable pub plan_for : Groups → ℕ → Result Groups Refusal
plan_for r room = cond (eqb r.code 0) (Err NoCode) (cond (ltb room (file_length (sizes_of r))) (Err Room) (Ok (sizes_of r)))

-- the same by what measuring tells
abbrev pub plan_by : Result Groups Refusal → ℕ → Result Groups Refusal
plan_by (Ok r) room = plan_for r room
plan_by (Err why) room = Err why

unfoldable pub plan_of : List ℕ → ℕ → Result Groups Refusal
plan_of text room = plan_by (measured (lines_of text)) room

-- what writing may rely on
abbrev pub Safe : ℕ → Result Groups Refusal → Type 0
Safe room (Err why) = Unit
Safe room (Ok s) = SizeWithin s × (file_length s ≤ room)

-- the plan carried out
abbrev pub carried : Result Groups Refusal → List ℕ → List ℕ → After
carried (Err why) text out = after (Err why) out
carried (Ok s) text out = after (Ok (file_length s)) (file_with (lines_in text) s ++ drop (file_length s) out)

-- so many bytes of each group, one behind the other
abbrev pub image_of : List Line → ℕ → ℕ → ℕ → ℕ → List ℕ
image_of ls a b c d = group_bytes ls CODE a ++ (group_bytes ls DATA b ++ (group_bytes ls EXTRA c ++ group_bytes ls STACK d))
