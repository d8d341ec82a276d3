-- A hex text made a CMD file, as an exported call does it: "low 16: 0 or 70 to 76; high 32: the length of the CMD file".
use Rattle.std.specs.Prelude.{Result, List, ℕ, ◌+◌, ◌*◌}
use Rattle.gencmd_lines.specs.declared.Refusal.{Refusal}
use Rattle.gencmd_file.specs.Gencmd.{After, number_of, length_of, gencmd}

-- what the high 32 bits count
abbrev pub high : ℕ
high = 4294967296

unfoldable pub packed : Result ℕ Refusal → ℕ
packed a = number_of a + high * length_of a

-- the answer, and every byte of the output buffer
pub record Made : Type 0 where
  pub answer : ℕ
  pub out : List ℕ

abbrev pub made : ℕ → List ℕ → Made
made r out = record { answer = r; out = out }

abbrev pub sealed_after : After → Made
sealed_after a = made (packed a.answer) a.out

unfoldable pub gencmd_at_seam : List ℕ → List ℕ → Made
gencmd_at_seam text out = sealed_after (gencmd text out)
