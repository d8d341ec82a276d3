-- Two calls at the seam, evaluated: the three code bytes at 0005H make a file of 384 bytes, 180H from bit 32 on; a buffer that is a byte
-- shorter is 76, and stays.
use mathlib.Core.Path.{◌≡◌, refl}
use mathlib.Core.List.{List, ◌∷◌, ◌++◌}
use Prim.Native.Nat.{ℕ}
use lib.ListN.{replicate}
use Rattle.lists.specs.Bounded.{every_from}
use Rattle.numbers.specs.Numbers.{bytes_of}
use Rattle.text.specs.Letters.{letters}
use Rattle.gencmd_lines.specs.Digits.{digit_of, line_byte}
use Rattle.gencmd_lines.specs.Line.{is_spelled, sum_from, sum_of, group_of_type, data_refusal, line_refusal}
use Rattle.gencmd_lines.specs.Lines.{lines_from, lines_refusal, data_lines}
use Rattle.gencmd_groups.specs.Groups.{given, byte_at, list_from, reach_of, sizes_of}
use Rattle.gencmd_file.specs.File.{descriptor, descriptors, header, image, file_with}
use Rattle.gencmd_file.specs.Gencmd.{refusal_of, gencmd}
use Rattle.seam_gencmd.specs.Gencmd.{packed, made, gencmd_at_seam}

-- 03 + 05 + 11 + 22 + 33 = 6E; 01
abbrev text : List ℕ
text = letters ":0300050011223392\n:00000001FF\n"

abbrev buffer : ℕ → List ℕ
buffer n = replicate n 0xEE

-- a header for 10H paragraphs of code, and these
abbrev file : List ℕ
file =
    (0x01 ∷ 0x10 ∷ 0x00 ∷ 0x00 ∷ 0x00 ∷ 0x10 ∷ 0x00 ∷ 0x10 ∷ 0x00 ∷ replicate 119 0)
    ++ (replicate 5 0 ++ (0x11 ∷ 0x22 ∷ 0x33 ∷ replicate 248 0))

pub record Examples : Type 0 where
  pub done : gencmd_at_seam text (buffer 400) ≡ made 0x18000000000 (file ++ buffer 16)
  pub refused : gencmd_at_seam text (buffer 383) ≡ made 76 (buffer 383)

pub at_seam_lem : Examples
unfolding gencmd_at_seam packed gencmd refusal_of file_with image header descriptors descriptor list_from sizes_of reach_of byte_at given lines_from lines_refusal data_lines line_refusal data_refusal is_spelled sum_of sum_from group_of_type line_byte digit_of every_from bytes_of
at_seam_lem = record { done = refl; refused = refl }
