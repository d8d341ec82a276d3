-- How long a CMD file can be: no group has an address beyond FFFFH, so no file is longer than its header and four groups of
-- 65,536 bytes, and an output buffer of so many bytes is never too short.
use Rattle.std.specs.Prelude.{◌≡◌, true, is_none, List, ℕ, ◌+◌, ◌*◌, ◌≤◌, length}
use Rattle.gencmd_lines.specs.Line.{addresses}
use Rattle.gencmd_lines.specs.Lines.{lines_of, lines_refusal, lines_in}
use Rattle.gencmd_file.specs.File.{header_bytes, file_of}

abbrev pub longest : ℕ
longest = header_bytes + 4 * addresses

pub record NotLonger (text : List ℕ) : Type 0 where
  pub file : is_none (lines_refusal (lines_of text)) ≡ true → length (file_of (lines_in text)) ≤ longest
