-- Where the file has what: the header first, then each group behind the one before, by paragraphs. For the reader, beside `file_with`: what a
-- loader finds in the file is `FileLoads` (room gencmd_loads), which is proved without it.
use Rattle.std.specs.Prelude.{◌≡◌, List, ℕ, ◌+◌, ◌*◌}
use Rattle.lists.specs.Bytes.{part}
use Rattle.memory_spans.specs.Span.{paragraph_bytes}
use Rattle.load_header.specs.Header.{CODE, DATA, EXTRA, STACK}
use Rattle.gencmd_lines.specs.Line.{Line}
use Rattle.gencmd_groups.specs.declared.Groups.{Groups}
use Rattle.gencmd_groups.specs.Groups.{group_bytes}
use Rattle.gencmd_file.specs.File.{header_bytes, header, file_with}

-- n paragraphs of the image, behind so many others
abbrev pub image_part : List Line → Groups → ℕ → ℕ → List ℕ
image_part ls s before n = part (file_with ls s) (header_bytes + paragraph_bytes * before) (paragraph_bytes * n)

pub record Parts (ls : List Line) (s : Groups) : Type 0 where
  pub head : part (file_with ls s) 0 header_bytes ≡ header s
  pub code : image_part ls s 0 s.code ≡ group_bytes ls CODE (paragraph_bytes * s.code)
  pub «data» : image_part ls s s.code s.«data» ≡ group_bytes ls DATA (paragraph_bytes * s.«data»)
  pub extra : image_part ls s (s.code + s.«data») s.extra ≡ group_bytes ls EXTRA (paragraph_bytes * s.extra)
  pub stack : image_part ls s (s.code + s.«data» + s.extra) s.stack ≡ group_bytes ls STACK (paragraph_bytes * s.stack)
