-- The CMD file: "128 bytes of header, with up to eight descriptors of nine bytes (form, length, base, least, most), then the
-- image". "Most and least equal to its length; groups stand by rising type, and zeros fill the last record".
use Rattle.std.specs.Prelude.{cond, List, [], ◌++◌, ℕ, ◌+◌, ◌*◌, ◌-◌, ◌/◌, eqb, length, replicate}
use Rattle.numbers.specs.Numbers.{bytes_of}
use Rattle.disk_geometry.specs.Geometry.{record_bytes}
use Rattle.memory_spans.specs.Span.{paragraph_bytes}
use Rattle.load_header.specs.Header.{CODE, DATA, EXTRA, STACK}
use Rattle.gencmd_lines.specs.Line.{Line}
use Rattle.gencmd_groups.specs.declared.Groups.{Groups}
use Rattle.gencmd_groups.specs.Groups.{group_bytes, reaches, sizes_of}

abbrev pub header_bytes : ℕ
header_bytes = 128

-- zeros fill a list up to n bytes
abbrev pub filled : ℕ → List ℕ → List ℕ
filled n l = l ++ replicate (n - length l) 0

-- the descriptor of a group of n paragraphs: form, length, base (0: anywhere), least, most; none for a group that is not there
unfoldable pub descriptor : ℕ → ℕ → List ℕ
descriptor g n = cond (eqb n 0) [] (bytes_of 1 g ++ (bytes_of 2 n ++ (bytes_of 2 0 ++ (bytes_of 2 n ++ bytes_of 2 n))))

-- "groups stand by rising type"
unfoldable pub descriptors : Groups → List ℕ
descriptors s =
    descriptor CODE s.code ++ (descriptor DATA s.«data» ++ (descriptor EXTRA s.extra ++ descriptor STACK s.stack))

unfoldable pub header : Groups → List ℕ
header s = filled header_bytes (descriptors s)

-- the image: each group has its paragraphs
unfoldable pub image : List Line → Groups → List ℕ
image ls s =
    group_bytes ls CODE (paragraph_bytes * s.code)
    ++ (group_bytes ls DATA (paragraph_bytes * s.«data»)
    ++ (group_bytes ls EXTRA (paragraph_bytes * s.extra) ++ group_bytes ls STACK (paragraph_bytes * s.stack)))

-- where the image ends, and how long the file is: whole records
abbrev pub image_end : Groups → ℕ
image_end s = header_bytes + paragraph_bytes * (s.code + s.«data» + s.extra + s.stack)

abbrev pub file_length : Groups → ℕ
file_length s = (image_end s + record_bytes - 1) / record_bytes * record_bytes

-- the file of lines whose groups have these sizes
unfoldable pub file_with : List Line → Groups → List ℕ
file_with ls s = filled (file_length s) (header s ++ image ls s)

-- the file of these lines
abbrev pub file_of : List Line → List ℕ
file_of ls = file_with ls (sizes_of (reaches ls))
