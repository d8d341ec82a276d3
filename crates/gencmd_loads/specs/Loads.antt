-- "Where (vi) has room and region places, the file written loads with those bytes outside the base page."
-- For every text that gencmd does not refuse, wherever its file stands on a volume: load answers 0, each group is granted just its
-- paragraphs, every byte that a line gives lies in them, and the memory has at every offset the byte that the last line gave, or 0;
-- but for the base page's offsets 0 to 2FH, which are load's own.
use Rattle.std.specs.Prelude.{◌≡◌, true, is_none, cond, List, [], ◌∷◌, ◌++◌, ℕ, ◌+◌, ◌*◌, ◌≤◌, ◌<◌, eqb, length, get_or}
use Rattle.lists.specs.Bytes.{byte}
use Rattle.call_answers.specs.Refusal as calls
use Rattle.filecalls.specs.declared.Drive.{Drive}
use Rattle.memory_spans.specs.declared.Span.{Span}
use Rattle.memory_spans.specs.Span.{places, paragraph_bytes, none}
use Rattle.memory_calls.specs.declared.Table.{Table}
use Rattle.memory_calls.specs.Table.{regions_of, with_regions, within_rules}
use Rattle.load_header.specs.Header.{CODE, DATA, EXTRA, STACK, length_at, base_at, least_at, most_at, groups, type_at, page_place}
use Rattle.load_records.specs.Records.{record_of, image, read_why}
use Rattle.loading.specs.Page.{page_bytes}
use Rattle.loading.specs.Load.{After, number_of, grants_of, load}
use Rattle.gencmd_lines.specs.Line.{Line}
use Rattle.gencmd_lines.specs.Lines.{lines_in}
use Rattle.gencmd_groups.specs.declared.Groups.{Groups}
use Rattle.gencmd_groups.specs.Groups.{given, byte_at, reaches, sizes_of}
use Rattle.gencmd_file.specs.File.{header, file_of}
use Rattle.gencmd_file.specs.Gencmd.{refusal_of}

-- a group by its type, and its paragraphs
pub record Group : Type 0 where
  pub type : ℕ
  pub size : ℕ

abbrev pub nobody : Group
nobody = record { type = 0; size = 0 }

-- the groups that are there, by rising type
abbrev pub there : ℕ → ℕ → List Group
there g n = cond (eqb n 0) [] (record { type = g; size = n } ∷ [])

abbrev pub groups_of : Groups → List Group
groups_of s = there CODE s.code ++ (there DATA s.«data» ++ (there EXTRA s.extra ++ (there STACK s.stack ++ [])))

-- load reads just these groups in a header: base 0, "most and least equal to its length"
pub record Says (h : List ℕ) (gs : List Group) : Type 0 where
  pub number : groups h ≡ length gs
  pub type : (i : ℕ) → i < length gs → type_at h i ≡ (get_or gs i nobody).type
  pub size : (i : ℕ) → i < length gs → length_at h i ≡ (get_or gs i nobody).size
  pub base : (i : ℕ) → i < length gs → base_at h i ≡ 0
  pub least : (i : ℕ) → i < length gs → least_at h i ≡ length_at h i
  pub most : (i : ℕ) → i < length gs → most_at h i ≡ length_at h i

-- the file stands on a volume: it can be read, and its records one behind the other are its bytes
pub record OnVolume (file : List ℕ) (d : Drive) (v f : List ℕ) : Type 0 where
  pub read : calls.is_none (read_why d v f) ≡ true
  pub bytes : record_of d v f 0 ++ image d v f ≡ file

-- "(vi) has room and region places": the table is within the rules, and all groups are granted
pub record HasRoom (bytes : ℕ) (h : List ℕ) (t : Table) : Type 0 where
  pub rules : within_rules bytes t ≡ true
  pub left : t.granted + groups h ≤ places
  pub all : length (grants_of h t) ≡ groups h

-- the region that group i of a header is granted
abbrev pub region_at : List ℕ → Table → ℕ → Span
region_at h t i = get_or (grants_of h t) i none

-- address a of group g lies in a group of the header
pub record Holds (h : List ℕ) (g a : ℕ) : Type 0 where
  pub place : ℕ
  pub below : place < groups h
  pub type : type_at h place ≡ g
  pub inside : a < paragraph_bytes * length_at h place

-- what load leaves: 0, the groups' regions behind the others, each as long as its group, and in each the group's bytes
pub record Leaves (ls : List Line) (h : List ℕ) (t : Table) (after : After) : Type 0 where
  pub answer : number_of after.reply.answer ≡ 0
  pub table : after.reply.table ≡ with_regions t (regions_of t ++ grants_of h t)
  pub size : (i : ℕ) → i < groups h → (region_at h t i).length ≡ length_at h i
  pub whole : (g a : ℕ) → given ls g a ≡ true → Holds h g a
  pub memory : (i x : ℕ) → i < groups h → x < paragraph_bytes * length_at h i → (i ≡ page_place h → page_bytes ≤ x)
      → byte after.memory (paragraph_bytes * (region_at h t i).start + x) ≡ byte_at ls (type_at h i) x

-- the sizes of a text's groups, and the header of its file
abbrev pub sizes_in : List ℕ → Groups
sizes_in text = sizes_of (reaches (lines_in text))

abbrev pub header_of : List ℕ → List ℕ
header_of text = header (sizes_in text)

abbrev pub FileLoads : Type 0
FileLoads =
    (text : List ℕ) (room : ℕ) (d : Drive) (v f : List ℕ) (t : Table) (memory : List ℕ)
    → is_none (refusal_of text room) ≡ true
    → OnVolume (file_of (lines_in text)) d v f
    → HasRoom (length memory) (header_of text) t
    → Says (header_of text) (groups_of (sizes_in text)) × Leaves (lines_in text) (header_of text) t (load d v f t memory)
