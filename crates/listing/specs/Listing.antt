-- The listing of a volume: "a header, a line for each file by its lowest slot (user, name of eight, full stop, type of
-- three, both without top bits, size, blocks held), then the free blocks". Every line ends in one line feed.
use Rattle.std.specs.Prelude.{cond, List, [], ◌++◌, ℕ, zero, suc}
use Rattle.lists.specs.Bytes.{byte, part}
use Rattle.disk_geometry.specs.declared.Geometry.{Geometry}
use Rattle.disk_geometry.specs.Geometry.{slots, geometry_of}
use Rattle.disk_volume.specs.Fields.{USER, NAME, TYPE}
use Rattle.disk_volume.specs.Name.{strip, name_of}
use Rattle.disk_volume.specs.Entry.{Entry}
use Rattle.disk_volume.specs.Directory.{slot_at}
use Rattle.files.specs.Files.{blocks_of, is_listed}
use Rattle.text.specs.Decimal.{decimal}
use Rattle.text.specs.Letters.{letters, blank, line_end}
use Rattle.call_answers.specs.declared.Answer.{Answer}
use Rattle.call_answers.specs.declared.Answer.TheVariants.{Done, Ready, BadSlot, Refused, Several}
use Rattle.call_answers.specs.Answer.{number_of}
use Rattle.call_size.specs.Size.{size_of}
use Rattle.filecalls.specs.LogIn.{log_in}

-- "a volume of V's geometry (40,960 bytes)": B 1,024, T 40, D 1
abbrev pub geometry_v : Geometry
geometry_v = geometry_of 1024 40 1

-- the full stop between name and type
abbrev pub stop : List ℕ
stop = letters "."

-- the header, and the words before the free blocks and before a refusal's number
abbrev pub header : List ℕ
header = letters "USER NAME TYPE RECORDS BLOCKS\n"

abbrev pub free_word : List ℕ
free_word = letters "FREE "

abbrev pub refused_word : List ℕ
refused_word = letters "REFUSED "

-- "name of eight, full stop, type of three, both without top bits"
unfoldable pub name_text : Entry → List ℕ
name_text e = strip (part e NAME 8) ++ (stop ++ strip (part e TYPE 3))

-- the line of the file that has this entry
unfoldable pub line : Geometry → List ℕ → Entry → List ℕ
line g v e =
    decimal (byte e USER)
    ++ (blank ++ (name_text e ++ (blank ++ (decimal (size_of g v (byte e USER) (name_of e))
    ++ (blank ++ (decimal (blocks_of g v (byte e USER) (name_of e)) ++ line_end))))))

-- what slot i adds, and the lines of k slots from i on
unfoldable pub line_at : Geometry → List ℕ → ℕ → List ℕ
line_at g v i = cond (is_listed g v (slot_at g v i) i) (line g v (slot_at g v i)) []

unfoldable pub lines_from : Geometry → List ℕ → ℕ → ℕ → List ℕ
lines_from g v i zero = []
lines_from g v i (suc k) = line_at g v i ++ lines_from g v (suc i) k

-- the listing of a volume that is accepted, with so many free blocks
unfoldable pub accepted : Geometry → List ℕ → ℕ → List ℕ
accepted g v free = header ++ (lines_from g v 0 (slots g) ++ (free_word ++ (decimal free ++ line_end)))

-- "`REFUSED 33`": the word and the number of log-in's answer
abbrev pub refused : Answer → List ℕ
refused a = refused_word ++ decimal (number_of a)

-- by log-in's answer; log-in never answers with a code alone, nor of several records
unfoldable pub listing_for : Answer → Geometry → List ℕ → List ℕ
listing_for (Ready free) g v = accepted g v free
listing_for (BadSlot slot) g v = refused (BadSlot slot) ++ (blank ++ (decimal slot ++ line_end))
listing_for (Refused why) g v = refused (Refused why) ++ line_end
listing_for (Done code) g v = []
listing_for (Several done why) g v = []

unfoldable pub listing : List ℕ → List ℕ
listing v = listing_for (log_in geometry_v v).answer geometry_v v
