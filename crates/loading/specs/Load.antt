-- Function 59, load: "Refusals, after those of random reads of record 0 and all records below the file's size, in this order: 65 ..,
-- 60 .., 61 image shorter than its groups, 63 too few of the eight region places left, 62 no such room exists". Drive, volume and
-- control block stay as given.
use Rattle.std.specs.Prelude.{Bool, not, cond, List, ◌++◌, ℕ, ◌+◌, ◌*◌, ltb, length, Result, Ok, Err}
use Rattle.disk_geometry.specs.Geometry.{record_bytes}
use Rattle.call_answers.specs.Refusal as refusal
use Rattle.filecalls.specs.declared.Drive.{Drive}
use Rattle.memory_spans.specs.declared.Span.{Span}
use Rattle.memory_spans.specs.Span.{places, paragraph_bytes}
use Rattle.memory_calls.specs.declared.Table.{Table}
use Rattle.memory_calls.specs.Table.{pieces_of, regions_of, with_regions, within_rules}
use Rattle.load_header.specs.Header.{groups, good_header, image_start}
use Rattle.load_grants.specs.Grants.{grants}
use Rattle.load_records.specs.Records.{record_of, image_records, image, read_why}
use Rattle.loading.specs.declared.LoadRefusal.{LoadRefusal}
use Rattle.loading.specs.declared.LoadRefusal.TheVariants.{File, Rules, Header, Image, NoPlace, NoRoom}
use Rattle.loading.specs.declared.LoadReply.{LoadReply}
use Rattle.loading.specs.Page.{page_start}
use Rattle.loading.specs.Laid.{laid, with_page}

-- the paper's number of an answer, and the value beside it: "the paragraph of the base page"
abbrev pub refusal_number : LoadRefusal → ℕ
refusal_number (File why) = refusal.refusal_number why
refusal_number Rules = 65
refusal_number Header = 60
refusal_number Image = 61
refusal_number NoPlace = 63
refusal_number NoRoom = 62

-- the paragraph of the base page, or why it is refused
abbrev pub LoadAnswer : Type 0
LoadAnswer = Result ℕ LoadRefusal

abbrev pub number_of : LoadAnswer → ℕ
number_of (Ok paragraph) = 0
number_of (Err why) = refusal_number why

abbrev pub value_of : LoadAnswer → ℕ
value_of (Ok paragraph) = paragraph
value_of (Err why) = 0

-- all that a load leaves
pub record After : Type 0 where
  pub reply : LoadReply
  pub memory : List ℕ

abbrev pub after : LoadReply → List ℕ → After
after reply memory = record { reply = reply; memory = memory }

-- refused, and all as it was, where the test is met
abbrev pub refusing : Bool → LoadRefusal → Table → List ℕ → After → After
refusing met why t memory rest = cond met (after (record { answer = Err why; table = t }) memory) rest

-- what the groups of the header are granted
abbrev pub grants_of : List ℕ → Table → List Span
grants_of h t = grants h (pieces_of t) (regions_of t) 0 (groups h)

-- 61: the image has 128 bytes for each record behind record 0
abbrev pub image_short : List ℕ → ℕ → Bool
image_short h image_records = ltb (record_bytes * image_records) (paragraph_bytes * image_start h (groups h))

-- all groups are granted: their regions stand behind the others, in header order
unfoldable pub loaded : List ℕ → List Span → List ℕ → Table → List ℕ → After
loaded h granted image t memory =
    after
    (record { answer = Ok (page_start h granted); table = with_regions t (regions_of t ++ granted) })
    (with_page h granted (laid h granted image memory))

-- the tests of the header and of the table, where the file was read: record 0 is h, and so many records follow it
unfoldable pub placed : List ℕ → ℕ → List ℕ → Table → List ℕ → After
placed h image_records image t memory =
    refusing (not (within_rules (length memory) t)) Rules t memory
    (refusing (not (good_header h)) Header t memory
    (refusing (image_short h image_records) Image t memory
    (refusing (ltb places (t.granted + groups h)) NoPlace t memory
    (refusing (ltb (length (grants_of h t)) (groups h)) NoRoom t memory
    (loaded h (grants_of h t) image t memory)))))

-- the call
unfoldable pub load : Drive → List ℕ → List ℕ → Table → List ℕ → After
load d v f t memory =
    refusing (not (refusal.is_none (read_why d v f))) (File (read_why d v f)) t memory
    (placed (record_of d v f 0) (image_records d v f) (image d v f) t memory)
