-- "A CMD file is 128 bytes of header, with up to eight descriptors of nine bytes (form, length, base, least, most), then the
-- image." h is the header, record 0 of the file; lengths are in paragraphs, low byte first. The groups stand in header order.
use Rattle.std.specs.Prelude.{Bool, not, cond, ◌&&◌, List, ℕ, zero, suc, ◌+◌, ◌*◌, ◌%◌, max, leb, ltb, eqb}
use Rattle.lists.specs.Bounded.{lowest, any, every}
use Rattle.lists.specs.Bytes.{byte}
use Rattle.numbers.specs.Numbers.{two}

abbrev pub descriptors : ℕ
descriptors = 8

abbrev pub descriptor_bytes : ℕ
descriptor_bytes = 9

-- "the base page's group needing under 16 paragraphs": a base page has 100H bytes
abbrev pub page_paragraphs : ℕ
page_paragraphs = 16

-- 000, table 3: the types of a group; 5 to 8 are auxiliary groups
abbrev pub CODE : ℕ
CODE = 1

abbrev pub DATA : ℕ
DATA = 2

abbrev pub EXTRA : ℕ
EXTRA = 3

abbrev pub STACK : ℕ
STACK = 4

abbrev pub LAST_AUX : ℕ
LAST_AUX = 8

abbrev pub SHARED_CODE : ℕ
SHARED_CODE = 9

-- what descriptor i says
abbrev pub form_at : List ℕ → ℕ → ℕ
form_at h i = byte h (descriptor_bytes * i)

abbrev pub length_at : List ℕ → ℕ → ℕ
length_at h i = two h (descriptor_bytes * i + 1)

abbrev pub base_at : List ℕ → ℕ → ℕ
base_at h i = two h (descriptor_bytes * i + 3)

abbrev pub least_at : List ℕ → ℕ → ℕ
least_at h i = two h (descriptor_bytes * i + 5)

abbrev pub most_at : List ℕ → ℕ → ℕ
most_at h i = two h (descriptor_bytes * i + 7)

-- a form byte of 0 ends the descriptors: how many groups there are
unfoldable pub groups : List ℕ → ℕ
groups h = lowest descriptors (λ i. eqb (form_at h i) 0)

-- "header type (low four bits, 9 read as 1)"
unfoldable pub type_at : List ℕ → ℕ → ℕ
type_at h i = cond (eqb (form_at h i % 16) SHARED_CODE) CODE (form_at h i % 16)

-- "A region needs the larger of length and least"
abbrev pub need : List ℕ → ℕ → ℕ
need h i = max (length_at h i) (least_at h i)

-- a type that is one of 1 to 9, and that no group before it has
unfoldable pub good_group : List ℕ → ℕ → Bool
good_group h i = leb CODE (type_at h i) && leb (type_at h i) LAST_AUX && not (any i (λ j. eqb (type_at h j) (type_at h i)))

-- the group of a type by its place, the number of groups where there is none
unfoldable pub place_of : List ℕ → ℕ → ℕ
place_of h type = lowest (groups h) (λ i. eqb (type_at h i) type)

abbrev pub has : List ℕ → ℕ → Bool
has h type = ltb (place_of h type) (groups h)

-- "the base page, in the data group or else in the code group"
unfoldable pub page_place : List ℕ → ℕ
page_place h = cond (has h DATA) (place_of h DATA) (place_of h CODE)

-- not 60: "header type .. not 1..9, given twice, no code, or the base page's group needing under 16 paragraphs"
unfoldable pub good_header : List ℕ → Bool
good_header h = every (groups h) (good_group h) && has h CODE && leb page_paragraphs (need h (page_place h))

-- how many paragraphs of the image the groups before group i have: there its own begin
unfoldable pub image_start : List ℕ → ℕ → ℕ
image_start h zero = 0
image_start h (suc i) = image_start h i + length_at h i
