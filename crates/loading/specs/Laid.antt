-- The memory after a load: the image of each group at the start of its region, and then the base page. All other bytes stay as
-- they were: those behind a group's image too.
use Rattle.std.specs.Prelude.{List, ℕ, ◌*◌, get_or}
use Rattle.lists.specs.Bounded.{fold}
use Rattle.lists.specs.Bytes.{part, put}
use Rattle.memory_spans.specs.declared.Span.{Span}
use Rattle.memory_spans.specs.Span.{paragraph_bytes, none}
use Rattle.load_header.specs.Header.{groups, length_at, image_start}
use Rattle.loading.specs.Page.{page_bytes, base_page, page_start}

-- the image of group i: its paragraphs stand behind those of the groups before it
abbrev pub group_image : List ℕ → List ℕ → ℕ → List ℕ
group_image h image i = part image (paragraph_bytes * image_start h i) (paragraph_bytes * length_at h i)

unfoldable pub group_laid : List ℕ → List Span → List ℕ → List ℕ → ℕ → List ℕ
group_laid h granted image memory i =
    put memory (paragraph_bytes * (get_or granted i none).start) (paragraph_bytes * length_at h i) (group_image h image i)

unfoldable pub laid : List ℕ → List Span → List ℕ → List ℕ → List ℕ
laid h granted image memory = fold (group_laid h granted image) memory 0 (groups h)

-- "only offsets 0 to 2FH of the base page are written, the image's bytes at 30H to FFH load"
unfoldable pub with_page : List ℕ → List Span → List ℕ → List ℕ
with_page h granted memory = put memory (paragraph_bytes * page_start h granted) page_bytes (base_page h granted)
