-- The promises of load, and of any run of memory calls and loads. proofs/Theorem proves each statement under its name, but 62, which
-- stands in proofs/NoRoomTheorem.
use Rattle.std.specs.Prelude.{◌≡◌, true, false, List, [], ◌∷◌, ◌++◌, ◌⊎◌, ℕ, ◌+◌, ◌*◌, ◌≤◌, ◌<◌, length, drop, get_or, Ok, Err}
use Rattle.lists.specs.Bytes.{byte}
use Rattle.call_answers.specs.Refusal.{is_none}
use Rattle.filecalls.specs.declared.Drive.{Drive}
use Rattle.memory_spans.specs.declared.Span.{Span}
use Rattle.memory_spans.specs.Span.{places, paragraphs, paragraph_bytes, none, end}
use Rattle.memory_calls.specs.declared.Table.{Table}
use Rattle.memory_calls.specs.declared.Mcb.{Mcb}
use Rattle.memory_calls.specs.Table.{pieces_of, regions_of, within_rules}
use Rattle.memory_calls.specs.Calls.{memory_call}
use Rattle.memory_promises.specs.Promises.{Kept, Room, Exactly}
use Rattle.load_header.specs.Header.{groups, base_at, need, good_header}
use Rattle.load_records.specs.Records.{record_of, image_records, read_why}
use Rattle.load_grants.specs.Grants.{grants}
use Rattle.loading.specs.declared.LoadRefusal.{LoadRefusal}
use Rattle.loading.specs.declared.LoadRefusal.TheVariants.{NoRoom}
use Rattle.loading.specs.Load.{image_short, load}

-- ---- "a load grants all groups or none": refused, it leaves the table and every byte of the memory
abbrev pub RefusedLoadAltersNothing : Type 0
RefusedLoadAltersNothing =
    (d : Drive) (v f : List ℕ) (t : Table) (memory : List ℕ) (why : LoadRefusal)
    → (load d v f t memory).reply.answer ≡ Err why
    → ((load d v f t memory).reply.table ≡ t) × ((load d v f t memory).memory ≡ memory)

-- what the table has more afterwards
abbrev pub new_regions : Table → Table → List Span
new_regions before after = drop (length (regions_of before)) (regions_of after)

-- ---- "A load grants all groups": done, there is a new region for each group, in header order, as large as the group needs or larger
abbrev pub LoadGrantsAll : Type 0
LoadGrantsAll =
    (d : Drive) (v f : List ℕ) (t : Table) (memory : List ℕ) (paragraph : ℕ)
    → (load d v f t memory).reply.answer ≡ Ok paragraph
    → (length (new_regions t (load d v f t memory).reply.table) ≡ groups (record_of d v f 0))
    × ((i : ℕ) → i < groups (record_of d v f 0)
    → need (record_of d v f 0) i ≤ (get_or (new_regions t (load d v f t memory).reply.table) i none).length)

-- ---- "A load alters no byte outside the regions that it grants"
abbrev pub OutsideOf : Span → ℕ → Type 0
OutsideOf s x = (x + 1 ≤ paragraph_bytes * s.start) ⊎ (paragraph_bytes * end s ≤ x)

abbrev pub LoadAltersNoOther : Type 0
LoadAltersNoOther =
    (d : Drive) (v f : List ℕ) (t : Table) (memory : List ℕ) (x : ℕ)
    → ((i : ℕ) → i < length (new_regions t (load d v f t memory).reply.table) → OutsideOf (get_or (new_regions t (load d v f t memory).reply.table) i none) x)
    → byte (load d v f t memory).memory x ≡ byte memory x

abbrev pub LoadKeepsLength : Type 0
LoadKeepsLength = (d : Drive) (v f : List ℕ) (t : Table) (memory : List ℕ) → length (load d v f t memory).memory ≡ length memory

-- ---- any run of memory calls and loads, each on the table and the memory that the one before it left
pub data Request : Type 0 where
  call : ℕ → Mcb → Request
  loading : Drive → List ℕ → List ℕ → Request

pub record State : Type 0 where
  pub table : Table
  pub memory : List ℕ

unfoldable pub next : State → Request → State
next s (call f b) = record { table = (memory_call f (length s.memory) s.table b).table; memory = s.memory }
next s (loading d v f) = record { table = (load d v f s.table s.memory).reply.table; memory = (load d v f s.table s.memory).memory }

unfoldable pub after : State → List Request → State
after s [] = s
after s (r ∷ rs) = after (next s r) rs

-- from a table within the rules: no paragraph belongs to two regions, every region lies in one piece, and the memory is as long as before
abbrev pub RunsStayWithinRules : Type 0
RunsStayWithinRules =
    (s : State) → within_rules (length s.memory) s.table ≡ true → (rs : List Request)
    → Kept (length s.memory) (after s rs).table × (length (after s rs).memory ≡ length s.memory)

-- ---- "62 no such room exists": where no earlier test refuses, 62 is answered exactly where a group, beside the regions and the groups
-- before it, has no room at its base or, with a base of 0, at any start
abbrev pub grants_before : List ℕ → Table → ℕ → List Span
grants_before h t i = grants h (pieces_of t) (regions_of t) 0 i

pub record NoneFor (h : List ℕ) (t : Table) : Type 0 where
  pub group : ℕ
  pub below : group < groups h
  pub before : length (grants_before h t group) ≡ group
  pub nowhere : (s : ℕ) → s < paragraphs → (base_at h group ≡ 0) ⊎ (s ≡ base_at h group)
      → Room (pieces_of t) (regions_of t ++ grants_before h t group) (need h group) s → ⊥

pub record Reached (d : Drive) (v f : List ℕ) (t : Table) (memory : List ℕ) : Type 0 where
  pub read : is_none (read_why d v f) ≡ true
  pub rules : within_rules (length memory) t ≡ true
  pub header : good_header (record_of d v f 0) ≡ true
  pub whole : image_short (record_of d v f 0) (image_records d v f) ≡ false
  pub left : t.granted + groups (record_of d v f 0) ≤ places

abbrev pub LoadNoRoom : Type 0
LoadNoRoom =
    (d : Drive) (v f : List ℕ) (t : Table) (memory : List ℕ)
    → Reached d v f t memory
    → Exactly ((load d v f t memory).reply.answer ≡ Err NoRoom) (NoneFor (record_of d v f 0) t)
