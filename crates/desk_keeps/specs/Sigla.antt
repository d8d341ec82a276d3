-- What one replacement leaves: "replacing one siglum by another in one chapter alters bytes 0 and 1 of matching records and no
-- other byte of any file" .. "Everything is tested before anything is changed; the answer counts the matching records."
--   What is tested (`desk/specs/Replace`, `plan`) says which of the two it is: where nothing is met it is done, with the number of the
--   body's matching records as its answer (`goes-when`), else it is refused for what is met first (`refused-when`);
--   refused, it leaves every byte (`refused-keeps`);
--   else it alters bytes 0 and 1 of exactly the matching records of the chapter, to the new siglum, and no other byte of any
--   record of any file; the directory keeps every byte, and a volume that passed inspection passes (`altered`); the answer is
--   the number of matching records (`counts`);
--   the other way round afterwards it gives the old bytes, where the new siglum was not in the chapter (`ThereAndBack`);
--   cut after any number of its stores (xii) it leaves some whole replacements done, and every other byte as before
--   (`cut_short`).
--   "A present record is rewritten in its place, so no block is taken and the state stays as given": the write of each matching
--   record, on the volume that those before it left, answers 0 and hands the state back (`each_write`), and so does the
--   replacement (`state-stays`).
-- The control block is lent to be read, so nothing is said of it. It is asked that the volume is bytes and that sigla have 16
-- bits: what code lends is so. `desk_promises` says it of runs.
use Rattle.std.specs.Prelude.{◌≡◌, true, ◌≢◌, List, ℕ, ◌+◌, ◌-◌, ◌/◌, ◌%◌, ◌≤◌, ◌<◌, length}
use Rattle.lists.specs.Bytes.{byte}
use Rattle.lists.specs.Bounded.{count_from}
use Rattle.numbers.specs.Numbers.{Bytes}
use Rattle.disk_geometry.specs.Geometry.{record_bytes, slots, record_start}
use Rattle.disk_volume.specs.Name.{name_of}
use Rattle.disk_volume.specs.Directory.{slot_at}
use Rattle.disk_volume.specs.Record.{present}
use Rattle.disk_stores.specs.Stores.{Store, cut}
use Rattle.disk_rules.specs.GoodSlot.{lowest_bad}
use Rattle.call_read.specs.Read.{read_block, read_bytes}
use Rattle.call_answers.specs.declared.Answer.TheVariants.{Done}
use Rattle.filecalls.specs.declared.Drive.{Drive}
use Rattle.filecalls.specs.Outcome.{Outcome}
use Rattle.desk_contents.specs.Contents.{first_at, count_at, chapter_place}
use Rattle.desk.specs.declared.Why.{Why}
use Rattle.std.specs.Prelude.{Ok, Err}
use Rattle.desk.specs.Records.{record_shown, bears, with_siglum, written}
use Rattle.desk.specs.Replace.{Desk, plan, rewrite_all, replacement}
use Rattle.desk.specs.Stores.{replacement_stores}

-- ---- what the statement is written with
-- where record n of the file stands in the volume: its first byte
abbrev pub stands_at : Drive → List ℕ → List ℕ → ℕ → ℕ
stands_at d v fcb n = record_start d.geometry (read_block d.geometry v d.user (name_of fcb) n) n

-- the chapter's body, by the contents that stand in record 0
module _ (d : Drive) (v fcb : List ℕ) (chapter : ℕ) where
  abbrev pub body_first : ℕ
  body_first = first_at (record_shown d v fcb 0) (chapter_place (record_shown d v fcb 0) chapter)

  abbrev pub body_count : ℕ
  body_count = count_at (record_shown d v fcb 0) (chapter_place (record_shown d v fcb 0) chapter)

-- record n is one of the body, and has the siglum
pub record Matches (d : Drive) (v fcb : List ℕ) (chapter siglum n : ℕ) : Type 0 where
  pub from_first : body_first d v fcb chapter ≤ n
  pub to_last : n < body_first d v fcb chapter + body_count d v fcb chapter
  pub has_siglum : bears d v fcb siglum n ≡ true

-- the volume was v and is w: bytes 0 and 1 of these records of the file are the siglum now, and no other byte is altered
pub record Altered (d : Drive) (v fcb : List ℕ) (these : ℕ → Type 0) (siglum : ℕ) (w : List ℕ) : Type 0 where
  pub length_stays : length w ≡ length v
  -- "the directory keeps every byte"
  pub directory_stays : (i : ℕ) → i < slots d.geometry → slot_at d.geometry w i ≡ slot_at d.geometry v i
  pub siglum_laid : (n : ℕ) → these n → (byte w (stands_at d v fcb n) ≡ siglum % 256) × (byte w (stands_at d v fcb n + 1) ≡ siglum / 256)
  pub others_stay : (x : ℕ) → ((n : ℕ) → these n → (x ≢ stands_at d v fcb n) × (x ≢ stands_at d v fcb n + 1)) → byte w x ≡ byte v x
  -- so every file has the same records present; and where the volume passed inspection, it passes, and every record of
  -- every file has its bytes, but for bytes 0 and 1 of these
  pub presence_stays : (u : ℕ) (name : List ℕ) (m : ℕ) → present d.geometry w u name m ≡ present d.geometry v u name m
  pub inspected : lowest_bad d.geometry v ≡ slots d.geometry → lowest_bad d.geometry w ≡ slots d.geometry
  pub records_stay : lowest_bad d.geometry v ≡ slots d.geometry
      → (u : ℕ) (name : List ℕ) → u ≤ 15 → (m : ℕ) → present d.geometry v u name m ≡ true
      → (k : ℕ) → k < record_bytes → (u ≡ d.user → name ≡ name_of fcb → these m → 2 ≤ k)
      → byte (read_bytes d.geometry w u name m) k ≡ byte (read_bytes d.geometry v u name m) k

-- ---- a replacement that is cut: the matching records below `reached` are done
pub record CutShort (d : Drive) (v fcb : List ℕ) (chapter old new : ℕ) (w : List ℕ) : Type 0 where
  pub reached : ℕ
  pub altered : Altered d v fcb (λ n. Matches d v fcb chapter old n × (n < reached)) new w

-- ---- one write for each: the volume when the turn of record n has come, and what the write of it leaves
abbrev pub at_turn : Drive → List ℕ → List ℕ → ℕ → ℕ → ℕ → ℕ → List ℕ
at_turn d v fcb chapter old new n =
    rewrite_all (bears d v fcb old) d fcb new v (body_first d v fcb chapter) (n - body_first d v fcb chapter)

abbrev pub write_of : Drive → List ℕ → List ℕ → ℕ → ℕ → Outcome
write_of d v fcb new n = written d v fcb n (with_siglum new (record_shown d v fcb n))

-- ---- a replacement in the state d on the volume v, altered volumes among them
-- a desk: state, volume, control block, chapter, old and new siglum to all that it leaves, and to the stores that it makes
abbrev pub Way : Type 0
Way = Drive → List ℕ → List ℕ → ℕ → ℕ → ℕ → Desk

abbrev pub Storing : Type 0
Storing = Drive → List ℕ → List ℕ → ℕ → ℕ → ℕ → List Store

-- what is said of a desk
pub record ReplacesBy (way : Way) (stores : Storing) (d : Drive) (v fcb : List ℕ) (chapter old new : ℕ) : Type 0 where
  pub goes_when : (first count : ℕ) → plan d v fcb chapter ≡ Ok (first, count)
      → (way d v fcb chapter old new).answer ≡ Ok (count_from (bears d v fcb old) first count)
  pub refused_when : (why : Why) → plan d v fcb chapter ≡ Err why → (way d v fcb chapter old new).answer ≡ Err why
  pub refused_keeps : (why : Why) → (way d v fcb chapter old new).answer ≡ Err why → (way d v fcb chapter old new).volume ≡ v
  pub altered : (c : ℕ) → (way d v fcb chapter old new).answer ≡ Ok c
      → Altered d v fcb (Matches d v fcb chapter old) new (way d v fcb chapter old new).volume
  pub counts : (c : ℕ) → (way d v fcb chapter old new).answer ≡ Ok c
      → c ≡ count_from (bears d v fcb old) (body_first d v fcb chapter) (body_count d v fcb chapter)
  pub state_stays : (way d v fcb chapter old new).drive ≡ d
  pub each_write : (c : ℕ) → (way d v fcb chapter old new).answer ≡ Ok c → (n : ℕ) → Matches d v fcb chapter old n
      → ((write_of d (at_turn d v fcb chapter old new n) fcb new n).answer ≡ Done 0)
      × ((write_of d (at_turn d v fcb chapter old new n) fcb new n).drive ≡ d)
  pub cut_short : (k : ℕ) → CutShort d v fcb chapter old new (cut d.geometry v k (stores d v fcb chapter old new))
  pub enough : (k : ℕ) → length (stores d v fcb chapter old new) ≤ k
      → cut d.geometry v k (stores d v fcb chapter old new) ≡ (way d v fcb chapter old new).volume

-- and of ours
abbrev pub Replaces : Drive → List ℕ → List ℕ → ℕ → ℕ → ℕ → Type 0
Replaces = ReplacesBy replacement replacement_stores

-- the new siglum was not in the chapter; "a replacement of a by b .. followed by b by a gives the old bytes"
abbrev pub NotInChapter : Drive → List ℕ → List ℕ → ℕ → ℕ → Type 0
NotInChapter d v fcb chapter siglum = (n : ℕ) → Matches d v fcb chapter siglum n → ⊥

abbrev pub ThereAndBack : Drive → List ℕ → List ℕ → ℕ → ℕ → ℕ → Type 0
ThereAndBack d v fcb chapter old new =
    NotInChapter d v fcb chapter new
    → (replacement d (replacement d v fcb chapter old new).volume fcb chapter new old).volume ≡ v

-- on any volume of bytes, altered ones and refused calls among them
abbrev pub OnAnyVolumeBy : Way → Storing → Type 0
OnAnyVolumeBy way stores = (d : Drive) (v fcb : List ℕ) (chapter old new : ℕ) → Bytes v → new < 65536 → ReplacesBy way stores d v fcb chapter old new

abbrev pub OnAnyVolume : Type 0
OnAnyVolume = OnAnyVolumeBy replacement replacement_stores
