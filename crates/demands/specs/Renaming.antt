-- Request (viii). "Renaming by way of a third name. Assistants rename drafts through a temporary name and ask whether this
-- leaves traces. For a volume that passes inspection, not protected, one user, a file that is not read-only, and three
-- different permitted names of which only the first exists: renaming first to second and second to third gives the same
-- bytes as first to third, and renaming there and back gives the old bytes."
--
-- It is said of the rename call itself, as its contract has it (`Drive::rename`), with every call given the state and the
-- volume that the last left. "One user" is the user of the state, which rename hands back as it is.
use Rattle.std.specs.Prelude.{◌≡◌, Bool, true, false, List, [], ℕ, ◌≤◌, ◌<◌, ltb, length}
use Rattle.lists.specs.Bytes.{byte}
use Rattle.disk_volume.specs.declared.Wanted.TheVariants.{File, ReadOnlyFile}
use Rattle.disk_geometry.specs.Geometry.{bytes, slots}
use Rattle.disk_volume.specs.Name.{top_bit, name_of, same, good_name}
use Rattle.call_typing.specs.Typing.{typeable}
use Rattle.disk_volume.specs.Entry.{Entry}
use Rattle.disk_volume.specs.Directory.{slot_at, find_slot}
use Rattle.call_fcb.specs.Fcb.{new_name}
use Rattle.call_answers.specs.declared.Answer.TheVariants.{Done}
use Rattle.disk_rules.specs.GoodSlot.{lowest_bad}
use Rattle.filecalls.specs.declared.Drive.{Drive}
use Rattle.filecalls.specs.State.{is_open}
use Rattle.filecalls.specs.Outcome.{Outcome, outcome}
use Rattle.filecalls.specs.Names.{rename_act}

-- ---- the calls
-- all that a rename leaves: by the state, the volume and the control block
abbrev pub rename : Drive → List ℕ → List ℕ → Outcome
rename d v fcb = outcome d v fcb [] (rename_act d v fcb)

-- one more, given the state and the volume that the last call left
abbrev pub then_rename : Outcome → List ℕ → Outcome
then_rename o fcb = rename o.drive o.volume fcb

-- ---- what is asked
-- the state's user has an entry of that name, and one that is read-only
abbrev pub exists : Drive → List ℕ → List ℕ → Bool
exists d v name = ltb (find_slot d.geometry v d.user name File) (slots d.geometry)

abbrev pub any_read_only : Drive → List ℕ → List ℕ → Bool
any_read_only d v name = ltb (find_slot d.geometry v d.user name ReadOnlyFile) (slots d.geometry)

-- An open state, whose geometry is the volume's; "not protected .., a file that is not read-only, and three different
-- permitted names of which only the first exists". Permitted is what 39 lets through, 3FH not among it, and of a new name
-- also what 45 lets through. The first name is none here: it may be one that can't be typed.
pub record Drafts (d : Drive) (v first second third : List ℕ) : Type 0 where
  pub is_open_lem : is_open d ≡ true
  pub volume_length_lem : length v ≡ bytes d.geometry
  pub not_protected : d.protected ≡ false
  pub first_permitted : good_name false first ≡ true
  pub second_permitted : good_name false second ≡ true
  pub third_permitted : good_name false third ≡ true
  pub second_typeable : typeable second ≡ true
  pub third_typeable : typeable third ≡ true
  pub first_not_second : same first second ≡ false
  pub first_not_third : same first third ≡ false
  pub second_not_third : same second third ≡ false
  pub first_exists : exists d v first ≡ true
  pub second_free : exists d v second ≡ false
  pub third_free : exists d v third ≡ false
  pub not_read_only : any_read_only d v first ≡ false

-- "a volume that passes inspection", as log-in asks it
abbrev pub PassesInspection : Drive → List ℕ → Type 0
PassesInspection d v = lowest_bad d.geometry v ≡ slots d.geometry

-- A control block that asks to rename old to new: 36 bytes, dr 0 or 1, "old name in 1..11, new in 17..27". The two names are
-- its bytes without top bits, so these bytes may carry any; all other bytes may be any.
pub record Asks (fcb old new : List ℕ) : Type 0 where
  pub length_36 : length fcb ≡ 36
  pub drive_code_lem : byte fcb 0 ≤ 1
  pub old_name : name_of fcb ≡ old
  pub new_name_lem : new_name fcb ≡ new

-- ---- what is promised
-- the attribute bits of an entry: the top bits of bytes 9 and 10
pub record SameAttributes (e e' : Entry) : Type 0 where
  pub read_only : top_bit (byte e' 9) ≡ top_bit (byte e 9)
  pub system : top_bit (byte e' 10) ≡ top_bit (byte e 10)

-- "renaming first to second and second to third gives the same bytes as first to third": there is first to second, on
-- second to third, direct first to third
pub record ByThird (d : Drive) (v there on direct : List ℕ) : Type 0 where
  pub there_answer : (rename d v there).answer ≡ Done 0
  pub on_answer : (then_rename (rename d v there) on).answer ≡ Done 0
  pub direct_answer : (rename d v direct).answer ≡ Done 0
  pub same_bytes : (then_rename (rename d v there) on).volume ≡ (rename d v direct).volume
  pub same_state : (then_rename (rename d v there) on).drive ≡ (rename d v direct).drive
  -- each entry of the directory, the file's and every other, keeps its attribute bits
  pub attributes_stay : (i : ℕ) → i < slots d.geometry
      → SameAttributes (slot_at d.geometry v i) (slot_at d.geometry (then_rename (rename d v there) on).volume i)

-- "renaming there and back gives the old bytes"
pub record ThereAndBack (d : Drive) (v there back : List ℕ) : Type 0 where
  pub there_answer : (rename d v there).answer ≡ Done 0
  pub back_answer : (then_rename (rename d v there) back).answer ≡ Done 0
  pub old_bytes : (then_rename (rename d v there) back).volume ≡ v
  pub old_state : (then_rename (rename d v there) back).drive ≡ d

-- the request; on the way back the first name is a new one, so it has to be one that can be typed
abbrev pub NoTraces : Type 0
NoTraces =
    (d : Drive) (v first second third : List ℕ) → PassesInspection d v → Drafts d v first second third
    → (there on direct back : List ℕ) → Asks there first second → Asks on second third → Asks direct first third → Asks back second first
    → ByThird d v there on direct × (typeable first ≡ true → ThereAndBack d v there back)

-- its first half needs no inspection: it holds on altered volumes too
abbrev pub ByThirdAlways : Type 0
ByThirdAlways =
    (d : Drive) (v first second third : List ℕ) → Drafts d v first second third
    → (there on direct : List ℕ) → Asks there first second → Asks on second third → Asks direct first third
    → ByThird d v there on direct
