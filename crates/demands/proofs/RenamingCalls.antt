-- One rename that no test refuses: what it leaves, and which names exist afterwards. Nothing is asked of inspection.
use mathlib.Core.Path.{◌≡◌, refl, sym, ap, ◌∙◌}
use mathlib.Core.Bool.{Bool, true, false, not, ◌&&◌, and-false, true≢false}
use mathlib.Core.List.{List, []}
use Prim.Native.Nat.{ℕ, ◌≤◌, ◌<◌}
use native.Mathlib.Omega.{arith}
use lib.Dec.{ltb}
use lib.ListN.{length}
use borrow.Author.Tests.{ltb-true, ltb-false, lt-ltb, le-ltb, lt-leb, leb-false, eq-eqb}
use Rattle.lists.specs.Bytes.{byte, part}
use Rattle.lists.proofs.PartLaws.{length_part}
use Rattle.disk_volume.specs.declared.Wanted.{Wanted}
use Rattle.disk_volume.specs.declared.Wanted.TheVariants.{File, ReadOnlyFile}
use Rattle.disk_geometry.specs.Geometry.{lawful, bytes, slots}
use Rattle.disk_volume.specs.Name.{strip, name_at, same, good_name}
use Rattle.call_typing.specs.Typing.{typeable}
use Rattle.disk_volume.specs.Entry.{Entry, read_only, of_file}
use Rattle.disk_volume.specs.Directory.{slot_at, slot_fits, find_slot, map_slots}
use Rattle.disk_volume.proofs.NameLaws.{same_refl, byte_strip}
use Rattle.disk_volume.proofs.FindLaws.{found_fits, not_found, find_low}
use Rattle.disk_volume.proofs.DirectoryLaws.{slot_length}
use Rattle.disk_stores.proofs.SweepLaws.{map_slots_length, map_slots_slot}
use Rattle.call_answers.specs.declared.Refusal.TheVariants.{Closed, VolumeLength, FcbLength, DriveCode, Name, Untypeable, Protected, NoMatch, ReadOnly, Exists}
use Rattle.call_answers.specs.declared.Answer.TheVariants.{Done}
use Rattle.call_sweep.specs.declared.Edit.TheVariants.{Rename}
use Rattle.call_sweep.specs.Sweep.{renamed, changed}
use Rattle.disk_stores.specs.Stores.{directory_records, sweep_stores}
use Rattle.disk_stores.proofs.SweptLaws.{swept_laid}
use Rattle.call_rename.specs.Rename.{rename_tests}
use Rattle.call_sweep.proofs.EditLaws.{changed_keeps, renamed_length}
use Rattle.filecalls.specs.declared.Drive.{Drive}
use Rattle.filecalls.specs.State.{is_open}
use Rattle.filecalls.specs.Outcome.{keeps, done, changed_state, outcome}
use Rattle.filecalls.specs.Names.{rename_ladder, rename_act}
use Rattle.filecalls.proofs.StateLaws.{is_open_lem}
use Rattle.filecalls.proofs.OutcomeLaws.{goes_by, all_passed}
use Rattle.demands.specs.Renaming.{rename, exists, any_read_only, Asks}
use Rattle.demands.proofs.Files.{IsOf, is_of, of_file_lem, not_file}
use Rattle.demands.proofs.NamedEntry.{rename_renames}
use Rattle.demands.proofs.RenameKeeps.{rename_hit, rename_miss}
use Rattle.demands.proofs.RenamingEntries.{renamed_under}

-- ---- what a name that is not there tells, and back
module _ (d : Drive) (v name : List ℕ) where
  pub none_of : exists d v name ≡ false → (j : ℕ) → j < slots d.geometry → of_file d.user name (slot_at d.geometry v j) ≡ false
  none_of h = not_found d.geometry v d.user name File (ltb-false _ _ h)

  -- no slot has what is wanted
  nowhere : (w : Wanted) → ((j : ℕ) → j < slots d.geometry → slot_fits d.geometry v d.user name w j ≡ false)
      → ltb (find_slot d.geometry v d.user name w) (slots d.geometry) ≡ false
  nowhere w h = go (ltb (find_slot d.geometry v d.user name w) (slots d.geometry)) refl
    where
      go : (t : Bool) → ltb (find_slot d.geometry v d.user name w) (slots d.geometry) ≡ t → t ≡ false
      go false e = refl
      go true e =
          let l : find_slot d.geometry v d.user name w < slots d.geometry = ltb-true _ _ e in
          absurd (true≢false (sym (found_fits d.geometry v d.user name w l) ∙ h (find_slot d.geometry v d.user name w) l))

-- ---- a rename that no test refuses
pub record Granted (d : Drive) (v f old new : List ℕ) : Type 0 where
  pub asks : Asks f old new
  pub state_open : is_open d ≡ true
  pub volume_length_lem : length v ≡ bytes d.geometry
  pub not_protected : d.protected ≡ false
  pub old_permitted : good_name false old ≡ true
  pub new_permitted : good_name false new ≡ true
  pub new_typeable : typeable new ≡ true
  pub old_exists : exists d v old ≡ true
  pub not_read_only : any_read_only d v old ≡ false
  pub new_free : exists d v new ≡ false

-- what it makes of an entry, and of the volume
abbrev pub edit : Drive → List ℕ → List ℕ → Entry → Entry
edit d f old = changed Rename d.user old (part f 17 11)

abbrev pub after : Drive → List ℕ → List ℕ → List ℕ → List ℕ
after d v f old = map_slots d.geometry (edit d f old) v

module _ {d : Drive} {v f old new : List ℕ} (r : Granted d v f old new) where
  goes : rename_act d v f ≡ done 0 keeps (sweep_stores d.geometry (of_file d.user old) (λ e. renamed e (part f 17 11)) v 0 (directory_records d.geometry)) f []
  unfolding rename_act rename_ladder rename_tests
  goes =
      let found : find_slot d.geometry v d.user old File < slots d.geometry = ltb-true _ _ r.old_exists in
      rw (r.asks.old_name, r.asks.new_name_lem)
      (goes_by Closed _ _ _ (ap not r.state_open)
      ∙ goes_by VolumeLength _ _ _ (ap not (eq-eqb (length v) (bytes d.geometry) r.volume_length_lem))
      ∙ goes_by FcbLength _ _ _ (ap not (eq-eqb (length f) 36 r.asks.length_36))
      ∙ goes_by DriveCode _ _ _ (le-ltb 1 (byte f 0) r.asks.drive_code_lem)
      ∙ goes_by Name _ _ _ (ap not r.old_permitted)
      ∙ goes_by Name _ _ _ (ap not r.new_permitted)
      ∙ goes_by Untypeable _ _ _ (ap not r.new_typeable)
      ∙ goes_by Protected _ _ _ r.not_protected
      ∙ goes_by NoMatch _ _ _ (lt-leb _ _ found)
      ∙ goes_by ReadOnly _ _ _ r.not_read_only
      ∙ goes_by Exists _ _ _ r.new_free
      ∙ all_passed _)

  -- the eleven bytes that go into the entries
  pub eleven : length (part f 17 11) ≡ 11
  eleven = length_part f 17 11 (omega (arith, r.asks.length_36))

  pub law : lawful d.geometry ≡ true
  law = (is_open_lem d r.state_open).law

  -- all that it leaves
  pub leaves : rename d v f ≡ record { answer = Done 0; drive = d; volume = after d v f old; fcb = f; buffer = [] }
  unfolding outcome changed_state changed
  leaves = rw (goes, swept_laid d.geometry law (of_file d.user old) (λ e. renamed e (part f 17 11)) (renamed_length (part f 17 11) eleven) v r.volume_length_lem)

  pub new_bytes : strip (part f 17 11) ≡ new
  unfolding name_at
  new_bytes = r.asks.new_name_lem

  pub edit_keeps : (e : Entry) → length e ≡ 32 → length (edit d f old e) ≡ 32
  edit_keeps = changed_keeps Rename d.user old (part f 17 11) eleven

  pub after_length : length (after d v f old) ≡ bytes d.geometry
  after_length = map_slots_length d.geometry law (edit d f old) edit_keeps v r.volume_length_lem ∙ r.volume_length_lem

  pub after_slot : (j : ℕ) → j < slots d.geometry → slot_at d.geometry (after d v f old) j ≡ edit d f old (slot_at d.geometry v j)
  after_slot = map_slots_slot d.geometry law (edit d f old) edit_keeps v r.volume_length_lem

  pub entry_length : (j : ℕ) → j < slots d.geometry → length (slot_at d.geometry v j) ≡ 32
  entry_length = slot_length d.geometry law v r.volume_length_lem

  -- ---- an entry of the file has the new name
  pub own_after : (j : ℕ) → j < slots d.geometry → of_file d.user old (slot_at d.geometry v j) ≡ true
      → IsOf d.user new (renamed (slot_at d.geometry v j) (part f 17 11))
  own_after j j< own =
      let k = rename_renames (slot_at d.geometry v j) (part f 17 11) (entry_length j j<) eleven in
      record { user = k.user ∙ (is_of d.user old (slot_at d.geometry v j) own).user; name_is = k.name ∙ new_bytes }

  -- ---- so the new name exists
  pub new_exists : exists d (after d v f old) new ≡ true
  new_exists =
      let g = d.geometry in
      let i = find_slot g v d.user old File in
      let i< : i < slots g = ltb-true _ _ r.old_exists in
      let own : of_file d.user old (slot_at g v i) ≡ true = found_fits g v d.user old File i< in
      let is : slot_at g (after d v f old) i ≡ renamed (slot_at g v i) (part f 17 11)
      = after_slot i i< ∙ rename_hit d.user old (part f 17 11) (slot_at g v i) own in
      let own' : of_file d.user new (slot_at g (after d v f old) i) ≡ true = rw is (of_file_lem d.user new _ (own_after i i< own)) in
      let l : find_slot g (after d v f old) d.user new File ≤ i = find_low g (after d v f old) d.user new File i own' in
      lt-ltb (find_slot g (after d v f old) d.user new File) (slots g) (omega arith)

  -- ---- it is not read-only
  marked_low : (j : ℕ) → j < slots d.geometry → byte (slot_at d.geometry v j) 9 < 128 → read_only (renamed (slot_at d.geometry v j) (part f 17 11)) ≡ false
  marked_low j j< h =
      let e = slot_at d.geometry v j in
      let b : byte (strip (part f 17 11)) 8 < 128 = rw (byte_strip (part f 17 11) 8) (omega arith) in
      let n : byte (renamed e (part f 17 11)) 9 < 128 = rw (renamed_under e (part f 17 11) (entry_length j j<) eleven).nine (omega arith) in
      lt-leb 128 (byte (renamed e (part f 17 11)) 9) n

  pub new_not_read_only : any_read_only d (after d v f old) new ≡ false
  new_not_read_only = nowhere d (after d v f old) new ReadOnlyFile (λ j j<. at j j< (of_file d.user old (slot_at d.geometry v j)) refl)
    where
      at : (j : ℕ) → j < slots d.geometry → (t : Bool) → of_file d.user old (slot_at d.geometry v j) ≡ t
          → slot_fits d.geometry (after d v f old) d.user new ReadOnlyFile j ≡ false
      at j j< true own =
          let e = slot_at d.geometry v j in
          let k : of_file d.user old e && read_only e ≡ false = not_found d.geometry v d.user old ReadOnlyFile (ltb-false _ _ r.not_read_only) j j< in
          let h : byte e 9 < 128 = leb-false 128 (byte e 9) (rw own at k) in
          rw (after_slot j j<, rename_hit d.user old (part f 17 11) e own, marked_low j j< h)
          (and-false (of_file d.user new (renamed e (part f 17 11))))
      at j j< false other =
          rw (after_slot j j<, rename_miss d.user old (part f 17 11) (slot_at d.geometry v j) other, none_of d v new r.new_free j j<)

  -- ---- another name is free if no entry but the file's had it
  pub still_free : (name : List ℕ) → same name new ≡ false
      → ((j : ℕ) → j < slots d.geometry → of_file d.user old (slot_at d.geometry v j) ≡ false → of_file d.user name (slot_at d.geometry v j) ≡ false)
      → exists d (after d v f old) name ≡ false
  still_free name different free = nowhere d (after d v f old) name File (λ j j<. at j j< (of_file d.user old (slot_at d.geometry v j)) refl)
    where
      at : (j : ℕ) → j < slots d.geometry → (t : Bool) → of_file d.user old (slot_at d.geometry v j) ≡ t
          → of_file d.user name (slot_at d.geometry (after d v f old) j) ≡ false
      at j j< true own =
          let e = slot_at d.geometry v j in
          rw (after_slot j j<, rename_hit d.user old (part f 17 11) e own)
          (not_file d.user name (renamed e (part f 17 11)) (λ k.
          let z : name ≡ new = sym k.name_is ∙ (own_after j j< own).name_is in
          true≢false (sym (same_refl new) ∙ (rw z at different))))
      at j j< false other = rw (after_slot j j<, rename_miss d.user old (part f 17 11) (slot_at d.geometry v j) other) (free j j< other)

  -- ---- so a rename from the new name to one that is then free is granted
  pub granted_next : {h last : List ℕ} → Asks h new last → good_name false last ≡ true → typeable last ≡ true → exists d (after d v f old) last ≡ false → Granted d (after d v f old) h new last
  granted_next asks' permitted typed free = record {
    asks = asks';
    state_open = r.state_open;
    volume_length_lem = after_length;
    not_protected = r.not_protected;
    old_permitted = r.new_permitted;
    new_permitted = permitted;
    new_typeable = typed;
    old_exists = new_exists;
    not_read_only = new_not_read_only;
    new_free = free;
  }
