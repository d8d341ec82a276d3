-- Rename keeps state and volume consistent and leaves every file but the two that it names.
use mathlib.Core.Path.{◌≡◌, refl}
use mathlib.Core.Bool.{Bool, true, false, ◌&&◌, ◌||◌, true≢false}
use mathlib.Core.List.{List}
use Prim.Native.Nat.{ℕ, ◌≤◌, ◌<◌}
use native.Mathlib.Omega.{arith}
use lib.Dec.{eqb}
use lib.ListN.{length}
use borrow.Author.Tests.{not-false, eqb-true, ltb-false}
use Rattle.lists.specs.Bytes.{part}
use Rattle.lists.proofs.PartLaws.{length_part}
use Rattle.disk_volume.specs.declared.Wanted.TheVariants.{File}
use Rattle.disk_geometry.specs.Geometry.{slots}
use Rattle.disk_volume.specs.Name.{name_at, name_of, good_name, same}
use Rattle.disk_volume.specs.Entry.{Entry, of_file}
use Rattle.disk_volume.specs.Directory.{slot_at, find_slot}
use Rattle.disk_volume.proofs.FindLaws.{not_found}
use Rattle.disk_stores.proofs.OrderLaws.{sweep_ordered}
use Rattle.call_fcb.specs.Fcb.{new_name}
use Rattle.call_answers.specs.declared.Refusal.TheVariants.{Closed, VolumeLength, FcbLength, DriveCode, Name, Untypeable, Protected, NoMatch, ReadOnly, Exists}
use Rattle.call_answers.specs.Refusal.{is_none, first_met}
use Rattle.call_answers.proofs.Ladder.{unmet}
use Rattle.call_sweep.specs.declared.Edit.TheVariants.{Rename}
use Rattle.call_sweep.specs.Sweep.{renamed, changed}
use Rattle.call_sweep.proofs.EditLaws.{renamed_length}
use Rattle.call_rename.specs.Rename.{rename_tests}
use Rattle.filecalls.specs.declared.Drive.{Drive}
use Rattle.filecalls.specs.Outcome.{changed_state}
use Rattle.filecalls.specs.Names.{rename_ladder, rename_act}
use Rattle.demands.proofs.Acts.{Consistent, Safe, safe_laid, Keeps, does, keeps_unless}
use Rattle.demands.proofs.NamedEntry.{rename_renames}
use Rattle.demands.proofs.FileEdit.{Edits, edit_held, edit_safe}
use Rattle.demands.proofs.Swept.{cut_swept, laid_swept}

-- what is known once no test of rename is met
record Ready (d : Drive) (v f : List ℕ) : Type 0 where
  fcb36 : length f ≡ 36
  good_name_lem : good_name false (new_name f) ≡ true
  unused : slots d.geometry ≤ find_slot d.geometry v d.user (new_name f) File

ready : (d : Drive) (v f : List ℕ) → is_none (first_met (rename_ladder d v f)) ≡ true → Ready d v f
unfolding rename_ladder rename_tests
ready d v f h =
    let closed = unmet Closed _ _ refl h in
    let volume = unmet VolumeLength _ _ refl closed.1 in
    let fcb = unmet FcbLength _ _ refl volume.1 in
    let drive = unmet DriveCode _ _ refl fcb.1 in
    let name = unmet Name _ _ refl drive.1 in
    let new = unmet Name _ _ refl name.1 in
    let typing = unmet Untypeable _ _ refl new.1 in
    let protection = unmet Protected _ _ refl typing.1 in
    let match = unmet NoMatch _ _ refl protection.1 in
    let read_only = unmet ReadOnly _ _ refl match.1 in
    let exists = unmet Exists _ _ refl read_only.1 in
    record { fcb36 = eqb-true (length f) 36 (not-false _ fcb.0); good_name_lem = not-false _ new.0; unused = ltb-false _ _ exists.0 }

pub rename_hit : (u : ℕ) (name new : List ℕ) (e : Entry) → of_file u name e ≡ true → changed Rename u name new e ≡ renamed e new
unfolding changed
rename_hit u name new e q = rw q

pub rename_miss : (u : ℕ) (name new : List ℕ) (e : Entry) → of_file u name e ≡ false → changed Rename u name new e ≡ e
unfolding changed
rename_miss u name new e q = rw q

rename_edits : (u : ℕ) (name f : List ℕ) → length f ≡ 36 → Edits u name (new_name f) (λ e. renamed e (part f 17 11))
unfolding name_at
rename_edits u name f f36 =
    let eleven : length (part f 17 11) ≡ 11 = length_part f 17 11 (omega arith) in
    record { keeps_32 = renamed_length (part f 17 11) eleven; meant = λ e l own. rename_renames e (part f 17 11) l eleven }

-- neither of two names
neither : (a x y : Bool) → (a && (x || y)) ≡ false → ((a && x) ≡ false) × ((a && y) ≡ false)
neither true true y e = absurd (true≢false e)
neither true false y e = (refl, e)
neither false x y e = (refl, refl)

pub rename_keeps : (d : Drive) (v f : List ℕ) → Consistent d v → Keeps (λ u name. eqb u d.user && (same name (name_of f) || same name (new_name f))) d v (rename_act d v f)
unfolding rename_act changed_state
rename_keeps d v f c = keeps_unless (rename_ladder d v f) _ (λ h.
    let g = d.geometry in
    let r = ready d v f h in
    let edits = rename_edits d.user (name_of f) f r.fcb36 in
    let all = laid_swept g c.law (of_file d.user (name_of f)) _ edits.keeps_32 v c.size in
    let free : (j : ℕ) → j < slots g → of_file d.user (name_of f) (slot_at g v j) ≡ false → of_file d.user (new_name f) (slot_at g v j) ≡ false
    = λ j j< q. not_found g v d.user (new_name f) File r.unused j j< in
    let cuts : (k : ℕ) → Safe (λ u name. eqb u d.user && (same name (name_of f) || same name (new_name f))) g v _
    = λ k. edit_safe g c.law v c.size c.sound d.user (name_of f) (new_name f) r.good_name_lem _ edits free _
    (cut_swept g c.law (of_file d.user (name_of f)) _ edits.keeps_32 v c.size k) _
    (λ u name other. neither (eqb u d.user) (same name (name_of f)) (same name (new_name f)) other) in
    does (record {
      consistent = record {
        law = c.law;
        size = all.size;
        sound = (safe_laid _ cuts).sound;
        held = edit_held g c.law v c.size c.sound d.user (name_of f) (new_name f) r.good_name_lem _ edits free _ all d.held c.held;
      };
      cuts = cuts;
      ordered = sweep_ordered g c.law (of_file d.user (name_of f)) _ edits.keeps_32 v c.size;
    }))
