-- Attributes keep state and volume consistent and leave every file but the one that they name.
use mathlib.Core.Path.{◌≡◌, refl}
use mathlib.Core.Bool.{true, false, ◌&&◌}
use mathlib.Core.List.{List}
use Prim.Native.Nat.{ℕ, ◌<◌}
use lib.Dec.{eqb}
use borrow.Author.Tests.{not-false}
use Rattle.lists.specs.Bytes.{part}
use Rattle.disk_geometry.specs.Geometry.{slots}
use Rattle.disk_volume.specs.Name.{name_of, good_name, same}
use Rattle.disk_volume.specs.Entry.{of_file}
use Rattle.disk_volume.specs.Directory.{slot_at}
use Rattle.disk_stores.proofs.OrderLaws.{sweep_ordered}
use Rattle.call_answers.specs.declared.Refusal.TheVariants.{Closed, VolumeLength, FcbLength, DriveCode, Name}
use Rattle.call_answers.specs.Refusal.{is_none, first_met}
use Rattle.call_answers.proofs.Ladder.{unmet}
use Rattle.call_sweep.specs.Sweep.{attributed}
use Rattle.call_sweep.proofs.EditLaws.{attributed_length}
use Rattle.filecalls.specs.declared.Drive.{Drive}
use Rattle.filecalls.specs.Outcome.{changed_state}
use Rattle.filecalls.specs.Names.{attributes_ladder, attributes_act}
use Rattle.demands.proofs.Acts.{Consistent, Safe, safe_laid, Keeps, does, keeps_unless}
use Rattle.demands.proofs.NamedEntry.{attributes_renames}
use Rattle.demands.proofs.FileEdit.{Edits, edit_held, edit_safe}
use Rattle.demands.proofs.Swept.{cut_swept, laid_swept}

good_name_lem : (d : Drive) (v f : List ℕ) → is_none (first_met (attributes_ladder d v f)) ≡ true → good_name false (name_of f) ≡ true
unfolding attributes_ladder
good_name_lem d v f h =
    let closed = unmet Closed _ _ refl h in
    let volume = unmet VolumeLength _ _ refl closed.1 in
    let fcb = unmet FcbLength _ _ refl volume.1 in
    let drive = unmet DriveCode _ _ refl fcb.1 in
    not-false _ (unmet Name _ _ refl drive.1).0

attributes_edits : (u : ℕ) (name new : List ℕ) → Edits u name name (λ e. attributed e new)
attributes_edits u name new = record {
  keeps_32 = attributed_length new;
  meant = λ e l own. rw (← own.name_is) (attributes_renames e new l);
}

pub attributes_keep : (d : Drive) (v f : List ℕ) → Consistent d v → Keeps (λ u name. eqb u d.user && same name (name_of f)) d v (attributes_act d v f)
unfolding attributes_act changed_state
attributes_keep d v f c = keeps_unless (attributes_ladder d v f) _ (λ h.
    let g = d.geometry in
    let good = good_name_lem d v f h in
    let edits = attributes_edits d.user (name_of f) (part f 1 11) in
    let all = laid_swept g c.law (of_file d.user (name_of f)) _ edits.keeps_32 v c.size in
    let free : (j : ℕ) → j < slots g → of_file d.user (name_of f) (slot_at g v j) ≡ false → of_file d.user (name_of f) (slot_at g v j) ≡ false = λ j j< q. q in
    let cuts : (k : ℕ) → Safe (λ u name. eqb u d.user && same name (name_of f)) g v _
    = λ k. edit_safe g c.law v c.size c.sound d.user (name_of f) (name_of f) good _ edits free _
    (cut_swept g c.law (of_file d.user (name_of f)) _ edits.keeps_32 v c.size k) _ (λ u name other. (other, other)) in
    does (record {
      consistent = record {
        law = c.law;
        size = all.size;
        sound = (safe_laid _ cuts).sound;
        held = edit_held g c.law v c.size c.sound d.user (name_of f) (name_of f) good _ edits free _ all d.held c.held;
      };
      cuts = cuts;
      ordered = sweep_ordered g c.law (of_file d.user (name_of f)) _ edits.keeps_32 v c.size;
    }))
