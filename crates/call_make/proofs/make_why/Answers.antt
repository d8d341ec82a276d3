-- The tests are asked in the ladder's order; with none met there is an empty slot.
use mathlib.Core.Path.{◌≡◌, refl, sym, ap, ◌∙◌}
use lib.Dec.{leb, ltb}
use Rattle.disk_volume.specs.Directory.{find_slot}
use Rattle.disk_volume.specs.Name.{strip}
use Rattle.disk_geometry.specs.Geometry.{slots}
use Rattle.disk_volume.specs.declared.Wanted.TheVariants.{Empty, File}
use Rattle.call_answers.specs.Refusal.{is_none, first, first_met}
use Rattle.call_answers.specs.declared.Refusal.TheVariants.{Exists, NoRoom}
use Rattle.call_make.specs.Make.{make_tests}
use Rattle.call_make.proofs.MakeLaws.{empty_slot_below, later_clear}
use Rattle.call_answers.proofs.Ladder.{ladder_two}
use Rattle.call_make.proofs.make_why.Goals as goal

pub returns : goal.returns
unfolding make_tests
returns c =
    let why : (let a = c.args in c.first_of.result ≡ first_met (make_tests a.g a.volume.now a.user (strip a.name.now))) = (let a = c.args in
    let v = a.volume.now in
    let n = strip a.name.now in
    rw (← ladder_two Exists NoRoom (ltb (find_slot a.g v a.user n File) (slots a.g)) (leb (slots a.g) (find_slot a.g v a.user n Empty)) refl, ← c.find-taken.ensures.0, ← c.find_empty-slot.ensures.0, ← c.slots-slots.ensures.0, ← c.refuse-exists.ensures, ← c.refuse-no_room.ensures) c.first_of.ensures) in
    let a = c.args in
    let e = c.first_of-why.ensures ∙ ap (first a.before) why in
    record {
      why_value = e;
      slot_value = c.find_empty-slot.ensures.0;
      slot_bound = λ q. rw c.find_empty-slot.ensures.0 (empty_slot_below a.g a.volume.now a.user (strip a.name.now) (later_clear a.before _ (ap is_none (sym e) ∙ q)));
    }
