-- The tests are asked in the ladder's order, the second from the file's first entry on.
use mathlib.Core.Path.{refl}
use lib.Dec.{leb, ltb}
use Rattle.disk_volume.specs.Directory.{find_slot}
use Rattle.disk_volume.specs.Name.{strip}
use Rattle.disk_geometry.specs.Geometry.{slots}
use Rattle.disk_volume.specs.declared.Wanted.TheVariants.{File, ReadOnlyFile}
use Rattle.call_answers.specs.declared.Refusal.TheVariants.{NoMatch, ReadOnly, Exists}
use Rattle.call_rename.specs.Rename.{rename_tests}
use Rattle.call_sweep.proofs.ReadOnlyLaws.{read_only_file_from}
use Rattle.call_answers.proofs.Ladder.{ladder_three}
use Rattle.call_rename.proofs.rename.rename_why.Goals as goal

pub returns : goal.returns
unfolding rename_tests
returns c =
    let a = c.args in
    let v = a.volume.now in
    let p = strip a.name.now in
    let q = strip a.new.now in
    rw (← ladder_three NoMatch ReadOnly Exists (leb (slots a.g) (find_slot a.g v a.user p File)) (ltb (find_slot a.g v a.user p ReadOnlyFile) (slots a.g)) (ltb (find_slot a.g v a.user q File) (slots a.g)) refl, read_only_file_from a.g v a.user p, ← c.requires.first_value.0, ← c.find_from-read_only_slot.ensures.0, ← c.find-taken.ensures.0, ← c.slots-slots.ensures.0, ← c.refuse-no_match.ensures, ← c.refuse-read_only.ensures, ← c.refuse-exists.ensures, ← c.first_of.ensures) c.first_of-2.ensures
