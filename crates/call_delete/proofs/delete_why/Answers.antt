-- The tests are asked in the ladder's order, the second from the first match on.
use mathlib.Core.Path.{refl}
use lib.Dec.{leb, ltb}
use Rattle.disk_volume.specs.Directory.{find_slot}
use Rattle.disk_volume.specs.Name.{strip}
use Rattle.disk_geometry.specs.Geometry.{slots}
use Rattle.disk_volume.specs.declared.Wanted.TheVariants.{Match, ReadOnlyMatch}
use Rattle.call_answers.specs.declared.Refusal.TheVariants.{NoMatch, ReadOnly}
use Rattle.call_delete.specs.Delete.{delete_tests}
use Rattle.call_sweep.proofs.ReadOnlyLaws.{read_only_match_from}
use Rattle.call_answers.proofs.Ladder.{ladder_two}
use Rattle.call_delete.proofs.delete_why.Goals as goal

pub returns : goal.returns
unfolding delete_tests
returns c =
    let a = c.args in
    let v = a.volume.now in
    let p = strip a.pattern.now in
    rw (← ladder_two NoMatch ReadOnly (leb (slots a.g) (find_slot a.g v a.user p Match)) (ltb (find_slot a.g v a.user p ReadOnlyMatch) (slots a.g)) refl, read_only_match_from a.g v a.user p, ← c.requires.first_value.0, ← c.find_from-read_only_slot.ensures.0, ← c.slots-slots.ensures.0, ← c.refuse-no_match.ensures, ← c.refuse-read_only.ensures) c.first_of.ensures
