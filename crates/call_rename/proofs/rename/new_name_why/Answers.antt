-- The byte rule is asked first, then whether the name can be typed, both of bytes 17 to 27.
use mathlib.Core.Path.{refl, ◌∙◌}
use mathlib.Core.Bool.{false, not}
use Rattle.lists.specs.Bytes.{part}
use Rattle.disk_volume.specs.Name.{name_at, good_name}
use Rattle.call_typing.specs.Typing.{typeable}
use Rattle.call_fcb.specs.Fcb.{new_name}
use Rattle.call_answers.specs.declared.Refusal.TheVariants.{Name, Untypeable}
use Rattle.call_answers.proofs.Ladder.{ladder_two}
use Rattle.call_rename.proofs.rename.new_name_why.Goals as goal

pub returns : goal.returns
unfolding name_at part
returns c =
    let new = new_name c.args.fcb.now in
    c.first_of.ensures
    ∙ rw (c.refuse-bad.ensures, c.good_name.ensures, c.refuse-untypeable.ensures, c.typeable_name.ensures)
    (ladder_two Name Untypeable (not (good_name false new)) (not (typeable new)) refl)
