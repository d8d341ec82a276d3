-- Whether the name can be typed is asked first, then ex.
use mathlib.Core.Path.{refl, ◌∙◌}
use mathlib.Core.Bool.{not}
use lib.Dec.{eqb}
use Rattle.lists.specs.Bytes.{byte, part}
use Rattle.disk_volume.specs.Name.{name_at, name_of}
use Rattle.call_typing.specs.Typing.{typeable}
use Rattle.call_answers.specs.declared.Refusal.TheVariants.{Untypeable, Position}
use Rattle.call_answers.proofs.Ladder.{ladder_two}
use Rattle.call_make.proofs.new_file_why.Goals as goal

pub returns : goal.returns
unfolding name_at part
returns c =
    let f = c.args.fcb.now in
    c.first_of.ensures
    ∙ rw (c.refuse-untypeable.ensures, c.typeable_name.ensures, c.refuse-position.ensures)
    (ladder_two Untypeable Position (not (typeable (name_of f))) (not (eqb (byte f 12) 0)) refl)
