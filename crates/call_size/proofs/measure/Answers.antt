-- Where the file has an entry its size is laid into the control block.
use Rattle.call_answers.proofs.Ladder.{ladder_one}
use Rattle.call_answers.specs.Refusal.{test, first_met}
use Rattle.call_answers.specs.declared.Refusal.TheVariants.{NoMatch}
use Rattle.disk_volume.specs.Directory.{find_slot}
use Rattle.disk_volume.specs.Name.{name_at, name_of}
use Rattle.disk_geometry.specs.Geometry.{slots}
use Rattle.disk_volume.specs.declared.Wanted.TheVariants.{File}
use Rattle.lists.specs.Bytes.{part}
use lib.Dec.{leb}
use mathlib.Core.List.{[], ◌∷◌}
use mathlib.Core.Path.{◌≡◌, refl, sym, ◌∙◌}
use Rattle.call_size.proofs.measure.Goals as goal

pub returns-then-is_none : goal.returns-then-is_none
unfolding name_at part
returns-then-is_none c =
    let why : (let a = c.args in c.refuse-why.result ≡ first_met (test NoMatch (leb (slots a.g) (find_slot a.g a.volume.now a.user (name_of a.fcb.now) File)) ∷ [])) = (let a = c.args in
    rw (← ladder_one NoMatch (leb (slots a.g) (find_slot a.g a.volume.now a.user (name_of a.fcb.now) File)) refl, ← c.find-first.ensures.0, ← c.slots.ensures.0) c.refuse-why.ensures) in
    let n = sym c.is_none.ensures ∙ c.if-is_none.true in
    record {
      value = why;
      fcb_after = rw (n, ← c.size_from-size.ensures.0) c.set_random.ensures;
    }

pub returns-else-is_none : goal.returns-else-is_none
unfolding name_at part
returns-else-is_none c =
    let why : (let a = c.args in c.refuse-why.result ≡ first_met (test NoMatch (leb (slots a.g) (find_slot a.g a.volume.now a.user (name_of a.fcb.now) File)) ∷ [])) = (let a = c.args in
    rw (← ladder_one NoMatch (leb (slots a.g) (find_slot a.g a.volume.now a.user (name_of a.fcb.now) File)) refl, ← c.find-first.ensures.0, ← c.slots.ensures.0) c.refuse-why.ensures) in
    let n = sym c.is_none.ensures ∙ c.if-is_none.false in
    record {
      value = why;
      fcb_after = rw n;
    }
