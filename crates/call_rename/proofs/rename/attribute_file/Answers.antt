-- An earlier refusal or a missing file alters nothing; else the sweep marks the file's entries.
use Rattle.call_answers.proofs.Ladder.{ladder_one}
use Rattle.call_answers.specs.Refusal.{test, first, first_met}
use Rattle.call_answers.specs.declared.Refusal.TheVariants.{NoMatch}
use Rattle.disk_volume.specs.Directory.{find_slot}
use Rattle.disk_volume.specs.Name.{strip}
use Rattle.disk_geometry.specs.Geometry.{slots}
use Rattle.disk_volume.specs.declared.Wanted.TheVariants.{File}
use mathlib.Core.List.{[], ◌∷◌}
use lib.Dec.{leb}
use mathlib.Core.Path.{◌≡◌, refl, sym, ◌∙◌}
use Rattle.call_rename.proofs.rename.attribute_file.Goals as goal

pub returns-then-is_none : goal.returns-then-is_none
returns-then-is_none c =
    let why : (let a = c.args in c.first_of-why.result ≡ first a.before (first_met (test NoMatch (leb (slots a.g) (find_slot a.g a.volume.now a.user (strip a.name.now) File)) ∷ []))) = (let a = c.args in
    rw (← ladder_one NoMatch (leb (slots a.g) (find_slot a.g a.volume.now a.user (strip a.name.now) File)) refl, ← c.find-first.ensures.0, ← c.slots.ensures.0, ← c.refuse-no_match.ensures) c.first_of-why.ensures) in
    let n = sym c.is_none.ensures ∙ c.if-is_none.true in
    let o = c.change_most in
    record {
      value = why;
      volume_after = rw n o.ensures.volume_after;
      left_after = rw n o.ensures.left_after;
    }

pub returns-else-is_none : goal.returns-else-is_none
returns-else-is_none c =
    let why : (let a = c.args in c.first_of-why.result ≡ first a.before (first_met (test NoMatch (leb (slots a.g) (find_slot a.g a.volume.now a.user (strip a.name.now) File)) ∷ []))) = (let a = c.args in
    rw (← ladder_one NoMatch (leb (slots a.g) (find_slot a.g a.volume.now a.user (strip a.name.now) File)) refl, ← c.find-first.ensures.0, ← c.slots.ensures.0, ← c.refuse-no_match.ensures) c.first_of-why.ensures) in
    let n = sym c.is_none.ensures ∙ c.if-is_none.false in
    record {
      value = why;
      volume_after = rw n;
      left_after = rw n;
    }
