-- Two tests in the ladder's order; with none met the slot is one of the directory's.
use Rattle.call_answers.proofs.Ladder.{ladder_two, unmet}
use Rattle.call_answers.specs.Refusal.{is_none, test, first_met}
use Rattle.call_answers.specs.declared.Refusal.TheVariants.{Position, NoMatch}
use Rattle.disk_geometry.specs.Geometry.{slots}
use borrow.Author.Tests.{leb-false}
use lib.Dec.{leb}
use mathlib.Core.List.{[], ◌∷◌}
use mathlib.Core.Bool.{not}
use mathlib.Core.Path.{◌≡◌, refl, sym, ap, ◌∙◌}
use Rattle.call_open.proofs.slot_why.Goals as goal

pub returns : goal.returns
returns c =
    let a = c.args in
    let full = leb (slots a.g) a.slot in
    let e : c.first_of.result ≡ first_met (test Position (not a.fits) ∷ test NoMatch full ∷ []) =
    rw (← ladder_two Position NoMatch (not a.fits) full refl, ← c.slots.ensures.0, ← c.refuse-unfit.ensures, ← c.refuse-no_match.ensures) c.first_of.ensures in
    record {
      value = e;
      slot_bound = λ q. leb-false (slots a.g) a.slot (unmet NoMatch full [] refl (unmet Position (not a.fits) (test NoMatch full ∷ []) refl (ap is_none (sym e) ∙ q)).1).0;
    }
