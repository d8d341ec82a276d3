-- The start is the base, or the lowest start where that is 0.
use Rattle.memory_room.specs.Starts.{lowest_start, grant_at, grant_of}
use lib.Dec.{eqb}
use borrow.Author.Tests.{eq-eqb, ne_eqb}
use Prim.Native.Nat.{ℕ}
use mathlib.Core.Bool.{cond}
use mathlib.Core.Path.{◌≡◌, ap, ◌∙◌}
use Rattle.memory_room.proofs.grant.Goals as goal
use Rattle.memory_room.proofs.grant.Goals.{then-base-eq0, else-base-eq0}

pub returns : goal.returns
unfolding grant_of
returns c =
    let a = c.args in
    let start_is : c.if-base-eq0.start ≡ cond (eqb a.base 0) (lowest_start a.pieces.now a.regions.now a.need) a.base =
    elim c.if-base-eq0.branch [ then-base-eq0 w ↦ rw (eq-eqb a.base 0 w.if-base-eq0.true) (w.start-is ∙ w.lowest_start-start.ensures.0) | else-base-eq0 w ↦ rw (ne_eqb a.base 0 w.if-base-eq0.false) w.start-is ] in
    c.grant_at.ensures ∙ ap (λ (s : ℕ). grant_at a.pieces.now a.regions.now s a.need a.most) start_is
