-- No place passed so far breaks the rule, so what is still to be searched gives the whole.
use Rattle.disk_faults.specs.Faults.{breaks_at, place_of}
use Rattle.disk_geometry.specs.Geometry.{places}
use Rattle.lists.proofs.BoundedLaws.{searched_next, searched_hit, searched_none, from_zero}
use Rattle.lists.specs.Bounded.{low_from}
use Prim.Native.Nat.{◌-◌}
use native.Mathlib.Omega.{arith}
use mathlib.Core.Path.{◌≡◌, sym, ◌∙◌}
use borrow.Author.Rules.{rules}
use Rattle.disk_faults.proofs.Slot.place_of.Goals as goal

pub returns-then-is_broken : goal.returns-then-is_broken
unfolding place_of
returns-then-is_broken c =
    let whole : (let a = c.args in place_of a.self.now.g a.self.now.volume.now a.self.now.i a.rule ≡ low_from (breaks_at a.self.now.g a.self.now.volume.now a.self.now.i a.rule) 0 (c.places-n.result - 0)) = (let a = c.args in rw c.places-n.ensures.0 (sym (from_zero (breaks_at a.self.now.g a.self.now.volume.now a.self.now.i a.rule) (places a.self.now.g)))) in
    sym (whole ∙ searched_hit c.loop-p.invariant (search rules) (sym c.is_broken.ensures ∙ c.if-is_broken.true))

pub loop-p-preserved : goal.loop-p-preserved
loop-p-preserved c = searched_next c.loop-p.invariant (search rules) (sym c.is_broken.ensures ∙ c.if-is_broken.false)

pub returns : goal.returns
unfolding place_of
returns c =
    let whole : (let a = c.args in place_of a.self.now.g a.self.now.volume.now a.self.now.i a.rule ≡ low_from (breaks_at a.self.now.g a.self.now.volume.now a.self.now.i a.rule) 0 (c.places-n.result - 0)) = (let a = c.args in rw c.places-n.ensures.0 (sym (from_zero (breaks_at a.self.now.g a.self.now.volume.now a.self.now.i a.rule) (places a.self.now.g)))) in
    sym (whole ∙ searched_none c.loop-p.invariant (search rules) ∙ omega arith)
