-- No slot below the first match is one; the slots passed from there on are freed, so what is still to be freed gives the whole.
use Rattle.disk_volume.proofs.FindLaws.{folded_from_found, from_low, folded_to_next}
use Rattle.disk_volume.specs.declared.Wanted.TheVariants.{Match}
use Rattle.lists.proofs.FoldLaws.{folded_next, folded_end}
use mathlib.Core.Path.{sym, ◌∙◌}
use Prim.Native.Nat.{◌+◌}
use native.Mathlib.Omega.{arith}
use borrow.Author.Rules.{rules}
use Rattle.disk_volume.specs.Name.{strip}
use Rattle.call_delete.specs.Delete.{free_slot, free_matches}
use Rattle.call_delete.proofs.free_matches.Goals as goal

pub loop-i-init : goal.loop-i-init
unfolding free_slot
loop-i-init c =
    let a = c.args in
    let v = a.volume.now in
    let p = strip a.pattern.now in
    (search rules, (search rules, rw c.requires.first_value.0 (folded_from_found a.g v a.user p Match (free_slot a.g v a.user p) a.held.now (λ i h. rw h))))

pub loop-i-smaller : goal.loop-i-smaller
loop-i-smaller c =
    let a = c.args in
    omega (arith, c.match_from-i.ensures.0, from_low a.g a.volume.now a.user (strip a.pattern.now) Match (c.loop-i.i + 1) (search rules))

pub loop-i-preserved : goal.loop-i-preserved
unfolding free_slot
loop-i-preserved c =
    let a = c.args in
    let l = c.loop-i in
    let r = c.free_slot in
    let f = folded_next l.invariant.1.1 (search rules) r.ensures in (
      c.match_from-i.ensures.1,
      (r.auto.held ∙ l.invariant.1.0, rw c.match_from-i.ensures.0 (folded_to_next a.g a.volume.now a.user (strip a.pattern.now) Match f (search rules) (λ i h. rw h))),
    )

pub returns : goal.returns
unfolding free_matches
returns c = sym (folded_end c.loop-i.invariant.1.1 (search rules))
