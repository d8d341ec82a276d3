-- The loop stands at an entry of the file; those seen so far gave m, and no other below it is the file's.
use mathlib.Core.Path.{sym, ◌∙◌}
use Prim.Native.Nat.{◌+◌}
use native.Mathlib.Omega.{arith}
use borrow.Author.Rules.{rules}
use Rattle.lists.proofs.FoldLaws.{folded_next, folded_end}
use Rattle.disk_volume.specs.declared.Wanted.TheVariants.{File}
use Rattle.disk_volume.specs.Name.{strip}
use Rattle.disk_volume.proofs.FindLaws.{find_le, found_fits, folded_from_found, from_low, from_fits, folded_to_next}
use Rattle.call_size.specs.Size.{larger, size_of}
use Rattle.call_size.proofs.size_by_entries.Goals as goal

pub loop-i-init : goal.loop-i-init
unfolding larger
loop-i-init c =
    let a = c.args in
    let v = a.volume.now in
    let p = strip a.name.now in
    rw c.requires.first_value ((find_le a.g v a.user p File, found_fits a.g v a.user p File), (omega arith, folded_from_found a.g v a.user p File (larger a.g v a.user p) 0 (λ i h. rw h)))

pub loop-i-smaller : goal.loop-i-smaller
loop-i-smaller c =
    let a = c.args in
    omega (arith, c.entry_from-i.ensures.0, from_low a.g a.volume.now a.user (strip a.name.now) File (c.loop-i.i + 1) (search rules))

pub loop-i-preserved : goal.loop-i-preserved
unfolding larger
loop-i-preserved c =
    let a = c.args in
    let v = a.volume.now in
    let p = strip a.name.now in
    let k = c.loop-i in
    let own = k.invariant.0.1 (search rules) in
    let f = folded_next k.invariant.1.1 (search rules) (c.larger_at-m.ensures.0 ∙ rw own) in (
      (c.entry_from-i.ensures.1, rw c.entry_from-i.ensures.0 (from_fits a.g v a.user p File (k.i + 1) (search rules))),
      (c.larger_at-m.ensures.1, rw c.entry_from-i.ensures.0 (folded_to_next a.g v a.user p File f (search rules) (λ i h. rw h))),
    )

pub returns : goal.returns
unfolding size_of
returns c = (sym (folded_end c.loop-i.invariant.1.1 (search rules)), search rules)
