-- No entry below the first is the file's; the entries seen from there on gave m, so what is left to be seen gives the size.
use Rattle.call_size.specs.Size.{larger, size_of}
use Rattle.disk_volume.proofs.FindLaws.{find_le, folded_from_found}
use Rattle.disk_volume.specs.declared.Wanted.TheVariants.{File}
use Rattle.disk_volume.specs.Name.{strip}
use Rattle.lists.proofs.FoldLaws.{folded_next, folded_end}
use native.Mathlib.Omega.{arith}
use mathlib.Core.Path.{sym}
use borrow.Author.Rules.{rules}
use Rattle.call_size.proofs.size_by_slots.Goals as goal

pub loop-i-init : goal.loop-i-init
unfolding larger
loop-i-init c =
    let a = c.args in
    let v = a.volume.now in
    let p = strip a.name.now in
    (search rules, rw c.requires.first_value (folded_from_found a.g v a.user p File (larger a.g v a.user p) 0 (λ i h. rw h)))

pub loop-i-preserved : goal.loop-i-preserved
loop-i-preserved c = (c.larger_of-m.ensures.1, folded_next c.loop-i.invariant.1 (search rules) c.larger_of-m.ensures.0)

pub returns : goal.returns
unfolding size_of
returns c =
    let le = find_le c.args.g c.args.volume.now c.args.user (strip c.args.name.now) File in
    (sym (folded_end c.loop-i.invariant.1 (omega (arith, c.requires.first_value))), search rules)
