-- The key so far is what the bytes passed so far make of it.
use mathlib.Core.Path.{sym, ap, ◌∙◌}
use Prim.Native.Nat.{ℕ, ◌+◌, ◌*◌, ◌%◌}
use borrow.Author.Rules.{rules}
use Rattle.lists.proofs.FoldLaws.{folded_next, folded_end}
use Rattle.disk_volume.proofs.NameLaws.{byte_strip}
use Rattle.shelf_files.specs.CodeTree.{KEYS, FACTOR, key_of}
use Rattle.shelf_files.proofs.key_of.Goals as goal

pub loop-b-preserved : goal.loop-b-preserved
loop-b-preserved c =
    let l = c.loop-b in
    let next = ap (λ (x : ℕ). (FACTOR * l.key + x) % KEYS) (c.from.ensures ∙ sym (byte_strip c.args.name.now l.b-index)) in
    (search rules, folded_next l.invariant.1 (search rules) next)

pub returns : goal.returns
unfolding key_of
returns c = (sym (folded_end c.loop-b.invariant.1 (search rules)), c.loop-b.invariant.0)
