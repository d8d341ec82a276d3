-- Four descriptors, one after the other, over zeros.
use Rattle.gencmd_file.proofs.FileLaws.{header_is}
use Rattle.gencmd_file.specs.File.{descriptors}
use Rattle.text.proofs.WriterLaws.{then, done}
use borrow.Author.Rules.{rules}
use mathlib.Core.Path.{refl}
use Rattle.gencmd_file.proofs.header.lay_header.Goals as goal

pub returns : goal.returns
unfolding descriptors
returns c =
    let all = then c.put_descriptor.ensures (then c.put_descriptor-2.ensures (then c.put_descriptor-3.ensures c.put_descriptor-4.ensures)) in
    header_is c.args.sizes _ _ _ (search rules) (done all c.new-w.ensures.text refl (search rules))
