-- Nine bytes, one run after the other.
use Rattle.gencmd_file.specs.File.{descriptor}
use Rattle.text.proofs.WriterLaws.{none, then}
use Rattle.numbers.specs.Numbers.{bytes_of}
use borrow.Author.Tests.{eq-eqb, ne_eqb}
use Rattle.gencmd_file.proofs.header.put_descriptor.Goals as goal

pub returns-then-n-eq0 : goal.returns-then-n-eq0
unfolding descriptor
returns-then-n-eq0 c = rw (eq-eqb _ _ c.if-n-eq0.true) (none _)

pub returns : goal.returns
unfolding descriptor bytes_of
returns c =
    rw (ne_eqb _ _ c.if-n-eq0.false)
    (then c.byte.ensures (then c.put_two.ensures (then c.put_two-2.ensures (then c.put_two-3.ensures c.put_two-4.ensures))))
