-- Five runs of bytes, one after the other.
use Rattle.listing.specs.Listing.{accepted}
use Rattle.text.proofs.WriterLaws.{then}
use Rattle.listing.proofs.lines.put_accepted.Goals as goal

pub returns : goal.returns
unfolding accepted
returns c = then c.bytes.ensures (then c.put_lines.ensures (then c.bytes-2.ensures (then c.decimal.ensures c.byte.ensures)))
