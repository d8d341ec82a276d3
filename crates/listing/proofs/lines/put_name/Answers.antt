-- Three runs of bytes, one after the other.
use Rattle.listing.specs.Listing.{name_text}
use Rattle.text.proofs.WriterLaws.{then}
use Rattle.lists.specs.Bytes.{part}
use Rattle.listing.proofs.lines.put_name.Goals as goal

pub returns : goal.returns
unfolding name_text part
returns c = then c.put_stripped.ensures (then c.byte.ensures c.put_stripped-2.ensures)
