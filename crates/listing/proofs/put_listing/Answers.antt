-- Log-in's answer says which listing it is.
use mathlib.Core.Logic.{inl, inr}
use Rattle.listing.specs.Listing.{listing_for}
use Rattle.text.proofs.WriterLaws.{none, then}
use Rattle.listing.proofs.put_listing.Goals as goal

pub returns-in-Ready : goal.returns-in-Ready
unfolding listing_for
returns-in-Ready c = rw c.in-Ready.is c.put_accepted.ensures

pub returns-in-BadSlot : goal.returns-in-BadSlot
unfolding listing_for
returns-in-BadSlot c = rw c.in-BadSlot.is (then c.put_refused.ensures (then c.byte.ensures (then c.decimal.ensures c.byte-in-BadSlot.ensures)))

pub returns-in-Refused : goal.returns-in-Refused
unfolding listing_for
returns-in-Refused c = rw c.in-Refused.is (then (rw c.in-Refused.is at c.put_refused-in-Refused.ensures) c.byte-in-Refused.ensures)

pub returns-in-Done : goal.returns-in-Done
unfolding listing_for
returns-in-Done c = elim c.in-Done.is [ inl d ↦ rw d.1 (none _) | inr d ↦ rw d.2 (none _) ]
