-- Log-in's answer says which listing it is.
use native.Mathlib.Omega.{arith}
use Rattle.listing.proofs.ListingLaws.{listing_is, may_list}
use Rattle.text.proofs.WriterLaws.{done_within}
use borrow.Author.Rules.{rules}
use Rattle.listing.proofs.list.Goals as goal

pub put_listing-requires : goal.put_listing-requires
put_listing-requires c = λ free e. may_list c.args.volume.now c.geometry-g.ensures c.log_in-r.ensures free e

pub returns : goal.returns
returns c =
    let d = done_within (rw (← listing_is c.args.volume.now c.geometry-g.ensures c.log_in-r.ensures) at c.put_listing.ensures) c.new-w.ensures.text (omega arith) c.at.ensures (search rules) in
    record { result_after = d.0; upper_bound = d.1 }
