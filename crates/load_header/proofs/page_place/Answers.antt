-- The data group has it, or else the code group.
use Rattle.load_header.proofs.HeaderLaws.{page_data, page_code}
use borrow.Author.Rules.{rules}
use Rattle.load_header.proofs.page_place.Goals as goal

pub returns-then-data-groups : goal.returns-then-data-groups
returns-then-data-groups c = (page_data _ c.place_of-data.ensures.0 c.groups.ensures.0 c.if-data-groups.true, search rules)

pub returns : goal.returns
returns c = (page_code _ c.place_of-data.ensures.0 c.groups.ensures.0 c.if-data-groups.false c.place_of.ensures.0, search rules)
