-- The size is refused, or a record, or none.
use Rattle.load_records.proofs.ReadLaws.{rest_unsized, rest_read}
use mathlib.Core.Path.{sym, ◌∙◌}
use Rattle.load_records.proofs.File.read_rest.Goals as goal

pub returns-then-not-is_none : goal.returns-then-not-is_none
returns-then-not-is_none c = rest_unsized _ _ _ c.measure-sized.ensures.0 c.measure-sized.ensures.1.0 c.measure-sized.ensures.1.1 (sym c.is_none.ensures ∙ c.if-not-is_none.true)

pub returns : goal.returns
returns c = rest_read _ _ _ c.measure-sized.ensures.0 c.measure-sized.ensures.1.0 c.measure-sized.ensures.1.1 (sym c.is_none.ensures ∙ c.if-not-is_none.false) c.why_unread.ensures
