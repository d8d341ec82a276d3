-- The length of the control block, record 0, and the rest.
use Rattle.load_records.proofs.ReadLaws.{all_short, all_first, all_rest}
use mathlib.Core.List.{[]}
use mathlib.Core.Path.{sym, ◌∙◌}
use Rattle.load_records.proofs.read_all.Goals as goal

pub returns-then-fcb-ne-FCB_BYTES : goal.returns-then-fcb-ne-FCB_BYTES
returns-then-fcb-ne-FCB_BYTES c = all_short _ _ _ c.if-fcb-ne-FCB_BYTES.true c.show_short-why.ensures.0 c.show_short-why.ensures.1

pub returns-then-not-is_none : goal.returns-then-not-is_none
returns-then-not-is_none c = all_first _ _ _ (c.show-first.ensures []).0 (c.show-first.ensures []).1 (sym c.is_none.ensures ∙ c.if-not-is_none.true)

pub returns : goal.returns
returns c = all_rest _ _ _ c.if-fcb-ne-FCB_BYTES.false (c.show-first.ensures []).0 (c.show-first.ensures []).1 (sym c.is_none.ensures ∙ c.if-not-is_none.false) c.read_rest.ensures
