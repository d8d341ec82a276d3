-- 34, or what the call on the table and the block in the bytes leaves.
use Rattle.memory_bytes.proofs.OverLaws.{is_34, goes_on, mcb_lent, table_lent}
use mathlib.Core.Path.{sym, ◌∙◌}
use Rattle.memory_bytes.proofs.memory_call.Goals as goal

pub returns-then-is_mcb_refused : goal.returns-then-is_mcb_refused
returns-then-is_mcb_refused c = is_34 _ _ _ _ (sym c.is_mcb_refused.ensures ∙ c.if-is_mcb_refused.true)

pub lay_mcb-requires : goal.lay_mcb-requires
lay_mcb-requires c =
    let a = c.args in
    mcb_lent a.function a.mcb.now a.table.now a.bytes
    (sym c.is_mcb_refused.ensures ∙ c.if-is_mcb_refused.false) c.table_of-t.ensures c.mcb_of-m.ensures c.memory_call-reply.ensures c.is_ok-done.ensures.value

pub lay_table-requires : goal.lay_table-requires
lay_table-requires c =
    let a = c.args in
    table_lent a.function a.mcb.now a.table.now a.bytes
    (sym c.is_mcb_refused.ensures ∙ c.if-is_mcb_refused.false) c.table_of-t.ensures c.mcb_of-m.ensures c.memory_call-reply.ensures c.is_ok-done.ensures.value

pub returns : goal.returns
returns c = goes_on _ _ _ _ (sym c.is_mcb_refused.ensures ∙ c.if-is_mcb_refused.false) c.table_of-t.ensures c.mcb_of-m.ensures c.memory_call-reply.ensures c.is_ok-done.ensures.value c.lay_mcb.ensures c.lay_table.ensures c.number.ensures
