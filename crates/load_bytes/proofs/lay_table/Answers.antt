-- Laid where the file was loaded.
use mathlib.Core.Path.{sym, ◌∙◌}
use Rattle.load_bytes.proofs.lay_table.Goals as goal

pub put_table-requires : goal.put_table-requires
put_table-requires c = c.requires (sym c.is_ok.ensures.value ∙ c.if-is_ok.true)

pub returns-then-is_ok : goal.returns-then-is_ok
returns-then-is_ok c = rw (sym c.is_ok.ensures.value ∙ c.if-is_ok.true) c.put_table.ensures
