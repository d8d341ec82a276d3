-- What load leaves on the table in the bytes.
use Rattle.load_bytes.proofs.LoadOverLaws.{table_lent, left_over}
use mathlib.Core.List.{List, []}
use Prim.Native.Nat.{ℕ}
use Rattle.load_bytes.proofs.load.Goals as goal

pub lay_table-requires : goal.lay_table-requires
lay_table-requires c = table_lent _ _ _ _ _ c.table_of-t.ensures (c.load-reply.ensures [])

pub returns : goal.returns
returns c = λ (held : List ℕ).
    left_over _ _ _ _ _ c.table_of-t.ensures (c.load-reply.ensures held) c.lay_table.ensures
