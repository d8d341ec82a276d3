-- The number as C has it; all else is the call's.
use Rattle.seam_memory.proofs.memory_call.Goals as goal

pub returns : goal.returns
returns c = rw c.from.ensures c.memory_call.ensures
