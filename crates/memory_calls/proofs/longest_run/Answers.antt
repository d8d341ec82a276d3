-- The longest run, where there is one, begins where 16 bits can name it.
use Rattle.memory_calls.proofs.CallLaws.{longest_named}
use Rattle.memory_calls.specs.Calls.{longest_run_of}
use Rattle.memory_calls.specs.Table.{pieces_of, regions_of}
use Rattle.memory_room.specs.Starts.{longest, lowest_start}
use lib.Dec.{eqb}
use native.Mathlib.Omega.{arith}
use mathlib.Core.Bool.{true, ◌||◌}
use mathlib.Core.Path.{◌≡◌}
use Rattle.memory_calls.proofs.longest_run.Goals as goal

pub returns-then-asked-k : goal.returns-then-asked-k
unfolding longest_run_of
returns-then-asked-k c =
    let a = c.args in
    let e : (eqb a.mcb.length 0 || eqb (longest (pieces_of a.t) (regions_of a.t)) 0) ≡ true = rw (c.from-asked.ensures, c.longest-k.ensures.0, c.pieces.ensures, c.regions.ensures) at c.if-asked-k.true in
    rw e c.refuse.ensures

pub overflow_cast-start : goal.overflow_cast-start
overflow_cast-start c =
    let a = c.args in
    let s = c.lowest_start-start in
    let k = c.longest-k in
    let longest_is : k.result ≡ longest (pieces_of a.t) (regions_of a.t) = rw (c.pieces.ensures, c.regions.ensures) at k.ensures.0 in
    let start_is : s.result ≡ lowest_start (pieces_of a.t) (regions_of a.t) k.result = rw (c.pieces-2.ensures, c.regions-2.ensures) at s.ensures.0 in
    omega (arith, longest_named (pieces_of a.t) (regions_of a.t) (eqb c.from-asked.result 0) k.result s.result longest_is start_is c.if-asked-k.false)

pub returns : goal.returns
unfolding longest_run_of
returns c =
    let a = c.args in
    let s = c.lowest_start-start in
    let k = c.longest-k in
    let longest_is : k.result ≡ longest (pieces_of a.t) (regions_of a.t) = rw (c.pieces.ensures, c.regions.ensures) at k.ensures.0 in
    let start_is : s.result ≡ lowest_start (pieces_of a.t) (regions_of a.t) k.result = rw (c.pieces-2.ensures, c.regions-2.ensures) at s.ensures.0 in
    rw (c.done.ensures, ← c.from-asked.ensures, ← longest_is, c.if-asked-k.false, start_is, c.min-length.ensures)
