-- No slot passed so far has the block, so what is still to be searched gives the whole.
use Rattle.disk_faults.specs.Faults.{slot_of}
use Rattle.disk_volume.proofs.EntryLaws.{lent_slot}
use Rattle.lists.proofs.BoundedLaws.{searched_next, searched_hit, searched_none, from_zero}
use Prim.Native.Nat.{◌-◌}
use Rattle.lists.specs.Bounded.{low_from}
use native.Mathlib.Omega.{arith}
use mathlib.Core.Path.{◌≡◌, sym, ◌∙◌}
use borrow.Author.Rules.{rules}
use Rattle.disk_faults.proofs.slot_of.Invariants.{names_at}
use Rattle.disk_faults.proofs.slot_of.Goals as goal

pub returns-then-names_block : goal.returns-then-names_block
unfolding slot_of
returns-then-names_block c =
    let seen : (let a = c.args in c.names_block.result ≡ names_at a.g a.volume.now a.b c.loop-j.j) = (let a = c.args in
    rw (← lent_slot a.g a.volume.now c.loop-j.j c.slot_start-at.result c.slot_start-at.ensures.0) c.names_block.ensures) in
    let whole : (let a = c.args in slot_of a.g a.volume.now a.i a.b ≡ low_from (names_at a.g a.volume.now a.b) 0 (a.i - 0)) = (let a = c.args in sym (from_zero (names_at a.g a.volume.now a.b) a.i)) in
    sym (whole ∙ searched_hit c.loop-j.invariant (search rules) (sym seen ∙ c.if-names_block.true))

pub loop-j-preserved : goal.loop-j-preserved
loop-j-preserved c =
    let seen : (let a = c.args in c.names_block.result ≡ names_at a.g a.volume.now a.b c.loop-j.j) = (let a = c.args in
    rw (← lent_slot a.g a.volume.now c.loop-j.j c.slot_start-at.result c.slot_start-at.ensures.0) c.names_block.ensures) in
    searched_next c.loop-j.invariant (search rules) (sym seen ∙ c.if-names_block.false)

pub returns : goal.returns
unfolding slot_of
returns c =
    let whole : (let a = c.args in slot_of a.g a.volume.now a.i a.b ≡ low_from (names_at a.g a.volume.now a.b) 0 (a.i - 0)) = (let a = c.args in sym (from_zero (names_at a.g a.volume.now a.b) a.i)) in
    sym (whole ∙ searched_none c.loop-j.invariant (search rules) ∙ omega arith)
