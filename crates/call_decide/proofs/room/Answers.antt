-- A place that has a block can meet 41 and 5 alone; one that has none, 5 and 2 alone.
use mathlib.Core.Path.{◌≡◌, refl, sym, ap, ◌∙◌}
use mathlib.Core.Bool.{true, false}
use lib.Dec.{eqb}
use borrow.Author.Tests.{eq-eqb, ne_eqb}
use Rattle.disk_volume.specs.Entry.{block_in}
use Rattle.disk_volume.specs.Record.{record_block}
use Rattle.call_decide.specs.CodePlan.{block_for}
use Rattle.call_decide.proofs.WriteLaws.{own_block, new_block}
use Rattle.call_decide.proofs.room.Goals as goal

pub returns-then-own-ne0 : goal.returns-then-own-ne0
unfolding block_for
returns-then-own-ne0 c =
    let a = c.args in
    let b = c.block_in-own.ensures.0 ∙ ap (block_in a.g a.e.now) c.place-place.ensures.0 in
    let q : eqb (record_block a.g a.e.now a.n) 0 ≡ false = rw (← b) (ne_eqb c.block_in-own.result 0 c.if-own-ne0.true) in record { why_value = (rw (c.first_of-why.ensures, c.refuse-outside.ensures, c.is_inside.ensures, c.refuse-no_slot.ensures, c.slots.ensures.0, b) (sym (own_block a.g a.held.now a.e.now a.slot a.n q))); slot_value = refl; block_value = rw q b; fresh_value = sym q }

pub returns : goal.returns
unfolding block_for
returns c =
    let a = c.args in
    let b = c.block_in-own.ensures.0 ∙ ap (block_in a.g a.e.now) c.place-place.ensures.0 in
    let q : eqb (record_block a.g a.e.now a.n) 0 ≡ true = rw (← b) (eq-eqb c.block_in-own.result 0 c.if-own-ne0.false) in record { why_value = (rw (c.first_of-why-2.ensures, c.refuse-no_block.ensures, c.alloc-block.ensures.0, c.refuse-no_slot.ensures, c.slots.ensures.0, c.place-place.ensures.0) (sym (new_block a.g a.held.now a.e.now a.slot a.n q))); slot_value = refl; block_value = rw (q, ← c.place-place.ensures.0) c.alloc-block.ensures.0; fresh_value = sym q }
