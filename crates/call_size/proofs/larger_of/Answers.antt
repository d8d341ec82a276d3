-- The branches are the definition's.
use mathlib.Core.Path.{◌≡◌}
use borrow.Author.Rules.{rules}
use Rattle.disk_volume.specs.Directory.{slot_at}
use Rattle.disk_volume.specs.Entry.{of_file}
use Rattle.disk_volume.specs.Name.{strip}
use Rattle.disk_volume.proofs.EntryLaws.{lent_slot}
use Rattle.call_size.specs.Size.{larger}
use Rattle.call_size.proofs.larger_of.Goals as goal

pub returns-then-not-has : goal.returns-then-not-has
unfolding larger
returns-then-not-has c =
    let seen : (let a = c.args in of_file a.user (strip a.name.now) (slot_at a.g a.volume.now a.i) ≡ c.has.result) = (let a = c.args in
    let at = c.slot_start-at in
    rw (← lent_slot a.g a.volume.now a.i at.result at.ensures.0, c.has.ensures)) in
    (rw (seen, c.if-not-has.true), search rules)

pub returns : goal.returns
unfolding larger
returns c =
    let seen : (let a = c.args in of_file a.user (strip a.name.now) (slot_at a.g a.volume.now a.i) ≡ c.has.result) = (let a = c.args in
    let at = c.slot_start-at in
    rw (← lent_slot a.g a.volume.now a.i at.result at.ensures.0, c.has.ensures)) in
    (rw (seen, c.if-not-has.false) c.larger_at.ensures.0, c.larger_at.ensures.1)
