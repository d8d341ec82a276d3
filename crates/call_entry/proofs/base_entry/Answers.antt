-- The slot's 32 bytes copied; where they are not the group's own, zeros over all but the first twelve.
use mathlib.Core.Path.{◌∙◌}
use native.Mathlib.Omega.{arith}
use borrow.Author.Tests.{lt-ltb, le-ltb}
use Rattle.lists.specs.Bytes.{part, put}
use Rattle.disk_volume.specs.Directory.{slot_at}
use Rattle.disk_geometry.specs.Geometry.{slots}
use Rattle.disk_volume.proofs.DirectoryLaws.{slot_length}
use Rattle.disk_volume.proofs.EntryLaws.{lent_slot}
use Rattle.call_entry.specs.Grown.{base_of}
use Rattle.call_entry.proofs.GrowLaws.{like_laid}
use Rattle.call_entry.proofs.base_entry.Goals as goal

pub returns-then-slots-own : goal.returns-then-slots-own
unfolding base_of part put
returns-then-slots-own c =
    let a = c.args in
    let at = c.slot_start-at in
    let h = c.copy_from_slice.ensures.after ∙ lent_slot a.g a.volume.now a.from at.result at.ensures.0 in
    like_laid c.copy_from_slice.new.self (slot_at a.g a.volume.now a.from) c.fill.new.self (slot_length a.g c.requires.volume.0 a.volume.now c.requires.volume.1 a.from c.requires.from_bound.0) h (c.fill.ensures.after (λ y e. e)) ∙ rw (le-ltb a.own (slots a.g) (omega (arith, c.slots.ensures.0)))

pub returns-else-slots-own : goal.returns-else-slots-own
unfolding base_of
returns-else-slots-own c =
    let a = c.args in
    let at = c.slot_start-at in
    c.copy_from_slice.ensures.after ∙ lent_slot a.g a.volume.now a.from at.result at.ensures.0 ∙ rw (lt-ltb a.own (slots a.g) (omega (arith, c.slots.ensures.0)))
