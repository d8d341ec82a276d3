-- What is asked for is the entry's own user, name and group; where its mark is not set, no lower slot can have them.
use mathlib.Core.Path.{◌≡◌, sym, ◌∙◌}
use mathlib.Core.Bool.{false}
use borrow.Author.Rules.{rules}
use Rattle.lists.specs.Bytes.{part}
use Rattle.disk_volume.specs.Name.{name_at}
use Rattle.disk_volume.specs.Entry.{is_empty}
use Rattle.disk_volume.specs.Directory.{slot_at}
use Rattle.disk_rules.specs.GoodSlot.{seen_below}
use Rattle.disk_marks.specs.CodeMarks.{entry_mark}
use Rattle.disk_marks.proofs.MarkLaws.{unmarked, still_marked, now_marked}
use Rattle.disk_marks.proofs.is_seen.Goals as goal

pub returns-then-is_held : goal.returns-then-is_held
unfolding seen_below name_at part
returns-then-is_held c =
    let used : (let a = c.args in is_empty (slot_at a.g a.volume.now a.i) ≡ false) = rw (← c.requires.i_bound.1.1) c.requires.e_value.0 in
    let own_mark : (let a = c.args in c.mark_of-mark.result ≡ entry_mark a.g (slot_at a.g a.volume.now a.i)) = rw (← c.requires.i_bound.1.1, ← c.extent_of.ensures.0, ← c.group-k.ensures) c.mark_of-mark.ensures.0 in
    let a = c.args in record { value = rw (← c.requires.i_bound.1.1, ← c.extent_of.ensures.0, ← c.group-k.ensures) c.is_below.ensures; i_after = still_marked a.g a.volume.now a.marks.now a.i c.requires.e_value.1.1 (rw (used, ← own_mark) (sym c.is_held.ensures ∙ c.if-is_held.true)) }

pub returns : goal.returns
unfolding name_at part
returns c =
    let used : (let a = c.args in is_empty (slot_at a.g a.volume.now a.i) ≡ false) = rw (← c.requires.i_bound.1.1) c.requires.e_value.0 in
    let own_mark : (let a = c.args in c.mark_of-mark.result ≡ entry_mark a.g (slot_at a.g a.volume.now a.i)) = rw (← c.requires.i_bound.1.1, ← c.extent_of.ensures.0, ← c.group-k.ensures) c.mark_of-mark.ensures.0 in
    let a = c.args in
    let own = own_mark in record { value = sym (unmarked a.g a.volume.now a.marks.now a.i c.requires.e_value.1.1 used (rw own at (sym c.is_held.ensures ∙ c.if-is_held.false))); i_after = rw (c.hold.ensures, own) (now_marked a.g a.volume.now a.marks.now a.i c.requires.e_value.1.1 (rw (← own) (search rules))) }
