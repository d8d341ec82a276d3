-- An empty slot is good; of another one the tests are made in the definition's order, its blocks are then held and its mark is set.
use mathlib.Core.Path.{◌≡◌, sym, ap, ◌∙◌}
use mathlib.Core.Bool.{false, not, ◌&&◌, false≢true}
use borrow.Author.Rules.{rules}
use borrow.Author.Tests.{not-true, not-false}
use Rattle.disk_volume.specs.Name.{name_of, good_name}
use Rattle.disk_volume.specs.Entry.{is_empty}
use Rattle.disk_volume.specs.Directory.{slot_at}
use Rattle.disk_volume.proofs.EntryLaws.{lent_slot}
use Rattle.disk_rules.specs.GoodSlot.{good_fields, good_top_bits}
use Rattle.disk_maps.proofs.HeldLaws.{empty_slot, full_slot}
use Rattle.disk_marks.proofs.MarkLaws.{still_marked}
use Rattle.disk_inspection.proofs.SlotLaws.{slot_empty, slot_used, empty_good, entry_bad, map_bad, seen_decides}
use Rattle.disk_inspection.proofs.take_slot.Goals as goal

pub returns-then-volume-at : goal.returns-then-volume-at
returns-then-volume-at c =
    let a = c.args in
    let at = c.slot_start-at in
    let e = slot_empty a.g a.volume.now a.i at.result at.ensures.0 c.if-volume-at.true in record { value = sym (empty_good a.g a.volume.now a.i e); held_after = λ h. c.requires.i_bound.1 ∙ empty_slot a.g a.volume.now a.i e; i_after = λ h. still_marked a.g a.volume.now a.marks.now a.i c.requires.marked.1 (rw e) }

pub returns-then-not-good_entry : goal.returns-then-not-good_entry
returns-then-not-good_entry c =
    let used : (let a = c.args in is_empty (slot_at a.g a.volume.now a.i) ≡ false) = (let a = c.args in
    let at = c.slot_start-at in
    slot_used a.g a.volume.now a.i at.result at.ensures.0 c.if-volume-at.false) in
    let entry : (let a = c.args in let e = slot_at a.g a.volume.now a.i in c.good_entry.result ≡ good_fields e && good_name false (name_of e) && good_top_bits e) = (let a = c.args in
    let at = c.slot_start-at in
    rw (← lent_slot a.g a.volume.now a.i at.result at.ensures.0) c.good_entry.ensures) in
    let a = c.args in
    let bad = sym entry ∙ not-true c.good_entry.result (ap not c.if-not-good_entry.true) in
    record {
      value = sym (entry_bad a.g a.volume.now a.i used bad);
      held_after = λ h. absurd (false≢true h);
      i_after = λ h. absurd (false≢true h);
    }

pub returns-then-not-take_map : goal.returns-then-not-take_map
returns-then-not-take_map c =
    let used : (let a = c.args in is_empty (slot_at a.g a.volume.now a.i) ≡ false) = (let a = c.args in
    let at = c.slot_start-at in
    slot_used a.g a.volume.now a.i at.result at.ensures.0 c.if-volume-at.false) in
    let a = c.args in
    let m = c.take_map in
    let bad = sym m.ensures.value ∙ not-true m.result (ap not c.if-not-take_map.true) in
    record {
      value = sym (map_bad a.g a.volume.now a.i used bad);
      held_after = λ h. absurd (false≢true h);
      i_after = λ h. absurd (false≢true h);
    }

pub is_seen-requires : goal.is_seen-requires
is_seen-requires c =
    let used : (let a = c.args in is_empty (slot_at a.g a.volume.now a.i) ≡ false) = (let a = c.args in
    let at = c.slot_start-at in
    slot_used a.g a.volume.now a.i at.result at.ensures.0 c.if-volume-at.false) in
    let a = c.args in
    let at = c.slot_start-at in
    let e = lent_slot a.g a.volume.now a.i at.result at.ensures.0 in
    record {
      volume = search rules;
      i_bound = (search rules, (search rules, e));
      e_value = (rw e used, (search rules, search rules));
    }

pub returns : goal.returns
returns c =
    let used : (let a = c.args in is_empty (slot_at a.g a.volume.now a.i) ≡ false) = (let a = c.args in
    let at = c.slot_start-at in
    slot_used a.g a.volume.now a.i at.result at.ensures.0 c.if-volume-at.false) in
    let entry : (let a = c.args in let e = slot_at a.g a.volume.now a.i in c.good_entry.result ≡ good_fields e && good_name false (name_of e) && good_top_bits e) = (let a = c.args in
    let at = c.slot_start-at in
    rw (← lent_slot a.g a.volume.now a.i at.result at.ensures.0) c.good_entry.ensures) in
    let a = c.args in
    let full = used in
    let t = c.take_map in
    let m = not-false t.result (ap not c.if-not-take_map.false) in
    let e = sym entry ∙ not-false c.good_entry.result (ap not c.if-not-good_entry.false) in
    let good = seen_decides a.g a.volume.now a.i full e (sym t.ensures.value ∙ m) in record { value = ap not c.is_seen.ensures.value ∙ sym good; held_after = λ h. t.ensures.held_after m ∙ full_slot a.g a.volume.now a.i full; i_after = λ h. c.is_seen.ensures.i_after }
