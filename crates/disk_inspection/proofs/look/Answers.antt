-- The slots passed so far are good, exactly the blocks that they name are held, and their marks are set.
use mathlib.Core.Path.{◌≡◌, sym, ap, ◌∙◌}
use mathlib.Core.Bool.{not}
use Prim.Native.Nat.{ℕ}
use native.Mathlib.Omega.{arith}
use borrow.Author.Rules.{rules}
use borrow.Author.Tests.{not-false}
use Rattle.lists.proofs.BoundedLaws.{searched_start, searched_next, searched_hit, searched_none, from_zero}
use Rattle.disk_geometry.specs.Geometry.{slots}
use Rattle.disk_held.specs.Held.{words_of}
use Rattle.disk_rules.specs.GoodSlot.{lowest_bad}
use Rattle.disk_maps.specs.CodeHeldBelow.{held_below}
use Rattle.disk_maps.proofs.HeldLaws.{no_slots, all_slots}
use Rattle.disk_marks.proofs.MarkLaws.{none_marked}
use Rattle.disk_inspection.proofs.look.Invariants.{bad}
use Rattle.disk_inspection.proofs.look.Goals as goal

pub loop-i-init : goal.loop-i-init
loop-i-init c = record { good = searched_start; words = c.requires.held_value ∙ no_slots _ _; seen = none_marked _ _ _ }

pub take_slot-requires : goal.take_slot-requires
take_slot-requires c = let s = c.loop-i.invariant in record { volume = search rules; i_bound = (search rules, s.words); marked = (search rules, s.seen) }

pub returns-then-not-take_slot : goal.returns-then-not-take_slot
unfolding lowest_bad
returns-then-not-take_slot c =
    let a = c.args in
    let l = c.loop-i in
    let s = c.take_slot in
    let e = sym (searched_hit l.invariant.good (search rules) (ap not (sym s.ensures.value) ∙ (ap not c.if-not-take_slot.true))) ∙ from_zero (bad a.g a.volume.now) (slots a.g) in
    record {
      value = (e, search rules);
      held_after = λ h. absurd (omega arith);
    }

pub loop-i-preserved : goal.loop-i-preserved
loop-i-preserved c =
    let l = c.loop-i in
    let s = c.take_slot in
    let good = not-false s.result (ap not c.if-not-take_slot.false) in
    record {
      good = searched_next l.invariant.good (search rules) (ap not (sym s.ensures.value ∙ good));
      words = s.ensures.held_after good;
      seen = s.ensures.i_after good;
    }

pub returns : goal.returns
unfolding lowest_bad
returns c =
    let a = c.args in
    let l = c.loop-i in
    let z : l.i ≡ slots a.g = omega arith in
    let y : c.slots-n.result ≡ l.i = omega arith in
    let e = y ∙ sym (searched_none l.invariant.good (search rules)) ∙ from_zero (bad a.g a.volume.now) (slots a.g) in
    record {
      value = (e, search rules);
      held_after = λ h. l.invariant.words ∙ ap (λ (x : ℕ). words_of (held_below a.g a.volume.now x)) z ∙ all_slots a.g a.volume.now;
    }
