-- Each step's contract is put into the next, up to the two groups of tests that make up the write's.
use mathlib.Core.Path.{◌≡◌, sym, ap, ◌∙◌}
use mathlib.Core.Bool.{true, false, false≢true, not}
use Prim.Native.Nat.{ℕ}
use borrow.Author.Tests.{not-true, not-false}
use borrow.Author.Rules.{rules}
use Rattle.disk_volume.specs.Directory.{find_slot}
use Rattle.disk_volume.specs.Name.{strip}
use Rattle.disk_volume.specs.Record.{record_slot}
use Rattle.disk_volume.specs.declared.Wanted.TheVariants.{File, Group, Empty}
use Rattle.call_answers.specs.Refusal.{is_none, first_met}
use Rattle.call_decide.specs.Write.{base_entry, needs_block}
use Rattle.call_decide.specs.CodePlan.{own_or, from_slot, file_tests}
use Rattle.call_decide.proofs.WriteLaws.{base_is, slot_is, block_is, file_there, refused_file, passed_file}
use Rattle.call_decide.proofs.decide.Goals as goal

pub returns-then-not-is_none : goal.returns-then-not-is_none
unfolding from_slot record_slot
returns-then-not-is_none c =
    let own_is : (let a = c.args in c.find-own.result ≡ record_slot a.g a.volume.now a.user (strip a.name.now) a.n) = (let a = c.args in
    c.find-own.ensures.0 ∙ ap (λ (k : ℕ). find_slot a.g a.volume.now a.user (strip a.name.now) (Group k)) c.group-group.ensures) in
    let from_is : (let a = c.args in c.own_or-from.result ≡ from_slot a.g a.volume.now a.user (strip a.name.now) a.n) = (let a = c.args in
    c.own_or-from.ensures.0 ∙ ap (λ (i : ℕ). own_or a.g a.volume.now a.user (strip a.name.now) i File) own_is) in
    let why_is : (let a = c.args in c.file_why-why.result ≡ first_met (file_tests a.g a.volume.now a.user (strip a.name.now) (from_slot a.g a.volume.now a.user (strip a.name.now) a.n))) = (let a = c.args in
    c.file_why-why.ensures ∙ ap (λ (i : ℕ). first_met (file_tests a.g a.volume.now a.user (strip a.name.now) i)) from_is) in
    let a = c.args in
    let w = why_is in
    let e : is_none c.file_why-why.result ≡ false = sym c.is_none.ensures ∙ not-true c.is_none.result (ap not c.if-not-is_none.true) in
    record {
      why_value = w ∙ sym (refused_file a.g a.held.now a.volume.now a.user (strip a.name.now) a.n (ap is_none (sym w) ∙ e));
      decided = λ h. absurd (false≢true (sym e ∙ h));
    }

pub base_entry-requires : goal.base_entry-requires
base_entry-requires c =
    let e : is_none c.file_why-why.result ≡ true = sym c.is_none.ensures ∙ not-false c.is_none.result (ap not c.if-not-is_none.false) in
    record {
      volume = (c.requires.volume_and.0, c.requires.volume_and.1.0);
      from_bound = (file_there c.args.g _ _ _ c.own_or-from.result (ap is_none (sym c.file_why-why.ensures) ∙ e), search rules);
    }

pub returns : goal.returns
unfolding needs_block from_slot record_slot
returns c =
    let own_is : (let a = c.args in c.find-own.result ≡ record_slot a.g a.volume.now a.user (strip a.name.now) a.n) = (let a = c.args in
    c.find-own.ensures.0 ∙ ap (λ (k : ℕ). find_slot a.g a.volume.now a.user (strip a.name.now) (Group k)) c.group-group.ensures) in
    let from_is : (let a = c.args in c.own_or-from.result ≡ from_slot a.g a.volume.now a.user (strip a.name.now) a.n) = (let a = c.args in
    c.own_or-from.ensures.0 ∙ ap (λ (i : ℕ). own_or a.g a.volume.now a.user (strip a.name.now) i File) own_is) in
    let why_is : (let a = c.args in c.file_why-why.result ≡ first_met (file_tests a.g a.volume.now a.user (strip a.name.now) (from_slot a.g a.volume.now a.user (strip a.name.now) a.n))) = (let a = c.args in
    c.file_why-why.ensures ∙ ap (λ (i : ℕ). first_met (file_tests a.g a.volume.now a.user (strip a.name.now) i)) from_is) in
    let entry_is : (let a = c.args in c.base_entry.new.e ≡ base_entry a.g a.volume.now a.user (strip a.name.now) a.n) = (let a = c.args in
    c.base_entry.ensures ∙ rw (own_is, from_is) (sym (base_is a.g a.volume.now a.user (strip a.name.now) a.n))) in
    let slot_here : (let a = c.args in c.own_or-slot.result ≡ own_or a.g a.volume.now a.user (strip a.name.now) (record_slot a.g a.volume.now a.user (strip a.name.now) a.n) Empty) = (let a = c.args in
    c.own_or-slot.ensures.0 ∙ ap (λ (i : ℕ). own_or a.g a.volume.now a.user (strip a.name.now) i Empty) own_is) in
    let a = c.args in
    let name = strip a.name.now in
    let e : is_none c.file_why-why.result ≡ true = sym c.is_none.ensures ∙ not-false c.is_none.result (ap not c.if-not-is_none.false) in
    let b = entry_is in
    let s = slot_here in record {
      why_value = c.room.ensures.why_value ∙ rw (b, s) (sym (passed_file a.g a.held.now a.volume.now a.user name a.n (ap is_none (sym why_is) ∙ e)));
      decided = λ h. record {
        slot_is = c.room.ensures.slot_value ∙ s ∙ sym (slot_is a.g a.volume.now a.user name a.n);
        block_is = c.room.ensures.block_value ∙ rw b (sym (block_is a.g a.held.now a.volume.now a.user name a.n));
        fresh_is = c.room.ensures.fresh_value ∙ rw b;
        entry_is = b;
      };
    }
