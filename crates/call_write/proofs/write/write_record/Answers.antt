-- A refusal comes before every store. Where no test is met, what was decided is what is defined, and it lies in the volume.
use mathlib.Core.Path.{◌≡◌, sym, ap, ◌∙◌}
use mathlib.Core.Bool.{true, false}
use borrow.Author.Rules.{rules}
use Rattle.lists.specs.Bytes.{part}
use Rattle.disk_volume.specs.Name.{name_at, name_of}
use Rattle.call_answers.specs.Refusal.{is_none}
use Rattle.call_decide.specs.CodePlan.{Decided}
use Rattle.call_write.specs.Rewrite.{bytes_of}
use Rattle.call_write.proofs.DecidedLaws.{wrote_nothing, wrote, slot_fits_lem, block_fits, shown_counted, laid_is}
use Rattle.call_write.proofs.write.write_record.Goals as goal

pub returns-then-not-is_none : goal.returns-then-not-is_none
unfolding name_at part
returns-then-not-is_none c =
    let a = c.args in
    let bytes = bytes_of a.g a.volume.now a.user (name_of a.fcb.now) a.n a.source in
    let met : is_none c.decide-plan.result.why ≡ false = sym c.is_none.ensures ∙ c.if-not-is_none.true in
    wrote_nothing a.g a.fills a.volume.now a.fcb.now bytes a.user a.held.now a.n a.cr a.left.now c.decide-plan.ensures.why_value met

pub write_decided-requires : goal.write_decided-requires
unfolding name_at part
write_decided-requires c =
    let none_met : is_none c.decide-plan.result.why ≡ true = sym c.is_none.ensures ∙ c.if-not-is_none.false in
    let decided : (let a = c.args in let r = c.decide-plan.result in Decided a.g a.held.now a.volume.now a.user (name_of a.fcb.now) a.n r.slot r.block r.fresh c.decide-plan.new.e) = c.decide-plan.ensures.decided none_met in
    let a = c.args in
    let bytes = bytes_of a.g a.volume.now a.user (name_of a.fcb.now) a.n a.source in
    let w = c.decide-plan.ensures.why_value in
    let none = none_met in
    let d = decided in record {
      volume = c.requires.volume;
      fcb = c.requires.fcb;
      entry = (
        search rules,
        (
          slot_fits_lem a.g a.fills a.volume.now a.fcb.now bytes a.user a.held.now a.n a.cr a.left.now w none d,
          block_fits a.g a.fills a.volume.now a.fcb.now bytes a.user a.held.now a.n a.cr a.left.now w none d,
        ),
      );
    }

pub returns : goal.returns
unfolding name_at part
returns c =
    let none_met : is_none c.decide-plan.result.why ≡ true = sym c.is_none.ensures ∙ c.if-not-is_none.false in
    let decided : (let a = c.args in let r = c.decide-plan.result in Decided a.g a.held.now a.volume.now a.user (name_of a.fcb.now) a.n r.slot r.block r.fresh c.decide-plan.new.e) = c.decide-plan.ensures.decided none_met in
    let a = c.args in
    let bytes = bytes_of a.g a.volume.now a.user (name_of a.fcb.now) a.n a.source in
    let w = c.decide-plan.ensures.why_value in
    let d = decided in
    let shown = shown_counted a.g a.held.now a.volume.now a.user (name_of a.fcb.now) a.n c.requires.volume.0.0 c.requires.volume.0.1 (ap is_none (sym w) ∙ none_met) d.entry_is d.block_is in
    let b = laid_is a.g a.volume.now a.user (name_of a.fcb.now) a.n a.source _ _ _ shown in
    wrote a.g a.fills a.volume.now a.fcb.now bytes a.user a.held.now a.n a.cr a.left.now w none_met d (rw b at c.write_decided.ensures)
