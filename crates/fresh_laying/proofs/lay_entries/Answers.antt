-- The entries passed so far are laid.
use mathlib.Core.Path.{◌∙◌}
use lib.ListN.{length}
use Rattle.fresh_laying.proofs.KeptLaws.{laid_none, laid_next, laid_number, laid_all, entry_fits}
use Rattle.fresh_laying.proofs.lay_entries.Goals as goal

pub loop-k-init : goal.loop-k-init
loop-k-init c = let a = c.args in laid_none a.g a.first.now (length a.kept.now) a.second.now

pub lay_entry-next-requires : goal.lay_entry-next-requires
lay_entry-next-requires c =
    let a = c.args in
    let l = c.loop-k in
    let fits = entry_fits a.g a.first.now c.requires.accepted.0 a.kept.now c.requires.in_order l.k c.loop-k-test.true l.next l.invariant.number in
    record {
      volume_and = (c.requires.accepted.0.0, (c.requires.accepted.0.1.0, l.invariant.size ∙ c.requires.accepted.1));
      i_bound = fits;
    }

pub loop-k-preserved : goal.loop-k-preserved
loop-k-preserved c =
    let a = c.args in
    let l = c.loop-k in
    let o = c.lay_entry-next in
    laid_next a.g a.first.now c.requires.accepted.0 a.kept.now c.requires.in_order a.second.now l.second l.next l.k l.invariant c.loop-k-test.true
    o.new.second o.result o.auto.second o.ensures.value o.ensures.second_after

pub returns : goal.returns
returns c =
    let a = c.args in
    let l = c.loop-k in
    record {
      value = laid_number a.g a.first.now (length a.kept.now) a.second.now l.second l.next l.k l.invariant c.loop-k-test.false;
      second_after = laid_all a.g a.first.now (length a.kept.now) a.second.now l.second l.next l.k l.invariant c.loop-k-test.false;
    }
