-- Files, entries and records of the slots passed so far are added up, and their files are in the tree.
use mathlib.Core.Path.{sym, ◌∙◌}
use native.Mathlib.Omega.{arith}
use Rattle.sums.proofs.SumLaws.{summed_start, summed_next, summed_end, count_sum}
use Rattle.shelf_holdings.specs.Holdings.{entries, files}
use Rattle.shelf_holdings.specs.CodeEntries.{records_by_entries}
use borrow.Author.Rules.{rules}
use Rattle.shelf_holdings.proofs.count.Goals as goal

pub loop-i-init : goal.loop-i-init
loop-i-init c =
    record {
      few_files = omega arith;
      few_entries = omega arith;
      few_records = omega arith;
      files_are = summed_start;
      entries_are = summed_start;
      records_are = summed_start;
      in_tree = c.new-tree.ensures _ _;
    }

pub loop-i-preserved : goal.loop-i-preserved
loop-i-preserved c =
    let s = c.loop-i.invariant in
    record {
      few_files = c.add_slot-c.ensures.files_bound.0;
      few_entries = c.add_slot-c.ensures.files_bound.1.0;
      few_records = c.add_slot-c.ensures.files_bound.1.1;
      files_are = summed_next s.files_are (search rules) c.add_slot-c.ensures.files_value;
      entries_are = summed_next s.entries_are (search rules) c.add_slot-c.ensures.entries_value;
      records_are = summed_next s.records_are (search rules) c.add_slot-c.ensures.records_value;
      in_tree = c.add_slot-c.ensures.tree_after;
    }

pub returns : goal.returns
unfolding files entries records_by_entries
returns c =
    let s = c.loop-i.invariant in
    record {
      files_value = summed_end s.files_are (search rules) ∙ sym (count_sum _ 0 _);
      entries_value = summed_end s.entries_are (search rules) ∙ sym (count_sum _ 0 _);
      records_value = summed_end s.records_are (search rules);
    }
