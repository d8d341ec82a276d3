-- Of the places passed so far the records are added up; what is left of the run begins at the next place.
use mathlib.Core.Path.{ap}
use Prim.Native.Nat.{ℕ, ◌+◌}
use native.Mathlib.Omega.{arith}
use Rattle.sums.proofs.SumLaws.{summed_next, summed_end}
use Rattle.shelf_holdings.specs.CodeEntries.{entry_records}
use borrow.Author.Rules.{rules}
use Rattle.shelf_holdings.proofs.entry_records.Goals as goal

pub loop-p-preserved : goal.loop-p-preserved
loop-p-preserved c =
    let l = c.loop-p in
    record {
      few = omega (arith, c.place_records-m.ensures.1, l.invariant.few);
      rest = omega (arith, c.saturating_sub-left.ensures, c.records.ensures, l.invariant.rest);
      sum = summed_next l.invariant.sum (search rules) (ap (λ (x : ℕ). l.m + x) c.place_records-m.ensures.0);
    }

pub returns : goal.returns
unfolding entry_records
returns c = (summed_end c.loop-p.invariant.sum (search rules), omega (arith, c.loop-p.invariant.few))
