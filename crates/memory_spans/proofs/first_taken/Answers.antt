-- The search among the regions from place i on, below what was met so far, gives the whole.
use mathlib.Core.List.{List}
use Rattle.memory_spans.specs.declared.Span.{Span}
use Rattle.memory_spans.proofs.RoomLaws.{taken_next, taken_none}
use Rattle.memory_spans.proofs.SpanLaws.{next, past}
use Rattle.memory_spans.specs.Room.{taken}
use Rattle.lists.specs.Bounded.{low_from}
use lib.ListN.{drop}
use native.Mathlib.Omega.{arith}
use Prim.Native.Nat.{◌-◌}
use mathlib.Core.Path.{◌≡◌, sym, ap, ◌∙◌}
use Rattle.memory_spans.proofs.first_taken.Goals as goal

pub loop-region-preserved : goal.loop-region-preserved
loop-region-preserved c =
    let l = c.loop-region in
    let a = c.args in
    let m = c.met-to.ensures in
    let e = next a.regions.now l.region-index (omega arith) in
    record {
      from = m.1.0;
      below = omega (arith, m.0);
      whole = sym (taken_next _ _ a.start l.to c.met-to.result m.1.1 m.1.0 m.0) ∙ ap (λ (x : List Span). low_from (taken x) a.start (l.to - a.start)) (sym e) ∙ l.invariant.whole;
    }

pub returns : goal.returns
returns c =
    let l = c.loop-region in
    let a = c.args in
    let z : low_from (taken (drop l.region-index a.regions.now)) a.start (l.to - a.start) ≡ l.to = rw (past a.regions.now l.region-index (omega arith), taken_none) (omega arith) in
    (sym z ∙ l.invariant.whole, (l.invariant.from, l.invariant.below))
