-- No entry passed so far has what is wanted, so what is still to be searched gives the whole.
use Rattle.std.proofs.Common.{◌≡◌, ℕ, ◌+◌, ◌-◌, ◌*◌, ◌/◌, ◌%◌, Bool, List, take, drop, sym, ap, ◌∙◌, arith}
use Rattle.lists.specs.Bytes.{part}
use Rattle.lists.proofs.BoundedLaws.{searched_start, searched_next, searched_hit, searched_none}
use Rattle.disk_geometry.specs.declared.Geometry.{Geometry}
use Rattle.disk_volume.specs.declared.Wanted.{Wanted}
use Rattle.disk_volume.specs.Directory.{fits}
use Rattle.disk_volume.specs.CodeRun.{run_fits}
use Rattle.disk_volume.proofs.EntryLaws.{lent_part}
use Rattle.disk_volume.proofs.directory.find_in.Goals as goal

-- the entry at byte `at` as it is lent
seen : (g : Geometry) (l : List ℕ) (u : ℕ) (n : List ℕ) (w : Wanted) (at : ℕ) (r : Bool) → at % 32 ≡ 0 → r ≡ fits g u n w (take (at + 32 - at) (drop at l)) → run_fits g l u n w (at / 32) ≡ r
seen g l u n w at r h e =
    let z : at ≡ at / 32 * 32 = omega arith in
    sym (e ∙ ap (fits g u n w) (lent_part l at 32 ∙ ap (λ (x : ℕ). part l x 32) z))

pub loop-at-init : goal.loop-at-init
loop-at-init c =
    let from = c.args.from in
    let z : from * 32 / 32 ≡ from = omega arith in
    (omega arith, omega arith, rw z searched_start)

pub returns-then-has : goal.returns-then-has
returns-then-has c =
    let l = c.loop-at in
    let s = seen _ _ _ _ _ _ _ l.invariant.1 c.has.ensures in
    (sym (searched_hit l.invariant.2 (omega arith) (s ∙ c.if-has.true)), omega arith)

pub loop-at-preserved : goal.loop-at-preserved
loop-at-preserved c =
    let l = c.loop-at in
    let s = seen _ _ _ _ _ _ _ l.invariant.1 c.has.ensures in
    let z : (l.at + 32) / 32 ≡ l.at / 32 + 1 = omega arith in
    (omega arith, omega arith, rw z (searched_next l.invariant.2 (omega arith) (s ∙ c.if-has.false)))

pub returns : goal.returns
returns c = (sym (searched_none c.loop-at.invariant.2 (omega (arith, c.loop-at-test.false))), omega arith)
