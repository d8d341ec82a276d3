-- Three ways: a later extent, the own one where rc rises, and all else, which leaves the entry as it was.
use mathlib.Core.Path.{sym}
use native.Mathlib.Omega.{arith}
use Rattle.call_entry.proofs.GrowLaws.{grown_later, grown_rises, grown_stays}
use Rattle.call_entry.proofs.grow.Goals as goal

pub returns-then-own-x : goal.returns-then-own-x
returns-then-own-x c = sym (grown_later c.args.e.now c.args.n (omega (arith, c.extent_of-own.ensures)))

pub returns-then-own-x-2 : goal.returns-then-own-x-2
returns-then-own-x-2 c =
    let a = c.args in
    let x = c.extent_of-own.ensures.0 in
    sym (grown_rises a.e.now a.n (rw x at c.if-own-x-2.true))

pub returns-else-own-x-2 : goal.returns-else-own-x-2
returns-else-own-x-2 c =
    let a = c.args in
    let x = c.extent_of-own.ensures.0 in
    sym (grown_stays a.e.now a.n (omega (arith, x)) (rw x at c.if-own-x-2.false))
