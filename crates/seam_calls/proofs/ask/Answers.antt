-- A state that the call would not ask for is asked for here; what the call leaves of the front is laid back where it succeeded.
use mathlib.Core.Path.{refl, sym, ap, ◌∙◌}
use mathlib.Core.Bool.{not}
use native.Mathlib.Omega.{arith}
use Rattle.seam_calls.proofs.SeamLaws.{way_shut, enters_not, way_asks}
use Rattle.seam_calls.proofs.ask.Goals as goal

pub returns-then-not-may_enter : goal.returns-then-not-may_enter
returns-then-not-may_enter c most n is a =
    let g = c.args in
    let pre = c.requires in
    way_shut n g.parameter g.drive.now g.volume.now g.fcb.now g.buffer.now most
    (enters_not n g.parameter g.drive.now g.volume.now g.fcb.now g.buffer.now pre.0 (λ k. omega (arith, c.slice_known-1.given k)) pre.1 g.kind c.may_enter.ensures (ap not c.if-not-may_enter.true))

pub returns-then-succeeded : goal.returns-then-succeeded
returns-then-succeeded c most n is a =
    let g = c.args in
    let pre = c.requires in
    way_asks n g.parameter g.drive.now g.volume.now g.fcb.now g.buffer.now pre.0 (λ k. omega (arith, c.slice_known-1.given k)) pre.1 is most a c.may_enter.ensures (ap not c.if-not-may_enter.false)
    c.ask-reply.ensures (sym c.succeeded.ensures ∙ c.if-succeeded.true) c.lay_front.ensures

pub returns-else-succeeded : goal.returns-else-succeeded
returns-else-succeeded c most n is a =
    let g = c.args in
    let pre = c.requires in
    way_asks n g.parameter g.drive.now g.volume.now g.fcb.now g.buffer.now pre.0 (λ k. omega (arith, c.slice_known-1.given k)) pre.1 is most a c.may_enter.ensures (ap not c.if-not-may_enter.false)
    c.ask-reply.ensures (sym c.succeeded.ensures ∙ c.if-succeeded.false) refl
