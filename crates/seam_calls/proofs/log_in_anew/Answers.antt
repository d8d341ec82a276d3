-- An open state is logged in anew, by the geometry of its front; a closed one is refused.
use mathlib.Core.Path.{sym, ◌∙◌}
use native.Mathlib.Omega.{arith}
use Rattle.seam_calls.proofs.SeamLaws.{way_shut, state_open, way_logs_in}
use Rattle.seam_calls.proofs.log_in_anew.Goals as goal

pub returns-then-not-is_open : goal.returns-then-not-is_open
returns-then-not-is_open c most n p f b is =
    let g = c.args in
    let pre = c.requires in
    let t = c.is_open in
    way_shut n p g.drive.now g.volume.now f b most
    (sym (state_open n p g.drive.now g.volume.now f b pre.0 (λ k. omega (arith, c.slice_known-1.given k)) pre.1 t.ensures) ∙ c.if-not-is_open.true)

pub returns : goal.returns
returns c most n p f b is =
    let g = c.args in
    let pre = c.requires in
    let t = c.is_open in
    way_logs_in n p g.drive.now g.volume.now f b pre.0 (λ k. omega (arith, c.slice_known-1.given k)) pre.1 most is
    (sym (state_open n p g.drive.now g.volume.now f b pre.0 (λ k. omega (arith, c.slice_known-1.given k)) pre.1 t.ensures) ∙ c.if-not-is_open.false)
    c.log_in-reply.ensures c.encode.ensures
