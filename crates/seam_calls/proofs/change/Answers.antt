-- The held blocks are read, lent to the call, and laid back where it succeeded.
use mathlib.Core.Path.{refl, sym, ◌∙◌}
use native.Mathlib.Omega.{arith}
use Rattle.seam_calls.proofs.SeamLaws.{way_changes}
use Rattle.seam_calls.proofs.change.Goals as goal

pub returns-then-succeeded : goal.returns-then-succeeded
returns-then-succeeded c n is a =
    let g = c.args in
    let pre = c.requires in
    way_changes n g.parameter g.drive.now g.volume.now g.fcb.now g.buffer.now pre.0 (λ k. omega (arith, c.slice_known-1.given k)) pre.1 is a c.load_words.ensures
    c.change-reply.ensures (sym c.succeeded.ensures ∙ c.if-succeeded.true) c.lay_words.ensures

pub returns-else-succeeded : goal.returns-else-succeeded
returns-else-succeeded c n is a =
    let g = c.args in
    let pre = c.requires in
    way_changes n g.parameter g.drive.now g.volume.now g.fcb.now g.buffer.now pre.0 (λ k. omega (arith, c.slice_known-1.given k)) pre.1 is a c.load_words.ensures
    c.change-reply.ensures (sym c.succeeded.ensures ∙ c.if-succeeded.false) refl
