-- Each way leaves the call that goes it; only a log-in logs in.
use mathlib.Core.Path.{◌≡◌, sym, ap, ◌∙◌}
use mathlib.Core.Bool.{true}
use Rattle.bdos.specs.CodeWay.{way_of, asks, changes, logs}
use Rattle.bdos.proofs.DoorLaws.{logs_in_lem}
use Rattle.seam_calls.proofs.call_of_kind.Goals as goal

pub returns-in-LogsIn : goal.returns-in-LogsIn
returns-in-LogsIn c n is =
    let a = c.args in
    let h : logs (way_of a.kind) ≡ true = ap logs (sym c.way_of.ensures ∙ c.in-LogsIn.is) in
    c.log_in_anew.ensures a.left.now n a.parameter a.fcb.now a.buffer.now (sym is ∙ logs_in_lem a.kind h)

pub returns-in-Asks : goal.returns-in-Asks
returns-in-Asks c n is =
    let a = c.args in
    let h : asks (way_of a.kind) ≡ true = ap asks (sym c.way_of.ensures ∙ c.in-Asks.is) in
    c.ask.ensures a.left.now n is h

pub returns-in-Changes : goal.returns-in-Changes
returns-in-Changes c n is =
    let a = c.args in
    let h : changes (way_of a.kind) ≡ true = ap changes (sym c.way_of.ensures ∙ c.in-Changes.is) in
    c.change.ensures n is h
