-- The call of the number goes its way, with stores enough.
use mathlib.Core.Path.{◌≡◌, sym, ap, ◌∙◌}
use mathlib.Core.Bool.{true}
use Rattle.filecalls.specs.declared.Drive.{Drive}
use Rattle.filecalls.specs.CodeFront.{joined}
use Rattle.filecalls.proofs.JoinLaws.{joined_left}
use Rattle.bdos.specs.Step.{does, step}
use Rattle.bdos.specs.CodeWay.{way_of, asks, changes, logs}
use Rattle.bdos.proofs.DoorLaws.{logs_in_lem, call_enough}
use Rattle.bdos.proofs.enter.Goals as goal

pub returns-in-LogsIn : goal.returns-in-LogsIn
unfolding step does
returns-in-LogsIn c =
    let k = c.call_of-kind in
    let h : logs (way_of k.result) ≡ true = ap logs (sym c.way_of-way.ensures ∙ c.in-LogsIn.is) in
    rw (← k.ensures, logs_in_lem k.result h, c.log_in.ensures)

pub returns-in-Asks : goal.returns-in-Asks
unfolding step
returns-in-Asks c =
    let a = c.args in
    let k = c.call_of-kind in
    let h : asks (way_of k.result) ≡ true = ap asks (sym c.way_of-way.ensures ∙ c.in-Asks.is) in
    rw (← k.ensures) (joined_left a.drive c.joined.ensures c.front-front.ensures (λ (d : Drive). does a.g k.result a.parameter d a.volume.now a.fcb.now a.buffer.now) (c.ask-told.ensures a.g a.drive.held h))

pub returns-in-Changes : goal.returns-in-Changes
unfolding step
returns-in-Changes c =
    let a = c.args in
    let k = c.call_of-kind in
    let h : changes (way_of k.result) ≡ true = ap changes (sym c.way_of-way.ensures ∙ c.in-Changes.is) in
    rw (← k.ensures) (joined_left a.drive c.joined-in-Changes.ensures c.front-front.ensures (λ (d : Drive). does a.g k.result a.parameter d a.volume.now a.fcb.now a.buffer.now)
    ((c.change-changed.ensures a.g h).whole (call_enough k.result a.parameter (joined c.front-front.result a.drive.held) a.volume.now a.fcb.now a.buffer.now)))
