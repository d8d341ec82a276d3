-- Each call that changes the volume stores as its method promises, and a buffer that it is not lent is kept; no other comes here.
use mathlib.Core.Path.{sym, ap, ◌∙◌}
use mathlib.Core.Bool.{false≢true}
use mathlib.Core.List.{[]}
use Rattle.disk_geometry.specs.declared.Geometry.{Geometry}
use Rattle.call_served.specs.declared.Call.{Call}
use Rattle.filecalls.specs.Names.{delete_act, make_act, rename_act, attributes_act}
use Rattle.filecalls.specs.CodeFront.{joined}
use Rattle.bdos.specs.Step.{does}
use Rattle.bdos.specs.Stores.{call_stores}
use Rattle.bdos.specs.CodeWay.{way_of, changes}
use Rattle.bdos.proofs.DoorLaws.{own_stores, buffer_kept}
use Rattle.bdos.proofs.change.Goals as goal

pub returns-in-Delete : goal.returns-in-Delete
unfolding call_stores does
returns-in-Delete c = λ (g : Geometry) h.
    let a = c.args in
    let d = joined a.front a.held.now in
    rw c.in-Delete.is (buffer_kept a.buffer.now (own_stores d a.volume.now a.fcb.now [] a.left.now (delete_act d a.volume.now a.fcb.now) c.delete_most.ensures))

pub returns-in-Make : goal.returns-in-Make
unfolding call_stores does
returns-in-Make c = λ (g : Geometry) h.
    let a = c.args in
    let d = joined a.front a.held.now in
    rw c.in-Make.is (buffer_kept a.buffer.now (own_stores d a.volume.now a.fcb.now [] a.left.now (make_act d a.volume.now a.fcb.now) (c.make_most.ensures a.held.now)))

pub returns-in-Rename : goal.returns-in-Rename
unfolding call_stores does
returns-in-Rename c = λ (g : Geometry) h.
    let a = c.args in
    let d = joined a.front a.held.now in
    rw c.in-Rename.is (buffer_kept a.buffer.now (own_stores d a.volume.now a.fcb.now [] a.left.now (rename_act d a.volume.now a.fcb.now) (c.rename_most.ensures a.held.now)))

pub returns-in-Attributes : goal.returns-in-Attributes
unfolding call_stores does
returns-in-Attributes c = λ (g : Geometry) h.
    let a = c.args in
    let d = joined a.front a.held.now in
    rw c.in-Attributes.is (buffer_kept a.buffer.now (own_stores d a.volume.now a.fcb.now [] a.left.now (attributes_act d a.volume.now a.fcb.now) (c.attributes_most.ensures a.held.now)))

pub returns-in-Moves : goal.returns-in-Moves
unfolding call_stores does
returns-in-Moves c = λ (g : Geometry) h. rw c.in-Moves.is (c.write.ensures (ap (λ (k : Call). changes (way_of k)) (sym c.in-Moves.is) ∙ h))

pub returns-in-LogIn : goal.returns-in-LogIn
unfolding call_stores does
returns-in-LogIn c = λ (g : Geometry) h. absurd (false≢true (ap (λ (k : Call). changes (way_of k)) (sym c.in-LogIn.is) ∙ h))

pub returns-in-Open : goal.returns-in-Open
unfolding call_stores does
returns-in-Open c = λ (g : Geometry) h. absurd (false≢true (ap (λ (k : Call). changes (way_of k)) (sym c.in-Open.is) ∙ h))

pub returns-in-Close : goal.returns-in-Close
unfolding call_stores does
returns-in-Close c = λ (g : Geometry) h. absurd (false≢true (ap (λ (k : Call). changes (way_of k)) (sym c.in-Close.is) ∙ h))

pub returns-in-SearchFirst : goal.returns-in-SearchFirst
unfolding call_stores does
returns-in-SearchFirst c = λ (g : Geometry) h. absurd (false≢true (ap (λ (k : Call). changes (way_of k)) (sym c.in-SearchFirst.is) ∙ h))

pub returns-in-SearchNext : goal.returns-in-SearchNext
unfolding call_stores does
returns-in-SearchNext c = λ (g : Geometry) h. absurd (false≢true (ap (λ (k : Call). changes (way_of k)) (sym c.in-SearchNext.is) ∙ h))

pub returns-in-Protect : goal.returns-in-Protect
unfolding call_stores does
returns-in-Protect c = λ (g : Geometry) h. absurd (false≢true (ap (λ (k : Call). changes (way_of k)) (sym c.in-Protect.is) ∙ h))

pub returns-in-User : goal.returns-in-User
unfolding call_stores does
returns-in-User c = λ (g : Geometry) h. absurd (false≢true (ap (λ (k : Call). changes (way_of k)) (sym c.in-User.is) ∙ h))

pub returns-in-Size : goal.returns-in-Size
unfolding call_stores does
returns-in-Size c = λ (g : Geometry) h. absurd (false≢true (ap (λ (k : Call). changes (way_of k)) (sym c.in-Size.is) ∙ h))

pub returns-in-SetRandom : goal.returns-in-SetRandom
unfolding call_stores does
returns-in-SetRandom c = λ (g : Geometry) h. absurd (false≢true (ap (λ (k : Call). changes (way_of k)) (sym c.in-SetRandom.is) ∙ h))

pub returns-in-Unserved : goal.returns-in-Unserved
unfolding call_stores does
returns-in-Unserved c = λ (g : Geometry) h. absurd (false≢true (ap (λ (k : Call). changes (way_of k)) (sym c.in-Unserved.is) ∙ h))
