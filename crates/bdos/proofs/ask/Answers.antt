-- Each call that asks is done by its method, and what the method is not lent is kept; no other comes here.
use mathlib.Core.Path.{refl, sym, ap, ◌∙◌}
use mathlib.Core.Bool.{false≢true}
use mathlib.Core.List.{List}
use Prim.Native.Nat.{ℕ}
use Rattle.disk_geometry.specs.declared.Geometry.{Geometry}
use Rattle.call_served.specs.declared.Call.{Call}
use Rattle.filecalls.specs.Outcome.{outcome}
use Rattle.filecalls.proofs.JoinLaws.{reply_left}
use Rattle.bdos.specs.Step.{keeps_buffer, keeps_fcb, keeps_volume, does}
use Rattle.bdos.specs.CodeWay.{way_of, asks}
use Rattle.bdos.proofs.ask.Goals as goal

pub returns-in-Open : goal.returns-in-Open
unfolding does outcome
returns-in-Open c = λ (g : Geometry) (held : List ℕ) h. rw c.in-Open.is (ap (keeps_buffer _) (c.open_file.ensures held))

pub returns-in-Close : goal.returns-in-Close
unfolding does outcome
returns-in-Close c = λ (g : Geometry) (held : List ℕ) h. rw c.in-Close.is (ap (keeps_buffer _) (c.close_file.ensures held))

pub returns-in-SearchFirst : goal.returns-in-SearchFirst
unfolding does outcome
returns-in-SearchFirst c = λ (g : Geometry) (held : List ℕ) h. rw c.in-SearchFirst.is (c.search_first.ensures held)

pub returns-in-SearchNext : goal.returns-in-SearchNext
unfolding does outcome
returns-in-SearchNext c = λ (g : Geometry) (held : List ℕ) h. rw c.in-SearchNext.is (ap (keeps_fcb _) (c.search_next.ensures held))

pub returns-in-Protect : goal.returns-in-Protect
unfolding does outcome
returns-in-Protect c = λ (g : Geometry) (held : List ℕ) h. rw c.in-Protect.is (ap (keeps_volume _) (ap (keeps_fcb _) (ap (keeps_buffer _) (c.protect.ensures held))))

pub returns-in-User : goal.returns-in-User
unfolding does outcome
returns-in-User c = λ (g : Geometry) (held : List ℕ) h. rw c.in-User.is (ap (keeps_volume _) (ap (keeps_fcb _) (ap (keeps_buffer _) (c.user_code.ensures held))))

pub returns-in-Size : goal.returns-in-Size
unfolding does outcome
returns-in-Size c = λ (g : Geometry) (held : List ℕ) h. rw c.in-Size.is (ap (keeps_buffer _) (c.file_size.ensures held))

pub returns-in-SetRandom : goal.returns-in-SetRandom
unfolding does outcome
returns-in-SetRandom c = λ (g : Geometry) (held : List ℕ) h. rw c.in-SetRandom.is (ap (keeps_volume _) (ap (keeps_buffer _) (c.set_random.ensures held)))

pub returns-in-Moves : goal.returns-in-Moves
unfolding does outcome
returns-in-Moves c = λ (g : Geometry) (held : List ℕ) h. rw c.in-Moves.is (c.read.ensures held (ap (λ (k : Call). asks (way_of k)) (sym c.in-Moves.is) ∙ h))

pub returns-in-LogIn : goal.returns-in-LogIn
unfolding does outcome
returns-in-LogIn c = λ (g : Geometry) (held : List ℕ) h. absurd (false≢true (ap (λ (k : Call). asks (way_of k)) (sym c.in-LogIn.is) ∙ h))

pub returns-in-Delete : goal.returns-in-Delete
unfolding does outcome
returns-in-Delete c = λ (g : Geometry) (held : List ℕ) h. absurd (false≢true (ap (λ (k : Call). asks (way_of k)) (sym c.in-Delete.is) ∙ h))

pub returns-in-Make : goal.returns-in-Make
unfolding does outcome
returns-in-Make c = λ (g : Geometry) (held : List ℕ) h. absurd (false≢true (ap (λ (k : Call). asks (way_of k)) (sym c.in-Make.is) ∙ h))

pub returns-in-Rename : goal.returns-in-Rename
unfolding does outcome
returns-in-Rename c = λ (g : Geometry) (held : List ℕ) h. absurd (false≢true (ap (λ (k : Call). asks (way_of k)) (sym c.in-Rename.is) ∙ h))

pub returns-in-Attributes : goal.returns-in-Attributes
unfolding does outcome
returns-in-Attributes c = λ (g : Geometry) (held : List ℕ) h. absurd (false≢true (ap (λ (k : Call). asks (way_of k)) (sym c.in-Attributes.is) ∙ h))

pub returns-in-Unserved : goal.returns-in-Unserved
unfolding does outcome
returns-in-Unserved c = λ (g : Geometry) (held : List ℕ) h. rw c.in-Unserved.is (reply_left (c.refused-in-Unserved.ensures held) refl)
