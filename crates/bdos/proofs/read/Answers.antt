-- A read is done by its method; no write comes here.
use mathlib.Core.Path.{sym, ap, ◌∙◌}
use mathlib.Core.Bool.{false≢true}
use mathlib.Core.List.{List}
use Prim.Native.Nat.{ℕ}
use Rattle.call_served.specs.declared.Transfer.{Transfer}
use Rattle.bdos.specs.Step.{carries}
use Rattle.bdos.specs.CodeWay.{way_moved, asks}
use Rattle.bdos.proofs.read.Goals as goal

pub returns-in-ReadSequential : goal.returns-in-ReadSequential
unfolding carries
returns-in-ReadSequential c = λ (held : List ℕ) h. rw c.in-ReadSequential.is (c.read_sequential.ensures held)

pub returns-in-ReadRandom : goal.returns-in-ReadRandom
unfolding carries
returns-in-ReadRandom c = λ (held : List ℕ) h. rw c.in-ReadRandom.is (c.read_random.ensures held)

pub returns-in-ReadSeveral : goal.returns-in-ReadSeveral
unfolding carries
returns-in-ReadSeveral c = λ (held : List ℕ) h. rw c.in-ReadSeveral.is (c.read.ensures held)

pub returns-in-WriteSequential : goal.returns-in-WriteSequential
unfolding carries
returns-in-WriteSequential c = λ (held : List ℕ) h. absurd (false≢true (ap (λ (k : Transfer). asks (way_moved k)) (sym c.in-WriteSequential.is) ∙ h))

pub returns-in-WriteRandom : goal.returns-in-WriteRandom
unfolding carries
returns-in-WriteRandom c = λ (held : List ℕ) h. absurd (false≢true (ap (λ (k : Transfer). asks (way_moved k)) (sym c.in-WriteRandom.is) ∙ h))

pub returns-in-WriteZeroFill : goal.returns-in-WriteZeroFill
unfolding carries
returns-in-WriteZeroFill c = λ (held : List ℕ) h. absurd (false≢true (ap (λ (k : Transfer). asks (way_moved k)) (sym c.in-WriteZeroFill.is) ∙ h))

pub returns-in-WriteSeveral : goal.returns-in-WriteSeveral
unfolding carries
returns-in-WriteSeveral c = λ (held : List ℕ) h. absurd (false≢true (ap (λ (k : Transfer). asks (way_moved k)) (sym c.in-WriteSeveral.is) ∙ h))
