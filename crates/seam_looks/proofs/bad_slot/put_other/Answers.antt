-- Where the rule speaks of another slot its user and name, else zeros.
use Rattle.seam_looks.specs.Fault.{other_bytes}
use Rattle.seam_looks.proofs.bad_slot.put_other.Goals as goal
use Rattle.seam_looks.proofs.bad_slot.put_other.Goals.{in_default-via-in-Some+else-has_other, in_default-via-in_default}

pub returns-in-Some : goal.returns-in-Some
unfolding other_bytes
returns-in-Some c = rw (c.in-Some.is, ← c.has_other.ensures, c.if-has_other.true) c.put_owner.ensures

pub returns-in_default : goal.returns-in_default
unfolding other_bytes
returns-in_default c = elim c.in_default.branch [
  | in_default-via-in-Some+else-has_other w ↦ rw (w.in-Some.is, ← w.has_other.ensures, w.if-has_other.false, c.fill.ensures.after (λ y h. h), c.requires.1.0)
  | in_default-via-in_default w ↦ rw (w.in_default.is, c.fill.ensures.after (λ y h. h), c.requires.1.0)
]
