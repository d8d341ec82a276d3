-- Two outcomes of one call in two states that differ in the held blocks alone.
use mathlib.Core.Path.{◌≡◌, sym}
use Rattle.filecalls.specs.Outcome.{Outcome, with_held}

-- they are alike, but for the held blocks
pub record Alike (o p : Outcome) : Type 0 where
  pub answer : o.answer ≡ p.answer
  pub volume : o.volume ≡ p.volume
  pub fcb : o.fcb ≡ p.fcb
  pub buffer : o.buffer ≡ p.buffer
  pub drive : p.drive ≡ with_held o.drive p.drive.held

-- so the one is the other with its own held blocks
abbrev pub otherwise_held : Outcome → Outcome → Outcome
otherwise_held o p = record { answer = o.answer; drive = with_held o.drive p.drive.held; volume = o.volume; fcb = o.fcb; buffer = o.buffer }

pub alike_is : (o p : Outcome) → Alike o p → p ≡ otherwise_held o p
alike_is o p a = λ i. record { answer = sym a.answer i; drive = a.drive i; volume = sym a.volume i; fcb = sym a.fcb i; buffer = sym a.buffer i }
