-- The branches are the definition's.
use mathlib.Core.Path.{refl}
use Rattle.text.specs.Text.{put_byte, puts}
use borrow.Author.Tests.{lt-ltb, le-ltb}
use Rattle.text.proofs.Writer.byte.Goals as goal

pub returns-then-self : goal.returns-then-self
unfolding puts put_byte
returns-then-self c = record { buffer = refl; text_is = rw (lt-ltb _ _ c.if-self.true) }

pub returns-else-self : goal.returns-else-self
unfolding puts put_byte
returns-else-self c = record { buffer = refl; text_is = rw (le-ltb _ _ c.if-self.false) }
