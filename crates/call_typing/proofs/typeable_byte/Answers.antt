-- The code is the rule as it is written.
use mathlib.Core.Path.{refl}
use Rattle.call_typing.specs.Typing.{typeable_byte}
use Rattle.call_typing.proofs.typeable_byte.Goals as goal

pub returns : goal.returns
unfolding typeable_byte
returns c = refl
