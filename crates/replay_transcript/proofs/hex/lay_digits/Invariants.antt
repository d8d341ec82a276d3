-- The digits of the bytes passed so far stand in a row.
use Rattle.std.specs.Prelude.{◌≡◌, ◌*◌, take}
use Rattle.replay_transcript.specs.Hex.{hex}
use Rattle.replay_transcript.proofs.hex.lay_digits.Given as goal

abbrev pub invariant-loop-i : goal.invariant-loop-i
invariant-loop-i l = take (2 * l.i) l.digits ≡ hex (take l.i l.s)
