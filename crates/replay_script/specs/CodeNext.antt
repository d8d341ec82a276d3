-- What code knows of the numbers that it has read: no header's volume is too long, and a call's bytes are there.
use Rattle.std.specs.Prelude.{Option, Some, None, ℕ, ◌≤◌}
use Rattle.replay_script.specs.declared.Header.{Header}
use Rattle.replay_script.specs.declared.Next.{Next}
use Rattle.replay_script.specs.declared.Next.TheVariants as next
use Rattle.replay_script.specs.Layout.{longest_volume, call_bytes, longest_fcb, longest_buffer}

abbrev pub AtMost : Option Header → Type 0
AtMost (Some h) = h.volume_bytes ≤ longest_volume
AtMost None = Unit

-- how many bytes of the script it takes, and that they are there
abbrev pub used_by : Next → ℕ
used_by next.End = 0
used_by next.Bad = 0
used_by (next.Call h) = call_bytes h.fcb h.buffer

abbrev pub Within : ℕ → Next → Type 0
Within n next.End = Unit
Within n next.Bad = Unit
Within n (next.Call h) = (h.fcb ≤ longest_fcb) × ((h.buffer ≤ longest_buffer) × (call_bytes h.fcb h.buffer ≤ n))
