-- "A group reaches from 0 to its highest byte, rounded up to whole paragraphs", as statements: no byte that a line gives lies behind
-- the reach, and the last address before it has one; and the paragraphs of a group have every byte that a line gives it.
use Rattle.std.specs.Prelude.{◌≡◌, true, List, ℕ, ◌*◌, ◌-◌, ◌<◌}
use Rattle.memory_spans.specs.Span.{paragraph_bytes}
use Rattle.load_header.specs.Header.{CODE, DATA, EXTRA, STACK}
use Rattle.gencmd_lines.specs.Line.{Line}
use Rattle.gencmd_groups.specs.declared.Groups.{Groups}
use Rattle.gencmd_groups.specs.Groups.{given, reach_of}

pub record HighestByte (ls : List Line) (g : ℕ) : Type 0 where
  pub inside : (a : ℕ) → given ls g a ≡ true → a < reach_of ls g
  pub last : 0 < reach_of ls g → given ls g (reach_of ls g - 1) ≡ true

-- n paragraphs have every byte that a line gives group g
abbrev pub Covers : List Line → ℕ → ℕ → Type 0
Covers ls g n = (a : ℕ) → given ls g a ≡ true → a < paragraph_bytes * n

pub record Enough (ls : List Line) (s : Groups) : Type 0 where
  pub code : Covers ls CODE s.code
  pub «data» : Covers ls DATA s.«data»
  pub extra : Covers ls EXTRA s.extra
  pub stack : Covers ls STACK s.stack
