-- What the first walk over the lines tells: the first refusal, or how far the groups reach; and how large these numbers are.
use Rattle.std.specs.Prelude.{List, Result, ℕ, ◌/◌, ◌≤◌, max}
use Rattle.memory_spans.specs.Span.{paragraph_bytes}
use Rattle.load_header.specs.Header.{CODE, DATA, EXTRA, STACK}
use Rattle.gencmd_lines.specs.declared.Refusal.{Refusal}
use Rattle.gencmd_lines.specs.Refusal.{unless}
use Rattle.gencmd_lines.specs.Line.{Line, addresses}
use Rattle.gencmd_lines.specs.Lines.{lines_refusal, data_lines}
use Rattle.gencmd_groups.specs.declared.Groups.{Groups}
use Rattle.gencmd_groups.specs.Groups.{end_of, reaches}

abbrev pub measured : List Line → Result Groups Refusal
measured ls = unless (lines_refusal ls) (reaches (data_lines ls))

-- with one more line
abbrev pub reach_over : Groups → Line → Groups
reach_over r l = record {
  code = max r.code (end_of l CODE);
  «data» = max r.«data» (end_of l DATA);
  extra = max r.extra (end_of l EXTRA);
  stack = max r.stack (end_of l STACK);
}

-- each of the four numbers is at most so large
pub record Within (most : ℕ) (r : Groups) : Type 0 where
  pub code : r.code ≤ most
  pub «data» : r.«data» ≤ most
  pub extra : r.extra ≤ most
  pub stack : r.stack ≤ most

-- no group reaches further than address FFFFH
abbrev pub ReachWithin : Groups → Type 0
ReachWithin r = Within addresses r

-- and so no group has more than 4,096 paragraphs
abbrev pub SizeWithin : Groups → Type 0
SizeWithin s = Within (addresses / paragraph_bytes) s
