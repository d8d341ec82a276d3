-- The spans of the places passed so far are laid.
use Rattle.memory_bytes.specs.TableBytes.{span_bytes, spans_laid}
use Rattle.memory_bytes.proofs.BytesLaws.{span_length, span_is}
use Rattle.joined.proofs.JoinedLaws.{joined_start, joined_next, joined_end}
use Rattle.memory_spans.specs.Span.{places}
use native.Mathlib.Omega.{arith}
use mathlib.Core.Path.{◌∙◌}
use borrow.Author.Rules.{rules}
use Rattle.memory_bytes.proofs.put_spans.Goals as goal

pub loop-i-init : goal.loop-i-init
loop-i-init c = joined_start _ span_bytes 0 c.args.out.now

pub loop-i-preserved : goal.loop-i-preserved
loop-i-preserved c =
    let a = c.args in
    let l = c.loop-i in
    joined_next _ span_bytes 0 l.i l.out _ (omega arith) l.invariant (span_is a.list.now l.i (c.unwrap_or-s.ensures ∙ rw c.copied.ensures (search rules)) c.put_span.ensures) (span_length _)

pub returns : goal.returns
unfolding spans_laid
returns c =
    let l = c.loop-i in
    joined_end _ span_bytes 0 l.i places l.out (omega arith) (search rules) l.invariant
