-- The bytes of the pieces passed so far were appended, and the others are left.
use Rattle.std.proofs.Common.{◌≡◌, ◌*◌, [], ◌++◌, length, take, sym, ◌∙◌, rules, append_assoc, append-nil}
use Rattle.std.proofs.lemmas.List.{nil_from_length}
use Rattle.text.proofs.WriterLaws.{none, then}
use Rattle.replay_transcript.specs.Hex.{hex}
use Rattle.replay_transcript.proofs.HexLaws.{hex_append}
use Rattle.replay_transcript.proofs.hex.put_hex.Goals as goal

pub loop-piece-init : goal.loop-piece-init
unfolding hex
loop-piece-init c = (search rules, ([], none _, search rules))

pub loop-piece-preserved : goal.loop-piece-preserved
loop-piece-preserved c =
    let piece = c.in-Some.piece.now in
    let steps = c.in-Some.ensures.steps in
    let so_far = c.loop-piece.invariant.1 in
    let laid : take (2 * length piece) c.lay_digits.new.digits ≡ hex piece = c.lay_digits.ensures.laid in (
      steps.0 ∙ c.loop-piece.invariant.0,
      (so_far.0 ++ piece, rw hex_append (then so_far.1 (rw laid at c.bytes.ensures)), rw (append_assoc, ← steps.1.0) so_far.2),
    )

pub returns : goal.returns
returns c =
    let so_far = c.loop-piece.invariant.1 in
    let end = nil_from_length _ c.in-None.ensures.steps.1.0 in
    let all : so_far.0 ≡ c.args.s.now = sym (append-nil so_far.0) ∙ rw end at so_far.2 in
    rw all at so_far.1
