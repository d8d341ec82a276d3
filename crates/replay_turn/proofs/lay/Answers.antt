-- The bytes behind the offset are appended to the volume from the offset on, as far as there is room.
use lib.Seq.{take_all}
use lib.ListN.{drop, length-drop, length, drop_of_length-le}
use Prim.Native.Nat.{◌-◌, ◌≤◌}
use Rattle.replay_turn.specs.Play.{laid}
use Rattle.text.specs.Text.{Text, puts}
use native.Mathlib.Omega.{arith}
use mathlib.Core.Path.{refl, ap, ◌∙◌}
use borrow.Author.Rules.{rules}
use Rattle.text.proofs.WriterLaws.{done}
use Rattle.replay_turn.proofs.lay.Goals as goal

pub returns-then-fcb-ge-OFFSET_BYTES : goal.returns-then-fcb-ge-OFFSET_BYTES
unfolding laid
returns-then-fcb-ge-OFFSET_BYTES c =
    let f = c.args.fcb.now in
    let h : length (drop 3 f) ≤ length f - 3 = rw length-drop (omega arith) in
    let left = done c.bytes.ensures c.new-w.ensures.text refl (search rules) in
    ap (λ (t : Text). t.bytes) left ∙ rw (take_all (length f - 3) (drop 3 f) h, c.offset_of.ensures)

pub returns-else-fcb-ge-OFFSET_BYTES : goal.returns-else-fcb-ge-OFFSET_BYTES
unfolding laid puts
returns-else-fcb-ge-OFFSET_BYTES c =
    let h : length c.args.fcb.now ≤ 3 = omega arith in
    rw (drop_of_length-le c.args.fcb.now h)
