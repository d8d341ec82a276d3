-- Holds since the write of the record hands back just what the act leaves, and a protected drive is refused before it.
use Rattle.filecalls.proofs.WriteLaws.{write_decided}
use Rattle.filecalls.proofs.OutcomeLaws.{stops_here}
use Rattle.filecalls.proofs.CutLaws.{cut_no}
use Rattle.call_answers.specs.declared.Refusal.TheVariants.{Protected}
use mathlib.Core.Path.{refl}
use borrow.Author.Rules.{rules}
use Rattle.disk_volume.specs.Name.{name_of}
use Rattle.call_write.specs.Rewrite.{bytes_of}
use Rattle.filecalls.specs.CodeFront.{joined}
use Rattle.filecalls.proofs.Front.write_at.Goals as goal

pub returns-then-self : goal.returns-then-self
returns-then-self c =
    let a = c.args in
    let bytes = bytes_of a.self.geometry a.volume.now a.self.user (name_of a.fcb.now) a.n a.source in
    cut_no (joined a.self a.held.now) a.volume.now a.fcb.now bytes a.left.now (stops_here Protected _ _ _ c.if-self.true refl) (c.refused.ensures a.held.now)

pub write_record-why-requires : goal.write_record-why-requires
write_record-why-requires c =
    let l = c.requires.lent in
    record {
      volume = ((l.state.law, l.volume), search rules);
      fcb = (l.fcb, (l.buffer, c.requires.n_lt_file_records));
    }

pub returns : goal.returns
returns c =
    let a = c.args in
    let bytes = bytes_of a.self.geometry a.volume.now a.self.user (name_of a.fcb.now) a.n a.source in
    let w = c.write_record-why.ensures in
    write_decided (joined a.self a.held.now) a.volume.now a.fcb.now a.n a.cr a.fills bytes a.left.now c.if-self.false w (c.answered.ensures _)
