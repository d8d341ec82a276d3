-- The read's own refusal is the ladder's; control block and buffer follow it.
use mathlib.Core.List.{List, []}
use Rattle.disk_volume.specs.Name.{name_of}
use Rattle.disk_volume.specs.Directory.{slot_at}
use Rattle.disk_volume.specs.Record.{record_slot}
use Rattle.call_fcb.specs.Fcb.{set_to}
use Rattle.call_read.specs.Read.{read_tests, read_bytes}
use Rattle.call_answers.specs.Refusal.{is_none}
use Rattle.disk_stores.specs.Stores.{laid}
use Rattle.filecalls.specs.Outcome.{keeps, changed_state}
use Rattle.filecalls.specs.Read.{read_done}
use Rattle.filecalls.proofs.OutcomeLaws.{either, decided}
use Prim.Native.Nat.{ℕ}
use Rattle.filecalls.specs.CodeFront.{joined}
use Rattle.filecalls.proofs.Front.read_at.Goals as goal

pub returns : goal.returns
unfolding read_done changed_state laid
returns c = λ (held : List ℕ).
    let a = c.args in
    let d = joined a.self held in
    let v = a.volume.now in
    let f = a.fcb.now in
    let m = c.read_record-why in
    let t = is_none m.result in
    decided d v f a.buffer.now 0 keeps [] (set_to f (slot_at d.geometry v (record_slot d.geometry v d.user (name_of f) a.n)) a.n a.cr) (read_bytes d.geometry v d.user (name_of f) a.n)
    (read_tests d.geometry v d.user (name_of f) a.n a.missing)
    m.ensures.value (either t d) (either t v) m.ensures.fcb_after m.ensures.buffer_after (c.answered.ensures held)
