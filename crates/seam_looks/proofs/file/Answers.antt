-- The definition's refusals in its order; then the line of the file that was found.
use mathlib.Core.Bool.{not}
use mathlib.Core.Path.{◌∙◌, ap}
use native.Mathlib.Omega.{arith}
use Rattle.seam_looks.proofs.FileLaws.{open_lawful, file_closed, file_volume, file_length_lem, file_none, file_done}
use borrow.Author.Rules.{rules}
use Rattle.seam_looks.proofs.file.Goals as goal

pub returns-then-not-is_open : goal.returns-then-not-is_open
returns-then-not-is_open c =
    let a = c.args in
    file_closed a.drive.now c.front-d.ensures c.is_open.ensures a.volume.now a.from a.file.now (ap not c.if-not-is_open.true) (c.seal.ensures.1 (omega arith))

pub bytes-requires : goal.bytes-requires
bytes-requires c = open_lawful c.args.drive.now c.front-d.ensures c.is_open.ensures (ap not c.if-not-is_open.false)

pub returns-then-volume-bytes : goal.returns-then-volume-bytes
returns-then-volume-bytes c =
    let a = c.args in
    file_volume a.drive.now c.front-d.ensures c.is_open.ensures a.volume.now a.from a.file.now (ap not c.if-not-is_open.false) c.bytes.ensures c.if-volume-bytes.true (c.seal-then-volume-bytes.ensures.1 (omega arith))

pub returns-then-file-ne-FILE_BYTES : goal.returns-then-file-ne-FILE_BYTES
returns-then-file-ne-FILE_BYTES c =
    let a = c.args in
    file_length_lem a.drive.now c.front-d.ensures c.is_open.ensures a.volume.now a.from a.file.now (ap not c.if-not-is_open.false) c.bytes.ensures c.if-volume-bytes.false c.if-file-ne-FILE_BYTES.true (c.seal-then-file-ne-FILE_BYTES.ensures.1 (omega arith))

pub next_file-slot-requires : goal.next_file-slot-requires
next_file-slot-requires c = (open_lawful c.args.drive.now c.front-d.ensures c.is_open.ensures (ap not c.if-not-is_open.false), c.if-volume-bytes.false ∙ c.bytes.ensures)

pub slots-requires : goal.slots-requires
slots-requires c = open_lawful c.args.drive.now c.front-d.ensures c.is_open.ensures (ap not c.if-not-is_open.false)

pub returns-then-slots-slot : goal.returns-then-slots-slot
returns-then-slots-slot c =
    let a = c.args in
    rw (← c.size.ensures)
    (file_none a.drive.now c.front-d.ensures c.is_open.ensures a.volume.now _ a.file.now (ap not c.if-not-is_open.false) c.bytes.ensures c.if-volume-bytes.false c.if-file-ne-FILE_BYTES.false c.next_file-slot.ensures c.slots.ensures.0 c.if-slots-slot.true (c.seal-then-slots-slot.ensures.1 (omega arith)))

pub put_file-requires : goal.put_file-requires
put_file-requires c =
    ((open_lawful c.args.drive.now c.front-d.ensures c.is_open.ensures (ap not c.if-not-is_open.false), c.if-volume-bytes.false ∙ c.bytes.ensures), (search rules, search rules))

pub returns : goal.returns
returns c =
    let a = c.args in
    rw (← c.size.ensures)
    (file_done a.drive.now c.front-d.ensures c.is_open.ensures a.volume.now _ a.file.now (ap not c.if-not-is_open.false) c.bytes.ensures c.if-volume-bytes.false c.if-file-ne-FILE_BYTES.false c.next_file-slot.ensures c.slots.ensures.0 c.if-slots-slot.false c.put_file.ensures (c.seal-2.ensures.1 (omega arith)))
