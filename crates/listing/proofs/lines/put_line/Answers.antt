-- Eight runs of bytes, one after the other; the numbers are those of the definition.
use Rattle.files.specs.Files.{blocks_of}
use Rattle.listing.specs.Listing.{line}
use Rattle.text.proofs.WriterLaws.{then, number}
use Rattle.call_size.specs.Size.{size_of}
use Rattle.disk_volume.specs.Name.{name_at, name_of}
use Rattle.lists.specs.Bytes.{byte, part}
use Rattle.listing.proofs.lines.put_line.Goals as goal

pub returns : goal.returns
unfolding line name_at part
returns c =
    let a = c.args in
    let e = a.e.now in
    let v = a.volume.now in
    then (number (byte e 0) c.from.ensures c.decimal.ensures)
    (then c.byte.ensures
    (then c.put_name.ensures
    (then c.byte-2.ensures
    (then (number (size_of a.g v (byte e 0) (name_of e)) c.size_of-size.ensures.0 c.decimal-2.ensures)
    (then c.byte-3.ensures
    (then (number (blocks_of a.g v (byte e 0) (name_of e)) c.blocks_of-blocks.ensures c.decimal-3.ensures)
    c.byte-4.ensures))))))
