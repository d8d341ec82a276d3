-- Header, image and zeros, each behind the one before.
use mathlib.Core.Path.{refl}
use Prim.Native.Nat.{◌*◌, ◌-◌}
use native.Mathlib.Omega.{arith}
use lib.ListN.{replicate, length-replicate}
use Rattle.memory_spans.specs.Span.{paragraph_bytes}
use Rattle.gencmd_lines.specs.Lines.{lines_in}
use Rattle.gencmd_file.proofs.FileLaws.{put_one, and_put, length_header, length_image, sized, file_is}
use Rattle.gencmd_file.proofs.writing.write.Goals as goal

pub returns : goal.returns
returns c =
    let x = c.args in
    let s = x.sizes in
    let ls = lines_in x.text.now in
    let length = c.file_length-length in
    let end = c.image_end-end in
    let z = length.result - end.result in
    let header = put_one c.put_header.ensures (length_header s) in
    let image = and_put (sized ls s) header (omega arith) refl c.put_image.ensures (length_image ls (paragraph_bytes * s.code) (paragraph_bytes * s.«data») (paragraph_bytes * s.extra) (paragraph_bytes * s.stack)) in
    let zeros = and_put (replicate z 0) image (omega arith) (omega (arith, end.ensures)) c.put_zeros.ensures (length-replicate z 0) in
    file_is ls s x.out.now _ _ z (omega (arith, length.ensures, end.ensures)) (omega (arith, length.ensures, end.ensures)) zeros
