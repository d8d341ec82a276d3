-- Two stores, the last slot and the pattern fill the sixteen bytes.
use mathlib.Core.Path.{◌≡◌, ◌∙◌}
use Rattle.drive_bytes.proofs.LayLaws.{two_taken, sixteen_stored}
use Rattle.drive_bytes.specs.Layout.{kept_bytes}
use Rattle.numbers.specs.Numbers.{bytes_of}
use Rattle.lists.specs.Bytes.{put}
use Rattle.drive_bytes.proofs.lay.put_kept.Goals as goal

pub returns : goal.returns
unfolding kept_bytes bytes_of put
returns c =
    let a = c.args in
    let p = c.requires in
    let two : c.copy_from_slice.new.self ≡ bytes_of 2 a.last = c.copy_from_slice.ensures.after ∙ two_taken a.last c.to_le_bytes.result c.to_le_bytes.ensures in
    rw (c.copy_from_slice-2.ensures.after, two) (sixteen_stored a.out.now p.0 _ _ _ _ a.pattern.now p.1)
