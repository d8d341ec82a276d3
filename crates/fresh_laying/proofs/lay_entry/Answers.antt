-- The new entry is the old one's head, with the new number of each block; what is lent of the first disk is the slot's.
use mathlib.Core.Path.{◌≡◌, ap, ap₂, ◌∙◌, subst⁻¹}
use mathlib.Core.List.{List, ◌++◌}
use Prim.Native.Nat.{ℕ, ◌+◌}
use native.Mathlib.Omega.{arith}
use lib.ListN.{length, replicate, length-append}
use Rattle.disk_geometry.specs.Geometry.{places}
use Rattle.disk_volume.specs.Directory.{put_slot}
use Rattle.disk_volume.specs.Entry.{Entry}
use Rattle.disk_volume.proofs.DirectoryLaws.{slot_length}
use Rattle.disk_volume.proofs.EntryLaws.{lent_slot}
use Rattle.fresh_volume.specs.Copy.{blocks_below}
use Rattle.fresh_laying.specs.CodeLaying.{move_blocks, MapFits}
use Rattle.fresh_laying.proofs.MoveLaws.{new_entry}
use Rattle.fresh_laying.proofs.lay_entry.Goals as goal

pub move_blocks-next-requires : goal.move_blocks-next-requires
move_blocks-next-requires c =
    let long : length (c.copy_from_slice.new.self ++ replicate 16 0) ≡ 32 = length-append c.copy_from_slice.new.self (replicate 16 0) ∙ omega (arith, c.copy_from_slice.auto.self) in
    let a = c.args in
    let at = c.slot_start-at in
    let e = lent_slot a.g a.first.now a.i at.result at.ensures.0 in
    record {
      volume_and = c.requires.volume_and;
      entry = (
        ap length e ∙ slot_length a.g c.requires.volume_and.0 a.first.now c.requires.volume_and.1.0 a.i c.requires.i_bound.0,
        (long, subst⁻¹ (λ (x : Entry). MapFits a.g x a.b) e c.requires.i_bound.1.1),
      );
    }

pub returns : goal.returns
returns c =
    let a = c.args in
    let at = c.slot_start-at in
    let m = c.move_blocks-next in
    let e = lent_slot a.g a.first.now a.i at.result at.ensures.0 in
    let new = new_entry a.g a.first.now a.b a.i at.result at.ensures.0 e c.copy_from_slice.ensures.after in
    record {
      value = m.ensures.value ∙ ap (λ (x : Entry). a.b + length (blocks_below a.g x (places a.g))) e;
      second_after = c.lay_slot.ensures
          ∙ ap₂ (λ (x : List ℕ) (n : Entry). put_slot a.g x a.k n)
          (m.ensures.second_after ∙ ap (λ (x : Entry). move_blocks a.g a.first.now x a.b a.second.now) e)
          (m.ensures.after ∙ new);
    }
