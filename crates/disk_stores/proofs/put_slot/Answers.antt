-- The entry laid over its piece of a copy of the record, and the record stored.
use Rattle.std.proofs.Common.{◌≡◌, ℕ, ◌+◌, ◌-◌, ◌*◌, ◌%◌, ◌≤◌, List, length, ◌∙◌, arith}
use borrow.Rule.Slice.PartMut.{put_mid}
use lib.Seq.{take_all}
use Rattle.lists.specs.Bytes.{part, put}
use Rattle.lists.proofs.PartLaws.{length_put}
use Rattle.disk_geometry.proofs.GeometryLaws.{slot_record_below}
use Rattle.disk_stores.specs.Stores.{entry_stores}
use Rattle.disk_stores.proofs.put_slot.Goals as goal

laid_length : (s : List ℕ) (o k : ℕ) (e : List ℕ) → length s ≡ 128 → o + 32 ≤ 128 → k ≡ 32 → length e ≡ 32 → length (put_mid o k s e) ≡ 128
unfolding put
laid_length s o k e h f z l = rw z (length_put s o 32 (omega arith) e l ∙ h)

pub start-at-requires : goal.start-at-requires
start-at-requires c = (c.requires.volume.0, slot_record_below _ c.requires.volume.0 c.args.i c.requires.i_bound.0)

pub store_record-requires : goal.store_record-requires
store_record-requires c =
    let o = c.args.i % 4 * 32 in
    record {
      volume = c.requires.volume;
      q_bound = (slot_record_below _ c.requires.volume.0 c.args.i c.requires.i_bound.0, laid_length c.copy_from_slice.new.self o (o + 32 - o) c.copy_from_slice-2.new.self (omega arith) (omega arith) (omega arith) (omega arith));
    }

pub returns : goal.returns
unfolding entry_stores part put
returns c =
    let at = c.start-at in
    let z : at.result + 128 - at.result ≡ 128 = omega arith in
    let o = c.store_record in
    let p = c.args.i % 4 * 32 in
    let w : p + 32 - p ≡ 32 = omega arith in
    record {
      volume_after = o.ensures.volume_after ∙ rw (c.copy_from_slice-2.ensures.after, c.copy_from_slice.ensures.after, z, w, take_all 32 c.args.e.now (omega (arith, c.requires.i_bound.1)), at.ensures.0);
      left_after = o.ensures.left_after;
    }
