-- The theorems of request (xiv).
use mathlib.Core.Path.{◌≡◌, refl}
use mathlib.Core.Logic.{◌⊎◌, inl, inr, ⊎_elim}
use mathlib.Core.List.{List}
use Prim.Native.Nat.{ℕ, ◌+◌, ◌≤◌, ◌<◌}
use native.Mathlib.Omega.{arith}
use Rattle.lists.specs.Bytes.{byte}
use Rattle.disk_geometry.specs.EightInch.{image_bytes, reserved_bytes, image_start}
use Rattle.disk_geometry.specs.Geometry.{floppy, lawful, bytes, start}
use Rattle.disk_geometry.proofs.EightInchLaws.{image_reserved, image_in, image_apart}
use Rattle.disk_geometry.proofs.GeometryLaws.{start_floppy}
use Rattle.fresh_order.specs.Order.{order}
use Rattle.fresh_volume.specs.Copy.{copied_entry, copied_record, fresh}
use Rattle.fresh_volume.proofs.LaidLaws.{same_part, laid_spare}
use Rattle.fresh_volume.proofs.Copied.{fresh_laid, fresh_size, slot_blank, free_and_moved}
use Rattle.fresh_holds.specs.Holds.{Worn, FreshHolds, SpareKept}
use Rattle.fresh_holds.proofs.Passes.{fresh_passes, fresh_head}
use Rattle.fresh_holds.proofs.Records.{block_same, present_same, bytes_same}
use Rattle.fresh_holds.proofs.Again.{again_on, again_volume, again_all, moved_again}

pub fresh_holds : FreshHolds
fresh_holds g v w k =
    let passes = fresh_passes g v k.law k.size k.ok w k.second in
    let size = fresh_size g v k.law k.size k.ok w k.second in
    record {
      same_present = λ u name n low. present_same g v k.law k.size k.ok w k.second u name low n;
      same_bytes = λ u name n low. bytes_same g v k.law k.size k.ok w k.second u name low n;
      same_heads = λ i low. fresh_head g v k.law k.size k.ok w k.second i low;
      same_blocks = λ i p n low in_map used. block_same g v k.law k.size k.ok w k.second i p n low in_map used;
      no_more = slot_blank g v k.law k.size k.ok w k.second;
      passes = passes;
      as_many_free =
          omega (arith, free_and_moved g v k.law k.size k.ok, free_and_moved g (fresh g v w) k.law size passes, moved_again g v k.law k.size k.ok w k.second);
      again = again_on g v k.law k.size k.ok w k.second w k.second;
      again_elsewhere = again_on g v k.law k.size k.ok w k.second;
      again_records = again_volume g v k.law k.size k.ok w k.second;
      again_straight = again_all g v k.law k.size k.ok w k.second;
    }

-- ---- an eight-inch image
at : (q : ℕ) → start floppy q ≡ image_start q
unfolding lawful
at q = start_floppy floppy refl q refl

-- a byte of the reserved tracks, and one of the last six logical records, is in no other record
spare : (v w : List ℕ) → Worn floppy v w → (z : ℕ) → ((q : ℕ) → q < 1944 → (z + 1 ≤ image_start q) ⊎ (image_start q + 128 ≤ z)) → byte (fresh floppy v w) z ≡ byte w z
spare v w k z off =
    laid_spare floppy k.law w (copied_entry floppy v (order floppy v)) (copied_record floppy v (order floppy v)) (fresh floppy v w)
    (fresh_laid floppy v k.law k.size k.ok w k.second) z (λ q h. rw (at q) (off q h))

pub spare_kept : SpareKept
unfolding bytes
spare_kept v w k =
    let size = fresh_size floppy v k.law k.size k.ok w k.second in
    record {
      reserved =
          same_part (fresh floppy v w) w 0 reserved_bytes (omega (arith, size)) (omega (arith, k.second))
          (λ z z<. spare v w k (0 + z) (λ q h. inl (omega (arith, image_reserved q))));
      last_six = λ q low high.
          let fits : start floppy q + 128 ≤ image_bytes = rw (at q) (image_in q high) in
          same_part (fresh floppy v w) w (start floppy q) 128 (omega (arith, size)) (omega (arith, k.second))
          (λ i i<. rw (at q) (spare v w k (image_start q + i) (λ p h.
          ⊎_elim (λ o. inr (omega (arith, o))) (λ o. inl (omega (arith, o))) (image_apart p q (λ e. omega (arith, low, h, e))))));
    }
