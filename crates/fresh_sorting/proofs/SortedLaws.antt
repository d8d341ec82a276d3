-- The slots below i are in order: there is room for one more, and it is in order with them when its number has been entered, or when it
-- is empty.
use mathlib.Core.Path.{◌≡◌, refl, sym, ap, ◌∙◌}
use mathlib.Core.Bool.{true, false}
use mathlib.Core.List.{List}
use Prim.Native.Nat.{ℕ, suc, ◌+◌, ◌<◌}
use native.Mathlib.Numerals.{add-one}
use native.Mathlib.Omega.{arith}
use lib.ListN.{length, take}
use Rattle.lists.specs.Bounded.{fold}
use Rattle.disk_geometry.specs.declared.Geometry.{Geometry}
use Rattle.disk_geometry.specs.Geometry.{slots}
use Rattle.disk_geometry.proofs.GeometryLaws.{bounds}
use Rattle.disk_volume.specs.Entry.{is_empty}
use Rattle.disk_volume.specs.Directory.{slot_at}
use Rattle.fresh_order.specs.Order.{file_slot, goes_before}
use Rattle.fresh_order.specs.CodeKeys.{key_of, entered, Rising, ordered_to}
use Rattle.fresh_order.proofs.EnteredLaws.{length_before}
use Rattle.fresh_order.proofs.OrderLaws.{Ordered, ordered, next_empty, next_entry, next_keys}
use Rattle.fresh_sorting.specs.CodeKept.{key_in, InOrder, IsAccepted}

-- none are in order where no slot has been looked at
pub in_order_none : (g : Geometry) (v kept : List ℕ) → length kept ≡ 2048 → InOrder g v 0 kept 0
unfolding fold
in_order_none g v kept room = record { room = room; many = refl; numbers = refl }

module _ (g : Geometry) (v : List ℕ) (a : IsAccepted g v) (i : ℕ) (i< : i < slots g) (kept : List ℕ) (m : ℕ) (o : InOrder g v i kept m) where
  so_far : Ordered g v a.0 a.1.1 i
  so_far = ordered g v a.0 a.1.1 i (omega arith)

  pub room_left : m < length kept
  room_left = omega (arith, o.room, o.many, so_far.few, (bounds g a.0).slots_high)

  pub kept_rise : Rising (take m kept)
  kept_rise = rw o.numbers so_far.rising

  -- slot i is empty
  pub still_in_order : is_empty (slot_at g v i) ≡ true → InOrder g v (i + 1) kept m
  still_in_order e =
      let z : ordered_to g v (i + 1) ≡ ordered_to g v i = rw add-one (next_empty g v a.0 a.1.1 i i< so_far e) in
      record { room = o.room; many = rw z o.many; numbers = rw z o.numbers }

  -- slot i has an entry, whose number has been entered
  module _ (e : is_empty (slot_at g v i) ≡ false) (after : List ℕ) (same : length after ≡ length kept)
      (laid : take (m + 1) after ≡ entered (take m kept) (key_in g v (slot_at g v i) i)) where
    pub entered_in_order : InOrder g v (i + 1) after (m + 1)
    unfolding key_in key_of file_slot
    entered_in_order =
        let more = next_entry g v a.0 a.1.1 i i< so_far e in
        let keys = next_keys g v a.0 a.1.1 i i< so_far e in
        record {
          room = same ∙ o.room;
          many = rw (add-one, add-one, more) (sym (length_before (goes_before g v i) (ordered_to g v i) i ∙ ap suc (sym o.many)));
          numbers = laid ∙ rw (o.numbers, add-one) (sym keys);
        }
