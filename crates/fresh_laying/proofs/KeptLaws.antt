-- The entries laid one after the other, by the numbers that are kept of them in order: the slot of entry k, what code asks of it, and what
-- is done when the first k are laid.
use mathlib.Core.Path.{◌≡◌, refl, sym, ap, ◌∙◌}
use mathlib.Core.List.{List, map}
use Prim.Native.Nat.{ℕ, ◌+◌, ◌-◌, ◌%◌, ◌≤◌, ◌<◌}
use native.Mathlib.Numerals.{add-one}
use native.Mathlib.Omega.{arith}
use lib.ListN.{length, take, get_or, length-map}
use Rattle.lists.specs.Bounded.{fold}
use Rattle.lists.proofs.FoldLaws.{Folded, folded_start, folded_next, folded_end}
use Rattle.disk_geometry.specs.declared.Geometry.{Geometry}
use Rattle.disk_geometry.specs.Geometry.{bytes, slots, places}
use Rattle.disk_geometry.proofs.GeometryLaws.{bounds}
use Rattle.disk_volume.specs.Directory.{slot_at, put_slot}
use Rattle.fresh_order.specs.Order.{order}
use Rattle.fresh_order.specs.CodeKeys.{key_of}
use Rattle.fresh_order.proofs.OrderLaws.{map_at, few_entries, entry_of}
use Rattle.fresh_sorting.specs.CodeKept.{InOrder, IsAccepted}
use Rattle.fresh_volume.specs.Copy.{blocks_below, numbered, blocks_before, first_number, fresh}
use Rattle.fresh_volume.proofs.NumberedLaws.{count_before}
use Rattle.fresh_volume.proofs.Copied.{moved_fit}
use Rattle.fresh_laying.specs.CodeLaying.{move_blocks, lay_entry, blank_slot, blank_block, blank_from, MapFits}
use Rattle.fresh_laying.proofs.LayingLaws.{laying_is_fresh, map_fits}

-- what is done when the entries below k are laid: x₀ is the second disk as it was
pub record LaidTo (g : Geometry) (v : List ℕ) (m : ℕ) (x₀ x : List ℕ) (next k : ℕ) : Type 0 where
  pub low : k ≤ m
  pub size : length x ≡ length x₀
  pub number : next ≡ first_number g v (order g v) k
  pub laid : Folded (lay_entry g v (order g v)) x₀ m x k

module _ (g : Geometry) (v : List ℕ) (m : ℕ) (x₀ : List ℕ) where
  pub laid_none : LaidTo g v m x₀ x₀ g.directory_blocks 0
  unfolding blocks_before
  laid_none = record { low = omega arith; size = refl; number = omega arith; laid = folded_start }

  module _ (x : List ℕ) (next k : ℕ) (t : LaidTo g v m x₀ x next k) (end : m ≤ k) where
    pub laid_number : next ≡ first_number g v (order g v) m
    laid_number = let z : k ≡ m = omega (arith, t.low) in rw z at t.number

    pub laid_all : x ≡ fold (lay_entry g v (order g v)) x₀ 0 m
    laid_all = sym (folded_end t.laid end)

-- what is kept in the m lowest places
module _ (g : Geometry) (v : List ℕ) (a : IsAccepted g v) (kept : List ℕ) (m : ℕ) (o : InOrder g v (slots g) kept m) where
  pub kept_few : m ≤ slots g
  unfolding order
  kept_few = omega (arith, o.many, few_entries g v a.0 a.1.1)

  pub kept_long : m ≤ length kept
  kept_long = omega (arith, kept_few, o.room, (bounds g a.0).slots_high)

  pub kept_is : take m kept ≡ map (key_of g v) (order g v)
  unfolding order
  kept_is = o.numbers

module _ (g : Geometry) (v : List ℕ) (a : IsAccepted g v) (kept : List ℕ) (o : kept ≡ map (key_of g v) (order g v)) where
  kept_many : length kept ≡ length (order g v)
  kept_many = ap length o ∙ length-map (order g v) (key_of g v)

  kept_slot : (k : ℕ) → k < length kept → get_or kept k 0 % 2048 ≡ get_or (order g v) k 0
  unfolding key_of
  kept_slot k h =
      let i = get_or (order g v) k 0 in
      let low : i < slots g = (entry_of g v a.0 a.1.1 k (omega (arith, kept_many))).0 in
      let e : get_or kept k 0 ≡ key_of g v i = ap (λ (l : List ℕ). get_or l k 0) o ∙ map_at (key_of g v) (order g v) k (omega (arith, kept_many)) in
      omega (arith, e, (bounds g a.0).slots_high)

  -- what code asks of entry k
  pub entry_fits : (k : ℕ) → k < length kept → (next : ℕ) → next ≡ first_number g v (order g v) k
      → (get_or kept k 0 % 2048 < slots g) × ((k < slots g) × MapFits g (slot_at g v (get_or kept k 0 % 2048)) next)
  entry_fits k h next number =
      let k< : k < length (order g v) = omega (arith, kept_many) in
      rw (kept_slot k h, number) ((entry_of g v a.0 a.1.1 k k<).0, (omega (arith, kept_many, few_entries g v a.0 a.1.1), map_fits g v a.0 a.1.0 a.1.1 v a.1.0 k k<))

  -- one entry more
  module _ (x₀ x : List ℕ) (next k : ℕ) (t : LaidTo g v (length kept) x₀ x next k) (h : k < length kept) (y : List ℕ) (after : ℕ) (same : length y ≡ length x)
      (is_number : after ≡ next + length (blocks_below g (slot_at g v (get_or kept k 0 % 2048)) (places g)))
      (is-laid : y ≡ put_slot g (move_blocks g v (slot_at g v (get_or kept k 0 % 2048)) next x) k (numbered g next (slot_at g v (get_or kept k 0 % 2048)))) where
    pub laid_next : LaidTo g v (length kept) x₀ y after (k + 1)
    unfolding lay_entry
    laid_next = record {
      low = omega arith;
      size = same ∙ t.size;
      number = is_number ∙ rw (kept_slot k h, t.number, add-one) (omega (arith, count_before g v (order g v) k));
      laid = folded_next t.laid h (is-laid ∙ rw (kept_slot k h, t.number));
    }

  -- and then what is blank
  pub numbers_low : (next : ℕ) → next ≡ first_number g v (order g v) (length kept) → next ≤ g.blocks
  numbers_low next e = rw (e, kept_many) (moved_fit g v a.0 a.1.0 a.1.1)

  module _ (w : List ℕ) (w-size : length w ≡ bytes g) (next : ℕ) (x y z : List ℕ) where
    pub laid_out : next ≡ first_number g v (order g v) (length kept) → x ≡ fold (lay_entry g v (order g v)) w 0 (length kept) → y ≡ fold (blank_slot g) x (length kept) (slots g - length kept)
        → z ≡ fold (blank_block g) y next (g.blocks - next) → z ≡ fresh g v w
    unfolding blank_from
    laid_out n e f h = h ∙ rw (f, e, n, kept_many) (laying_is_fresh g v a.0 a.1.0 a.1.1 w w-size)
