-- The blocks of an entry moved place by place, each with its new number in the new entry; and what is lent of the first disk.
use mathlib.Core.Path.{◌≡◌, refl, sym, ap, ◌∙◌}
use mathlib.Core.Bool.{Bool, true, false, cond}
use mathlib.Core.List.{List, ◌++◌}
use Prim.Native.Nat.{ℕ, suc, ◌+◌, ◌-◌, ◌*◌, ◌≤◌, ◌<◌}
use native.Mathlib.Numerals.{add-one}
use native.Mathlib.Omega.{arith}
use lib.ListN.{length, take, drop, replicate}
use lib.Seq.{take-take}
use Rattle.lists.specs.Bounded.{fold}
use Rattle.lists.specs.Bytes.{part}
use Rattle.lists.proofs.FoldLaws.{Folded, folded_start, folded_next, folded_end}
use Rattle.disk_geometry.specs.declared.Geometry.{Geometry}
use Rattle.disk_geometry.specs.Geometry.{lawful, blocks, records, slot_start, start, record_of, record_start, places}
use Rattle.disk_geometry.proofs.GeometryLaws.{record_below}
use Rattle.std.proofs.Math.Nat.{zero-mod, mod-eq_of_lt}
use Rattle.disk_volume.specs.Entry.{Entry, block_in, with_block}
use Rattle.disk_volume.specs.Directory.{slot_at}
use Rattle.disk_volume.specs.Record.{record_at}
use Rattle.disk_volume.proofs.EntryLaws.{lent_part}
use Rattle.files.specs.Files.{is_used}
use Rattle.fresh_volume.specs.Copy.{blocks_below, number_place, numbered, put_block}
use Rattle.fresh_volume.proofs.NumberedLaws.{count_used, count_unused}
use Rattle.fresh_laying.specs.CodeLaying.{move_place, move_blocks}

-- record k of a block is the k-th from its first
pub in_block : (g : Geometry) → lawful g ≡ true → (b k from : ℕ) → b < blocks g → k < records g → from ≡ record_of g b 0
    → (from + k ≡ record_of g b k) × (from + k < blocks g * records g)
in_block g good b k from below small e =
    let z : record_of g b 0 + k ≡ record_of g b k = rw (zero-mod (records g), mod-eq_of_lt small) (omega arith) in
    let s : from + k ≡ record_of g b k = ap (λ (x : ℕ). x + k) e ∙ z in
    (s, rw s (record_below g good b k below))

-- where it begins
pub starts_in_block : (g : Geometry) → lawful g ≡ true → (b k from at : ℕ) → b < blocks g → k < records g → from ≡ record_of g b 0 → at ≡ start g (from + k) → at ≡ record_start g b k
unfolding record_start
starts_in_block g good b k from at below small e f = f ∙ ap (start g) (in_block g good b k from below small e).0

-- `&first[at..at + 128]`, where at is the start of a record, and `&first[at..at + 16]`, where at is the start of a slot
pub lent_record : (g : Geometry) (v : List ℕ) (b n at : ℕ) → at ≡ record_start g b n → take (at + 128 - at) (drop at v) ≡ record_at g v b n
unfolding record_at
lent_record g v b n at e = lent_part v at 128 ∙ ap (λ (a : ℕ). part v a 128) e

pub lent_head : (g : Geometry) (v : List ℕ) (i at : ℕ) → at ≡ slot_start g i → take (at + 16 - at) (drop at v) ≡ take 16 (slot_at g v i)
unfolding slot_at part
lent_head g v i at e =
    let z : at + 16 - at ≡ 16 = omega arith in
    rw (z, e) (sym (take-take 16 32 (drop (slot_start g i) v) (omega arith)))

-- the next number, after place p
next_number : (g : Geometry) (e : Entry) (b p : ℕ) → cond (is_used g e p) (b + length (blocks_below g e p) + 1) (b + length (blocks_below g e p)) ≡ b + length (blocks_below g e (p + 1))
next_number g e b p = go (is_used g e p) refl ∙ ap (λ (k : ℕ). b + length (blocks_below g e k)) (sym (add-one p))
  where
    go : (t : Bool) → is_used g e p ≡ t → cond t (b + length (blocks_below g e p) + 1) (b + length (blocks_below g e p)) ≡ b + length (blocks_below g e (suc p))
    go true u = omega (arith, count_used g e p u)
    go false u = omega (arith, count_unused g e p u)

-- what is done when the places below p are: v is the first disk, x₀ the second and n₀ the new entry as they were
pub record MovedTo (g : Geometry) (v : List ℕ) (e : Entry) (b : ℕ) (x₀ : List ℕ) (n₀ : Entry) (x : List ℕ) (n : Entry) (next p : ℕ) : Type 0 where
  pub low : p ≤ places g
  pub size : length x ≡ length x₀
  pub long : length n ≡ length n₀
  pub number : next ≡ b + length (blocks_below g e p)
  pub moved : Folded (move_place g v e b) x₀ (places g) x p
  pub entry : Folded (number_place g b e) n₀ (places g) n p

module _ (g : Geometry) (v : List ℕ) (e : Entry) (b : ℕ) (x₀ : List ℕ) (n₀ : Entry) where
  pub moved_none : MovedTo g v e b x₀ n₀ x₀ n₀ b 0
  unfolding blocks_below
  moved_none = record { low = omega arith; size = refl; long = refl; number = omega arith; moved = folded_start; entry = folded_start }

  module _ (x : List ℕ) (n : Entry) (next p : ℕ) (m : MovedTo g v e b x₀ n₀ x n next p) where
    module _ (p< : p < places g) (y : List ℕ) (k : Entry) (after : ℕ) (y-size : length y ≡ length x) (k-long : length k ≡ length n)
        (is_number : after ≡ cond (is_used g e p) (next + 1) next)
        (is-moved : y ≡ cond (is_used g e p) (put_block g x next (record_at g v (block_in g e p))) x)
        (is_entry_lem : k ≡ cond (is_used g e p) (with_block g n p next) n) where
      pub moved_next : MovedTo g v e b x₀ n₀ y k after (p + 1)
      unfolding move_place number_place
      moved_next = record {
        low = omega arith;
        size = y-size ∙ m.size;
        long = k-long ∙ m.long;
        number = is_number ∙ rw m.number (next_number g e b p);
        moved = folded_next m.moved p< (is-moved ∙ rw m.number);
        entry = folded_next m.entry p< (is_entry_lem ∙ rw m.number);
      }

    module _ (end : places g ≤ p) where
      pub moved_number : next ≡ b + length (blocks_below g e (places g))
      moved_number = let z : p ≡ places g = omega (arith, m.low) in rw z at m.number

      pub moved_all : x ≡ move_blocks g v e b x₀
      unfolding move_blocks
      moved_all = sym (folded_end m.moved end)

      pub moved_entry : n ≡ fold (number_place g b e) n₀ 0 (places g)
      moved_entry = sym (folded_end m.entry end)

-- the new entry begins as the old one's head with no blocks, and ends with all of them; e and head are lent from the first disk
pub new_entry : (g : Geometry) (v : List ℕ) (b i at : ℕ) → at ≡ slot_start g i → {e : Entry} → e ≡ slot_at g v i → {head : List ℕ} → head ≡ take (at + 16 - at) (drop at v)
    → fold (number_place g b e) (head ++ replicate 16 0) 0 (places g) ≡ numbered g b (slot_at g v i)
unfolding numbered
new_entry g v b i at start is-slot is-head = rw (is-slot, is-head, lent_head g v i at start)
