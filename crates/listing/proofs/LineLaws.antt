-- How long a line can be: on a volume whose slots are all good no number is long.
use mathlib.Core.Path.{◌≡◌, refl}
use mathlib.Core.Bool.{Bool, true, false, not, cond}
use mathlib.Core.List.{List, []}
use Prim.Native.Nat.{ℕ, zero, suc, ◌+◌, ◌*◌, ◌/◌, ◌≤◌, ◌<◌, max}
use native.Mathlib.Decide.{dec_lt}
use native.Mathlib.Omega.{arith}
use lib.Dec.{eqb}
use lib.ListN.{length, length-append, length-take}
use borrow.Author.Tests.{eqb-true, ne_eqb, not-true}
use Rattle.lists.specs.Bounded.{count_from, fold}
use Rattle.lists.specs.Bytes.{byte, part}
use Rattle.lists.proofs.BoolLaws.{and_left}
use Rattle.disk_held.proofs.CountLaws.{count_not}
use Rattle.disk_geometry.specs.declared.Geometry.{Geometry}
use Rattle.disk_geometry.specs.Geometry.{slots, places}
use Rattle.disk_geometry.proofs.GeometryLaws.{map_sizes}
use Rattle.disk_volume.specs.Name.{strip, name_of, same}
use Rattle.disk_volume.specs.Entry.{Entry, is_empty, of_file}
use Rattle.disk_volume.specs.Directory.{slot_at}
use Rattle.disk_volume.proofs.NameLaws.{length_strip}
use Rattle.disk_rules.specs.GoodSlot.{good_slot}
use Rattle.disk_rules.proofs.GoodLaws.{Fields, fields_good, good_facts}
use Rattle.text.specs.Decimal.{decimal}
use Rattle.text.proofs.DecimalLaws.{decimal_one, decimal_more}
use Rattle.call_size.specs.Size.{entry_end, larger, size_of}
use Rattle.files.specs.Files.{is_used, used_places, more_blocks, blocks_of, is_listed}
use Rattle.listing.specs.Listing.{name_text, line, line_at, lines_from}

-- ---- how many digits a number has
one_digit : (n : ℕ) → n < 10 → length (decimal n) ≤ 1
one_digit n h = rw (decimal_one n h) (omega arith)

one_more : (n k : ℕ) → length (decimal (n / 10)) ≤ suc k → length (decimal n) ≤ suc (suc k)
one_more n k h = elim (dec_lt n 10) [
  | yes l ↦ rw (decimal_one n l) (omega arith)
  | no l ↦ let m : 10 ≤ n = omega arith in rw (decimal_more n m, length-append) (omega arith)
]

pub two_digits : (n : ℕ) → n < 100 → length (decimal n) ≤ 2
two_digits n h = one_more n 0 (one_digit (n / 10) (omega arith))

three_digits : (n : ℕ) → n < 1000 → length (decimal n) ≤ 3
three_digits n h = one_more n 1 (two_digits (n / 10) (omega arith))

five_digits : (n : ℕ) → n < 100000 → length (decimal n) ≤ 5
five_digits n h = one_more n 3 (one_more (n / 10) 2 (three_digits (n / 10 / 10) (omega arith)))

-- ---- a name
part_short : (e : Entry) (a n : ℕ) → length (strip (part e a n)) ≤ n
unfolding part
part_short e a n = rw (length_strip, length-take) (omega arith)

name_short : (e : Entry) → length (name_text e) ≤ 12
unfolding name_text
name_short e = rw (length-append) (omega (arith, part_short e 1 8, part_short e 9 3))

-- ---- a count
pub count_short : (p : ℕ → Bool) (i k : ℕ) → count_from p i k ≤ k
count_short p i k = omega (arith, count_not p i k)

used_short : (g : Geometry) (e : Entry) → used_places g e ≤ 16
unfolding used_places
used_short g e = omega (arith, count_short (is_used g e) 0 (places g), (map_sizes g).places_high)

-- ---- the blocks of a file
module _ (g : Geometry) (v : List ℕ) (u : ℕ) (name : List ℕ) where
  more_short : (m i : ℕ) → more_blocks g v u name m i ≤ m + 16
  unfolding more_blocks
  more_short m i = go (of_file u name (slot_at g v i))
    where
      go : (t : Bool) → cond t (m + used_places g (slot_at g v i)) m ≤ m + 16
      go true = omega (arith, used_short g (slot_at g v i))
      go false = omega arith

  all_short : (m i k : ℕ) → fold (more_blocks g v u name) m i k ≤ m + 16 * k
  unfolding fold
  all_short m i zero = omega arith
  all_short m i (suc k) = omega (arith, more_short m i, all_short (more_blocks g v u name m i) (suc i) k)

  blocks_short : blocks_of g v u name ≤ 16 * slots g
  unfolding blocks_of
  blocks_short = omega (arith, all_short 0 0 (slots g))

-- ---- where every slot is good
module _ (g : Geometry) (v : List ℕ) (good : (i : ℕ) → i < slots g → good_slot g v i ≡ true) where
  -- an entry that is somebody's
  fields : (i : ℕ) → i < slots g → is_empty (slot_at g v i) ≡ false → Fields (slot_at g v i)
  fields i h used = fields_good (slot_at g v i) (good_facts g v i (good i h) used).fields

  module _ (u : ℕ) (name : List ℕ) (user : u ≤ 15) where
    -- a file's size is at most 65,536
    end_short : (i : ℕ) → i < slots g → of_file u name (slot_at g v i) ≡ true → entry_end (slot_at g v i) ≤ 65536
    unfolding of_file entry_end
    end_short i h of =
        let e = slot_at g v i in
        let is : byte e 0 ≡ u = eqb-true (byte e 0) u (and_left (eqb (byte e 0) u) (same (name_of e) name) of) in
        let f = fields i h (ne_eqb (byte e 0) 229 (λ z. absurd (omega arith))) in
        omega (arith, f.ex, f.s2)

    larger_short : (m i : ℕ) → i < slots g → m ≤ 65536 → larger g v u name m i ≤ 65536
    unfolding larger
    larger_short m i h l = go (of_file u name (slot_at g v i)) refl
      where
        go : (t : Bool) → of_file u name (slot_at g v i) ≡ t → cond t (max m (entry_end (slot_at g v i))) m ≤ 65536
        go true e = omega (arith, l, end_short i h e)
        go false e = l

    sizes_short : (m i k : ℕ) → i + k ≤ slots g → m ≤ 65536 → fold (larger g v u name) m i k ≤ 65536
    unfolding fold
    sizes_short m i zero h l = l
    sizes_short m i (suc k) h l = sizes_short (larger g v u name m i) (suc i) k (omega arith) (larger_short m i (omega arith) l)

    size_short : size_of g v u name ≤ 65536
    unfolding size_of
    size_short = sizes_short 0 0 (slots g) (omega arith) (omega arith)

  -- a line has at most 26 bytes
  module _ (few : slots g ≤ 32) where
    line_short : (i : ℕ) → i < slots g → is_empty (slot_at g v i) ≡ false → length (line g v (slot_at g v i)) ≤ 26
    unfolding line
    line_short i h used =
        let e = slot_at g v i in
        let f = fields i h used in
        let user = two_digits (byte e 0) (omega (arith, f.user)) in
        let size = five_digits (size_of g v (byte e 0) (name_of e)) (omega (arith, size_short (byte e 0) (name_of e) f.user)) in
        let blocks = three_digits (blocks_of g v (byte e 0) (name_of e)) (omega (arith, blocks_short g v (byte e 0) (name_of e))) in
        simp length-append (omega (arith, user, size, blocks, name_short e))

    line_at_short : (i : ℕ) → i < slots g → length (line_at g v i) ≤ 26
    unfolding line_at is_listed
    line_at_short i h = go (is_listed g v (slot_at g v i) i) refl
      where
        go : (t : Bool) → is_listed g v (slot_at g v i) i ≡ t → length (cond t (line g v (slot_at g v i)) []) ≤ 26
        go true e = line_short i h (not-true (is_empty (slot_at g v i)) (and_left (not (is_empty (slot_at g v i))) _ e))
        go false e = omega arith

    pub lines_short : (i k : ℕ) → i + k ≤ slots g → length (lines_from g v i k) ≤ 26 * k
    unfolding lines_from
    lines_short i zero h = omega arith
    lines_short i (suc k) h =
        rw (length-append (line_at g v i) (lines_from g v (suc i) k)) (omega (arith, line_at_short i (omega arith), lines_short (suc i) k (omega arith)))
