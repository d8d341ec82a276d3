-- Facts of single entries and records that the laws of a write's neighbours use.
use mathlib.Core.Path.{◌≡◌, sym, ◌∙◌}
use mathlib.Core.Bool.{Bool, true, false, cond}
use mathlib.Core.List.{List}
use Prim.Native.Nat.{ℕ, ◌+◌, ◌/◌, ◌%◌, ◌≤◌, ◌<◌, min, max}
use native.Mathlib.Decide.{ℕ_discrete, dec_lt}
use native.Mathlib.Omega.{arith}
use lib.Dec.{ltb, eqb}
use lib.ListN.{length, set}
use lib.Seq.{get_or-set_same, get_or-set_other}
use borrow.Author.Tests.{eqb-true, ne_eqb}
use Rattle.lists.specs.Bytes.{byte}
use Rattle.lists.proofs.BoolLaws.{and_left}
use Rattle.disk_geometry.specs.declared.Geometry.{Geometry}
use Rattle.disk_geometry.specs.Geometry.{lawful, records, group_of, place_of}
use Rattle.disk_volume.specs.Name.{name_of, same}
use Rattle.disk_volume.specs.Entry.{Entry, is_empty, extent, count_of, of_file}
use Rattle.disk_volume.proofs.EntryLaws.{count_above, count_own}
use Rattle.disk_geometry.proofs.GeometryLaws.{record_number}
use Rattle.call_entry.specs.Grown.{grown}
use Rattle.call_entry.proofs.GrowLaws.{grown_own, grown_earlier, grown_full, grown_other}

-- an entry of a user 0..15 is not an empty slot
pub file_used : (u : ℕ) (name : List ℕ) (e : Entry) → u ≤ 15 → of_file u name e ≡ true → is_empty e ≡ false
unfolding of_file
file_used u name e l h =
    let q = eqb-true (byte e 0) u (and_left (eqb (byte e 0) u) (same (name_of e) name) h) in
    ne_eqb (byte e 0) 229 (omega arith)

-- ---- counts
count_le : (e : Entry) (x : ℕ) → count_of e x ≤ 128
unfolding count_of
count_le e x = go (ltb x (extent e)) (ltb (extent e) x)
  where
    go : (s t : Bool) → cond s 128 (cond t 0 (min (byte e 15) 128)) ≤ 128
    go true t = omega arith
    go false true = omega arith
    go false false = omega arith

-- growing takes no record away
pub count_grows : (e : Entry) (n x : ℕ) → length e ≡ 32 → count_of e x ≤ count_of (grown e n) x
count_grows e n x l = go (dec_lt (extent e) (n / 128)) (dec_lt x (n / 128)) (ℕ_discrete x (n / 128)) (ℕ_discrete (extent e) (n / 128))
  where
    go : Dec (extent e < n / 128) → Dec (x < n / 128) → Dec (x ≡ n / 128) → Dec (extent e ≡ n / 128) → count_of e x ≤ count_of (grown e n) x
    go (yes h) (yes k) a b = rw (grown_full e n l h x k) (count_le e x)
    go (yes h) (no k) a b = rw (count_above e x (omega arith)) (omega arith)
    go (no h) k (no a) b = rw (grown_other e n l (omega arith) x a) (omega arith)
    go (no h) k (yes a) (no b) = rw (grown_earlier e n (omega (arith, b))) (omega arith)
    go (no h) k (yes a) (yes b) =
        let rc = get_or-set_same e 15 (max (byte e 15) (n % 128 + 1)) 0 (omega arith) in
        let s2 = get_or-set_other e 15 14 (max (byte e 15) (n % 128 + 1)) 0 (omega arith) in
        let ex = get_or-set_other e 15 12 (max (byte e 15) (n % 128 + 1)) 0 (omega arith) in
        let own : x ≡ extent (set e 15 (max (byte e 15) (n % 128 + 1))) = omega arith in
        rw (grown_own e n b, count_own (set e 15 (max (byte e 15) (n % 128 + 1))) x own, rc, count_own e x (a ∙ sym b)) (omega arith)

-- ---- a record is told by its group, its place and its number in the block
pub same_record : (g : Geometry) → lawful g ≡ true → (m n : ℕ) → group_of g (m / 128) ≡ group_of g (n / 128) → place_of g m ≡ place_of g n
    → m % records g ≡ n % records g → m ≡ n
same_record g good m n x y z = record_number g good m ∙ rw (x, y, z) (sym (record_number g good n))
