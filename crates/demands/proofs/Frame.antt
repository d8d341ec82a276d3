-- A file none of whose entries and none of whose blocks a change touched has the same records present with the same bytes.
use mathlib.Core.Path.{◌≡◌, refl, sym, ap, ◌∙◌}
use mathlib.Core.Logic.{◌≢◌}
use mathlib.Core.Bool.{Bool, true, false, not, ◌&&◌, false≢true}
use mathlib.Core.List.{List}
use Prim.Native.Nat.{ℕ, ◌/◌, ◌%◌, ◌<◌}
use native.Mathlib.Omega.{arith}
use lib.Dec.{ltb, eqb}
use borrow.Author.Tests.{ltb-true, not-true, eqb-false}
use Rattle.lists.proofs.BoolLaws.{and_left, and_right, and_parts}
use Rattle.lists.proofs.BoundedLaws.{low_ext}
use Rattle.disk_geometry.specs.declared.Geometry.{Geometry}
use Rattle.disk_volume.specs.declared.Wanted.TheVariants.{Group}
use Rattle.disk_geometry.specs.Geometry.{lawful, slots, group_of, place_of, places}
use Rattle.disk_volume.specs.Entry.{Entry, block_in, count_of, of_file, of_group}
use Rattle.disk_volume.specs.Directory.{slot_at, find_slot, slot_fits}
use Rattle.disk_volume.specs.Record.{record_slot, record_block, record_at, counted, present}
use Rattle.disk_volume.proofs.FindLaws.{found_fits}
use Rattle.disk_geometry.proofs.GeometryLaws.{place_lt}
use Rattle.call_read.specs.Read.{read_block, read_bytes}

-- an entry is as it was, or it was none of the file's and is none
pub data Touch (u : ℕ) (name : List ℕ) (e e' : Entry) : Type 0 where
  unchanged : e' ≡ e → Touch u name e e'
  foreign : of_file u name e ≡ false → of_file u name e' ≡ false → Touch u name e e'

pub record Apart (g : Geometry) (u : ℕ) (name v v' : List ℕ) : Type 0 where
  pub entries : (j : ℕ) → j < slots g → Touch u name (slot_at g v j) (slot_at g v' j)
  pub bytes : (j p n : ℕ) → j < slots g → p < places g → of_file u name (slot_at g v j) ≡ true → block_in g (slot_at g v j) p ≢ 0
      → record_at g v' (block_in g (slot_at g v j) p) n ≡ record_at g v (block_in g (slot_at g v j) p) n

module _ (g : Geometry) (law : lawful g ≡ true) (u : ℕ) (name v v' : List ℕ) (apart : Apart g u name v v') where
  slot_same : (n : ℕ) → record_slot g v' u name n ≡ record_slot g v u name n
  unfolding record_slot find_slot of_group
  slot_same n =
      low_ext (slot_fits g v' u name (Group (group_of g (n / 128)))) (slot_fits g v u name (Group (group_of g (n / 128)))) 0 (slots g)
      (λ j a b. go j (apart.entries j (omega arith)))
    where
      go : (j : ℕ) → Touch u name (slot_at g v j) (slot_at g v' j)
          → slot_fits g v' u name (Group (group_of g (n / 128))) j ≡ slot_fits g v u name (Group (group_of g (n / 128))) j
      go j (unchanged s) = ap (of_group g u name (group_of g (n / 128))) s
      go j (foreign p q) = rw (p, q)

  of_file_lem : (n : ℕ) → record_slot g v u name n < slots g → of_file u name (slot_at g v (record_slot g v u name n)) ≡ true
  unfolding record_slot of_group
  of_file_lem n h = and_left _ _ (found_fits g v u name (Group (group_of g (n / 128))) h)

  entry_same : (n : ℕ) → record_slot g v u name n < slots g → slot_at g v' (record_slot g v u name n) ≡ slot_at g v (record_slot g v u name n)
  entry_same n h = go (apart.entries (record_slot g v u name n) h)
    where
      go : Touch u name (slot_at g v (record_slot g v u name n)) (slot_at g v' (record_slot g v u name n)) → slot_at g v' (record_slot g v u name n) ≡ slot_at g v (record_slot g v u name n)
      go (unchanged s) = s
      go (foreign p q) = absurd (false≢true (sym p ∙ of_file_lem n h))

  pub present_same : (n : ℕ) → present g v' u name n ≡ present g v u name n
  unfolding present
  present_same n = rw (slot_same n) (go (ltb (record_slot g v u name n) (slots g)) refl)
    where
      go : (t : Bool) → ltb (record_slot g v u name n) (slots g) ≡ t
          → (ltb (record_slot g v u name n) (slots g) && counted g (slot_at g v' (record_slot g v u name n)) n)
          ≡ (ltb (record_slot g v u name n) (slots g) && counted g (slot_at g v (record_slot g v u name n)) n)
      go false e = rw e
      go true e = rw (e, entry_same n (ltb-true (record_slot g v u name n) (slots g) e))

  pub bytes_same : (n : ℕ) → present g v u name n ≡ true → read_bytes g v' u name n ≡ read_bytes g v u name n
  unfolding present read_bytes read_block counted
  bytes_same n e =
      let s = record_slot g v u name n in
      let p = and_parts (ltb s (slots g)) (counted g (slot_at g v s) n) e in
      let h : s < slots g = ltb-true s (slots g) p.0 in
      let q = and_right (ltb (n % 128) (count_of (slot_at g v s) (n / 128))) (not (eqb (record_block g (slot_at g v s) n) 0)) p.1 in
      let nz : record_block g (slot_at g v s) n ≢ 0 = eqb-false (record_block g (slot_at g v s) n) 0 (not-true (eqb (record_block g (slot_at g v s) n) 0) q) in
      rw (slot_same n, entry_same n h) (apart.bytes s (place_of g n) n h (place_lt g law n) (of_file_lem n h) nz)
