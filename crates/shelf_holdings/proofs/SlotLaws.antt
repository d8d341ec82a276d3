-- What one slot adds: nothing if it is empty; otherwise an entry, and its records. A test as a number.
use mathlib.Core.Path.{◌≡◌, refl}
use mathlib.Core.Bool.{Bool, true, false, cond}
use mathlib.Core.List.{List}
use Prim.Native.Nat.{ℕ, ◌+◌, ◌≤◌}
use native.Mathlib.Omega.{arith}
use Rattle.std.specs.Int.{from_bool}
use Rattle.disk_geometry.specs.declared.Geometry.{Geometry}
use Rattle.disk_volume.specs.Entry.{is_empty}
use Rattle.disk_volume.specs.Directory.{slot_at}
use Rattle.files.specs.Files.{is_listed}
use Rattle.shelf_holdings.specs.Holdings.{is_entry, is_file}
use Rattle.shelf_holdings.specs.CodeEntries.{entry_records, slot_records}

pub not_listed : (g : Geometry) (v : List ℕ) (i : ℕ) → is_empty (slot_at g v i) ≡ true → is_file g v i ≡ false
unfolding is_listed
not_listed g v i e = rw e

module _ (g : Geometry) (v : List ℕ) (i n : ℕ) where
  module _ (e : is_empty (slot_at g v i) ≡ true) where
    pub no_file : n ≡ n + cond (is_file g v i) 1 0
    no_file = rw (not_listed g v i e) (omega arith)

    pub no_entry_lem : n ≡ n + cond (is_entry g v i) 1 0
    no_entry_lem = rw e (omega arith)

    pub no_records : n ≡ n + slot_records g v i
    unfolding slot_records
    no_records = rw e (omega arith)

  module _ (used : is_empty (slot_at g v i) ≡ false) where
    pub one_entry : n + 1 ≡ n + cond (is_entry g v i) 1 0
    one_entry = rw used

    pub its_records : entry_records g (slot_at g v i) ≡ slot_records g v i
    unfolding slot_records
    its_records = rw used

pub one_if : (t : Bool) → (from_bool t ≡ cond t 1 0) × (from_bool t ≤ 1)
one_if true = (refl, omega arith)
one_if false = (refl, omega arith)
