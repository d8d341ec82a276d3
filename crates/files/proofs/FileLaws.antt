-- An entry of a file has the file's user and its name, and every entry is one of its own file.
use mathlib.Core.Path.{◌≡◌, refl}
use mathlib.Core.Bool.{true}
use mathlib.Core.List.{List}
use Prim.Native.Nat.{ℕ}
use borrow.Author.Tests.{eqb-true, eq-eqb}
use lib.Dec.{eqb}
use Rattle.lists.specs.Bytes.{byte}
use Rattle.lists.proofs.BoolLaws.{and_parts}
use Rattle.disk_volume.specs.Fields.{USER}
use Rattle.disk_volume.specs.Name.{name_of, same}
use Rattle.disk_volume.specs.Entry.{Entry, of_file}
use Rattle.disk_volume.proofs.NameLaws.{same_true, same_refl}

pub record OfFile (u : ℕ) (name : List ℕ) (e : Entry) : Type 0 where
  pub user : byte e USER ≡ u
  pub called : name_of e ≡ name

pub of_file_lem : (u : ℕ) (name : List ℕ) (e : Entry) → of_file u name e ≡ true → OfFile u name e
unfolding of_file
of_file_lem u name e h =
    let p = and_parts (eqb (byte e USER) u) (same (name_of e) name) h in
    record { user = eqb-true (byte e USER) u p.0; called = same_true (name_of e) name p.1 }

pub own_file : (e : Entry) → of_file (byte e USER) (name_of e) e ≡ true
unfolding of_file
own_file e = rw (eq-eqb (byte e USER) (byte e USER) refl, same_refl (name_of e))
