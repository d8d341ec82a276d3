-- Two entries with "the same user, name and group".
use mathlib.Core.Path.{◌≡◌, sym}
use mathlib.Core.Bool.{true, ◌&&◌}
use borrow.Author.Tests.{eqb-true, eq-eqb}
use lib.Dec.{eqb}
use Rattle.lists.proofs.BoolLaws.{and_parts}
use Rattle.lists.specs.Bytes.{byte}
use Rattle.disk_geometry.specs.declared.Geometry.{Geometry}
use Rattle.disk_geometry.specs.Geometry.{group_of}
use Rattle.disk_volume.specs.Name.{name_of, same}
use Rattle.disk_volume.specs.Entry.{Entry, extent, of_file, of_group}
pub use Rattle.disk_rules.specs.GoodSlot.{twin}
use Rattle.disk_volume.proofs.NameLaws.{same_refl, same_true}

module _ (g : Geometry) where
  pub record Twins (e f : Entry) : Type 0 where
    pub user : byte e 0 ≡ byte f 0
    pub name : name_of e ≡ name_of f
    pub group : group_of g (extent e) ≡ group_of g (extent f)

  pub twin_true : (e f : Entry) → twin g e f ≡ true → Twins e f
  unfolding of_group of_file
  twin_true e f h =
      let user = eqb (byte f 0) (byte e 0) in
      let name = same (name_of f) (name_of e) in
      let group = eqb (group_of g (extent f)) (group_of g (extent e)) in
      let p = and_parts (user && name) group h in
      let q = and_parts user name p.0 in
      record {
        user = sym (eqb-true (byte f 0) (byte e 0) q.0);
        name = sym (same_true (name_of f) (name_of e) q.1);
        group = sym (eqb-true (group_of g (extent f)) (group_of g (extent e)) p.1);
      }

  pub twins : (e f : Entry) → Twins e f → twin g e f ≡ true
  unfolding of_group of_file
  twins e f t =
      rw (eq-eqb (byte f 0) (byte e 0) (sym t.user), t.name, same_refl (name_of f), eq-eqb (group_of g (extent f)) (group_of g (extent e)) (sym t.group))

  pub twin_sym : (e f : Entry) → twin g e f ≡ true → twin g f e ≡ true
  twin_sym e f h =
      let t = twin_true e f h in
      twins f e (record { user = sym t.user; name = sym t.name; group = sym t.group })
