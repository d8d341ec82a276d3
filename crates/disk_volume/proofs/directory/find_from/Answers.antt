-- On a straight volume the directory is one run of entries; else it is looked through by its records.
use mathlib.Core.Path.{◌≡◌, sym, subst}
use Prim.Native.Nat.{◌≤◌}
use native.Mathlib.Omega.{arith}
use borrow.Author.Rules.{rules}
use Rattle.disk_geometry.specs.declared.Geometry.{Geometry}
use Rattle.disk_geometry.specs.Geometry.{slots}
use Rattle.disk_volume.specs.Directory.{find_from}
use Rattle.disk_volume.specs.Name.{strip}
use Rattle.disk_volume.proofs.RunLaws.{the_floppy, of_floppy, directory_inside, run_whole, found_straight}
use Rattle.disk_volume.proofs.directory.find_from.Goals as goal

pub find_by_record-requires : goal.find_by_record-requires
find_by_record-requires c =
    let e = the_floppy c.args.g c.requires.volume.0 c.if-g-ne-STRAIGHT.true in
    record {
      volume = of_floppy c.args.g e c.requires.volume.0 c.args.volume.now c.requires.volume.1;
      from_bound = (subst (λ (x : Geometry). c.args.from ≤ slots x) e c.requires.from_bound.0, c.requires.from_bound.1);
    }

pub returns-then-g-ne-STRAIGHT : goal.returns-then-g-ne-STRAIGHT
returns-then-g-ne-STRAIGHT c =
    let a = c.args in
    let e = the_floppy a.g c.requires.volume.0 c.if-g-ne-STRAIGHT.true in
    subst
    (λ (x : Geometry). (c.find_by_record.result ≡ find_from x a.volume.now a.user (strip a.name.now) a.wanted a.from) × (c.find_by_record.result ≤ slots x))
    (sym e) c.find_by_record.ensures

pub slice_bounds-find_in-end : goal.slice_bounds-find_in-end
slice_bounds-find_in-end c =
    let a = c.args in
    omega (arith, c.slots-end.ensures.0, directory_inside a.g c.requires.volume.0 a.volume.now c.requires.volume.1 a.user (strip a.name.now) a.wanted c.if-g-ne-STRAIGHT.false)

pub find_in-requires : goal.find_in-requires
find_in-requires c =
    let a = c.args in
    record {
      g_value = (c.requires.volume.0, run_whole a.g c.requires.volume.0 a.volume.now c.requires.volume.1 a.user (strip a.name.now) a.wanted c.if-g-ne-STRAIGHT.false _ c.slots-end.ensures.0);
      from_bound = (search rules, search rules);
    }

pub returns : goal.returns
returns c =
    let a = c.args in
    found_straight a.g c.requires.volume.0 a.volume.now c.requires.volume.1 a.user (strip a.name.now) a.wanted c.if-g-ne-STRAIGHT.false _ _ _ c.slots-end.ensures.0 c.find_in.ensures
