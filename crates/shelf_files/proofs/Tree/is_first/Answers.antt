-- What is asked along the way is asked of all lower slots; a first entry is then put where its way ended.
use mathlib.Core.Path.{◌≡◌, sym, ap, ◌∙◌}
use mathlib.Core.Bool.{true, false, not}
use Prim.Native.Nat.{◌<◌}
use native.Mathlib.Omega.{arith}
use Rattle.lists.specs.Bytes.{part}
use Rattle.disk_geometry.proofs.GeometryLaws.{bounds}
use Rattle.disk_volume.specs.Name.{name_at}
use Rattle.disk_volume.specs.Directory.{slot_at}
use Rattle.files.specs.Files.{is_listed}
use Rattle.shelf_files.specs.CodeTree.{entry_key, Ended}
use Rattle.shelf_files.proofs.TreeLaws.{holds_still, last_low, last_open, holds_linked}
use Rattle.shelf_files.proofs.WalkLaws.{first_is}
use Rattle.shelf_files.proofs.Tree.is_first.Goals as goal

pub returns-in_default : goal.returns-in_default
unfolding name_at part
returns-in_default c =
    let a = c.args in
    let seen = first_is a.g a.volume.now a.i a.e.now c.requires.i_bound.1.1 c.requires.i_bound.0 c.requires.e_value ∙ ap not c.in_default.ensures in
    let other : is_listed a.g a.volume.now (slot_at a.g a.volume.now a.i) a.i ≡ false = rw (← c.requires.i_bound.1.1) seen in
    record { value = sym seen; tree = holds_still a.g a.volume.now a.i other c.requires.tree }

pub link-requires : goal.link-requires
unfolding name_at part
link-requires c =
    let a = c.args in
    let own : c.key_of-key.result ≡ entry_key (slot_at a.g a.volume.now a.i) = rw (← c.requires.i_bound.1.1) c.key_of-key.ensures.0 in
    let listed : is_listed a.g a.volume.now (slot_at a.g a.volume.now a.i) a.i ≡ true = rw (← c.requires.i_bound.1.1) (first_is a.g a.volume.now a.i a.e.now c.requires.i_bound.1.1 c.requires.i_bound.0 c.requires.e_value ∙ ap not c.in-Some.ensures.0) in
    let ended : Ended a.g a.volume.now a.i (entry_key (slot_at a.g a.volume.now a.i)) c.in-Some.end.last c.in-Some.end.bit = rw own at c.in-Some.ensures.1 in
    let few : c.args.i < 2048 = omega (arith, (bounds _ c.requires.volume.0).slots_high, c.requires.i_bound.0) in
    let end = c.in-Some.end in (
      few,
      (
        last_low a.g a.volume.now a.i few listed end.last end.bit ended,
        last_open a.g a.volume.now a.i few listed end.last end.bit ended c.requires.tree.go_on,
      ),
    )

pub offset_bounds-self-i : goal.offset_bounds-self-i
offset_bounds-self-i c = omega (arith, (bounds _ c.requires.volume.0).slots_high, c.requires.i_bound.0)

pub bounds-self-i : goal.bounds-self-i
bounds-self-i c = omega (arith, (bounds _ c.requires.volume.0).slots_high, c.requires.i_bound.0)

pub returns : goal.returns
unfolding name_at part
returns c =
    let a = c.args in
    let own : c.key_of-key.result ≡ entry_key (slot_at a.g a.volume.now a.i) = rw (← c.requires.i_bound.1.1) c.key_of-key.ensures.0 in
    let listed : is_listed a.g a.volume.now (slot_at a.g a.volume.now a.i) a.i ≡ true = rw (← c.requires.i_bound.1.1) (first_is a.g a.volume.now a.i a.e.now c.requires.i_bound.1.1 c.requires.i_bound.0 c.requires.e_value ∙ ap not c.in-Some.ensures.0) in
    let ended : Ended a.g a.volume.now a.i (entry_key (slot_at a.g a.volume.now a.i)) c.in-Some.end.last c.in-Some.end.bit = rw own at c.in-Some.ensures.1 in
    let few : c.args.i < 2048 = omega (arith, (bounds _ c.requires.volume.0).slots_high, c.requires.i_bound.0) in
    let end = c.in-Some.end in
    record {
      value = rw c.requires.i_bound.1.1 (sym listed);
      tree = rw (c.link.ensures, own) (holds_linked a.g a.volume.now a.i few listed end.last end.bit ended c.requires.tree);
    }
