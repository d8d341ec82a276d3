-- No slot that was passed has an entry of the file; the walk goes up, so it ends.
use mathlib.Core.Path.{◌≡◌, sym, ap, ◌∙◌}
use mathlib.Core.List.{List}
use Prim.Native.Nat.{ℕ, ◌-◌, ◌/◌, ◌%◌, ◌<◌}
use native.Mathlib.Omega.{arith}
use Rattle.lists.specs.Bytes.{byte}
use Rattle.disk_geometry.proofs.GeometryLaws.{bounds}
use Rattle.disk_geometry.specs.declared.Geometry.{Geometry}
use Rattle.disk_volume.specs.Name.{strip}
use Rattle.shelf_files.specs.CodeTree.{way, next_in}
use Rattle.shelf_files.proofs.WalkLaws.{Walk, walk_start, walk_low, walk_listed, walk_rises, walk_below, walk_next, walk_hit, walk_end, walk_ended, behind_less}
use Rattle.shelf_files.proofs.Tree.follow.Goals as goal

in_directory : {g : Geometry} {v : List ℕ} {u : ℕ} {name : List ℕ} {i s rest last bit : ℕ} → Walk g v u name i s rest last bit → 0 < s → s - 1 < i
in_directory w some = omega (arith, walk_low _ _ _ _ _ _ _ _ _ w some)

pub loop-s-init : goal.loop-s-init
loop-s-init c =
    let a = c.args in
    walk_start a.g a.volume.now a.user (strip a.name.now) a.i _ _ 0
    (c.from-s.ensures ∙ c.requires.tree.begin.begins a.key ∙ ap (λ (x : ℕ). way a.g a.volume.now a.i x 0) c.requires.key_value) (ap (λ (x : ℕ). x / 65536) c.requires.key_value)

pub offset_bounds-self-s : goal.offset_bounds-self-s
offset_bounds-self-s c =
    let low : c.loop-s.s - 1 < c.args.i = in_directory c.loop-s.invariant (omega arith) in
    omega (arith, low, (bounds _ c.requires.volume.0).slots_high, c.requires.i_bound.0)

pub bounds-self-s : goal.bounds-self-s
bounds-self-s c =
    let low : c.loop-s.s - 1 < c.args.i = in_directory c.loop-s.invariant (omega arith) in
    omega (arith, low, (bounds _ c.requires.volume.0).slots_high, c.requires.i_bound.0)

pub is_here-requires-clause-j_bound : goal.is_here-requires-clause-j_bound
is_here-requires-clause-j_bound c =
    let low : c.loop-s.s - 1 < c.args.i = in_directory c.loop-s.invariant (omega arith) in
    let a = c.args in
    let l = c.loop-s in
    let some : 0 < l.s = omega arith in
    let first = walk_listed a.g a.volume.now a.user (strip a.name.now) a.i l.s l.rest l.last l.bit l.invariant some in
    (omega (arith, low, c.requires.i_bound.0), c.requires.tree.go_on.keyed (l.s - 1) low first)

pub returns-then-is_here : goal.returns-then-is_here
returns-then-is_here c =
    let low : c.loop-s.s - 1 < c.args.i = in_directory c.loop-s.invariant (omega arith) in
    let a = c.args in
    let l = c.loop-s in
    let some : 0 < l.s = omega arith in
    walk_hit a.g a.volume.now a.user (strip a.name.now) a.i l.s some (omega (arith, low)) (sym c.is_here.ensures ∙ c.if-is_here.true)

pub loop-s-smaller : goal.loop-s-smaller
loop-s-smaller c =
    let low : c.loop-s.s - 1 < c.args.i = in_directory c.loop-s.invariant (omega arith) in
    let told : (let l = c.loop-s in c.next_in-s.result ≡ next_in (l.rest % 2) (byte c.args.self.now.nodes (l.s - 1))) = c.next_in-s.ensures in
    let a = c.args in
    let l = c.loop-s in
    let some : 0 < l.s = omega arith in
    behind_less a.i l.s c.next_in-s.result some (omega (arith, low))
    (walk_rises a.g a.volume.now a.user (strip a.name.now) a.i l.s l.rest l.last l.bit l.invariant some a.self.now.nodes c.requires.tree.go_on c.next_in-s.result told)
    (walk_below a.g a.volume.now a.user (strip a.name.now) a.i l.s l.rest l.last l.bit l.invariant some a.self.now.nodes c.requires.tree.go_on c.next_in-s.result told)

pub loop-s-preserved : goal.loop-s-preserved
loop-s-preserved c =
    let told : (let l = c.loop-s in c.next_in-s.result ≡ next_in (l.rest % 2) (byte c.args.self.now.nodes (l.s - 1))) = c.next_in-s.ensures in
    let a = c.args in
    let l = c.loop-s in
    let some : 0 < l.s = omega arith in
    walk_next a.g a.volume.now a.user (strip a.name.now) a.i l.s l.rest l.last l.bit l.invariant some a.self.now.nodes c.requires.tree.go_on c.next_in-s.result told
    (sym c.is_here.ensures ∙ c.if-is_here.false)

pub returns : goal.returns
returns c =
    let a = c.args in
    let l = c.loop-s in
    let z : l.s ≡ 0 = omega arith in
    let w : Walk a.g a.volume.now a.user (strip a.name.now) a.i 0 l.rest l.last l.bit = rw z at l.invariant in (
      walk_end a.g a.volume.now a.user (strip a.name.now) a.i l.rest l.last l.bit c.requires.i_bound.0 c.requires.i_bound.1.1 w,
      rw c.requires.key_value (walk_ended a.g a.volume.now a.user (strip a.name.now) a.i l.rest l.last l.bit w),
    )
