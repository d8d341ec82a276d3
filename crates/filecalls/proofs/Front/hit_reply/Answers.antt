-- A hit is kept and shown; none is 255, and nothing changes.
use Prim.Native.Nat.{ℕ, ◌<◌, ◌≤◌}
use mathlib.Core.List.{List}
use native.Mathlib.Omega.{arith}
use Rattle.disk_geometry.specs.Geometry.{slots}
use Rattle.filecalls.specs.Search.{hit}
use Rattle.filecalls.proofs.SearchLaws.{hits, misses}
use Rattle.filecalls.specs.CodeFront.{joined}
use Rattle.filecalls.proofs.Front.hit_reply.Goals as goal

pub returns-then-slot-slots : goal.returns-then-slot-slots
returns-then-slot-slots c = λ (held v fcb b after : List ℕ) (from : ℕ) i e.
    let a = c.args in
    let h : a.slot < slots a.self.geometry = omega (arith, c.if-slot-slots.true, c.slots.ensures.0) in
    hits (joined a.self held) v fcb b a.search (hit a.self.geometry v a.search from) i h e c.kept_at-front.ensures (c.done.ensures held)

pub returns : goal.returns
returns c = λ (held v fcb b after : List ℕ) (from : ℕ) i e.
    let a = c.args in
    let h : slots a.self.geometry ≤ a.slot = omega (arith, c.if-slot-slots.false, c.slots.ensures.0) in
    misses (joined a.self held) v fcb b a.search (hit a.self.geometry v a.search from) i h e (c.refused.ensures held)
