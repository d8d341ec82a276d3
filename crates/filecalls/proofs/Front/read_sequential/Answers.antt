-- The tests of what is lent stop the ladder, or pass and leave the position below 65,536: then the read decides.
use mathlib.Core.Bool.{not}
use mathlib.Core.Path.{refl, ap}
use native.Mathlib.Omega.{arith}
use Prim.Native.Nat.{ℕ, ◌+◌, ◌%◌}
use lib.ListN.{length}
use Rattle.disk_volume.specs.Name.{name_of}
use Rattle.call_fcb.specs.Fcb.{position}
use Rattle.call_read.specs.Read.{read_tests}
use Rattle.call_answers.specs.declared.Refusal.TheVariants.{Absent}
use Rattle.filecalls.specs.Read.{sequential_tests, read_sequential_act, read_done}
use Rattle.filecalls.specs.CodeLadder.{named_tests, sequential_lent}
use Rattle.filecalls.proofs.LentLaws.{Sequential, sequential_passed}
use Rattle.filecalls.proofs.OutcomeLaws.{passes, refused_at}
use mathlib.Core.List.{List, []}
use Rattle.filecalls.specs.CodeFront.{joined}
use Rattle.filecalls.proofs.Front.read_sequential.Goals as goal

pub returns-then-not-is_none : goal.returns-then-not-is_none
unfolding read_sequential_act sequential_tests sequential_lent named_tests
returns-then-not-is_none c = λ (held : List ℕ).
    let a = c.args in
    let d = joined a.self held in
    let v = a.volume.now in
    let f = a.fcb.now in
    let b = a.buffer.now in
    refused_at d v f b (sequential_lent d v f (length b)) _ _
    (c.sequential_why-why.ensures held) c.is_none.ensures (ap not c.if-not-is_none.true) (c.refused.ensures held)

pub position_of-n-requires : goal.position_of-n-requires
position_of-n-requires c =
    let passed : (held : List ℕ) → Sequential (joined c.args.self held) c.args.volume.now c.args.fcb.now (length c.args.buffer.now) = λ (held : List ℕ). sequential_passed _ _ _ _ (c.sequential_why-why.ensures held) c.is_none.ensures (ap not c.if-not-is_none.false) in
    (passed []).lent.fcb

pub read_at-requires : goal.read_at-requires
read_at-requires c =
    let passed : (held : List ℕ) → Sequential (joined c.args.self held) c.args.volume.now c.args.fcb.now (length c.args.buffer.now) = λ (held : List ℕ). sequential_passed _ _ _ _ (c.sequential_why-why.ensures held) c.is_none.ensures (ap not c.if-not-is_none.false) in
    let p = passed [] in record { lent = p.lent; n_lt_file_records = (omega (arith, p.low, c.position_of-n.ensures.0), refl) }

pub returns : goal.returns
unfolding read_sequential_act sequential_tests sequential_lent named_tests
returns c =
    let passed : (held : List ℕ) → Sequential (joined c.args.self held) c.args.volume.now c.args.fcb.now (length c.args.buffer.now) = λ (held : List ℕ). sequential_passed _ _ _ _ (c.sequential_why-why.ensures held) c.is_none.ensures (ap not c.if-not-is_none.false) in
    λ (held : List ℕ).
    let a = c.args in
    let d = joined a.self held in
    let v = a.volume.now in
    let f = a.fcb.now in
    let b = a.buffer.now in
    rw (passes (sequential_lent d v f (length b)) (read_tests d.geometry v d.user (name_of f) (position f) Absent) (read_done d v f (position f) (position f % 128 + 1)) (passed held).none, ← c.position_of-n.ensures.0)
    (c.read_at.ensures held)
