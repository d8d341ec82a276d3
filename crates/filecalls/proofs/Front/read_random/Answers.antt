-- The tests of what is lent stop the ladder, or pass: then the read decides.
use mathlib.Core.Bool.{not}
use mathlib.Core.Path.{refl, ap}
use Prim.Native.Nat.{ℕ, ◌%◌}
use lib.ListN.{length}
use Rattle.disk_volume.specs.Name.{name_of}
use Rattle.call_fcb.specs.Fcb.{random}
use Rattle.call_read.specs.Read.{read_tests}
use Rattle.call_answers.specs.declared.Refusal.TheVariants.{NoGroup}
use Rattle.filecalls.specs.Read.{random_tests, read_random_act, read_done}
use Rattle.filecalls.specs.CodeLadder.{named_tests, random_lent}
use Rattle.filecalls.proofs.LentLaws.{Random, random_passed}
use Rattle.filecalls.proofs.OutcomeLaws.{passes, refused_at}
use mathlib.Core.List.{List, []}
use Rattle.filecalls.specs.CodeFront.{joined}
use Rattle.filecalls.proofs.Front.read_random.Goals as goal

pub returns-then-not-is_none : goal.returns-then-not-is_none
unfolding read_random_act random_tests random_lent named_tests
returns-then-not-is_none c = λ (held : List ℕ).
    let a = c.args in
    let d = joined a.self held in
    let v = a.volume.now in
    let f = a.fcb.now in
    let b = a.buffer.now in
    refused_at d v f b (random_lent d v f (length b)) _ _
    (c.random_why-why.ensures held) c.is_none.ensures (ap not c.if-not-is_none.true) (c.refused.ensures held)

pub random_of-n-requires : goal.random_of-n-requires
random_of-n-requires c =
    let passed : (held : List ℕ) → Random (joined c.args.self held) c.args.volume.now c.args.fcb.now (length c.args.buffer.now) = λ (held : List ℕ). random_passed _ _ _ _ (c.random_why-why.ensures held) c.is_none.ensures (ap not c.if-not-is_none.false) in
    (passed []).lent.fcb

pub read_at-requires : goal.read_at-requires
read_at-requires c =
    let passed : (held : List ℕ) → Random (joined c.args.self held) c.args.volume.now c.args.fcb.now (length c.args.buffer.now) = λ (held : List ℕ). random_passed _ _ _ _ (c.random_why-why.ensures held) c.is_none.ensures (ap not c.if-not-is_none.false) in
    let p = passed [] in record { lent = p.lent; n_lt_file_records = (c.random_of-n.ensures.1, refl) }

pub returns : goal.returns
unfolding read_random_act random_tests random_lent named_tests
returns c =
    let passed : (held : List ℕ) → Random (joined c.args.self held) c.args.volume.now c.args.fcb.now (length c.args.buffer.now) = λ (held : List ℕ). random_passed _ _ _ _ (c.random_why-why.ensures held) c.is_none.ensures (ap not c.if-not-is_none.false) in
    λ (held : List ℕ).
    let a = c.args in
    let d = joined a.self held in
    let v = a.volume.now in
    let f = a.fcb.now in
    let b = a.buffer.now in
    rw (passes (random_lent d v f (length b)) (read_tests d.geometry v d.user (name_of f) (random f) NoGroup) (read_done d v f (random f) (random f % 128)) (passed held).none, ← c.random_of-n.ensures.0)
    (c.read_at.ensures held)
