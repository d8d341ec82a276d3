-- What is lent is asked first; then drive code and name.
use lib.Dec.{ltb}
use mathlib.Core.Bool.{not}
use Rattle.lists.specs.Bytes.{byte, part}
use Rattle.disk_volume.specs.Name.{good_name, name_at}
use Rattle.call_answers.proofs.Ladder.{ladder_two, ladder_stop, ladder_pass}
use Rattle.call_answers.specs.declared.Refusal.TheVariants.{DriveCode, Name}
use Rattle.filecalls.proofs.OutcomeLaws.{refuses, clears}
use Rattle.filecalls.proofs.StateLaws.{lent_clear}
use Rattle.filecalls.specs.CodeReady.{Lent}
use Rattle.filecalls.specs.Tests.{drive_code, bad_name}
use Rattle.filecalls.specs.CodeLadder.{lent_tests, named_tests}
use lib.ListN.{length}
use native.Mathlib.Omega.{arith}
use mathlib.Core.List.{List, [], ◌∷◌}
use mathlib.Core.Path.{refl, sym, ◌∙◌, ap}
use Prim.Native.Nat.{ℕ}
use Rattle.filecalls.specs.CodeFront.{joined}
use Rattle.filecalls.proofs.Front.named_why.Goals as goal

pub returns-then-not-is_none : goal.returns-then-not-is_none
unfolding named_tests lent_tests
returns-then-not-is_none c = λ (held : List ℕ).
    let a = c.args in
    let xs = lent_tests (joined a.self held) (length a.volume.now) (length a.fcb.now) a.buffer in
    c.lent_why-why.ensures held ∙ sym (ladder_stop xs (drive_code a.fcb.now ∷ bad_name a.pattern a.fcb.now 1 ∷ []) (refuses xs (c.lent_why-why.ensures held) c.is_none.ensures (ap not c.if-not-is_none.true)))

pub bounds-fcb-0 : goal.bounds-fcb-0
bounds-fcb-0 c =
    let clear : (held : List ℕ) → Lent (joined c.args.self held) (length c.args.volume.now) (length c.args.fcb.now) c.args.buffer = (λ (held : List ℕ).
    let a = c.args in
    lent_clear (joined a.self held) (length a.volume.now) (length a.fcb.now) a.buffer
    (clears (lent_tests (joined a.self held) (length a.volume.now) (length a.fcb.now) a.buffer) (c.lent_why-why.ensures held) c.is_none.ensures (ap not c.if-not-is_none.false))) in
    omega (arith, (clear []).fcb)

pub slice_bounds-good_name-end : goal.slice_bounds-good_name-end
slice_bounds-good_name-end c =
    let clear : (held : List ℕ) → Lent (joined c.args.self held) (length c.args.volume.now) (length c.args.fcb.now) c.args.buffer = (λ (held : List ℕ).
    let a = c.args in
    lent_clear (joined a.self held) (length a.volume.now) (length a.fcb.now) a.buffer
    (clears (lent_tests (joined a.self held) (length a.volume.now) (length a.fcb.now) a.buffer) (c.lent_why-why.ensures held) c.is_none.ensures (ap not c.if-not-is_none.false))) in
    omega (arith, (clear []).fcb)

pub returns : goal.returns
unfolding named_tests lent_tests name_at part
returns c = λ (held : List ℕ).
    let a = c.args in
    let xs = lent_tests (joined a.self held) (length a.volume.now) (length a.fcb.now) a.buffer in
    c.first_of.ensures ∙ rw (c.refuse-a.ensures, c.refuse-b.ensures, c.good_name.ensures) (ladder_two DriveCode Name (ltb 1 (byte a.fcb.now 0)) (not (good_name a.pattern (name_at a.fcb.now 1))) refl)
    ∙ sym (ladder_pass xs (drive_code a.fcb.now ∷ bad_name a.pattern a.fcb.now 1 ∷ []) (clears xs (c.lent_why-why.ensures held) c.is_none.ensures (ap not c.if-not-is_none.false)))
