-- The first group stops the ladder where it refuses; else the last test decides.
use Rattle.filecalls.proofs.OutcomeLaws.{refuses}
use Rattle.filecalls.proofs.LentLaws.{NamedLent, named_passed}
use Rattle.filecalls.specs.Tests.{beyond}
use Rattle.filecalls.specs.CodeLadder.{named_tests, random_lent}
use Rattle.call_answers.proofs.Ladder.{ladder_stop, ladder_pass, ladder_one}
use Rattle.call_answers.specs.Refusal.{test}
use Rattle.call_answers.specs.declared.Refusal.TheVariants.{Beyond}
use Rattle.lists.specs.Bytes.{byte}
use lib.Dec.{eqb}
use native.Mathlib.Omega.{arith}
use mathlib.Core.List.{List, [], ◌∷◌}
use mathlib.Core.Bool.{false, not}
use mathlib.Core.Path.{refl, sym, ◌∙◌, ap}
use Prim.Native.Nat.{ℕ}
use Rattle.filecalls.specs.CodeFront.{joined}
use Rattle.filecalls.proofs.Front.random_why.Goals as goal

pub returns-then-not-is_none : goal.returns-then-not-is_none
unfolding random_lent
returns-then-not-is_none c = λ (held : List ℕ).
    let a = c.args in
    let xs = named_tests (joined a.self held) a.volume.now a.fcb.now a.buffer false in
    c.named_why-why.ensures held
    ∙ sym (ladder_stop xs (beyond (not (eqb (byte a.fcb.now 35) 0)) ∷ []) (refuses xs (c.named_why-why.ensures held) c.is_none.ensures (ap not c.if-not-is_none.true)))

pub bounds-fcb-35 : goal.bounds-fcb-35
bounds-fcb-35 c =
    let passed : (held : List ℕ) → NamedLent (joined c.args.self held) c.args.volume.now c.args.fcb.now c.args.buffer false = λ (held : List ℕ). named_passed _ _ _ _ false (c.named_why-why.ensures held) c.is_none.ensures (ap not c.if-not-is_none.false) in
    omega (arith, (passed []).lent.fcb)

pub returns : goal.returns
unfolding random_lent
returns c =
    let passed : (held : List ℕ) → NamedLent (joined c.args.self held) c.args.volume.now c.args.fcb.now c.args.buffer false = λ (held : List ℕ). named_passed _ _ _ _ false (c.named_why-why.ensures held) c.is_none.ensures (ap not c.if-not-is_none.false) in
    λ (held : List ℕ).
    let a = c.args in
    let m = not (eqb (byte a.fcb.now 35) 0) in
    c.refuse.ensures ∙ ladder_one Beyond m refl
    ∙ sym (ladder_pass (named_tests (joined a.self held) a.volume.now a.fcb.now a.buffer false) (test Beyond m ∷ []) (passed held).none)
