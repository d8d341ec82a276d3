-- The state is asked first; then the three lengths.
use mathlib.Core.Bool.{true, not}
use lib.Dec.{eqb}
use Rattle.disk_geometry.specs.Geometry.{bytes}
use Rattle.filecalls.specs.Tests.{closed_state}
use Rattle.call_answers.proofs.Ladder.{ladder_pass, ladder_three}
use Rattle.call_answers.specs.Refusal.{first_met, test, is_none}
use Rattle.call_answers.specs.declared.Refusal.TheVariants.{VolumeLength, FcbLength, BufferLength}
use mathlib.Core.List.{List, [], ◌∷◌}
use Rattle.filecalls.proofs.StateLaws.{is_open_lem}
use Rattle.filecalls.specs.CodeLadder.{lent_tests}
use borrow.Author.Tests.{not-false}
use mathlib.Core.Path.{◌≡◌, refl, sym, ◌∙◌, ap}
use Prim.Native.Nat.{ℕ}
use Rattle.filecalls.specs.CodeFront.{joined}
use Rattle.filecalls.proofs.Front.lent_why.Goals as goal

pub returns-then-not-is_open : goal.returns-then-not-is_open
unfolding lent_tests first_met
returns-then-not-is_open c = λ (held : List ℕ). rw (← c.is_open.ensures held, c.if-not-is_open.true)

pub bytes-requires : goal.bytes-requires
bytes-requires c = (is_open_lem _ (sym (c.is_open.ensures []) ∙ not-false c.is_open.result (ap not c.if-not-is_open.false))).law

pub returns : goal.returns
unfolding lent_tests first_met
returns c = λ (held : List ℕ).
    let a = c.args in
    let v = not (eqb a.volume (bytes (joined a.self held).geometry)) in
    let f = not (eqb a.fcb 36) in
    let b = not (eqb a.buffer 128) in
    let h : is_none (first_met (closed_state (joined a.self held) ∷ [])) ≡ true = rw (← c.is_open.ensures held, c.if-not-is_open.false) in
    c.first_of-2.ensures
    ∙ rw (c.first_of.ensures, c.refuse-a.ensures, c.refuse-b.ensures, c.refuse-c.ensures, c.bytes.ensures)
    (ladder_three VolumeLength FcbLength BufferLength v f b refl)
    ∙ sym (ladder_pass (closed_state (joined a.self held) ∷ []) (test VolumeLength v ∷ test FcbLength f ∷ test BufferLength b ∷ []) h)
