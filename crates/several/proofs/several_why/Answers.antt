-- The state is asked first; then the lengths, with the number of records before the buffer's.
use mathlib.Core.Path.{◌≡◌, refl, sym, ◌∙◌, ap}
use mathlib.Core.Bool.{true, not, ◌&&◌}
use mathlib.Core.List.{List, [], ◌∷◌}
use Prim.Native.Nat.{ℕ, ◌*◌}
use lib.Dec.{leb, eqb}
use lib.ListN.{length}
use borrow.Author.Tests.{not-false}
use Rattle.disk_geometry.specs.Geometry.{bytes}
use Rattle.call_answers.specs.declared.Refusal.TheVariants.{VolumeLength, FcbLength, BadCount, BufferLength}
use Rattle.call_answers.specs.Refusal.{first_met, test, is_none}
use Rattle.call_answers.proofs.Ladder.{ladder_pass, ladder_four}
use Rattle.filecalls.specs.Tests.{closed_state}
use Rattle.filecalls.proofs.StateLaws.{is_open_lem}
use Rattle.several.specs.Several.{several_tests}
use Rattle.filecalls.specs.CodeFront.{joined}
use Rattle.several.proofs.several_why.Goals as goal

pub returns-then-not-is_open : goal.returns-then-not-is_open
unfolding several_tests first_met
returns-then-not-is_open c = λ (held : List ℕ). rw (← c.is_open.ensures held, c.if-not-is_open.true)

pub bytes-requires : goal.bytes-requires
bytes-requires c = (is_open_lem _ (sym (c.is_open.ensures []) ∙ not-false c.is_open.result (ap not c.if-not-is_open.false))).law

pub returns : goal.returns
unfolding several_tests first_met
returns c = λ (held : List ℕ).
    let a = c.args in
    let v = not (eqb (length a.volume.now) (bytes (joined a.front held).geometry)) in
    let f = not (eqb (length a.fcb.now) 36) in
    let n = not (leb 1 a.k && leb a.k 16) in
    let b = not (eqb (length a.buffer.now) (128 * a.k)) in
    let h : is_none (first_met (closed_state (joined a.front held) ∷ [])) ≡ true = rw (← c.is_open.ensures held, c.if-not-is_open.false) in
    c.first_of-3.ensures
    ∙ rw (c.first_of-2.ensures, c.first_of.ensures, c.refuse-a.ensures, c.refuse-b.ensures, c.refuse-c.ensures, c.refuse-d.ensures, c.bytes.ensures, c.from-n.ensures)
    (ladder_four VolumeLength FcbLength BadCount BufferLength v f n b refl)
    ∙ sym (ladder_pass (closed_state (joined a.front held) ∷ []) (test VolumeLength v ∷ test FcbLength f ∷ test BadCount n ∷ test BufferLength b ∷ []) h)
