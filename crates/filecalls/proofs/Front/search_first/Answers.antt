-- The tests stop the ladder, or pass: then the search from slot 0 decides.
use mathlib.Core.Bool.{not}
use mathlib.Core.Path.{ap}
use mathlib.Core.List.{List, [], ◌∷◌}
use native.Mathlib.Omega.{arith}
use lib.Dec.{leb}
use Rattle.disk_geometry.specs.Geometry.{slots}
use Rattle.call_answers.specs.declared.Refusal.TheVariants.{NoMatch}
use Rattle.call_answers.specs.Refusal.{test}
use Rattle.filecalls.specs.CodeLadder.{lent_tests, first_lent}
use Rattle.filecalls.specs.Search.{search_first_act, first_tests, new_search, hit, hit_act}
use Rattle.filecalls.proofs.SearchLaws.{First, first_passed}
use Rattle.filecalls.proofs.OutcomeLaws.{passes, refused_at}
use Prim.Native.Nat.{ℕ}
use borrow.Author.Rules.{rules}
use Rattle.filecalls.specs.CodeFront.{joined}
use Rattle.filecalls.proofs.Front.search_first.Goals as goal

pub returns-then-not-is_none : goal.returns-then-not-is_none
unfolding search_first_act first_tests first_lent lent_tests
returns-then-not-is_none c = λ (held : List ℕ).
    let a = c.args in
    let d = joined a.self held in
    let v = a.volume.now in
    let f = a.fcb.now in
    let b = a.buffer.now in
    refused_at d v f b (first_lent d v f b) _ _ (c.first_why-why.ensures held) c.is_none.ensures (ap not c.if-not-is_none.true) (c.refused.ensures held)

pub bounds-fcb-0 : goal.bounds-fcb-0
bounds-fcb-0 c =
    let passed : (held : List ℕ) → First (joined c.args.self held) c.args.volume.now c.args.fcb.now c.args.buffer.now = λ (held : List ℕ). first_passed _ _ _ _ (c.first_why-why.ensures held) c.is_none.ensures (ap not c.if-not-is_none.false) in
    omega (arith, (passed []).lent.fcb)

pub pattern_of-requires : goal.pattern_of-requires
pattern_of-requires c =
    let passed : (held : List ℕ) → First (joined c.args.self held) c.args.volume.now c.args.fcb.now c.args.buffer.now = λ (held : List ℕ). first_passed _ _ _ _ (c.first_why-why.ensures held) c.is_none.ensures (ap not c.if-not-is_none.false) in
    (passed []).lent.fcb

pub hit-slot-requires : goal.hit-slot-requires
hit-slot-requires c =
    let passed : (held : List ℕ) → First (joined c.args.self held) c.args.volume.now c.args.fcb.now c.args.buffer.now = λ (held : List ℕ). first_passed _ _ _ _ (c.first_why-why.ensures held) c.is_none.ensures (ap not c.if-not-is_none.false) in
    let l = (passed []).lent in
    (l.state.law, (l.volume, (l.buffer, search rules)))

pub hit_reply-requires : goal.hit_reply-requires
hit_reply-requires c =
    let passed : (held : List ℕ) → First (joined c.args.self held) c.args.volume.now c.args.fcb.now c.args.buffer.now = λ (held : List ℕ). first_passed _ _ _ _ (c.first_why-why.ensures held) c.is_none.ensures (ap not c.if-not-is_none.false) in
    (passed []).lent.state.law

pub returns : goal.returns
unfolding search_first_act first_tests first_lent lent_tests new_search
returns c =
    let passed : (held : List ℕ) → First (joined c.args.self held) c.args.volume.now c.args.fcb.now c.args.buffer.now = λ (held : List ℕ). first_passed _ _ _ _ (c.first_why-why.ensures held) c.is_none.ensures (ap not c.if-not-is_none.false) in
    λ (held : List ℕ).
    let a = c.args in
    let d = joined a.self held in
    let v = a.volume.now in
    let f = a.fcb.now in
    let b = a.buffer.now in
    let q = new_search d f in
    let i = hit d.geometry v q 0 in
    rw (passes (first_lent d v f b) (test NoMatch (leb (slots d.geometry) i) ∷ []) (hit_act d v f q i) (passed held).none)
    (rw (c.kind_asked.ensures, c.pattern_of.ensures) at (c.hit_reply.ensures held v f b _ 0 c.hit-slot.ensures.value c.hit-slot.ensures.buffer_after))
