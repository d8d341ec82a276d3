-- The tests stop the ladder, or pass; the last hit of an open search is a slot, so the search goes on behind it.
use mathlib.Core.Path.{◌≡◌, refl, sym, ap, ◌∙◌}
use mathlib.Core.Bool.{true, false, not, ◌||◌}
use mathlib.Core.List.{List, [], ◌∷◌}
use native.Mathlib.Omega.{arith}
use lib.Dec.{leb}
use Prim.Native.Nat.{ℕ, ◌+◌, ◌<◌}
use borrow.Author.Tests.{not-false}
use Rattle.disk_geometry.proofs.GeometryLaws.{bounds}
use Rattle.disk_geometry.specs.Geometry.{slots}
use Rattle.call_answers.specs.declared.Refusal.TheVariants.{NoMatch}
use Rattle.call_answers.specs.Refusal.{test}
use Rattle.filecalls.specs.Search.{search_next_act, next_tests, is_kept, hit, hit_act}
use Rattle.filecalls.proofs.SearchLaws.{Next, next_passed, next_lent, no_block, kept_below}
use Rattle.filecalls.proofs.OutcomeLaws.{passes, refused_at, stops_then, says_no}
use Rattle.filecalls.specs.CodeFront.{joined}
use Rattle.filecalls.proofs.Front.search_next.Goals as goal

pub returns-then-not-is_none : goal.returns-then-not-is_none
unfolding search_next_act next_tests
returns-then-not-is_none c = λ (held : List ℕ).
    let a = c.args in
    let d = joined a.self held in
    let v = a.volume.now in
    let b = a.buffer.now in
    refused_at d v [] b (next_lent d v b) _ _ (c.lent_why-why.ensures held ∙ no_block d v b) c.is_none.ensures (ap not c.if-not-is_none.true) (c.refused.ensures held)

pub returns-then-not-is_open_search : goal.returns-then-not-is_open_search
unfolding search_next_act next_tests
returns-then-not-is_open_search c =
    let passed : (held : List ℕ) → Next (joined c.args.self held) c.args.volume.now c.args.buffer.now = λ (held : List ℕ). next_passed _ _ _ (c.lent_why-why.ensures held) c.is_none.ensures (ap not c.if-not-is_none.false) in
    λ (held : List ℕ).
    let a = c.args in
    let d = joined a.self held in
    let v = a.volume.now in
    let b = a.buffer.now in
    let m = not (is_kept d.search.kind) || leb (slots d.geometry) (hit d.geometry v d.search (d.search.last + 1)) in
    let e : not (is_kept d.search.kind) ≡ true = ap not (sym c.is_open_search.ensures) ∙ (ap not c.if-not-is_open_search.true) in
    let t : m ≡ true = rw e in
    says_no d v [] b (stops_then (next_lent d v b) NoMatch m [] _ (passed held).none t refl) (c.refused-then-not-is_open_search.ensures held)

pub overflow_add-search : goal.overflow_add-search
overflow_add-search c =
    let passed : (held : List ℕ) → Next (joined c.args.self held) c.args.volume.now c.args.buffer.now = λ (held : List ℕ). next_passed _ _ _ (c.lent_why-why.ensures held) c.is_none.ensures (ap not c.if-not-is_none.false) in
    let below : c.args.self.search.last < slots c.args.self.geometry = (let q = c.args.self.search in
    kept_below q.kind q.user q.last q.pattern _ (sym c.is_open_search.ensures ∙ not-false c.is_open_search.result (ap not c.if-not-is_open_search.false)) (passed []).lent.state.kept) in
    omega (arith, below, (bounds _ (passed []).lent.state.law).slots_high)

pub hit-slot-requires : goal.hit-slot-requires
hit-slot-requires c =
    let passed : (held : List ℕ) → Next (joined c.args.self held) c.args.volume.now c.args.buffer.now = λ (held : List ℕ). next_passed _ _ _ (c.lent_why-why.ensures held) c.is_none.ensures (ap not c.if-not-is_none.false) in
    let below : c.args.self.search.last < slots c.args.self.geometry = (let q = c.args.self.search in
    kept_below q.kind q.user q.last q.pattern _ (sym c.is_open_search.ensures ∙ not-false c.is_open_search.result (ap not c.if-not-is_open_search.false)) (passed []).lent.state.kept) in
    let l = (passed []).lent in
    (l.state.law, (l.volume, (l.buffer, omega (arith, below))))

pub hit_reply-requires : goal.hit_reply-requires
hit_reply-requires c =
    let passed : (held : List ℕ) → Next (joined c.args.self held) c.args.volume.now c.args.buffer.now = λ (held : List ℕ). next_passed _ _ _ (c.lent_why-why.ensures held) c.is_none.ensures (ap not c.if-not-is_none.false) in
    (passed []).lent.state.law

pub returns : goal.returns
unfolding search_next_act next_tests
returns c =
    let passed : (held : List ℕ) → Next (joined c.args.self held) c.args.volume.now c.args.buffer.now = λ (held : List ℕ). next_passed _ _ _ (c.lent_why-why.ensures held) c.is_none.ensures (ap not c.if-not-is_none.false) in
    λ (held : List ℕ).
    let a = c.args in
    let d = joined a.self held in
    let v = a.volume.now in
    let b = a.buffer.now in
    let i = hit d.geometry v d.search (d.search.last + 1) in
    let e : not (is_kept d.search.kind) ≡ false = ap not (sym c.is_open_search.ensures) ∙ (ap not c.if-not-is_open_search.false) in
    rw (passes (next_lent d v b) (test NoMatch (not (is_kept d.search.kind) || leb (slots d.geometry) i) ∷ []) (hit_act d v [] d.search i) (passed held).none, e)
    (c.hit_reply.ensures held v [] b _ (d.search.last + 1) c.hit-slot.ensures.value c.hit-slot.ensures.buffer_after)
