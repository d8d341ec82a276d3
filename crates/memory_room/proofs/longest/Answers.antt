-- The longest run begins at a candidate.
use Rattle.std.specs.Iterator.{Drains}
use Rattle.std.specs.Fn.{Called}
use Rattle.std.specs.List.{FoldsTo}
use Rattle.std.proofs.lemmas.Iterator.{YieldsList, YieldsList-from_slice, YieldsList-from_map}
use Rattle.std.proofs.lemmas.Iterator.Consumers.{YieldsList-from_chain}
use Rattle.std.proofs.lemmas.Fn.{fold_over}
use denote.Param.Members.{Mut}
use Rattle.memory_room.specs.CodeCandidates.{room_below}
use Rattle.memory_room.proofs.CandidateLaws.{Largest, largest_start, largest_next, longest_folded}
use Rattle.memory_spans.specs.Span.{paragraphs, end}
use Prim.Native.Nat.{◌<◌, max}
use mathlib.Core.List.{List, [], ◌∷◌, ◌++◌}
use mathlib.Core.Path.{◌≡◌}
use Rattle.std.proofs.Common.{rules, tests, Option}
use Rattle.memory_room.proofs.longest.Goals as goal

fold_keeps : {S A B C F : Type 0} {steps : S → Option A → S → Type 0} {v : A → B} {s : S} {all : List B} {f : F} (g : Mut F (C × (A × Unit {0})) C)
    (J : List B → C → Type 0) (init r : C)
    → ((xs : List A) × (q : F) × Drains steps s xs × FoldsTo {P = F × C} (λ a x b. Called g a.0 (a.1, (x, tt)) b.1 b.0) (f, init) xs (q, r))
    → YieldsList steps v s all
    → J [] init
    → ((ys : List B) (a : C) (x : A) (b : C) (q : F) → J ys a → Called g f (a, (x, tt)) b q → J (ys ++ (v x ∷ [])) b × (q ≡ f))
    → J all r
fold_keeps {steps = steps} {v = v} {s = s} {all = all} {f = f} g J init r ran e start step = fold_over steps v g J f step s all init r e.runs start ran

pub returns : goal.returns
returns c =
    let a = c.args in
    longest_folded a.pieces.now a.regions.now c.fold.result
    (fold_keeps _ (Largest a.pieces.now a.regions.now) 0 c.fold.result c.fold.ensures.ran
    (YieldsList-from_chain
    (YieldsList-from_map _ (λ x. x.start) (YieldsList-from_slice a.pieces.now (cc)) (cc) (λ x r q k. search (rules, tests)))
    (YieldsList-from_map _ (λ x. end x) (YieldsList-from_slice a.regions.now (cc)) (cc) (λ x r q k. search (rules, tests)))
    (cc)
    (cc))
    (largest_start a.pieces.now a.regions.now)
    (λ l so s more q g k.
    let e : more ≡ max so (room_below a.pieces.now a.regions.now s) = search (rules, tests) in
    let b : more < paragraphs = search (rules, tests) in
    (largest_next a.pieces.now a.regions.now l so s more g e b, search (rules, tests))))
