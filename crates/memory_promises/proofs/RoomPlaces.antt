-- Room in the reader's words is the test that the calls make: a piece by its place in the list.
use mathlib.Core.Path.{◌≡◌, refl, sym, ◌∙◌}
use mathlib.Core.Bool.{Bool, true, false, cond, true≢false, false≢true}
use mathlib.Core.List.{List, [], ◌∷◌}
use Prim.Native.Nat.{ℕ, zero, suc, ◌+◌, ◌-◌, ◌<◌}
use native.Mathlib.Omega.{arith}
use borrow.Author.Tests.{leb-true}
use lib.Dec.{leb}
use lib.ListN.{length, get_or}
use Rattle.memory_spans.specs.declared.Span.{Span}
use Rattle.memory_spans.specs.Span.{none, covers, overlap, lies_in, any_of, all_of}
use Rattle.memory_spans.specs.Rules.{apart, in_one_of}
use Rattle.memory_spans.specs.Room.{free_in, run, room, has_room}
use Rattle.memory_spans.proofs.SpanLaws.{covers_facts, common_overlap, lies_facts}
use Rattle.memory_spans.proofs.MemberLaws.{in_at, any_false, most_hit}
use Rattle.memory_spans.proofs.SearchMore.{run_passes}
use Rattle.memory_spans.proofs.RoomLaws.{room_facts, roomy_has, free_in_test, free_in_covers, free_in_clear}
use Rattle.memory_promises.specs.Promises.{InPiece, Room}

-- one of them passes: at which place
record At (p : Span → Bool) (l : List Span) : Type 0 where
  pub place : ℕ
  pub below : place < length l
  pub passes : p (get_or l place none) ≡ true

any_place : (p : Span → Bool) (l : List Span) → any_of p l ≡ true → At p l
unfolding any_of
any_place p [] e = absurd (false≢true e)
any_place p (x ∷ l) e = go (p x) refl e (any_place p l)
  where
    go : (t : Bool) → p x ≡ t → cond t true (any_of p l) ≡ true → (any_of p l ≡ true → At p l) → At p (x ∷ l)
    go true q f ih = record { place = 0; below = omega arith; passes = q }
    go false q f ih = let a = ih f in record { place = suc a.place; below = omega (arith, a.below); passes = a.passes }

-- ---- room
pub has_room_lem : (pieces regions : List Span) (k s : ℕ) → has_room pieces regions k s ≡ true → Room pieces regions k s
unfolding room
has_room_lem pieces regions k s e =
    let f = room_facts pieces regions k s e in
    let h = most_hit (λ piece. run (free_in piece regions) s piece.length) pieces k f.0 f.1 in
    let a = any_place (λ piece. leb k (run (free_in piece regions) s piece.length)) pieces (h.among.any (λ piece. leb k (run (free_in piece regions) s piece.length)) h.passes) in
    let x = get_or pieces a.place none in
    let b = leb-true k (run (free_in (get_or pieces a.place none) regions) s (get_or pieces a.place none).length) a.passes in
    record {
      some = f.0;
      place = a.place;
      below = a.below;
      clear = λ p u v.
          let c = run_passes (free_in (get_or pieces a.place none) regions) s (get_or pieces a.place none).length p u (omega (arith, b)) in
          (free_in_covers (get_or pieces a.place none) regions p c, free_in_clear (get_or pieces a.place none) regions p c);
    }

pub room_has : (pieces regions : List Span) (k s : ℕ) → Room pieces regions k s → has_room pieces regions k s ≡ true
room_has pieces regions k s r =
    let low = covers_facts (get_or pieces r.place none) s (r.clear s (omega arith) (omega (arith, r.some))).0 in
    let high = covers_facts (get_or pieces r.place none) (s + k - 1) (r.clear (s + k - 1) (omega (arith, r.some)) (omega (arith, r.some))).0 in
    roomy_has pieces regions k s
    (record {
      piece = get_or pieces r.place none;
      among = in_at pieces r.place r.below;
      enough = r.some;
      fits = omega (arith, low.from, high.below, r.some);
      clear = λ p u v. free_in_test (get_or pieces r.place none) regions p (r.clear p u v).0 (r.clear p u v).1;
    })

pub no_room : (pieces regions : List Span) (k s : ℕ) → (Room pieces regions k s → ⊥) → has_room pieces regions k s ≡ false
no_room pieces regions k s h = go (has_room pieces regions k s) refl
  where
    go : (t : Bool) → has_room pieces regions k s ≡ t → has_room pieces regions k s ≡ false
    go false e = e
    go true e = absurd (h (has_room_lem pieces regions k s e))

pub room_none : (pieces regions : List Span) (k s : ℕ) → has_room pieces regions k s ≡ false → Room pieces regions k s → ⊥
room_none pieces regions k s e r = true≢false (sym (room_has pieces regions k s r) ∙ e)

-- ---- the rules, place by place
pub apart_once : (l : List Span) → apart l ≡ true → (i j p : ℕ) → i < j → j < length l → covers (get_or l i none) p ≡ true → covers (get_or l j none) p ≡ true → ⊥
unfolding apart
apart_once [] e i j p a b c d = omega arith
apart_once (x ∷ l) e i j p a b c d = go (any_of (overlap x) l) refl e i j a b c d (apart_once l)
  where
    go : (t : Bool)
        → any_of (overlap x) l ≡ t
        → cond t false (apart l) ≡ true
        → (i j : ℕ)
        → i < j
        → j < suc (length l)
        → covers (get_or (x ∷ l) i none) p ≡ true
        → covers (get_or (x ∷ l) j none) p ≡ true
        → (apart l ≡ true → (i j p : ℕ) → i < j → j < length l → covers (get_or l i none) p ≡ true → covers (get_or l j none) p ≡ true → ⊥)
        → ⊥
    go true q f i j a b c d ih = false≢true f
    go false q f i zero a b c d ih = omega arith
    go false q f zero (suc j) a b c d ih =
        true≢false (sym (common_overlap x (get_or l j none) p c d) ∙ any_false (overlap x) l q (get_or l j none) (in_at l j (omega arith)))
    go false q f (suc i) (suc j) a b c d ih = ih f i j p (omega arith) (omega arith) c d

pub inside_at : (pieces l : List Span) → all_of (in_one_of pieces) l ≡ true → (i : ℕ) → i < length l → InPiece (get_or l i none) pieces
inside_at pieces l e i h =
    let a = any_place (lies_in (get_or l i none)) pieces ((in_at l i h).all (in_one_of pieces) e) in
    let f = lies_facts (get_or l i none) (get_or pieces a.place none) a.passes in
    record { place = a.place; below = a.below; from = f.from; to = f.to }
