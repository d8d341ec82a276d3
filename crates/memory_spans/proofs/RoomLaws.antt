-- Laws of room: the first granted paragraph, the room within a piece.
use mathlib.Core.Path.{◌≡◌, refl, ◌∙◌}
use mathlib.Core.Bool.{Bool, true, false, not, ◌&&◌, true≢false}
use mathlib.Core.List.{List, [], ◌∷◌}
use Prim.Native.Nat.{ℕ, ◌+◌, ◌-◌, ◌≤◌, ◌<◌, max}
use native.Mathlib.Omega.{arith}
use borrow.Author.Tests.{ltb-true, ltb-false, lt-ltb, leb-true, le-leb, eqb-false, ne_eqb, not-true}
use lib.Dec.{ltb, leb, eqb}
use Rattle.lists.specs.Bounded.{low_from}
use Rattle.lists.proofs.BoolLaws.{and_parts}
use Rattle.lists.proofs.BoundedLaws.{Low, low_le, low_hit, low_miss, low_no, low_is}
use Rattle.memory_spans.specs.declared.Span.{Span}
use Rattle.memory_spans.specs.Span.{end, covers, any_of}
use Rattle.memory_spans.specs.CodeMeeting.{Met}
use Rattle.memory_spans.specs.Room.{taken, free_in, run, room, has_room}
use Rattle.memory_spans.proofs.SpanLaws.{Covers, covers_facts, covers_test, covers_not}
use Rattle.memory_spans.proofs.MemberLaws.{In, most_hit}
use Rattle.memory_spans.proofs.SearchMore.{low_or, run_is, run_le, run_passes, run_more}

pub taken_next : (r : Span) (l : List Span) (start stop e : ℕ)
    → Met r start stop e
    → start ≤ e
    → e ≤ stop
    → low_from (taken (r ∷ l)) start (stop - start) ≡ low_from (taken l) start (e - start)
unfolding taken any_of
taken_next r l start stop e m a b = low_or (taken l) (covers r) (taken (r ∷ l)) start stop e (λ x. refl) a b m.clear m.hit

pub taken_none : (i k : ℕ) → low_from (taken []) i k ≡ i + k
unfolding taken any_of
taken_none i k = low_no (taken []) i k (λ m a b. refl)

pub free_in_test : (piece : Span) (regions : List Span) (p : ℕ) → covers piece p ≡ true → taken regions p ≡ false → free_in piece regions p ≡ true
unfolding free_in
free_in_test piece regions p a b = rw (a, b)

pub outside : (piece : Span) (regions : List Span) (p : ℕ) → covers piece p ≡ false → free_in piece regions p ≡ false
unfolding free_in
outside piece regions p a = rw a

pub within_taken : (piece : Span) (regions : List Span) (p : ℕ) → taken regions p ≡ true → free_in piece regions p ≡ false
unfolding free_in
within_taken piece regions p a = rw a (go (covers piece p))
  where
    go : (t : Bool) → (t && false) ≡ false
    go true = refl
    go false = refl

-- what a search from start to stop tells
pub record Stop (t : ℕ → Bool) (start stop j : ℕ) : Type 0 where
  pub from : start ≤ j
  pub to : j ≤ stop
  pub before : (m : ℕ) → start ≤ m → m < j → t m ≡ false
  pub hit : j < stop → t j ≡ true

pub low_stop : (t : ℕ → Bool) (start stop : ℕ) → start ≤ stop → Stop t start stop (low_from t start (stop - start))
low_stop t start stop h = go (ltb (low_from t start (stop - start)) stop) refl
  where
    le : low_from t start (stop - start) ≤ stop
    le = omega (arith, low_le t start (stop - start))

    go : (x : Bool) → ltb (low_from t start (stop - start)) stop ≡ x → Stop t start stop (low_from t start (stop - start))
    go true u =
        let b : low_from t start (stop - start) < stop = ltb-true (low_from t start (stop - start)) stop u in
        let l : Low t start (stop - start) (low_from t start (stop - start)) = low_hit t start (stop - start) (low_from t start (stop - start)) refl (omega arith) in
        record { from = l.from; to = le; before = l.first; hit = λ x. l.passes }
    go false u =
        let b : stop ≤ low_from t start (stop - start) = ltb-false (low_from t start (stop - start)) stop u in
        record { from = omega arith; to = le; before = λ m x y. low_miss t start (stop - start) (omega arith) m x (omega (arith, le)); hit = λ x. absurd (omega arith) }

-- the room within a piece ends at the first granted paragraph, or where the piece ends
within : (piece : Span) (regions : List Span) (start j : ℕ) → Covers piece start → Stop (taken regions) start (end piece) j → run (free_in piece regions) start piece.length ≡ j - start
within piece regions start j c s =
    run_is (free_in piece regions) start piece.length (j - start) (omega (arith, c.from, c.below, s.to))
    (λ m a b. free_in_test piece regions m (covers_test piece m (omega (arith, c.from)) (omega (arith, s.to, s.from))) (s.before m a (omega (arith, s.from))))
    (λ h. let z : start + (j - start) ≡ j = omega (arith, s.from) in rw z (at (ltb j (end piece)) refl))
  where
    at : (t : Bool) → ltb j (end piece) ≡ t → free_in piece regions j ≡ false
    at true u = within_taken piece regions j (s.hit (ltb-true j (end piece) u))
    at false u = outside piece regions j (covers_not piece j (λ a b. omega (arith, ltb-false j (end piece) u)))

pub room_within : (piece : Span) (regions : List Span) (start : ℕ)
    → covers piece start ≡ true
    → run (free_in piece regions) start piece.length ≡ low_from (taken regions) start (end piece - start) - start
room_within piece regions start e =
    let c = covers_facts piece start e in
    within piece regions start (low_from (taken regions) start (end piece - start)) c (low_stop (taken regions) start (end piece) (omega (arith, c.below)))

pub room_outside : (piece : Span) (regions : List Span) (start : ℕ) → covers piece start ≡ false → run (free_in piece regions) start piece.length ≡ 0
room_outside piece regions start e =
    run_is (free_in piece regions) start piece.length 0 (omega arith) (λ m a b. absurd (omega arith))
    (λ h. let z : start + 0 ≡ start = omega arith in rw z (outside piece regions start e))

-- ---- a region is met from start on, below stop
pub record Meets (region : Span) (start stop : ℕ) : Type 0 where
  pub own : region.start < end region
  pub behind : start < end region
  pub ahead : region.start < stop

pub meets_facts : (region : Span) (start stop : ℕ)
    → (ltb region.start (end region) && ltb start (end region) && ltb region.start stop) ≡ true
    → Meets region start stop
meets_facts region start stop e =
    let a = and_parts (ltb region.start (end region) && ltb start (end region)) (ltb region.start stop) e in
    let b = and_parts (ltb region.start (end region)) (ltb start (end region)) a.0 in
    record { own = ltb-true region.start (end region) b.0; behind = ltb-true start (end region) b.1; ahead = ltb-true region.start stop a.1 }

pub met_where : (region : Span) (start stop : ℕ) → Meets region start stop → Met region start stop (max region.start start)
met_where region start stop m =
    record {
      clear = λ p a b. covers_not region p (λ x y. omega arith);
      hit = λ x. covers_test region (max region.start start) (omega arith) (omega (arith, m.own, m.behind));
    }

pub met_never : (region : Span) (start stop : ℕ)
    → (ltb region.start (end region) && ltb start (end region) && ltb region.start stop) ≡ false
    → Met region start stop stop
met_never region start stop e =
    record { clear = λ p a b. covers_not region p (λ x y. true≢false (rw (lt-ltb region.start (end region) (omega arith), lt-ltb start (end region) (omega arith), lt-ltb region.start stop (omega arith)) at e)); hit = λ x. absurd (omega arith) }

pub free_in_covers : (piece : Span) (regions : List Span) (p : ℕ) → free_in piece regions p ≡ true → covers piece p ≡ true
unfolding free_in
free_in_covers piece regions p e = (and_parts (covers piece p) (not (taken regions p)) e).0

pub free_in_clear : (piece : Span) (regions : List Span) (p : ℕ) → free_in piece regions p ≡ true → taken regions p ≡ false
unfolding free_in
free_in_clear piece regions p e = not-true (taken regions p) (and_parts (covers piece p) (not (taken regions p)) e).1

-- the converse of low-stop
pub stop_low : (t : ℕ → Bool) (start stop j : ℕ) → Stop t start stop j → low_from t start (stop - start) ≡ j
stop_low t start stop j s = go (ltb j stop) refl
  where
    go : (x : Bool) → ltb j stop ≡ x → low_from t start (stop - start) ≡ j
    go true u =
        let h = ltb-true j stop u in
        low_is t start (stop - start) j (record { from = s.from; below = omega (arith, s.from); passes = s.hit h; first = s.before })
    go false u =
        let h = ltb-false j stop u in
        low_no t start (stop - start) (λ m a b. s.before m a (omega arith)) ∙ omega (arith, s.from, s.to)

-- ---- room for k paragraphs
pub room_facts : (pieces regions : List Span) (k s : ℕ) → has_room pieces regions k s ≡ true → (0 < k) × (k ≤ room pieces regions s)
unfolding has_room
room_facts pieces regions k s e =
    let a = and_parts (not (eqb k 0)) (leb k (room pieces regions s)) e in
    let b = eqb-false k 0 (not-true (eqb k 0) a.0) in
    (omega (arith, b), leb-true k (room pieces regions s) a.1)

pub room_test : (pieces regions : List Span) (k s : ℕ) → 0 < k → k ≤ room pieces regions s → has_room pieces regions k s ≡ true
unfolding has_room
room_test pieces regions k s a b = rw (ne_eqb k 0 (λ z. omega arith), le-leb k (room pieces regions s) b)

-- there is room: k paragraphs from s on lie in one piece and are free
pub record Roomy (pieces regions : List Span) (k s : ℕ) : Type 0 where
  pub piece : Span
  pub among : In piece pieces
  pub enough : 0 < k
  pub fits : k ≤ piece.length
  pub clear : (p : ℕ) → s ≤ p → p < s + k → free_in piece regions p ≡ true

pub has_roomy : (pieces regions : List Span) (k s : ℕ) → has_room pieces regions k s ≡ true → Roomy pieces regions k s
unfolding room
has_roomy pieces regions k s e =
    let f = room_facts pieces regions k s e in
    let h = most_hit (λ piece. run (free_in piece regions) s piece.length) pieces k f.0 f.1 in
    let a = leb-true k (run (free_in h.it regions) s h.it.length) h.passes in
    record {
      piece = h.it;
      among = h.among;
      enough = f.0;
      fits = omega (arith, a, run_le (free_in h.it regions) s h.it.length);
      clear = λ p x y. run_passes (free_in h.it regions) s h.it.length p x (omega (arith, a));
    }

pub roomy_has : (pieces regions : List Span) (k s : ℕ) → Roomy pieces regions k s → has_room pieces regions k s ≡ true
unfolding room
roomy_has pieces regions k s r =
    let a = run_more (free_in r.piece regions) s r.piece.length k r.fits r.clear in
    let b = r.among.most (λ piece. run (free_in piece regions) s piece.length) in
    room_test pieces regions k s r.enough (omega (arith, a, b))
