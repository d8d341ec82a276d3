-- The spans in the bytes, one by one, and the eight places that they fill.
use mathlib.Core.Path.{◌≡◌, refl, sym, ap, ◌∙◌}
use mathlib.Core.Bool.{Bool, true, false}
use mathlib.Core.List.{List, [], ◌∷◌, ◌++◌, append-nil}
use Prim.Native.Nat.{ℕ, zero, suc, ◌+◌, ◌*◌, ◌≤◌, ◌<◌}
use native.Mathlib.Omega.{arith}
use borrow.Author.Tests.{eqb-true}
use lib.Dec.{eqb}
use lib.ListN.{length, get_or, drop, length-drop, drop_of_length-le}
use lib.Seq.{take_at, drop_at}
use Rattle.lists.specs.Bytes.{put}
use Rattle.joined.proofs.JoinedLaws.{joined_length}
use Rattle.numbers.specs.Numbers.{bytes_of}
use Rattle.memory_spans.specs.declared.Span.{Span}
use Rattle.memory_spans.specs.Span.{places, none}
use Rattle.std.proofs.lemmas.List.FromFn.{fill_by_all}
use Rattle.memory_bytes.specs.TableBytes.{table_bytes, PIECES, REGIONS, span_bytes, span_at, spans_at, used_in, span_laid, spans_laid}

pub spans_length : (b : List ℕ) (a k : ℕ) → length (spans_at b a k) ≡ k
unfolding spans_at
spans_length b a zero = refl
spans_length b a (suc k) = ap suc (spans_length b (a + span_bytes) k)

pub spans_place : (b : List ℕ) (a k j : ℕ) → j < k → get_or (spans_at b a k) j none ≡ span_at b (a + span_bytes * j)
unfolding spans_at
spans_place b a zero j h = absurd (omega arith)
spans_place b a (suc k) zero h = let z : a + span_bytes * 0 ≡ a = omega arith in rw z
spans_place b a (suc k) (suc j) h =
    let z : a + span_bytes * suc j ≡ a + span_bytes + span_bytes * j = omega arith in
    rw z (spans_place b (a + span_bytes) k j (omega arith))

-- eight places read one by one
pub spans_read : (b : List ℕ) (a : ℕ) (out : List Span) → length out ≡ places → ((k : ℕ) → k < places → get_or out k none ≡ span_at b (a + span_bytes * k)) → out ≡ spans_at b a places
spans_read b a out e h =
    fill_by_all (λ k. span_at b (a + span_bytes * k)) out places none e h
    ∙ sym (fill_by_all (λ k. span_at b (a + span_bytes * k)) (spans_at b a places) places none (spans_length b a places) (λ k x. spans_place b a places k x))

pub span_length : (s : Span) → length (span_laid s) ≡ span_bytes
unfolding span_laid bytes_of
span_length s = refl

-- the two numbers, the pieces and the regions fill the 66 bytes
pub table_laid_lem : (out : List ℕ) (u g : ℕ) (p r : List ℕ) → length out ≡ table_bytes → length p ≡ span_bytes * places → length r ≡ span_bytes * places
    → put (put (put out 0 PIECES (u ∷ g ∷ [])) PIECES (span_bytes * places) p) REGIONS (span_bytes * places) r ≡ (u ∷ g ∷ []) ++ (p ++ r)
unfolding put
table_laid_lem [] u g p r h e f = absurd (omega arith)
table_laid_lem (a ∷ []) u g p r h e f = absurd (omega arith)
table_laid_lem (a ∷ b ∷ l) u g p r h e f =
    let n : length (drop 32 l) ≤ 32 = rw length-drop (omega arith) in
    rw (take_at p (drop 32 l) 32 e, drop_at p (drop 32 l) 32 e, drop_of_length-le (drop 32 l) n, append-nil)

pub spans_laid_length : (l : List Span) → length (spans_laid l) ≡ span_bytes * places
unfolding spans_laid
spans_laid_length l = joined_length (λ i. span_laid (get_or l i none)) span_bytes (λ i. span_length (get_or l i none)) 0 places

-- bytes that name no more pieces than there are places are 66
pub used_few : (b : List ℕ) → used_in b ≤ places → length b ≡ table_bytes
unfolding used_in
used_few b h = go (eqb (length b) table_bytes) refl
  where
    go : (t : Bool) → eqb (length b) table_bytes ≡ t → length b ≡ table_bytes
    go true e = eqb-true (length b) table_bytes e
    go false e = let z : used_in b ≡ places + 1 = rw e in absurd (omega (arith, z))

pub span_is : (l : List Span) (i : ℕ) {s : Span} {x : List ℕ} → s ≡ get_or l i none → x ≡ span_laid s → x ≡ span_laid (get_or l (0 + i) none)
span_is l i u z = let q : 0 + i ≡ i = omega arith in rw (q, z, u)
