-- Laws of the region places: element by element, laid down part by part, and the loop that lays them down.
use mathlib.Core.Path.{◌≡◌, refl, sym, ap, ◌∙◌}
use mathlib.Core.List.{List, [], ◌∷◌, ◌++◌, append_assoc}
use Prim.Native.Nat.{ℕ, zero, suc, ◌+◌, ◌-◌, ◌≤◌, ◌<◌}
use native.Mathlib.Numerals.{add-one}
use native.Mathlib.Omega.{arith}
use lib.ListN.{length, get_or, take, drop, length-take, length-drop, length-append, get_or-eq_default}
use lib.Seq.{take-append_seam, drop-append_seam, drop-drop, take_all, get_or-take}
use Rattle.memory_spans.specs.declared.Span.{Span}
use Rattle.memory_spans.specs.Span.{none}
use Rattle.memory_regions.specs.Places.{padded, places_of}
use Rattle.memory_regions.specs.declared.Regions.{Regions}

pub padded_length : (n : ℕ) (l : List Span) → length (padded n l) ≡ n
unfolding padded
padded_length zero l = refl
padded_length (suc n) [] = ap suc (padded_length n [])
padded_length (suc n) (x ∷ l) = ap suc (padded_length n l)

padded_none : (n j : ℕ) → get_or (padded n []) j none ≡ none
unfolding padded
padded_none zero j = refl
padded_none (suc n) zero = refl
padded_none (suc n) (suc j) = padded_none n j

pub padded_at : (n : ℕ) (l : List Span) (j : ℕ) → j < n → get_or (padded n l) j none ≡ get_or l j none
unfolding padded
padded_at zero l j h = absurd (omega arith)
padded_at (suc n) [] j h = padded_none (suc n) j
padded_at (suc n) (x ∷ l) zero h = refl
padded_at (suc n) (x ∷ l) (suc j) h = padded_at n l j (omega arith)

-- the places in use are the regions again
pub padded_used : (n : ℕ) (l : List Span) → length l ≤ n → take (length l) (padded n l) ≡ l
unfolding padded
padded_used n [] h = refl
padded_used zero (x ∷ l) h = absurd (omega arith)
padded_used (suc n) (x ∷ l) h = ap (λ (k : List Span). x ∷ k) (padded_used n l (omega arith))

-- ---- an element of the first m
pub used_at : (arr : List Span) (m j : ℕ) → j < m → get_or (take m arr) j none ≡ get_or arr j none
used_at arr m j h = get_or-take m arr j none h

pub used_past : (arr : List Span) (m j : ℕ) → m ≤ j → get_or (take m arr) j none ≡ none
used_past arr m j h = get_or-eq_default (take m arr) none (rw length-take (omega arith))

-- ---- lengths
pub used_length : (arr : List Span) (m : ℕ) → length arr ≡ 8 → m ≤ 8 → length (take m arr) ≡ m
used_length arr m e h = length-take m arr ∙ omega arith

-- ---- three parts laid down one behind the other, over eight unused places
padded_split : (n : ℕ) (l : List Span) → length l ≤ n → l ++ drop (length l) (padded n []) ≡ padded n l
unfolding padded
padded_split n [] h = refl
padded_split zero (x ∷ l) h = absurd (omega arith)
padded_split (suc n) (x ∷ l) h = ap (λ (k : List Span). x ∷ k) (padded_split n l (omega arith))

more : (zeros l m : List Span) {a k : ℕ} → a ≡ length l → k ≡ length m
    → take a (l ++ drop a zeros) ++ (m ++ drop k (drop a (l ++ drop a zeros))) ≡ (l ++ m) ++ drop (length (l ++ m)) zeros
more zeros l m {a} {k} e f =
    rw (e, f, take-append_seam l (drop (length l) zeros), drop-append_seam l (drop (length l) zeros), drop-drop (length m) (length l) zeros, length-append l m, append_assoc l m (drop (length l + length m) zeros))

pub three_laid : (front middle back : List Span) {zeros x y z : List Span} {k n : ℕ} → zeros ≡ padded 8 [] → x ≡ front → y ≡ middle → z ≡ back
    → k ≡ length middle → n ≡ length back → length front + (length middle + length back) ≤ 8
    → (let l = take (length front) (x ++ drop (length front) zeros) ++ (y ++ drop k (drop (length front) (x ++ drop (length front) zeros))) in
    take (length front + length middle) l ++ (z ++ drop n (drop (length front + length middle) l)))
    ≡ padded 8 (front ++ (middle ++ back))
three_laid front middle back {zeros} {x} {y} {z} {k} {n} ez ex ey eb ek en h =
    let first = more zeros front middle {a = length front} {k = k} refl ek in
    let second = more zeros (front ++ middle) back {a = length front + length middle} {k = n} (sym (length-append front middle)) en in
    let whole = padded_split 8 (front ++ (middle ++ back)) (simp (length-append, length-append) (omega arith)) in
    rw (ex, ey, eb, first, length-append front middle, second, ez, append_assoc front middle back) whole

-- what lies behind place `at`, as a slice
pub behind : (l : List Span) (at : ℕ) → take (length l - (at + 1)) (drop (at + 1) l) ≡ drop (suc at) l
behind l at = rw add-one (take_all (length l - suc at) (drop (suc at) l) (simp length-drop (omega arith)))

pub places_are : (l list : List Span) (count : ℕ) → list ≡ padded 8 l → count ≡ length l → ◌≡◌ {A = Regions} (record { list = list; count = count }) (places_of l)
places_are l list count e f = λ i. record { list = e i; count = f i }
