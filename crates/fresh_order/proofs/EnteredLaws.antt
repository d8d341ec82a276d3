-- A number put into a list before the first that passes: all that were there are there, and so is the new one, and no other is.
-- Numbers that rise go on rising where it is put before the first that is not below it.
use mathlib.Core.Path.{◌≡◌, refl, sym, ap, ◌∙◌}
use mathlib.Core.Bool.{Bool, true, false, cond}
use mathlib.Core.Logic.{◌≢◌}
use mathlib.Core.List.{List, [], ◌∷◌, ◌++◌, append_assoc, append-nil}
use Prim.Native.Nat.{ℕ, zero, suc, ◌+◌, ◌-◌, ◌≤◌, ◌<◌}
use native.Mathlib.Omega.{arith}
use lib.Dec.{leb}
use lib.ListN.{length, take, drop, get_or, set, length-set}
use lib.Seq.{set_split, take-append-add, length-take-le, take-suc, take-take, take-set-le, drop-cons, drop-set-lt, get_or-take, get_or-set_same}
use borrow.Author.Tests.{lt-leb, le-leb, leb-true, leb-false}
use Rattle.lists.specs.Bytes.{part}
use Rattle.fresh_order.specs.Order.{put_before}
use Rattle.fresh_order.specs.CodeKeys.{entered, All, Rising}

-- ---- every one
module _ (p : ℕ → Type 0) where
  pub all_at : (l : List ℕ) → All p l → (k : ℕ) → k < length l → p (get_or l k 0)
  all_at [] a k h = absurd (omega arith)
  all_at (x ∷ l) a zero h = a.0
  all_at (x ∷ l) a (suc k) h = all_at l a.1 k (omega arith)

  pub all_before : (q : ℕ → Bool) (l : List ℕ) (x : ℕ) → All p l → p x → All p (put_before q l x)
  unfolding put_before
  all_before q [] x a h = (h, tt)
  all_before q (y ∷ l) x a h = go (q y) (all_before q l x a.1 h)
    where
      go : (t : Bool) → All p (put_before q l x) → All p (cond t (x ∷ y ∷ l) (y ∷ put_before q l x))
      go true ih = (h, a)
      go false ih = (a.0, ih)

pub all_weaken : (p q : ℕ → Type 0) → ((x : ℕ) → p x → q x) → (l : List ℕ) → All p l → All q l
all_weaken p q f [] a = tt
all_weaken p q f (x ∷ l) a = (f x a.0, all_weaken p q f l a.1)

-- ---- where one stands
pub record Where (x : ℕ) (l : List ℕ) : Type 0 where
  pub place : ℕ
  pub below : place < length l
  pub is : get_or l place 0 ≡ x

where_tail : {x : ℕ} {l : List ℕ} (y : ℕ) → Where x l → Where x (y ∷ l)
where_tail y w = record { place = suc w.place; below = omega (arith, w.below); is = w.is }

where_head : {x : ℕ} {l : List ℕ} → Where x (x ∷ l)
where_head = record { place = 0; below = omega arith; is = refl }

module _ (q : ℕ → Bool) where
  pub where_new : (l : List ℕ) (x : ℕ) → Where x (put_before q l x)
  unfolding put_before
  where_new [] x = where_head
  where_new (y ∷ l) x = go (q y) (where_new l x)
    where
      go : (t : Bool) → Where x (put_before q l x) → Where x (cond t (x ∷ y ∷ l) (y ∷ put_before q l x))
      go true ih = where_head
      go false ih = where_tail y ih

  pub where_old : (l : List ℕ) (x z : ℕ) → Where z l → Where z (put_before q l x)
  unfolding put_before
  where_old [] x z w = absurd (omega (arith, w.below))
  where_old (y ∷ l) x z w = go (q y) w.place w.below w.is (λ v. where_old l x z v)
    where
      go : (t : Bool) (k : ℕ) → k < length (y ∷ l) → get_or (y ∷ l) k 0 ≡ z → (Where z l → Where z (put_before q l x))
          → Where z (cond t (x ∷ y ∷ l) (y ∷ put_before q l x))
      go true k h e ih = where_tail x (record { place = k; below = h; is = e })
      go false zero h e ih = record { place = 0; below = omega arith; is = e }
      go false (suc k) h e ih = where_tail y (ih (record { place = k; below = omega arith; is = e }))

  pub length_before : (l : List ℕ) (x : ℕ) → length (put_before q l x) ≡ suc (length l)
  unfolding put_before
  length_before [] x = refl
  length_before (y ∷ l) x = go (q y) (length_before l x)
    where
      go : (t : Bool) → length (put_before q l x) ≡ suc (length l) → length (cond t (x ∷ y ∷ l) (y ∷ put_before q l x)) ≡ suc (suc (length l))
      go true ih = refl
      go false ih = ap suc ih

  -- behind them all, where none passes
  pub behind_all : (l : List ℕ) (x : ℕ) → All (λ y. q y ≡ false) l → put_before q l x ≡ l ++ (x ∷ [])
  unfolding put_before
  behind_all [] x a = refl
  behind_all (y ∷ l) x a = rw (a.0, behind_all l x a.1)

  -- the last one passes: it stays the last
  pub before_last : (l : List ℕ) (y x : ℕ) → q y ≡ true → put_before q (l ++ (y ∷ [])) x ≡ put_before q l x ++ (y ∷ [])
  unfolding put_before
  before_last [] y x e = rw e
  before_last (z ∷ l) y x e = go (q z) (before_last l y x e)
    where
      go : (t : Bool) → put_before q (l ++ (y ∷ [])) x ≡ put_before q l x ++ (y ∷ [])
          → cond t (x ∷ z ∷ (l ++ (y ∷ []))) (z ∷ put_before q (l ++ (y ∷ [])) x) ≡ cond t (x ∷ z ∷ l) (z ∷ put_before q l x) ++ (y ∷ [])
      go true ih = refl
      go false ih = ap (λ (w : List ℕ). z ∷ w) ih

-- ---- rising numbers
pub rising_entered : (l : List ℕ) (x : ℕ) → Rising l → All (λ y. y ≢ x) l → Rising (entered l x)
unfolding put_before
rising_entered [] x r n = (tt, tt)
rising_entered (y ∷ l) x r n = go (leb x y) refl (rising_entered l x r.1 n.1)
  where
    go : (t : Bool) → leb x y ≡ t → Rising (entered l x) → Rising (cond t (x ∷ y ∷ l) (y ∷ entered l x))
    go true e ih =
        let h : x < y = omega (arith, leb-true x y e, n.0) in
        ((h, all_weaken (λ z. y < z) (λ z. x < z) (λ z k. omega arith) l r.0), r)
    go false e ih = (all_before (λ z. y < z) (leb x) l x r.0 (leb-false x y e), ih)

pub rising_lt : (l : List ℕ) → Rising l → (i j : ℕ) → i < j → j < length l → get_or l i 0 < get_or l j 0
rising_lt [] r i j h k = absurd (omega arith)
rising_lt (x ∷ l) r i zero h k = absurd (omega arith)
rising_lt (x ∷ l) r zero (suc j) h k = all_at (λ z. x < z) l r.0 j (omega arith)
rising_lt (x ∷ l) r (suc i) (suc j) h k = rising_lt l r.1 i j (omega arith) (omega arith)

-- one of them is below x: so are those before it, and x goes behind them
below_all : (l : List ℕ) (x k : ℕ) → Rising l → k < length l → get_or l k 0 < x → All (λ y. leb x y ≡ false) (take (suc k) l)
below_all [] x k r h b = absurd (omega arith)
below_all (y ∷ l) x zero r h b = (lt-leb x y b, tt)
below_all (y ∷ l) x (suc k) r h b =
    (lt-leb x y (omega (arith, all_at (λ z. y < z) l r.0 k (omega arith))), below_all l x k r.1 (omega arith) b)

pub entered_top : (l : List ℕ) (x k : ℕ) → Rising l → k < length l → get_or l k 0 < x → entered (take (suc k) l) x ≡ take (suc k) l ++ (x ∷ [])
entered_top l x k r h b = behind_all (leb x) (take (suc k) l) x (below_all l x k r h b)

-- ---- the m + 1 lowest places after one of them was set
pub take_set : (l : List ℕ) (k m x : ℕ) → k ≤ m → m < length l → take (suc m) (set l k x) ≡ take k l ++ (x ∷ part l (suc k) (m - k))
unfolding part
take_set l k m x low high =
    let n : length (take k l) ≡ k = length-take-le k l (omega arith) in
    let z : suc m ≡ length (take k l) + suc (m - k) = omega arith in
    rw (set_split l k x (omega arith), z, take-append-add (take k l) (x ∷ drop (suc k) l) (suc (m - k)))

-- what a loop has done when place k is free and those behind it are moved
pub record Opened (was : List ℕ) (m x : ℕ) (now : List ℕ) (k : ℕ) : Type 0 where
  pub low : k ≤ m
  pub high : m < length was
  pub room : length now ≡ length was
  pub same : take k now ≡ take k was
  pub rest : entered (take m was) x ≡ entered (take k was) x ++ part now (suc k) (m - k)

module _ (was : List ℕ) (m x : ℕ) where
  pub opened_start : m < length was → Opened was m x was m
  unfolding part
  opened_start h = record {
    low = omega arith;
    high = h;
    room = refl;
    same = refl;
    rest = let z : m - m ≡ 0 = omega arith in rw z (sym (append-nil (entered (take m was) x)));
  }

  module _ (now : List ℕ) where
    -- the one below the free place
    below_free : (j : ℕ) → Opened was m x now (suc j) → take (suc j) was ≡ take j was ++ (get_or now j 0 ∷ [])
    below_free j o =
        let e : get_or was j 0 ≡ get_or now j 0 = sym (get_or-take (suc j) was j 0 (omega arith)) ∙ ap (λ (l : List ℕ). get_or l j 0) (sym o.same) ∙ get_or-take (suc j) now j 0 (omega arith) in
        take-suc was j 0 (omega (arith, o.low, o.high)) ∙ rw e

    pub opened_next : (j : ℕ) → Opened was m x now (suc j) → x ≤ get_or now j 0 → Opened was m x (set now (suc j) (get_or now j 0)) j
    unfolding part
    opened_next j o h =
        let y = get_or now j 0 in
        let next = set now (suc j) y in
        let n : length next ≡ length was = length-set now (suc j) y ∙ o.room in
        let p : m - j ≡ suc (m - suc j) = omega (arith, o.low) in
        let c : drop (suc j) next ≡ y ∷ drop (suc (suc j)) now =
        drop-cons next (suc j) 0 (omega (arith, o.low, o.high)) ∙ rw (get_or-set_same now (suc j) y 0 (omega (arith, o.low, o.high, o.room)), drop-set-lt (suc (suc j)) now (suc j) y (omega arith)) in
        let s : take j now ≡ take j was = sym (take-take j (suc j) now (omega arith)) ∙ ap (take j) o.same ∙ take-take j (suc j) was (omega arith) in
        record {
          low = omega (arith, o.low);
          high = o.high;
          room = n;
          same = take-set-le j now (suc j) y (omega arith) ∙ s;
          rest =
              o.rest ∙ ap (λ (l : List ℕ). entered l x ++ take (m - suc j) (drop (suc (suc j)) now)) (below_free j o)
              ∙ ap (λ (l : List ℕ). l ++ take (m - suc j) (drop (suc (suc j)) now)) (before_last (leb x) (take j was) y x (le-leb x y h))
              ∙ append_assoc (entered (take j was) x) (y ∷ []) (take (m - suc j) (drop (suc (suc j)) now))
              ∙ rw (p, c);
        }

    -- x is laid into the free place: behind those that are below it
    laid : (k : ℕ) → Opened was m x now k → entered (take k was) x ≡ take k was ++ (x ∷ []) → take (m + 1) (set now k x) ≡ entered (take m was) x
    laid k o e =
        let z : m + 1 ≡ suc m = omega arith in
        rw (z, take_set now k m x o.low (omega (arith, o.high, o.room)), o.same, o.rest, e) (sym (append_assoc (take k was) (x ∷ []) (part now (suc k) (m - k))))

    pub opened_hit : (j : ℕ) → Opened was m x now (suc j) → Rising (take m was) → get_or now j 0 < x → take (m + 1) (set now (suc j) x) ≡ entered (take m was) x
    opened_hit j o r h =
        let t = take m was in
        let n : length t ≡ m = length-take-le m was (omega (arith, o.high)) in
        let e : get_or t j 0 ≡ get_or now j 0 =
        get_or-take m was j 0 (omega (arith, o.low)) ∙ sym (get_or-take (suc j) was j 0 (omega arith)) ∙ ap (λ (l : List ℕ). get_or l j 0) (sym o.same) ∙ get_or-take (suc j) now j 0 (omega arith) in
        let w : take (suc j) t ≡ take (suc j) was = take-take (suc j) m was o.low in
        laid (suc j) o (rw w at (entered_top t x j r (omega (arith, o.low)) (omega arith)))

    pub opened_none : Opened was m x now 0 → take (m + 1) (set now 0 x) ≡ entered (take m was) x
    unfolding put_before
    opened_none o = laid 0 o refl
