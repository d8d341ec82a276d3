-- The loops over records: marks, and records rewritten one after another as long as a store is left.
use mathlib.Core.Path.{◌≡◌, refl, sym, ap, ◌∙◌}
use mathlib.Core.Bool.{Bool, true, false, cond}
use mathlib.Core.List.{List, ◌++◌}
use Prim.Native.Nat.{ℕ, zero, suc, ◌+◌, ◌-◌, ◌*◌, ◌≤◌, ◌<◌}
use native.Mathlib.Decide.{ℕ_discrete}
use native.Mathlib.Omega.{arith}
use lib.ListN.{length, set, length-append}
use lib.Seq.{get_or-set_same, get_or-set_other}
use Rattle.lists.specs.Bounded.{fold, count_from, every_from}
use Rattle.disk_stores.specs.Stores.{Store, laid, cut}
use Rattle.disk_stores.proofs.LaidLaws.{laid_append, cut_enough}
use Rattle.disk_stores.proofs.CodeLaws.{cut_none, then_cut, then_left}
use Rattle.filecalls.specs.declared.Drive.{Drive}
use Rattle.desk.specs.Replace.{rewrite_if, rewrite_all}
use Rattle.desk.specs.Stores.{stores_if, all_stores}
use Rattle.desk.specs.CodeDesk.{Stored, marked}
use Rattle.desk.proofs.RecordLaws.{if_laid, if_most}

-- ---- marks
-- the records from 1 up to n are marked as they are to be
pub record Marks (p : ℕ → Bool) (marks : List Bool) (n : ℕ) : Type 0 where
  pub right : (m : ℕ) → 1 ≤ m → m < n → marked marks m ≡ p m

pub marks_start : (p : ℕ → Bool) (marks : List Bool) → Marks p marks 1
marks_start p marks = record { right = λ m h k. absurd (no m h k) }
  where
    no : (m : ℕ) → 1 ≤ m → m < 1 → ⊥
    no m h k = omega (arith, h, k)

pub marks_next : (p : ℕ → Bool) (marks new : List Bool) (n : ℕ) {t : Bool} → Marks p marks n → n < length marks → new ≡ set marks n t → t ≡ p n
    → Marks p new (n + 1)
marks_next p marks new n {t} k h e q = record { right = λ m a b. go m a b (ℕ_discrete m n) }
  where
    go : (m : ℕ) → 1 ≤ m → m < n + 1 → Dec (m ≡ n) → marked new m ≡ p m
    go m a b (yes y) = rw (y, e, get_or-set_same marks n t false h) q
    go m a b (no y) = rw (e, get_or-set_other marks n m t false y) (k.right m a (less n m b y))
      where
        less : (n m : ℕ) → m < n + 1 → (m ≡ n → ⊥) → m < n
        less n m b y = omega (arith, b, y)

pub every_one : (p : ℕ → Bool) (k : ℕ) → every_from p 1 (k + 1 - 1) ≡ every_from p 1 k
every_one p k = let z : k + 1 - 1 ≡ k = omega arith in rw z

-- ---- records rewritten
module _ (p : ℕ → Bool) (d : Drive) (f : List ℕ) (siglum : ℕ) where
  -- all stores laid down rewrite all records
  pub all_laid : (k : ℕ) (v : List ℕ) (n : ℕ) → laid d.geometry v (all_stores p d f siglum v n k) ≡ rewrite_all p d f siglum v n k
  unfolding laid all_stores fold
  all_laid zero v n = refl
  all_laid (suc k) v n =
      laid_append d.geometry (stores_if (p n) d f siglum v n) (all_stores p d f siglum (rewrite_if p d f siglum v n) (suc n) k) v
      ∙ ap (λ (w : List ℕ). laid d.geometry w (all_stores p d f siglum (rewrite_if p d f siglum v n) (suc n) k)) (sym (if_laid d f siglum v n p))
      ∙ all_laid k (rewrite_if p d f siglum v n) (suc n)

  pub all_most : (k : ℕ) (v : List ℕ) (n : ℕ) → length (all_stores p d f siglum v n k) ≤ 528 * k
  unfolding all_stores
  all_most zero v n = omega arith
  all_most (suc k) v n =
      let one = if_most d f siglum v n (p n) in
      let more = all_most k (rewrite_if p d f siglum v n) (suc n) in
      rw (length-append (stores_if (p n) d f siglum v n) (all_stores p d f siglum (rewrite_if p d f siglum v n) (suc n) k)) (omega (arith, one, more))

-- of k records from the first on those from the i-th on are still to be done, with what is left
pub record Going (p : ℕ → Bool) (d : Drive) (f : List ℕ) (siglum : ℕ) (v₀ : List ℕ) (most first k : ℕ) (v : List ℕ) (left count i : ℕ) : Type 0 where
  pub volume_is : cut d.geometry v₀ most (all_stores p d f siglum v₀ first k) ≡ cut d.geometry v left (all_stores p d f siglum v (first + i) (k - i))
  pub left_is : most - length (all_stores p d f siglum v₀ first k) ≡ left - length (all_stores p d f siglum v (first + i) (k - i))
  pub counted : count_from p first k ≡ count + count_from p (first + i) (k - i)
  pub few : count ≤ i

module _ (p : ℕ → Bool) (d : Drive) (f : List ℕ) (siglum : ℕ) (v₀ : List ℕ) (most first k : ℕ) where
  pub going_start : Going p d f siglum v₀ most first k v₀ most 0 0
  going_start =
      let z : k - 0 ≡ k = omega arith in
      let y : first + 0 ≡ first = omega arith in
      let x : 0 + count_from p first k ≡ count_from p first k = omega arith in
      record { volume_is = rw (z, y); left_is = rw (z, y); counted = rw (z, y, x); few = omega arith }

  module _ {v : List ℕ} {left count i : ℕ} (g : Going p d f siglum v₀ most first k v left count i) where
    pub going_next : {v' : List ℕ} {left' c : ℕ} → i < k → c ≡ cond (p (first + i)) 1 0 → c ≤ 1
        → Stored d.geometry v left (stores_if (p (first + i)) d f siglum v (first + i)) v' left'
        → Going p d f siglum v₀ most first k v' left' (count + c) (i + 1)
    unfolding all_stores count_from
    going_next {v'} {left'} {c} h e l stored =
        let w = stored.volume_is in
        let m = stored.left_is in
        let n = first + i in
        let j = k - (i + 1) in
        let z : k - i ≡ suc (k - (i + 1)) = omega arith in
        let y : first + (i + 1) ≡ suc (first + i) = omega arith in
        let S = stores_if (p n) d f siglum v n in
        let rest : List ℕ → List Store = λ x. all_stores p d f siglum x (suc n) j in
        let same : length S ≤ left → rest v' ≡ rest (rewrite_if p d f siglum v n) =
        λ q. ap rest (w ∙ cut_enough d.geometry v S left q ∙ sym (if_laid d f siglum v n p)) in
        let t = g.counted in
        let u : count_from p first k ≡ count + (c + count_from p (suc (first + i)) (k - (i + 1))) = t ∙ rw (z, e) in
        let s = g.few in
        record {
          volume_is = g.volume_is ∙ ap (λ (x : ℕ). cut d.geometry v left (all_stores p d f siglum v n x)) z
              ∙ sym (then_cut d.geometry v S (rest (rewrite_if p d f siglum v n)) (rest v') left same)
              ∙ ap (λ (x : List ℕ). cut d.geometry x (left - length S) (rest v')) (sym w)
              ∙ ap (λ (x : ℕ). cut d.geometry v' x (rest v')) (sym m)
              ∙ ap (λ (x : ℕ). cut d.geometry v' left' (all_stores p d f siglum v' x j)) (sym y);
          left_is = g.left_is ∙ ap (λ (x : ℕ). left - length (all_stores p d f siglum v n x)) z
              ∙ sym (then_left d.geometry v S (rest (rewrite_if p d f siglum v n)) (rest v') left same)
              ∙ ap (λ (x : ℕ). x - length (rest v')) (sym m)
              ∙ ap (λ (x : ℕ). left' - length (all_stores p d f siglum v' x j)) (sym y);
          counted = rw y (omega (arith, u));
          few = omega (arith, s, l);
        }

    pub going_end : k ≤ i → (count ≡ count_from p first k) × Stored d.geometry v₀ most (all_stores p d f siglum v₀ first k) v left
    unfolding all_stores count_from
    going_end h =
        let z : k - i ≡ 0 = omega arith in (
          sym (g.counted ∙ rw z (omega arith)),
          record {
            volume_is = sym (g.volume_is ∙ rw z (cut_none d.geometry v left));
            left_is = sym (g.left_is ∙ rw z (omega arith));
          },
        )

-- no more are counted than there are
pub count_most : (p : ℕ → Bool) (i k : ℕ) → count_from p i k ≤ k
unfolding count_from
count_most p i zero = omega arith
count_most p i (suc k) = let l = count_most p (suc i) k in let o = one (p i) in omega (arith, l, o)
  where
    one : (t : Bool) → cond t 1 0 ≤ 1
    one true = omega arith
    one false = omega arith

-- ---- records hit alike are stored alike
pub fold_same : {A : Type 0} (f g : A → ℕ → A) (a : A) (i k : ℕ) → ((b : A) (m : ℕ) → i ≤ m → m < i + k → f b m ≡ g b m) → fold f a i k ≡ fold g a i k
unfolding fold
fold_same f g a i zero h = refl
fold_same f g a i (suc k) h =
    let e = h a i (omega arith) (omega arith) in
    rw e (fold_same f g (g a i) (suc i) k (λ b m x y. h b m (omega (arith, x)) (omega (arith, y))))

pub stores_same : (p q : ℕ → Bool) (d : Drive) (f : List ℕ) (siglum : ℕ) (k : ℕ) (v : List ℕ) (n : ℕ) → ((m : ℕ) → n ≤ m → m < n + k → p m ≡ q m)
    → all_stores p d f siglum v n k ≡ all_stores q d f siglum v n k
unfolding all_stores rewrite_if
stores_same p q d f siglum zero v n h = refl
stores_same p q d f siglum (suc k) v n h =
    let e = h n (omega arith) (omega arith) in
    rw e (ap (λ (l : List Store). stores_if (q n) d f siglum v n ++ l)
    (stores_same p q d f siglum k (rewrite_if q d f siglum v n) (suc n) (λ m x y. h m (omega (arith, x)) (omega (arith, y)))))
