-- What the order of an accepted directory is: each entry once, and no other slot, by numbers that rise. The numbers rise as the
-- entries go before each other.
use mathlib.Core.Path.{◌≡◌, refl, sym, ap, ◌∙◌}
use mathlib.Core.Bool.{Bool, true, false, cond, ◌&&◌, ◌||◌, true≢false}
use mathlib.Core.Logic.{◌≢◌}
use mathlib.Core.List.{List, [], ◌∷◌, map}
use Prim.Native.Nat.{ℕ, zero, suc, ◌+◌, ◌*◌, ◌≤◌, ◌<◌}
use native.Mathlib.Decide.{ℕ_discrete, dec_lt}
use native.Mathlib.Omega.{arith}
use lib.Dec.{leb, ltb, eqb}
use lib.ListN.{length, get_or, length-map}
use borrow.Author.Tests.{lt-ltb, le-ltb, le-leb, lt-leb, eq-eqb, ne_eqb}
use Rattle.lists.specs.Bounded.{fold}
use Rattle.lists.proofs.FoldLaws.{fold_add}
use Rattle.disk_geometry.specs.declared.Geometry.{Geometry}
use Rattle.disk_geometry.specs.Geometry.{lawful, slots}
use Rattle.disk_geometry.proofs.GeometryLaws.{bounds}
use Rattle.disk_volume.specs.Entry.{is_empty, extent}
use Rattle.disk_volume.specs.Directory.{slot_at}
use Rattle.disk_rules.specs.GoodSlot.{lowest_bad}
use Rattle.disk_rules.proofs.GoodLaws.{fields_good}
use Rattle.disk_rules.proofs.AcceptedLaws.{good_entry_lem}
use Rattle.fresh_order.specs.Order.{file_slot, goes_before, put_before, enter, order}
use Rattle.fresh_order.specs.CodeKeys.{key_of, entered, All, Rising, ordered_to}
use Rattle.fresh_order.proofs.EnteredLaws.{all_before, all_weaken, Where, where_new, where_old, length_before, rising_entered, rising_lt, all_at}

-- n steps, and one more
pub fold_last : {A : Type 0} (step : A → ℕ → A) (a : A) (n : ℕ) → fold step a 0 (suc n) ≡ step (fold step a 0 n) n
unfolding fold
fold_last step a n =
    let y : suc n ≡ n + 1 = omega arith in
    let z : 0 + n ≡ n = omega arith in
    ap (λ (x : ℕ). fold step a 0 x) y ∙ fold_add step a 0 n 1 ∙ ap (step (fold step a 0 n)) z

-- ---- of two entries the one with the lower number goes first; j is the lower slot
key_test : (f e i d c j : ℕ) → e < 512 → c < 512 → j < i → i < 2048
    → leb ((f * 512 + e) * 2048 + i) ((d * 512 + c) * 2048 + j) ≡ (ltb f d || (eqb f d && ltb e c))
key_test f e i d c j he hc hj hi =
    let x = (f * 512 + e) * 2048 + i in
    let y = (d * 512 + c) * 2048 + j in
    elim (dec_lt f d) [
      | yes l ↦ le-leb x y (omega arith) ∙ sym (rw (lt-ltb f d l))
      | no l ↦ elim (ℕ_discrete f d) [
        | yes q ↦ elim (dec_lt e c) [
          | yes k ↦ le-leb x y (omega arith) ∙ sym (rw (le-ltb f d (omega arith), eq-eqb f d q, lt-ltb e c k))
          | no k ↦ lt-leb x y (omega arith) ∙ sym (rw (le-ltb f d (omega arith), eq-eqb f d q, le-ltb e c (omega arith)))
        ]
        | no q ↦ lt-leb x y (omega arith) ∙ sym (rw (le-ltb f d (omega arith), ne_eqb f d q))
      ]
    ]

-- a slot below n that has an entry
abbrev pub IsEntry : Geometry → List ℕ → ℕ → ℕ → Type 0
IsEntry g v n i = (i < n) × (is_empty (slot_at g v i) ≡ false)

-- a place of a list of numbers made one by one
pub map_at : (f : ℕ → ℕ) (l : List ℕ) (k : ℕ) → k < length l → get_or (map f l) k 0 ≡ f (get_or l k 0)
map_at f [] k h = absurd (omega arith)
map_at f (x ∷ l) zero h = refl
map_at f (x ∷ l) (suc k) h = map_at f l k (omega arith)

module _ (g : Geometry) (v : List ℕ) (law : lawful g ≡ true) (ok : lowest_bad g v ≡ slots g) where
  pub extent_low : (i : ℕ) → IsEntry g v (slots g) i → extent (slot_at g v i) < 512
  extent_low i h = omega (arith, fields_good (slot_at g v i) (good_entry_lem g v ok i h.0 h.1).fields)

  pub key_before : (i j : ℕ) → IsEntry g v (slots g) i → IsEntry g v i j → leb (key_of g v i) (key_of g v j) ≡ goes_before g v i j
  unfolding key_of goes_before
  key_before i j h k =
      key_test (file_slot g v i) (extent (slot_at g v i)) i (file_slot g v j) (extent (slot_at g v j)) j
      (extent_low i h) (extent_low j (omega arith, k.1)) k.0 (omega (arith, (bounds g law).slots_high))

  map_enter : (i : ℕ) → IsEntry g v (slots g) i → (l : List ℕ) → All (IsEntry g v i) l
      → map (key_of g v) (put_before (goes_before g v i) l i) ≡ entered (map (key_of g v) l) (key_of g v i)
  unfolding put_before
  map_enter i h [] a = refl
  map_enter i h (j ∷ l) a = rw (key_before i j h a.0) (go (goes_before g v i j) (map_enter i h l a.1))
    where
      k : ℕ → ℕ
      k = key_of g v

      go : (t : Bool) → map k (put_before (goes_before g v i) l i) ≡ put_before (leb (k i)) (map k l) (k i)
          → map k (cond t (i ∷ j ∷ l) (j ∷ put_before (goes_before g v i) l i)) ≡ cond t (k i ∷ k j ∷ map k l) (k j ∷ put_before (leb (k i)) (map k l) (k i))
      go true ih = refl
      go false ih = ap (λ (w : List ℕ). k j ∷ w) ih

  -- the number of another slot is another number
  key_other : (i j : ℕ) → i < slots g → j < i → key_of g v j ≢ key_of g v i
  unfolding key_of
  key_other i j h k e = omega (arith, (bounds g law).slots_high)

  other_keys : (i : ℕ) → i < slots g → (l : List ℕ) → All (IsEntry g v i) l → All (λ y. y ≢ key_of g v i) (map (key_of g v) l)
  other_keys i h [] a = tt
  other_keys i h (j ∷ l) a = (key_other i j h a.0.0, other_keys i h l a.1)

  -- ---- the slots below n in order
  pub record Ordered (n : ℕ) : Type 0 where
    pub entries : All (IsEntry g v n) (ordered_to g v n)
    pub there : (i : ℕ) → IsEntry g v n i → Where i (ordered_to g v n)
    pub few : length (ordered_to g v n) ≤ n
    pub rising : Rising (map (key_of g v) (ordered_to g v n))

  -- one slot more: an empty one, and one that has an entry
  module _ (n : ℕ) (n< : n < slots g) (o : Ordered n) where
    pub next_empty : is_empty (slot_at g v n) ≡ true → ordered_to g v (suc n) ≡ ordered_to g v n
    unfolding enter
    next_empty e = fold_last (enter g v) [] n ∙ rw e

    pub next_entry : is_empty (slot_at g v n) ≡ false → ordered_to g v (suc n) ≡ put_before (goes_before g v n) (ordered_to g v n) n
    unfolding enter
    next_entry e = fold_last (enter g v) [] n ∙ rw e

    pub next_keys : is_empty (slot_at g v n) ≡ false → map (key_of g v) (ordered_to g v (suc n)) ≡ entered (map (key_of g v) (ordered_to g v n)) (key_of g v n)
    next_keys e = ap (map (key_of g v)) (next_entry e) ∙ map_enter n (n<, e) (ordered_to g v n) o.entries

    higher : (i : ℕ) → IsEntry g v n i → IsEntry g v (suc n) i
    higher i h = (omega (arith, h.0), h.1)

    ordered_empty : is_empty (slot_at g v n) ≡ true → Ordered (suc n)
    ordered_empty e = record {
      entries = rw (next_empty e) (all_weaken (IsEntry g v n) (IsEntry g v (suc n)) higher (ordered_to g v n) o.entries);
      there = λ i h. rw (next_empty e) (o.there i (lower i h (ℕ_discrete i n)));
      few = rw (next_empty e) (omega (arith, o.few));
      rising = rw (next_empty e) o.rising;
    }
      where
        lower : (i : ℕ) → IsEntry g v (suc n) i → Dec (i ≡ n) → IsEntry g v n i
        lower i h (yes z) = absurd (true≢false (sym e ∙ ap (λ (x : ℕ). is_empty (slot_at g v x)) (sym z) ∙ h.1))
        lower i h (no z) = (omega (arith, h.0), h.1)

    ordered_entry : is_empty (slot_at g v n) ≡ false → Ordered (suc n)
    ordered_entry e = record {
      entries = rw (next_entry e) (all_before (IsEntry g v (suc n)) (goes_before g v n) (ordered_to g v n) n (all_weaken (IsEntry g v n) (IsEntry g v (suc n)) higher (ordered_to g v n) o.entries) (omega arith, e));
      there = λ i h. rw (next_entry e) (at i h (ℕ_discrete i n));
      few = rw (next_entry e) (omega (arith, o.few, length_before (goes_before g v n) (ordered_to g v n) n));
      rising = rw (next_keys e) (rising_entered (map (key_of g v) (ordered_to g v n)) (key_of g v n) o.rising (other_keys n n< (ordered_to g v n) o.entries));
    }
      where
        at : (i : ℕ) → IsEntry g v (suc n) i → Dec (i ≡ n) → Where i (put_before (goes_before g v n) (ordered_to g v n) n)
        at i h (yes z) = rw z (where_new (goes_before g v n) (ordered_to g v n) n)
        at i h (no z) = where_old (goes_before g v n) (ordered_to g v n) n i (o.there i (omega (arith, h.0), h.1))

  pub ordered : (n : ℕ) → n ≤ slots g → Ordered n
  unfolding fold
  ordered zero h = record { entries = tt; there = λ i k. absurd (omega (arith, k.0)); few = omega arith; rising = tt }
  ordered (suc n) h = go (is_empty (slot_at g v n)) refl (ordered n (omega arith))
    where
      go : (t : Bool) → is_empty (slot_at g v n) ≡ t → Ordered n → Ordered (suc n)
      go true e o = ordered_empty n (omega arith) o e
      go false e o = ordered_entry n (omega arith) o e

  -- ---- all slots in order: what stands at place k
  whole : Ordered (slots g)
  whole = ordered (slots g) (omega arith)

  pub few_entries : length (order g v) ≤ slots g
  unfolding order
  few_entries = whole.few

  pub entry_of : (k : ℕ) → k < length (order g v) → IsEntry g v (slots g) (get_or (order g v) k 0)
  unfolding order
  entry_of k h = all_at (IsEntry g v (slots g)) (ordered_to g v (slots g)) whole.entries k h

  pub there_is : (i : ℕ) → IsEntry g v (slots g) i → Where i (order g v)
  unfolding order
  there_is i h = whole.there i h

  pub key_rises : (j k : ℕ) → j < k → k < length (order g v) → key_of g v (get_or (order g v) j 0) < key_of g v (get_or (order g v) k 0)
  unfolding order
  key_rises j k h l =
      let m = ordered_to g v (slots g) in
      let n : length (map (key_of g v) m) ≡ length m = length-map m (key_of g v) in
      let r = rising_lt (map (key_of g v) m) whole.rising j k h (omega arith) in
      omega (arith, map_at (key_of g v) m j (omega arith), map_at (key_of g v) m k l)

  -- each slot stands at one place
  pub one_of : (j k : ℕ) → j < length (order g v) → k < length (order g v) → get_or (order g v) j 0 ≡ get_or (order g v) k 0 → j ≡ k
  one_of j k hj hk e = elim (ℕ_discrete j k) [
    | yes z ↦ z
    | no z ↦ elim (dec_lt j k) [
      | yes l ↦ absurd (omega (arith, key_rises j k l hk, ap (key_of g v) e))
      | no l ↦ absurd (omega (arith, key_rises k j (omega arith) hj, ap (key_of g v) e))
    ]
  ]
