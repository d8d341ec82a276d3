-- The blocks as they come, and their numbers: which block has which number, the entry with its numbers, and the other way round.
use mathlib.Core.Path.{◌≡◌, refl, sym, ap, ◌∙◌}
use mathlib.Core.Bool.{Bool, true, false, not, true≢false}
use mathlib.Core.List.{List, [], ◌∷◌, ◌++◌}
use Prim.Native.Nat.{ℕ, zero, suc, ◌+◌, ◌-◌, ◌≤◌, ◌<◌}
use native.Mathlib.Decide.{ℕ_discrete, dec_lt}
use native.Mathlib.Omega.{arith}
use lib.ListN.{length, get_or, take, replicate, length-append, length-replicate, get_or-append}
use lib.Seq.{get_or-append-add, get_or-append_seam, take_at, length-take-le}
use borrow.Author.Tests.{eq-eqb, ne_eqb}
use Rattle.lists.specs.Bounded.{fold}
use Rattle.lists.specs.Bytes.{byte}
use Rattle.disk_geometry.specs.declared.Geometry.{Geometry}
use Rattle.disk_geometry.specs.Geometry.{places}
use Rattle.disk_volume.specs.Entry.{Entry, block_in, with_block}
use Rattle.disk_volume.proofs.MapLaws.{block_zero, length_with_block, take_with_block, block_with_block, block_with_block_other}
use Rattle.files.specs.Files.{is_used}
use Rattle.fresh_order.proofs.OrderLaws.{fold_last}
use Rattle.fresh_volume.specs.Copy.{blocks_below, number_place, numbered, entry_at, blocks_before}

-- ---- the blocks in the places of one entry
module _ (g : Geometry) (e : Entry) where
  below_used : (p : ℕ) → is_used g e p ≡ true → blocks_below g e (suc p) ≡ blocks_below g e p ++ (block_in g e p ∷ [])
  unfolding blocks_below
  below_used p h = rw h

  below_unused : (p : ℕ) → is_used g e p ≡ false → blocks_below g e (suc p) ≡ blocks_below g e p
  unfolding blocks_below
  below_unused p h = rw h

  -- how many there are: one more for each used place
  pub count_used : (p : ℕ) → is_used g e p ≡ true → length (blocks_below g e (suc p)) ≡ suc (length (blocks_below g e p))
  count_used p h = ap length (below_used p h) ∙ length-append (blocks_below g e p) (block_in g e p ∷ []) ∙ omega arith

  pub count_unused : (p : ℕ) → is_used g e p ≡ false → length (blocks_below g e (suc p)) ≡ length (blocks_below g e p)
  count_unused p h = ap length (below_unused p h)

  count_step : (p : ℕ) → length (blocks_below g e p) ≤ length (blocks_below g e (suc p))
  count_step p = go (is_used g e p) refl
    where
      go : (t : Bool) → is_used g e p ≡ t → length (blocks_below g e p) ≤ length (blocks_below g e (suc p))
      go true h = omega (arith, count_used p h)
      go false h = omega (arith, count_unused p h)

  pub count_rises : (p q : ℕ) → p ≤ q → length (blocks_below g e p) ≤ length (blocks_below g e q)
  count_rises p zero h = let z : p ≡ 0 = omega arith in rw z (omega arith)
  count_rises p (suc q) h = go (dec_lt q p) (λ k. count_rises p q k)
    where
      go : Dec (q < p) → (p ≤ q → length (blocks_below g e p) ≤ length (blocks_below g e q)) → length (blocks_below g e p) ≤ length (blocks_below g e (suc q))
      go (yes k) ih = let z : p ≡ suc q = omega arith in rw z (omega arith)
      go (no k) ih = omega (arith, ih (omega arith), count_step q)

  -- the block of a used place stands where it is counted
  pub below_low : (p q : ℕ) → p < q → is_used g e p ≡ true → length (blocks_below g e p) < length (blocks_below g e q)
  below_low p q h u = omega (arith, count_used p u, count_rises (suc p) q h)

  pub below_at : (p q : ℕ) → p < q → is_used g e p ≡ true → get_or (blocks_below g e q) (length (blocks_below g e p)) 0 ≡ block_in g e p
  below_at p zero h u = absurd (omega arith)
  below_at p (suc q) h u = go (ℕ_discrete p q) (is_used g e q) refl (λ k. below_at p q k u)
    where
      go : Dec (p ≡ q) → (t : Bool) → is_used g e q ≡ t → (p < q → get_or (blocks_below g e q) (length (blocks_below g e p)) 0 ≡ block_in g e p)
          → get_or (blocks_below g e (suc q)) (length (blocks_below g e p)) 0 ≡ block_in g e p
      go (yes z) t s ih =
          rw (below_used q (ap (is_used g e) (sym z) ∙ u), z) (get_or-append_seam (blocks_below g e q) (block_in g e q) [] 0)
      go (no z) true s ih =
          rw (below_used q s, get_or-append (blocks_below g e q) (block_in g e q ∷ []) 0 (length (blocks_below g e p)) (below_low p q (omega arith) u)) (ih (omega arith))
      go (no z) false s ih = rw (below_unused q s) (ih (omega arith))

  -- and each of them is that of a used place
  pub record Counted (q j : ℕ) : Type 0 where
    pub place : ℕ
    pub lower : place < q
    pub used : is_used g e place ≡ true
    pub is : j ≡ length (blocks_below g e place)

  pub counted_place : (q j : ℕ) → j < length (blocks_below g e q) → Counted q j
  unfolding blocks_below
  counted_place zero j h = absurd (omega arith)
  counted_place (suc q) j h = go (is_used g e q) refl (λ k. counted_place q j k) (dec_lt j (length (blocks_below g e q)))
    where
      more : Counted q j → Counted (suc q) j
      more c = record { place = c.place; lower = omega (arith, c.lower); used = c.used; is = c.is }

      go : (t : Bool) → is_used g e q ≡ t → (j < length (blocks_below g e q) → Counted q j) → Dec (j < length (blocks_below g e q)) → Counted (suc q) j
      go t s ih (yes k) = more (ih k)
      go true s ih (no k) = record { place = q; lower = omega arith; used = s; is = omega (arith, count_used q s, h) }
      go false s ih (no k) = absurd (k (omega (arith, count_unused q s, h)))

-- ---- the entry with its blocks numbered from b on
module _ (g : Geometry) (b : ℕ) (e : Entry) (e32 : length e ≡ 32) where
  -- with the places below n done
  done_to : ℕ → Entry
  done_to n = fold (number_place g b e) (take 16 e ++ replicate 16 0) 0 n

  bare_length : length (take 16 e ++ replicate 16 0) ≡ 32
  bare_length = simp (length-append, length-replicate) (omega (arith, length-take-le 16 e (omega arith)))

  record Done (n : ℕ) : Type 0 where
    long : length (done_to n) ≡ 32
    head : take 16 (done_to n) ≡ take 16 e
    numbers : (p : ℕ) → p < places g → is_used g e p ≡ true → p < n → block_in g (done_to n) p ≡ b + length (blocks_below g e p)
    later : (p : ℕ) → n ≤ p → block_in g (done_to n) p ≡ 0
    zeros : (p : ℕ) → is_used g e p ≡ false → block_in g (done_to n) p ≡ 0

  bare_zero : (p : ℕ) → block_in g (take 16 e ++ replicate 16 0) p ≡ 0
  bare_zero p = block_zero g (take 16 e ++ replicate 16 0) (λ k low. at k low) p
    where
      n : length (take 16 e) ≡ 16
      n = length-take-le 16 e (omega arith)

      at : (k : ℕ) → 16 ≤ k → byte (take 16 e ++ replicate 16 0) k ≡ 0
      at k low =
          let z : k ≡ length (take 16 e) + (k - 16) = omega (arith, n) in
          rw (z, get_or-append-add (take 16 e) (replicate 16 0) (k - 16) 0) (zero_at_lem 16 (k - 16))
        where
          zero_at_lem : (m i : ℕ) → byte (replicate m 0) i ≡ 0
          zero_at_lem zero i = refl
          zero_at_lem (suc m) zero = refl
          zero_at_lem (suc m) (suc i) = zero_at_lem m i

  done : (n : ℕ) → n ≤ places g → Done n
  unfolding fold done_to
  done zero h = record {
    long = bare_length;
    head = take_at (take 16 e) (replicate 16 0) 16 (length-take-le 16 e (omega arith));
    numbers = λ p k u l. absurd (omega arith);
    later = λ p l. bare_zero p;
    zeros = λ p u. bare_zero p;
  }
  done (suc n) h = go (is_used g e n) refl (done n (omega arith))
    where
      x : Entry
      x = done_to n

      c : ℕ
      c = b + length (blocks_below g e n)

      step : done_to (suc n) ≡ number_place g b e x n
      step = fold_last (number_place g b e) (take 16 e ++ replicate 16 0) n

      go : (t : Bool) → is_used g e n ≡ t → Done n → Done (suc n)
      go true u d =
          let s : done_to (suc n) ≡ with_block g x n c = step ∙ (unfold number_place in rw u) in
          record {
            long = ap length s ∙ length_with_block g x n c ∙ d.long;
            head = ap (take 16) s ∙ take_with_block g x n c 16 (omega arith) ∙ d.head;
            numbers = λ p k v l. ap (λ (y : Entry). block_in g y p) s ∙ at d p k v l (ℕ_discrete p n);
            later = λ p l. ap (λ (y : Entry). block_in g y p) s ∙ block_with_block_other g x n c p (λ z. omega arith) ∙ d.later p (omega arith);
            zeros = λ p v. ap (λ (y : Entry). block_in g y p) s ∙ block_with_block_other g x n c p (λ z. true≢false (sym u ∙ ap (is_used g e) (sym z) ∙ v)) ∙ d.zeros p v;
          }
        where
          at : Done n → (p : ℕ) → p < places g → is_used g e p ≡ true → p < suc n → Dec (p ≡ n) → block_in g (with_block g x n c) p ≡ b + length (blocks_below g e p)
          at d p k v l (yes z) = rw z (block_with_block g x n c d.long (omega arith))
          at d p k v l (no z) = block_with_block_other g x n c p z ∙ d.numbers p k v (omega arith)
      go false u d =
          let s : done_to (suc n) ≡ x = step ∙ (unfold number_place in rw u) in
          record {
            long = ap length s ∙ d.long;
            head = ap (take 16) s ∙ d.head;
            numbers = λ p k v l. ap (λ (y : Entry). block_in g y p) s ∙ d.numbers p k v (lower p v l (ℕ_discrete p n));
            later = λ p l. ap (λ (y : Entry). block_in g y p) s ∙ d.later p (omega arith);
            zeros = λ p v. ap (λ (y : Entry). block_in g y p) s ∙ d.zeros p v;
          }
        where
          lower : (p : ℕ) → is_used g e p ≡ true → p < suc n → Dec (p ≡ n) → p < n
          lower p v l (yes z) = absurd (true≢false (sym v ∙ ap (is_used g e) z ∙ u))
          lower p v l (no z) = omega arith

  pub numbered_length : length (numbered g b e) ≡ 32
  unfolding numbered done_to
  numbered_length = (done (places g) (omega arith)).long

  pub numbered_head : take 16 (numbered g b e) ≡ take 16 e
  unfolding numbered done_to
  numbered_head = (done (places g) (omega arith)).head

  pub numbered_block : (p : ℕ) → p < places g → is_used g e p ≡ true → block_in g (numbered g b e) p ≡ b + length (blocks_below g e p)
  unfolding numbered done_to
  numbered_block p h u = (done (places g) (omega arith)).numbers p h u h

  pub numbered_zero : (p : ℕ) → is_used g e p ≡ false → block_in g (numbered g b e) p ≡ 0
  unfolding numbered done_to
  numbered_zero p u = (done (places g) (omega arith)).zeros p u

  -- a place is used where it was, if numbers begin above 0
  pub numbered_used : 0 < b → (p : ℕ) → p < places g → is_used g (numbered g b e) p ≡ is_used g e p
  numbered_used h p k = go (is_used g e p) refl
    where
      go : (t : Bool) → is_used g e p ≡ t → is_used g (numbered g b e) p ≡ t
      go true u = ap not (ne_eqb (block_in g (numbered g b e) p) 0 (λ z. omega (arith, numbered_block p k u)))
      go false u = ap not (eq-eqb (block_in g (numbered g b e) p) 0 (numbered_zero p u))

-- ---- the blocks of the entries in order
module _ (g : Geometry) (v l : List ℕ) where
  pub count_before : (k : ℕ) → length (blocks_before g v l (suc k)) ≡ length (blocks_before g v l k) + length (blocks_below g (entry_at g v l k) (places g))
  unfolding blocks_before
  count_before k = length-append (blocks_before g v l k) (blocks_below g (entry_at g v l k) (places g))

  pub before_rises : (k m : ℕ) → k ≤ m → length (blocks_before g v l k) ≤ length (blocks_before g v l m)
  before_rises k zero h = let z : k ≡ 0 = omega arith in rw z (omega arith)
  before_rises k (suc m) h = go (dec_lt m k) (λ q. before_rises k m q)
    where
      go : Dec (m < k) → (k ≤ m → length (blocks_before g v l k) ≤ length (blocks_before g v l m)) → length (blocks_before g v l k) ≤ length (blocks_before g v l (suc m))
      go (yes q) ih = let z : k ≡ suc m = omega arith in rw z (omega arith)
      go (no q) ih = omega (arith, ih (omega arith), count_before m)

  -- the place p of entry k, as it comes
  abbrev pub turn : ℕ → ℕ → ℕ
  turn k p = length (blocks_before g v l k) + length (blocks_below g (entry_at g v l k) p)

  pub turn_low : (k m p : ℕ) → k < m → p < places g → is_used g (entry_at g v l k) p ≡ true → turn k p < length (blocks_before g v l m)
  turn_low k m p h q u = omega (arith, below_low g (entry_at g v l k) p (places g) q u, count_before k, before_rises (suc k) m h)

  pub turn_at : (k m p : ℕ) → k < m → p < places g → is_used g (entry_at g v l k) p ≡ true → get_or (blocks_before g v l m) (turn k p) 0 ≡ block_in g (entry_at g v l k) p
  unfolding blocks_before
  turn_at k zero p h q u = absurd (omega arith)
  turn_at k (suc m) p h q u = go (ℕ_discrete k m) (λ r. turn_at k m p r q u)
    where
      go : Dec (k ≡ m) → (k < m → get_or (blocks_before g v l m) (turn k p) 0 ≡ block_in g (entry_at g v l k) p)
          → get_or (blocks_before g v l m ++ blocks_below g (entry_at g v l m) (places g)) (turn k p) 0 ≡ block_in g (entry_at g v l k) p
      go (yes z) ih =
          rw (← z) (get_or-append-add (blocks_before g v l k) (blocks_below g (entry_at g v l k) (places g)) (length (blocks_below g (entry_at g v l k) p)) 0 ∙ below_at g (entry_at g v l k) p (places g) q u)
      go (no z) ih =
          get_or-append (blocks_before g v l m) (blocks_below g (entry_at g v l m) (places g)) 0 (turn k p) (turn_low k m p (omega arith) q u) ∙ ih (omega arith)

  -- turns are told apart: by the entry, and by the place in it
  pub turns_apart : (k p j q : ℕ) → k < j → p < places g → is_used g (entry_at g v l k) p ≡ true → turn k p < turn j q
  turns_apart k p j q h w u = omega (arith, turn_low k j p h w u)

  pub record Turn (m j : ℕ) : Type 0 where
    pub entry : ℕ
    pub lower : entry < m
    pub place : ℕ
    pub in_map : place < places g
    pub used : is_used g (entry_at g v l entry) place ≡ true
    pub is : j ≡ turn entry place

  pub turn_of : (m j : ℕ) → j < length (blocks_before g v l m) → Turn m j
  unfolding blocks_before
  turn_of zero j h = absurd (omega arith)
  turn_of (suc m) j h = go (dec_lt j (length (blocks_before g v l m))) (λ k. turn_of m j k)
    where
      go : Dec (j < length (blocks_before g v l m)) → (j < length (blocks_before g v l m) → Turn m j) → Turn (suc m) j
      go (yes k) ih =
          let t = ih k in
          record { entry = t.entry; lower = omega (arith, t.lower); place = t.place; in_map = t.in_map; used = t.used; is = t.is }
      go (no k) ih =
          let i : j - length (blocks_before g v l m) < length (blocks_below g (entry_at g v l m) (places g)) = omega (arith, count_before m, h) in
          let c = counted_place g (entry_at g v l m) (places g) (j - length (blocks_before g v l m)) i in
          record { entry = m; lower = omega arith; place = c.place; in_map = c.lower; used = c.used; is = omega (arith, c.is) }
