-- Laws of the tree: keys that begin alike have one way; one slot more; where a new file is put.
use mathlib.Core.Path.{◌≡◌, refl, sym, ap, ◌∙◌}
use mathlib.Core.Bool.{Bool, true, false, cond, ◌&&◌, true≢false}
use mathlib.Core.Logic.{◌≢◌}
use mathlib.Core.List.{List}
use Prim.Native.Nat.{ℕ, zero, suc, ◌+◌, ◌-◌, ◌*◌, ◌/◌, ◌%◌, ◌≤◌, ◌<◌}
use native.Mathlib.Decide.{ℕ_discrete}
use native.Mathlib.Numerals.{add-one}
use native.Mathlib.Omega.{arith}
use lib.Dec.{eqb, leb, ltb}
use lib.ListN.{length, set, length-set, replicate}
use lib.Seq.{get_or-set_same, get_or-set_other}
use borrow.Author.Tests.{eqb-true, eq-eqb, ne_eqb, le-leb, leb-true, ltb-true, ltb-false}
use Rattle.lists.specs.Bytes.{byte}
use Rattle.lists.proofs.BoolLaws.{and_parts}
use Rattle.disk_geometry.specs.declared.Geometry.{Geometry}
use Rattle.disk_volume.specs.Directory.{slot_at}
use Rattle.files.specs.Files.{is_listed}
use Rattle.shelf_files.specs.declared.Tree.{Tree}
use Rattle.shelf_files.specs.CodeTree.{entry_key, bit_of, alike, is_like, low_between, way, key_word, next_in, with_next, linked_heads, linked_nodes, linked, Heads, Nodes, HoldsFirst, HoldsNone, Ended}

-- ---- keys that begin alike
pub alike_own : (d k : ℕ) → alike d k k ≡ true
unfolding alike
alike_own zero k = eq-eqb (k % 256) (k % 256) refl
alike_own (suc d) k = rw (alike_own d k, eq-eqb (bit_of d k) (bit_of d k) refl)

alike_same : (d a b c : ℕ) → alike d a b ≡ true → alike d a c ≡ alike d b c
unfolding alike
alike_same zero a b c h = ap (λ (x : ℕ). eqb x (c % 256)) (eqb-true (a % 256) (b % 256) h)
alike_same (suc d) a b c h =
    let p = and_parts (alike d a b) (eqb (bit_of d a) (bit_of d b)) h in
    rw (alike_same d a b c p.0, eqb-true (bit_of d a) (bit_of d b) p.1)

alike_turn : (d a b c : ℕ) → alike d a c ≡ true → alike d b c ≡ true → alike d a b ≡ true
unfolding alike
alike_turn zero a b c h k = eq-eqb (a % 256) (b % 256) (eqb-true (a % 256) (c % 256) h ∙ sym (eqb-true (b % 256) (c % 256) k))
alike_turn (suc d) a b c h k =
    let p = and_parts (alike d a c) (eqb (bit_of d a) (bit_of d c)) h in
    let q = and_parts (alike d b c) (eqb (bit_of d b) (bit_of d c)) k in
    rw (alike_turn d a b c p.0 q.0, eq-eqb (bit_of d a) (bit_of d b) (eqb-true (bit_of d a) (bit_of d c) p.1 ∙ sym (eqb-true (bit_of d b) (bit_of d c) q.1)))

alike_less : (d a b : ℕ) → alike (suc d) a b ≡ true → alike d a b ≡ true
unfolding alike
alike_less d a b h = (and_parts (alike d a b) (eqb (bit_of d a) (bit_of d b)) h).0

-- ---- the lowest slot between two
module _ (p : ℕ → Bool) (s : ℕ) where
  low_le : (n : ℕ) → low_between p s n ≤ n
  unfolding low_between
  low_le zero = omega arith
  low_le (suc n) = go (low_le n) (eqb (low_between p s n) 0) (leb s n && p n)
    where
      go : low_between p s n ≤ n → (t u : Bool) → cond t (cond u (suc n) 0) (low_between p s n) ≤ suc n
      go l true true = omega arith
      go l true false = omega arith
      go l false u = omega arith

  low_other : (n : ℕ) → p n ≡ false → low_between p s (suc n) ≡ low_between p s n
  unfolding low_between
  low_other n h = go (low_between p s n) (leb s n)
    where
      go : (x : ℕ) (t : Bool) → cond (eqb x 0) (cond (t && p n) (suc n) 0) x ≡ x
      go zero true = rw h
      go zero false = refl
      go (suc x) t = rw (ne_eqb (suc x) 0 (λ z. absurd (omega arith)))

  low_more : (n j : ℕ) → low_between p s n ≡ suc j → low_between p s (suc n) ≡ suc j
  unfolding low_between
  low_more n j h = rw (h, ne_eqb (suc j) 0 (λ z. absurd (omega arith)))

  low_new : (n : ℕ) → low_between p s n ≡ 0 → s ≤ n → p n ≡ true → low_between p s (suc n) ≡ suc n
  unfolding low_between
  low_new n h l q = rw (h, le-leb s n l, q)

  low_none : (n : ℕ) → n ≤ s → low_between p s n ≡ 0
  unfolding low_between
  low_none zero l = refl
  low_none (suc n) l = go (low_none n (omega arith)) (leb s n) refl
    where
      go : low_between p s n ≡ 0 → (t : Bool) → leb s n ≡ t → cond (eqb (low_between p s n) 0) (cond (leb s n && p n) (suc n) 0) (low_between p s n) ≡ 0
      go e true q = absurd (omega (arith, leb-true s n q))
      go e false q = rw (e, q)

  -- where there is none, no slot passes
  pub low_clear : (n m : ℕ) → low_between p s n ≡ 0 → s ≤ m → m < n → p m ≡ false
  unfolding low_between
  low_clear zero m h a l = absurd (omega arith)
  low_clear (suc n) m h a l = go (low_between p s n) refl (p n) refl (ℕ_discrete m n) h (λ e k. low_clear n m e a k)
    where
      go : (x : ℕ) → low_between p s n ≡ x → (u : Bool) → p n ≡ u → Dec (m ≡ n) → cond (eqb x 0) (cond (leb s n && u) (suc n) 0) x ≡ 0
          → (low_between p s n ≡ 0 → m < n → p m ≡ false) → p m ≡ false
      go zero e u q (no k) r lower = lower e (omega arith)
      go zero e false q (yes z) r lower = rw z q
      go zero e true q (yes z) r lower = absurd (omega (arith, (rw (le-leb s n (omega arith)) at r)))
      go (suc x) e u q w r lower = absurd (omega (arith, (rw (ne_eqb (suc x) 0 (λ z. absurd (omega arith))) at r)))

  -- where there is one, it passes, and no lower one does
  pub record Between (n j : ℕ) : Type 0 where
    pub from : s ≤ j
    pub below : j < n
    pub passes : p j ≡ true
    pub first : (m : ℕ) → s ≤ m → m < j → p m ≡ false

  pub low_is : (n j : ℕ) → low_between p s n ≡ suc j → Between n j
  unfolding low_between
  low_is zero j h = absurd (omega arith)
  low_is (suc n) j h = go (low_between p s n) refl (leb s n) refl (p n) refl h (λ e. low_is n j e)
    where
      go : (x : ℕ) → low_between p s n ≡ x → (t : Bool) → leb s n ≡ t → (u : Bool) → p n ≡ u → cond (eqb x 0) (cond (t && u) (suc n) 0) x ≡ suc j
          → (low_between p s n ≡ suc j → Between n j) → Between (suc n) j
      go zero e true f true q r lower =
          let z : n ≡ j = omega arith in
          record { from = omega (arith, leb-true s n f); below = omega arith; passes = rw (← z) q; first = λ m a l. low_clear n m e a (omega arith) }
      go zero e true f false q r lower = absurd (omega arith)
      go zero e false f u q r lower = absurd (omega arith)
      go (suc x) e t f u q r lower =
          let z : suc x ≡ suc j = rw (ne_eqb (suc x) 0 (λ w. absurd (omega arith))) at r in
          let b = lower (e ∙ z) in
          record { from = b.from; below = omega (arith, b.below); passes = b.passes; first = b.first }

-- ---- the word of a slot
next_own : (b s w : ℕ) → s < 4096 → next_in b w ≡ 0 → next_in b (with_next b s w) ≡ s
next_own b s w l h = go (eqb b 0) h
  where
    go : (t : Bool) → cond t (w % 4096) (w / 4096 % 4096) ≡ 0 → cond t ((w + cond t s (s * 4096)) % 4096) ((w + cond t s (s * 4096)) / 4096 % 4096) ≡ s
    go true e = omega arith
    go false e = omega arith

next_other : (a b s w : ℕ) → a < 2 → b < 2 → a ≢ b → s < 4096 → next_in b w ≡ 0 → next_in a (with_next b s w) ≡ next_in a w
next_other a b s w x y k l h = go (ℕ_discrete a 0) (ℕ_discrete b 0) h
  where
    go : Dec (a ≡ 0) → Dec (b ≡ 0) → next_in b w ≡ 0 → next_in a (with_next b s w) ≡ next_in a w
    go (yes e) (yes f) q = absurd (k (e ∙ sym f))
    go (no e) (no f) q = absurd (k (omega arith))
    go (yes e) (no f) q = rw (e, ne_eqb b 0 f) (omega arith)
    go (no e) (yes f) q = let z : w % 4096 ≡ 0 = (rw f at q) in rw (ne_eqb a 0 e, f) (omega arith)

next_keyed : (b s w : ℕ) → s < 4096 → next_in b w ≡ 0 → with_next b s w / 16777216 ≡ w / 16777216
next_keyed b s w l h = go (eqb b 0) h
  where
    go : (t : Bool) → cond t (w % 4096) (w / 4096 % 4096) ≡ 0 → (w + cond t s (s * 4096)) / 16777216 ≡ w / 16777216
    go true e = omega arith
    go false e = omega arith

next_none : (b k : ℕ) → next_in b (key_word k) ≡ 0
next_none b k = go (eqb b 0)
  where
    go : (t : Bool) → cond t (key_word k % 4096) (key_word k / 4096 % 4096) ≡ 0
    go true = omega arith
    go false = omega arith

-- ---- the way
module _ (g : Geometry) (v : List ℕ) where
  -- slot j has the first entry of a file
  abbrev pub listed : ℕ → Bool
  listed j = is_listed g v (slot_at g v j) j

  abbrev pub key_at : ℕ → ℕ
  key_at j = entry_key (slot_at g v j)

  -- it goes on behind a slot, and is at none once it was at none
  pub way_on : (n k d j : ℕ) → way g v n k d ≡ suc j → way g v n k (suc d) ≡ low_between (is_like g v k (suc d)) (suc j) n
  unfolding way
  way_on n k d j h = rw (h, ne_eqb (suc j) 0 (λ z. absurd (omega arith)))

  way_over : (n k d : ℕ) → way g v n k d ≡ 0 → way g v n k (suc d) ≡ 0
  unfolding way
  way_over n k d h = rw h

  -- the slot that it has behind d bits: like k in these, and behind the one before
  pub record OnWay (n k d j : ℕ) : Type 0 where
    pub below : j < n
    pub first : listed j ≡ true
    pub like : alike d k (key_at j) ≡ true

  pub on_way : (n k d j : ℕ) → way g v n k d ≡ suc j → OnWay n k d j
  unfolding way
  on_way n k zero j h =
      let b = low_is (is_like g v k 0) 0 n j h in
      let p = and_parts (listed j) (alike 0 k (key_at j)) b.passes in
      record { below = b.below; first = p.0; like = p.1 }
  on_way n k (suc d) j h = go (way g v n k d) h
    where
      go : (s : ℕ) → cond (eqb s 0) 0 (low_between (is_like g v k (suc d)) s n) ≡ suc j → OnWay n k (suc d) j
      go zero e = absurd (omega arith)
      go (suc s) e =
          let b = low_is (is_like g v k (suc d)) (suc s) n j (rw (ne_eqb (suc s) 0 (λ z. absurd (omega arith))) at e) in
          let p = and_parts (listed j) (alike (suc d) k (key_at j)) b.passes in
          record { below = b.below; first = p.0; like = p.1 }

  -- the slot before it
  record Before (n k d j : ℕ) : Type 0 where
    slot : ℕ
    at : way g v n k d ≡ suc slot
    lower : slot < j

  one_before : (n k d j : ℕ) → way g v n k (suc d) ≡ suc j → Before n k d j
  one_before n k d j h = go (way g v n k d) refl
    where
      go : (s : ℕ) → way g v n k d ≡ s → Before n k d j
      go zero e = absurd (omega (arith, way_over n k d e))
      go (suc s) e = record { slot = s; at = e; lower = (low_is (is_like g v k (suc d)) (suc s) n j (sym (way_on n k d s e) ∙ h)).from }

  before : (n k : ℕ) (d e j : ℕ) → way g v n k e ≡ suc j → d < e → Before n k d j
  before n k d zero j h l = absurd (omega arith)
  before n k d (suc e) j h l = go (ℕ_discrete d e) (one_before n k e j h) (λ i q h. before n k d e i q h)
    where
      go : Dec (d ≡ e) → Before n k e j → ((i : ℕ) → way g v n k e ≡ suc i → d < e → Before n k d i) → Before n k d j
      go (yes z) b lower = record { slot = b.slot; at = rw z b.at; lower = b.lower }
      go (no q) b lower = let c = lower b.slot b.at (omega arith) in record { slot = c.slot; at = c.at; lower = omega (arith, c.lower, b.lower) }

  -- a slot stands on a way once, and a way ends once
  once : (n k d e j : ℕ) → way g v n k d ≡ suc j → way g v n k e ≡ suc j → d ≡ e
  once n k d e j h i = go (ℕ_discrete d e) (ltb d e) refl
    where
      go : Dec (d ≡ e) → (t : Bool) → ltb d e ≡ t → d ≡ e
      go (yes z) t q = z
      go (no z) true q = let b = before n k d e j i (ltb-true d e q) in absurd (omega (arith, b.at, b.lower))
      go (no z) false q = let b = before n k e d j h (omega (arith, ltb-false d e q)) in absurd (omega (arith, b.at, b.lower))

  ends_once : (n k d e i j : ℕ) → way g v n k d ≡ suc i → way g v n k (suc d) ≡ 0 → way g v n k e ≡ suc j → way g v n k (suc e) ≡ 0 → d ≡ e
  ends_once n k d e i j h f x y = go (ℕ_discrete d e) (ltb d e) refl
    where
      late : (a b s : ℕ) → way g v n k (suc a) ≡ 0 → way g v n k b ≡ suc s → a < b → Dec (suc a ≡ b) → ⊥
      late a b s q r l (yes z) = absurd (omega (arith, q, (rw (← z) at r)))
      late a b s q r l (no z) = let o = before n k (suc a) b s r (omega arith) in absurd (omega (arith, q, o.at))

      go : Dec (d ≡ e) → (t : Bool) → ltb d e ≡ t → d ≡ e
      go (yes z) t q = z
      go (no z) true q = absurd (late d e j f x (ltb-true d e q) (ℕ_discrete (suc d) e))
      go (no z) false q = absurd (late e d i y h (omega (arith, ltb-false d e q)) (ℕ_discrete (suc e) d))

  -- keys that begin alike have one way so far
  like_same : (d a b j : ℕ) → alike d a b ≡ true → is_like g v a d j ≡ is_like g v b d j
  like_same d a b j h = rw (alike_same d a b (key_at j) h)

  low_same : (p q : ℕ → Bool) (s n : ℕ) → ((j : ℕ) → p j ≡ q j) → low_between p s n ≡ low_between q s n
  unfolding low_between
  low_same p q s zero h = refl
  low_same p q s (suc n) h = rw (low_same p q s n h, h n)

  way_same : (n d a b : ℕ) → alike d a b ≡ true → way g v n a d ≡ way g v n b d
  unfolding way
  way_same n zero a b h = low_same (is_like g v a 0) (is_like g v b 0) 0 n (λ j. like_same 0 a b j h)
  way_same n (suc d) a b h =
      let s = way_same n d a b (alike_less d a b h) in
      rw (s, low_same (is_like g v a (suc d)) (is_like g v b (suc d)) (way g v n b d) n (λ j. like_same (suc d) a b j h))

  -- ---- one slot more
  way_more : (n k d j : ℕ) → way g v n k d ≡ suc j → way g v (suc n) k d ≡ suc j
  unfolding way
  way_more n k zero j h = low_more (is_like g v k 0) 0 n j h
  way_more n k (suc d) j h = go (one_before n k d j h) (λ s e. way_more n k d s e)
    where
      go : Before n k d j → ((s : ℕ) → way g v n k d ≡ suc s → way g v (suc n) k d ≡ suc s) → way g v (suc n) k (suc d) ≡ suc j
      go b lower =
          way_on (suc n) k d b.slot (lower b.slot b.at)
          ∙ low_more (is_like g v k (suc d)) (suc b.slot) n j (sym (way_on n k d b.slot b.at) ∙ h)

  -- a slot that is not of the way leaves it
  way_other : (n k d : ℕ) → ((e : ℕ) → e ≤ d → is_like g v k e n ≡ false) → way g v (suc n) k d ≡ way g v n k d
  unfolding way
  way_other n k zero h = low_other (is_like g v k 0) 0 n (h 0 (omega arith))
  way_other n k (suc d) h =
      let lower = way_other n k d (λ e l. h e (omega arith)) in
      rw (lower, low_other (is_like g v k (suc d)) (way g v n k d) n (h (suc d) (omega arith)))

  -- where the slot has no first entry of a file, what is kept stays
  module _ (n : ℕ) (other : listed n ≡ false) where
    way_still : (k d : ℕ) → way g v (n + 1) k d ≡ way g v n k d
    way_still k d = ap (λ (x : ℕ). way g v x k d) (add-one n) ∙ way_other n k d (λ e l. rw other)

    pub heads_still : {heads : List ℕ} → Heads g v heads n → Heads g v heads (n + 1)
    heads_still {heads} h = record { many = h.many; begins = λ k. h.begins k ∙ sym (way_still k 0) }

    pub nodes_still : {nodes : List ℕ} → Nodes g v nodes n → Nodes g v nodes (n + 1)
    nodes_still {nodes} h =
        record {
          long = h.long;
          goes_on = λ k d j e. h.goes_on k d j (sym (way_still k d) ∙ e) ∙ sym (way_still k (suc d));
          keyed = λ j l f. h.keyed j (below j l f (ℕ_discrete j n)) f;
          unset = λ j l. h.unset j (omega arith);
        }
      where
        below : (j : ℕ) → j < n + 1 → listed j ≡ true → Dec (j ≡ n) → j < n
        below j l f (yes z) = absurd (true≢false (sym f ∙ rw z other))
        below j l f (no k) = omega arith

    pub holds_still : {tree : Tree} → HoldsFirst g v tree n → HoldsFirst g v tree (n + 1)
    holds_still h = record { begin = heads_still h.begin; go_on = nodes_still h.go_on }

  -- a way that begins nowhere is nowhere
  way_none : (n k d : ℕ) → way g v n k 0 ≡ 0 → way g v n k d ≡ 0
  way_none n k zero h = h
  way_none n k (suc d) h = way_over n k d (way_none n k d h)

  -- a way that is at a slot only with slot n is at that
  way_new : (n k d j : ℕ) → way g v n k d ≡ 0 → way g v (suc n) k d ≡ suc j → j ≡ n
  unfolding way
  way_new n k zero j h e = go (ℕ_discrete j n) (low_is (is_like g v k 0) 0 (suc n) j e)
    where
      go : Dec (j ≡ n) → Between (is_like g v k 0) 0 (suc n) j → j ≡ n
      go (yes z) b = z
      go (no q) b = absurd (true≢false (sym b.passes ∙ low_clear (is_like g v k 0) 0 n j h (omega arith) (omega (arith, b.below))))
  way_new n k (suc d) j h e = go (one_before (suc n) k d j e) (way g v n k d) refl (ℕ_discrete j n) (λ i f o. way_new n k d i f o)
    where
      go : Before (suc n) k d j → (s : ℕ) → way g v n k d ≡ s → Dec (j ≡ n) → ((i : ℕ) → way g v n k d ≡ 0 → way g v (suc n) k d ≡ suc i → i ≡ n) → j ≡ n
      go b s f (yes z) lower = z
      go b zero f (no q) lower = absurd (omega (arith, lower b.slot f b.at, b.lower, (on_way (suc n) k (suc d) j e).below))
      go b (suc s) f (no q) lower =
          let x = low_is (is_like g v k (suc d)) (suc s) (suc n) j (sym (way_on (suc n) k d s (way_more n k d s f)) ∙ e) in
          absurd (true≢false (sym x.passes ∙ low_clear (is_like g v k (suc d)) (suc s) n j (sym (way_on n k d s f) ∙ h) x.from (omega (arith, x.below))))

  -- where the slot has one, it is put where the way of its key ends
  module _ (n : ℕ) (few : n < 2048) (new : listed n ≡ true) where
    abbrev own : ℕ
    own = key_at n

    way_stay : (k d j : ℕ) → way g v n k d ≡ suc j → alike (suc d) k own ≡ false → way g v (suc n) k (suc d) ≡ way g v n k (suc d)
    way_stay k d j h f = way_on (suc n) k d j (way_more n k d j h) ∙ low_other (is_like g v k (suc d)) (suc j) n (rw (new, f)) ∙ sym (way_on n k d j h)

    pub heads_new : {heads : List ℕ} → Heads g v heads n → way g v n own 0 ≡ 0 → Heads g v (set heads (own % 256) (n + 1)) (n + 1)
    unfolding way alike
    heads_new {heads} h e = record { many = length-set heads (own % 256) (n + 1) ∙ h.many; begins = λ k. rw (add-one n) (at k (ℕ_discrete (k % 256) (own % 256))) }
      where
        at : (k : ℕ) → Dec (k % 256 ≡ own % 256) → byte (set heads (own % 256) (suc n)) (k % 256) ≡ low_between (is_like g v k 0) 0 (suc n)
        at k (yes z) =
            let like = eq-eqb (k % 256) (own % 256) z in
            rw z (get_or-set_same heads (own % 256) (suc n) 0 (omega (arith, h.many)))
            ∙ sym (low_new (is_like g v k 0) 0 n (way_same n 0 k own like ∙ e) (omega arith) (rw (new, like)))
        at k (no q) =
            get_or-set_other heads (own % 256) (k % 256) (suc n) 0 q ∙ h.begins k
            ∙ sym (low_other (is_like g v k 0) 0 n (rw (new, ne_eqb (k % 256) (own % 256) q)))

    pub heads_kept : {heads : List ℕ} → Heads g v heads n → (d l : ℕ) → way g v n own d ≡ suc l → Heads g v heads (n + 1)
    unfolding way alike
    heads_kept {heads} h d l e = record { many = h.many; begins = λ k. h.begins k ∙ rw (add-one n) (at k (ℕ_discrete (k % 256) (own % 256)) (way g v n own 0) refl) }
      where
        at : (k : ℕ) → Dec (k % 256 ≡ own % 256) → (x : ℕ) → way g v n own 0 ≡ x → low_between (is_like g v k 0) 0 n ≡ low_between (is_like g v k 0) 0 (suc n)
        at k (yes z) zero q = absurd (omega (arith, way_none n own d q, e))
        at k (yes z) (suc x) q = let o = way_same n 0 k own (eq-eqb (k % 256) (own % 256) z) ∙ q in o ∙ sym (low_more (is_like g v k 0) 0 n x o)
        at k (no z) x q = sym (low_other (is_like g v k 0) 0 n (rw (new, ne_eqb (k % 256) (own % 256) z)))

    -- the words, where slot n has its own, and the one where the way ended has it behind the bit
    module _ (nodes after : List ℕ) (last bit : ℕ) (old : Nodes g v nodes n) (end : Ended g v n own last bit)
        (here : byte after n ≡ key_word own)
        (there : (l : ℕ) → last ≡ suc l → byte after l ≡ with_next bit (n + 1) (byte nodes l))
        (others : (j : ℕ) → j ≢ n → suc j ≢ last → byte after j ≡ byte nodes j) where
      -- a slot at which no way ended
      on_as_before : (k d j : ℕ) → way g v n k d ≡ suc j → suc j ≢ last → way g v n k (suc d) ≡ way g v (suc n) k (suc d)
      on_as_before k d j h q = go (way g v n k (suc d)) refl
        where
          clash : way g v n own d ≡ suc j → way g v n own (suc d) ≡ 0 → (l : ℕ) → last ≡ l → ⊥
          clash e f zero z = absurd (omega (arith, way_none n own d (end.bare z), e))
          clash e f (suc l) z =
              let some : 0 < last = omega arith in
              let same = ends_once n own d end.depth j l e f (end.at some ∙ z) (end.none some) in
              q (sym e ∙ ap (λ (x : ℕ). way g v n own x) same ∙ end.at some)

          go : (x : ℕ) → way g v n k (suc d) ≡ x → way g v n k (suc d) ≡ way g v (suc n) k (suc d)
          go (suc x) e = e ∙ sym (way_more n k (suc d) x e)
          go zero e = alike_or (alike (suc d) k own) refl
            where
              alike_or : (t : Bool) → alike (suc d) k own ≡ t → way g v n k (suc d) ≡ way g v (suc n) k (suc d)
              alike_or false f = sym (way_stay k d j h f)
              alike_or true f = absurd (clash (sym (way_same n d k own (alike_less d k own f)) ∙ h) (sym (way_same n (suc d) k own f) ∙ e) last refl)

      -- the slot at which it ended
      on_from_last : (k d j : ℕ) → way g v n k d ≡ suc j → suc j ≡ last → next_in (bit_of d k) (byte after j) ≡ way g v (suc n) k (suc d)
      unfolding alike
      on_from_last k d j h z = go (eqb (bit_of d k) (bit_of d own)) refl
        where
          some : 0 < last
          some = omega arith

          its : alike d k (key_at j) ≡ true
          its = (on_way n k d j h).like

          ours : way g v n own end.depth ≡ suc j
          ours = end.at some ∙ sym z

          deep : d ≡ end.depth
          deep = once n (key_at j) d end.depth j (sym (way_same n d k (key_at j) its) ∙ h) (sym (way_same n end.depth own (key_at j) (on_way n own end.depth j ours).like) ∙ ours)

          at : way g v n own d ≡ suc j
          at = rw deep ours

          over : way g v n own (suc d) ≡ 0
          over = rw deep (end.none some)

          turns : bit ≡ bit_of d own
          turns = rw deep (end.turn some)

          begin : alike d k own ≡ true
          begin = alike_turn d k own (key_at j) its (on_way n own d j at).like

          none : next_in bit (byte nodes j) ≡ 0
          none = rw turns (old.goes_on own d j at ∙ over)

          go : (t : Bool) → eqb (bit_of d k) (bit_of d own) ≡ t → next_in (bit_of d k) (byte after j) ≡ way g v (suc n) k (suc d)
          go true e =
              let b : bit_of d k ≡ bit = eqb-true (bit_of d k) (bit_of d own) e ∙ sym turns in
              let like : alike (suc d) k own ≡ true = rw (begin, e) in
              rw (b, there j (sym z)) (next_own bit (n + 1) (byte nodes j) (omega arith) none) ∙ add-one n
              ∙ sym (way_on (suc n) k d j (way_more n k d j h)
              ∙ low_new (is_like g v k (suc d)) (suc j) n (sym (way_on n k d j h) ∙ way_same n (suc d) k own like ∙ over) (on_way n k d j h).below (rw (new, like)))
          go false e =
              let apart : bit_of d k ≢ bit = λ q. true≢false (sym (eq-eqb (bit_of d k) (bit_of d own) (q ∙ turns)) ∙ e) in
              rw (there j (sym z)) (next_other (bit_of d k) bit (n + 1) (byte nodes j) (omega arith) (omega (arith, turns)) apart (omega arith) none)
              ∙ old.goes_on k d j h ∙ sym (way_stay k d j h (rw (begin, e)))

      pub nodes_new : length after ≡ 2048 → Nodes g v after (n + 1)
      nodes_new long = record { long = long; goes_on = λ k d j e. rw (add-one n) (on k d j (rw (add-one n) at e)); keyed = λ j l f. key j l f (ℕ_discrete j n) (ℕ_discrete (suc j) last); unset = λ j l. blank j l (ℕ_discrete (suc j) last) }
        where
          on : (k d j : ℕ) → way g v (suc n) k d ≡ suc j → next_in (bit_of d k) (byte after j) ≡ way g v (suc n) k (suc d)
          on k d j e = go (way g v n k d) refl
            where
              same : (m : ℕ) → way g v n k d ≡ suc m → m ≡ j
              same m q = omega (arith, way_more n k d m q, e)

              go : (x : ℕ) → way g v n k d ≡ x → next_in (bit_of d k) (byte after j) ≡ way g v (suc n) k (suc d)
              go zero q =
                  let z = way_new n k d j q e in
                  rw (z, here) (next_none (bit_of d k) own) ∙ sym (way_on (suc n) k d j e ∙ low_none (is_like g v k (suc d)) (suc j) (suc n) (omega arith))
              go (suc m) q = elim (ℕ_discrete (suc j) last) [
                | yes z ↦ on_from_last k d j (rw (same m q) at q) z
                | no z ↦ rw (others j (omega (arith, (on_way n k d j (rw (same m q) at q)).below)) z) (old.goes_on k d j (rw (same m q) at q)) ∙ on_as_before k d j (rw (same m q) at q) z
              ]

          key : (j : ℕ) → j < n + 1 → listed j ≡ true → Dec (j ≡ n) → Dec (suc j ≡ last) → byte after j / 16777216 ≡ key_at j / 4294967296
          key j l f (yes z) t = rw (z, here) (omega arith)
          key j l f (no z) (no t) = rw (others j z t) (old.keyed j (omega arith) f)
          key j l f (no z) (yes t) =
              let some : 0 < last = omega arith in
              let at : way g v n own end.depth ≡ suc j = end.at some ∙ sym t in
              let none : next_in bit (byte nodes j) ≡ 0 = rw (end.turn some) (old.goes_on own end.depth j at ∙ end.none some) in
              rw (there j (sym t)) (next_keyed bit (n + 1) (byte nodes j) (omega arith) none) ∙ old.keyed j (omega arith) f

          blank : (j : ℕ) → n + 1 ≤ j → Dec (suc j ≡ last) → byte after j ≡ 0
          blank j l (yes t) = absurd (omega (arith, (on_way n own end.depth j (end.at (omega arith) ∙ sym t)).below))
          blank j l (no t) = others j (omega arith) t ∙ old.unset j (omega arith)

    -- as code links it
    module _ (last bit : ℕ) (end : Ended g v n own last bit) where
      pub last_low : last ≤ n
      last_low = go last refl
        where
          go : (l : ℕ) → last ≡ l → last ≤ n
          go zero z = omega arith
          go (suc l) z = omega (arith, (on_way n own end.depth l (end.at (omega arith) ∙ z)).below)

      pub last_open : {nodes : List ℕ} → Nodes g v nodes n → 0 < last → next_in bit (byte nodes (last - 1)) ≡ 0
      last_open {nodes} old some =
          let z : last ≡ suc (last - 1) = omega arith in
          rw (end.turn some) (old.goes_on own end.depth (last - 1) (end.at some ∙ z) ∙ end.none some)

      pub linked_heads_lem : {heads : List ℕ} → Heads g v heads n → Heads g v (linked_heads heads own last n) (n + 1)
      linked_heads_lem {heads} h = go last refl
        where
          go : (l : ℕ) → last ≡ l → Heads g v (linked_heads heads own last n) (n + 1)
          go zero z = rw z (heads_new h (end.bare z))
          go (suc l) z = rw (ne_eqb last 0 (omega arith)) (heads_kept h end.depth l (end.at (omega arith) ∙ z))

      pub linked_nodes_lem : {nodes : List ℕ} → Nodes g v nodes n → Nodes g v (set (linked_nodes nodes last bit n) n (key_word own)) (n + 1)
      linked_nodes_lem {nodes} old = nodes_new nodes (set linked n (key_word own)) last bit old end own_word there others (length-set linked n (key_word own) ∙ long)
        where
          linked : List ℕ
          linked = linked_nodes nodes last bit n

          long : length linked ≡ 2048
          long = go (eqb last 0)
            where
              go : (t : Bool) → length (cond t nodes (set nodes (last - 1) (with_next bit (n + 1) (byte nodes (last - 1))))) ≡ 2048
              go true = old.long
              go false = length-set nodes (last - 1) (with_next bit (n + 1) (byte nodes (last - 1))) ∙ old.long

          own_word : byte (set linked n (key_word own)) n ≡ key_word own
          own_word = get_or-set_same linked n (key_word own) 0 (omega (arith, long))

          there : (l : ℕ) → last ≡ suc l → byte (set linked n (key_word own)) l ≡ with_next bit (n + 1) (byte nodes l)
          there l z =
              let low = last_low in
              let s : last - 1 ≡ l = omega arith in
              get_or-set_other linked n l (key_word own) 0 (omega arith)
              ∙ rw (ne_eqb last 0 (omega arith), s) (get_or-set_same nodes l (with_next bit (n + 1) (byte nodes l)) 0 (omega (arith, old.long)))

          others : (j : ℕ) → j ≢ n → suc j ≢ last → byte (set linked n (key_word own)) j ≡ byte nodes j
          others j k q = get_or-set_other linked n j (key_word own) 0 k ∙ go (ℕ_discrete last 0)
            where
              go : Dec (last ≡ 0) → byte linked j ≡ byte nodes j
              go (yes z) = rw z
              go (no z) = rw (ne_eqb last 0 z) (get_or-set_other nodes (last - 1) j (with_next bit (n + 1) (byte nodes (last - 1))) 0 (omega arith))

      pub holds_linked : {tree : Tree} → HoldsFirst g v tree n
          → (let t = linked tree own last bit n in HoldsFirst g v (record { heads = t.heads; nodes = set t.nodes n (key_word own) }) (n + 1))
      holds_linked h = record { begin = linked_heads_lem h.begin; go_on = linked_nodes_lem h.go_on }

-- ---- nothing passed yet
all_zero : (n c : ℕ) → byte (replicate n 0) c ≡ 0
all_zero zero c = refl
all_zero (suc n) zero = refl
all_zero (suc n) (suc c) = all_zero n c

pub holds_none : HoldsNone (record { heads = replicate 256 0; nodes = replicate 2048 0 })
unfolding way low_between
holds_none g v =
    record {
      begin = record { many = refl; begins = λ k. all_zero 256 (k % 256) };
      go_on = record {
        long = refl;
        goes_on = λ k d j e. absurd (omega (arith, (on_way g v 0 k d j e).below));
        keyed = λ j h f. absurd (omega arith);
        unset = λ j h. all_zero 2048 j;
      };
    }
