-- What a good slot is, as facts, and back: what theorems on inspection use in the place of `good_slot`.
use mathlib.Core.Path.{◌≡◌, refl, sym, ◌∙◌}
use mathlib.Core.Bool.{Bool, true, false, not, ◌&&◌, ◌||◌, or-false, or-true}
use mathlib.Core.Logic.{◌⊎◌, inl, inr, ⊎_elim, ◌≢◌}
use mathlib.Core.List.{List}
use Prim.Native.Nat.{ℕ, ◌+◌, ◌≤◌, ◌<◌}
use native.Mathlib.Decide.{ℕ_discrete}
use native.Mathlib.Omega.{arith}
use borrow.Author.Tests.{not-true, leb-true, le-leb, ltb-true, lt-ltb, eqb-true, eqb-false, eq-eqb, ne_eqb}
use lib.Dec.{leb, ltb, eqb}
use Rattle.lists.proofs.BoolLaws.{and_parts}
use Rattle.lists.specs.Bounded.{every}
use Rattle.lists.specs.Bytes.{byte}
use Rattle.lists.proofs.BoundedLaws.{any_false, any_none, every_true, every_intro}
use Rattle.disk_geometry.specs.declared.Geometry.{Geometry}
use Rattle.disk_geometry.specs.Geometry.{group_of, inside, places}
use Rattle.disk_volume.specs.Name.{name_of, good_name}
use Rattle.disk_volume.specs.Entry.{Entry, is_empty, extent, block_in, of_group}
use Rattle.disk_volume.specs.Directory.{slot_at}
use Rattle.disk_rules.specs.GoodSlot.{good_fields, good_top_bits, in_places, names_block, named_below, good_place, seen_below, good_slot}

-- ---- the bytes other than name and map
pub record Fields (e : Entry) : Type 0 where
  pub user : byte e 0 ≤ 15
  pub ex : byte e 12 ≤ 31
  pub s1 : byte e 13 ≡ 0
  pub s2 : byte e 14 ≤ 15
  pub rc : byte e 15 ≤ 128

pub fields_good : (e : Entry) → good_fields e ≡ true → Fields e
unfolding good_fields
fields_good e h =
    let user = leb (byte e 0) 15 in
    let ex = leb (byte e 12) 31 in
    let s1 = eqb (byte e 13) 0 in
    let s2 = leb (byte e 14) 15 in
    let p = and_parts (user && ex && s1 && s2) (leb (byte e 15) 128) h in
    let q = and_parts (user && ex && s1) s2 p.0 in
    let r = and_parts (user && ex) s1 q.0 in
    let s = and_parts user ex r.0 in
    record {
      user = leb-true (byte e 0) 15 s.0;
      ex = leb-true (byte e 12) 31 s.1;
      s1 = eqb-true (byte e 13) 0 r.1;
      s2 = leb-true (byte e 14) 15 q.1;
      rc = leb-true (byte e 15) 128 p.1;
    }

pub good_fields_lem : (e : Entry) → Fields e → good_fields e ≡ true
unfolding good_fields
good_fields_lem e f =
    rw (le-leb (byte e 0) 15 f.user, le-leb (byte e 12) 31 f.ex, eq-eqb (byte e 13) 0 f.s1, le-leb (byte e 14) 15 f.s2, le-leb (byte e 15) 128 f.rc)

-- ---- the top bits: name byte k, which is byte 1 + k of the entry, has none unless it is byte 9 or 10
abbrev top_bit_at : Entry → ℕ → Bool
top_bit_at e k = ltb (byte e (1 + k)) 128 || eqb k 8 || eqb k 9

pub top_bits_good : (e : Entry) → good_top_bits e ≡ true → (k : ℕ) → k < 11 → k ≢ 8 → k ≢ 9 → byte e (1 + k) < 128
unfolding good_top_bits
top_bits_good e h k l m n =
    let t : top_bit_at e k ≡ true = every_true (top_bit_at e) 0 11 h k (omega arith) (omega arith) in
    let low = ltb (byte e (1 + k)) 128 in
    ltb-true (byte e (1 + k)) 128 (sym (or-false (low || false) ∙ or-false low) ∙ (rw (ne_eqb k 8 m, ne_eqb k 9 n) at t))

pub good_top_bits_lem : (e : Entry) → ((k : ℕ) → k < 11 → k ≢ 8 → k ≢ 9 → byte e (1 + k) < 128) → good_top_bits e ≡ true
unfolding good_top_bits
good_top_bits_lem e h = every_intro (top_bit_at e) 0 11 (λ k a b. at k (omega arith) (ℕ_discrete k 8) (ℕ_discrete k 9))
  where
    at : (k : ℕ) → k < 11 → Dec (k ≡ 8) → Dec (k ≡ 9) → top_bit_at e k ≡ true
    at k l (yes m) d = rw (eq-eqb k 8 m, or-true)
    at k l (no m) (yes n) = rw (eq-eqb k 9 n, or-true)
    at k l (no m) (no n) = rw (lt-ltb (byte e (1 + k)) 128 (h k l m n))

-- ---- the places of a map
-- block b is in none of the first k places
module _ (g : Geometry) (e : Entry) (k b : ℕ) where
  pub not_in_places : in_places g e k b ≡ false → (p : ℕ) → p < k → block_in g e p ≢ b
  unfolding in_places
  not_in_places h p l = eqb-false (block_in g e p) b (any_false (λ q. eqb (block_in g e q) b) 0 k h p (omega arith) (omega arith))

  pub in_no_place : ((p : ℕ) → p < k → block_in g e p ≢ b) → in_places g e k b ≡ false
  unfolding in_places
  in_no_place h = any_none (λ q. eqb (block_in g e q) b) 0 k (λ p a l. ne_eqb (block_in g e p) b (h p (omega arith)))

-- block b is in no slot below n that is not empty
module _ (g : Geometry) (v : List ℕ) (n b : ℕ) where
  pub not_named_below : named_below g v n b ≡ false → (j : ℕ) → j < n → is_empty (slot_at g v j) ≡ false → (q : ℕ) → q < places g → block_in g (slot_at g v j) q ≢ b
  unfolding named_below names_block
  not_named_below h j l used =
      not_in_places g (slot_at g v j) (places g) b (rw used at (any_false (λ m. names_block g (slot_at g v m) b) 0 n h j (omega arith) (omega arith)))

  pub named_nowhere : ((j : ℕ) → j < n → is_empty (slot_at g v j) ≡ false → (q : ℕ) → q < places g → block_in g (slot_at g v j) q ≢ b) → named_below g v n b ≡ false
  unfolding named_below names_block
  named_nowhere h = any_none (λ m. names_block g (slot_at g v m) b) 0 n (λ j a l. at j (omega arith) (is_empty (slot_at g v j)) refl)
    where
      at : (j : ℕ) → j < n → (t : Bool) → is_empty (slot_at g v j) ≡ t → names_block g (slot_at g v j) b ≡ false
      at j l true e = rw e
      at j l false e = rw e (in_no_place g (slot_at g v j) (places g) b (h j l e))

-- ---- a slot that is good and not empty
pub record Good (g : Geometry) (v : List ℕ) (i : ℕ) : Type 0 where
  pub fields : good_fields (slot_at g v i) ≡ true
  pub name : good_name false (name_of (slot_at g v i)) ≡ true
  pub top_bits : good_top_bits (slot_at g v i) ≡ true
  -- "each block number is 0 or from D to T-1"
  pub block : (p : ℕ) → p < places g → (block_in g (slot_at g v i) p ≡ 0) ⊎ (inside g (block_in g (slot_at g v i) p) ≡ true)
  -- "none but 0 occurs twice in it"
  pub once : (p q : ℕ) → q < p → p < places g → block_in g (slot_at g v i) p ≢ 0 → block_in g (slot_at g v i) q ≢ block_in g (slot_at g v i) p
  -- "or in a lower slot that is not empty"
  pub alone : (p : ℕ) → p < places g → block_in g (slot_at g v i) p ≢ 0
      → (j : ℕ) → j < i → is_empty (slot_at g v j) ≡ false → (q : ℕ) → q < places g → block_in g (slot_at g v j) q ≢ block_in g (slot_at g v i) p
  -- "no lower slot has the same user, name and group"
  pub unlike : (j : ℕ) → j < i → of_group g (byte (slot_at g v i) 0) (name_of (slot_at g v i)) (group_of g (extent (slot_at g v i))) (slot_at g v j) ≡ false

module _ (g : Geometry) (v : List ℕ) (i : ℕ) where
  -- the three tests of a place that isn't 0
  record GoodBlock (p : ℕ) : Type 0 where
    within : inside g (block_in g (slot_at g v i) p) ≡ true
    first : in_places g (slot_at g v i) p (block_in g (slot_at g v i) p) ≡ false
    lower : named_below g v i (block_in g (slot_at g v i) p) ≡ false

  good_block : (p : ℕ) → good_place g v i p ≡ true → block_in g (slot_at g v i) p ≢ 0 → GoodBlock p
  unfolding good_place
  good_block p h n =
      let b = block_in g (slot_at g v i) p in
      let first = not (in_places g (slot_at g v i) p b) in
      let lower = not (named_below g v i b) in
      let s = and_parts (inside g b && first) lower (rw (ne_eqb b 0 n) at h) in
      let r = and_parts (inside g b) first s.0 in
      record { within = r.0; first = not-true _ r.1; lower = not-true _ s.1 }

  place_good : (p : ℕ) → (block_in g (slot_at g v i) p ≡ 0) ⊎ GoodBlock p → good_place g v i p ≡ true
  unfolding good_place
  place_good p (inl z) = rw (eq-eqb (block_in g (slot_at g v i) p) 0 z)
  place_good p (inr k) = rw (k.within, k.first, k.lower, or-true)

  pub good_facts : good_slot g v i ≡ true → is_empty (slot_at g v i) ≡ false → Good g v i
  unfolding good_slot seen_below
  good_facts h used =
      let e = slot_at g v i in
      let fields = good_fields e in
      let name = good_name false (name_of e) in
      let bits = good_top_bits e in
      let map = every (places g) (good_place g v i) in
      let p = and_parts (fields && name && bits && map) (not (seen_below g v i)) (rw used at h) in
      let q = and_parts (fields && name && bits) map p.0 in
      let r = and_parts (fields && name) bits q.0 in
      let s = and_parts fields name r.0 in
      let place : (p : ℕ) → p < places g → good_place g v i p ≡ true = λ p l. every_true (good_place g v i) 0 (places g) q.1 p (omega arith) (omega arith) in
      record {
        fields = s.0;
        name = s.1;
        top_bits = r.1;
        block = λ p l. elim (ℕ_discrete (block_in g e p) 0) [ yes z ↦ inl z | no n ↦ inr (good_block p (place p l) n).within ];
        once = λ p q k l n. not_in_places g e p (block_in g e p) (good_block p (place p l) n).first q k;
        alone = λ p l n. not_named_below g v i (block_in g e p) (good_block p (place p l) n).lower;
        unlike = λ j l. any_false (λ m. of_group g (byte e 0) (name_of e) (group_of g (extent e)) (slot_at g v m)) 0 i (not-true _ p.1) j (omega arith) (omega arith);
      }

  pub is_good : Good g v i → good_slot g v i ≡ true
  unfolding good_slot seen_below
  is_good k =
      let e = slot_at g v i in
      let place : (p : ℕ) → p < places g → good_place g v i p ≡ true = λ p l. elim (ℕ_discrete (block_in g e p) 0) [
        | yes z ↦ place_good p (inl z)
        | no n ↦ place_good p (inr (record {
          within = ⊎_elim (λ z. absurd (n z)) (λ w. w) (k.block p l);
          first = in_no_place g e p (block_in g e p) (λ q m. k.once p q m l n);
          lower = named_nowhere g v i (block_in g e p) (k.alone p l n);
        }))
      ] in
      let map : every (places g) (good_place g v i) ≡ true = every_intro (good_place g v i) 0 (places g) (λ p a l. place p (omega arith)) in
      let unlike = any_none (λ m. of_group g (byte e 0) (name_of e) (group_of g (extent e)) (slot_at g v m)) 0 i (λ j a l. k.unlike j (omega arith)) in
      rw (k.fields, k.name, k.top_bits, map, unlike, or-true)
