-- A disk that is the disk w but for its slots and its blocks from D to T-1, and what stands in these. There is only one such disk,
-- so that it makes no difference in which order slots and blocks were laid; and its logical records are the same whatever w is.
use mathlib.Core.Path.{◌≡◌, refl, sym, ap, ◌∙◌}
use mathlib.Core.Bool.{Bool, true, false, cond, ◌&&◌, and-false}
use mathlib.Core.Logic.{◌⊎◌, inl, inr, ⊎_elim}
use mathlib.Core.List.{List}
use Prim.Native.Nat.{ℕ, zero, suc, ◌+◌, ◌-◌, ◌*◌, ◌/◌, ◌%◌, ◌≤◌, ◌<◌}
use native.Mathlib.Decide.{ℕ_discrete, dec_lt}
use native.Mathlib.Nat.{mul-le-mul_right, mod-lt, mod-eq_of_lt, div-add-mod', div-lt_iff_lt-mul, le-div_iff_mul-le}
use native.Mathlib.Omega.{arith}
use lib.Dec.{leb, ltb, eqb}
use lib.ListN.{length}
use lib.Seq.{ext_get_or}
use borrow.Author.Tests.{lt-ltb, le-ltb, le-leb, lt-leb, eq-eqb, ne_eqb}
use Rattle.lists.specs.Bounded.{fold}
use Rattle.lists.specs.Bytes.{byte, part}
use Rattle.lists.proofs.PartLaws.{length_part, byte_part, byte_out}
use Rattle.disk_geometry.specs.declared.Geometry.{Geometry}
use Rattle.disk_geometry.specs.Geometry.{lawful, bytes, records, slots, start, slot_start, record_start}
use Rattle.disk_geometry.proofs.GeometryLaws.{bounds, bytes_straight, start_straight, start_in, slot_record_below}
use Rattle.disk_volume.specs.Entry.{Entry}
use Rattle.disk_volume.specs.Directory.{slot_at, put_slot}
use Rattle.disk_volume.specs.Record.{record_at, put_record}
use Rattle.disk_volume.proofs.DirectoryLaws.{slot_inside, record_inside, put_slot_length, slot_put_slot, slot_put_slot_other, record_put_slot, put_record_length, record_put_record, record_put_record_other, record_put_record_within, slot_put_record}
use Rattle.fresh_volume.specs.Copy.{put_block}

-- ---- f in n places from a on, and s in all others: in no place, and in one more
from_none : {A : Type 0} (f s : ℕ → A) (a k : ℕ) → Dec (k < a) → cond (leb a k && ltb k (a + 0)) (f k) (s k) ≡ s k
from_none f s a k (yes q) = rw (lt-leb a k q)
from_none f s a k (no q) = rw (le-ltb k (a + 0) (omega arith), and-false)

from_one : {A : Type 0} (f s : ℕ → A) (n a k : ℕ) → Dec (k ≡ a) → Dec (k < a)
    → cond (leb (suc a) k && ltb k (suc a + n)) (f k) (cond (eqb k a) (f a) (s k)) ≡ cond (leb a k && ltb k (a + suc n)) (f k) (s k)
from_one f s n a k (yes q) d =
    rw (lt-leb (suc a) k (omega arith), eq-eqb k a q, le-leb a k (omega arith), lt-ltb k (a + suc n) (omega arith)) (ap f (sym q))
from_one f s n a k (no q) (yes d) = rw (lt-leb (suc a) k (omega arith), lt-leb a k d, ne_eqb k a q)
from_one f s n a k (no q) (no d) =
    let z : suc a + n ≡ a + suc n = omega arith in
    rw (le-leb (suc a) k (omega arith), le-leb a k (omega arith), z, ne_eqb k a q)

-- ---- a byte and a piece of n bytes from a on
abbrev Off : ℕ → ℕ → ℕ → Type 0
Off a n z = (z + 1 ≤ a) ⊎ (a + n ≤ z)

in_or_off : (a n z : ℕ) → ((a ≤ z) × (z < a + n)) ⊎ Off a n z
in_or_off a n z = elim (dec_lt z a) [
  | yes h ↦ inr (inl (omega arith))
  | no h ↦ elim (dec_lt z (a + n)) [
    | yes k ↦ inl (omega arith, k)
    | no k ↦ inr (inr (omega arith))
  ]
]

-- one of k pieces has it, or none
record Has (f : ℕ → ℕ) (n low k z : ℕ) : Type 0 where
  piece : ℕ
  from : low ≤ piece
  below : piece < low + k
  left : f piece ≤ z
  right : z < f piece + n

find : (f : ℕ → ℕ) (n z low k : ℕ) → Has f n low k z ⊎ ((i : ℕ) → low ≤ i → i < low + k → Off (f i) n z)
find f n z low zero = inr (λ i a b. absurd (omega arith))
find f n z low (suc k) = go (in_or_off (f low) n z) (find f n z (suc low) k)
  where
    go : ((f low ≤ z) × (z < f low + n)) ⊎ Off (f low) n z → Has f n (suc low) k z ⊎ ((i : ℕ) → suc low ≤ i → i < suc low + k → Off (f i) n z)
        → Has f n low (suc k) z ⊎ ((i : ℕ) → low ≤ i → i < low + suc k → Off (f i) n z)
    go (inl h) d = inl (record { piece = low; from = omega arith; below = omega arith; left = h.0; right = h.1 })
    go (inr o) (inl h) = inl (record { piece = h.piece; from = omega (arith, h.from); below = omega (arith, h.below); left = h.left; right = h.right })
    go (inr o) (inr p) = inr (λ i a b. at i a b (ℕ_discrete i low))
      where
        at : (i : ℕ) → low ≤ i → i < low + suc k → Dec (i ≡ low) → Off (f i) n z
        at i a b (yes e) = rw e o
        at i a b (no e) = p i (omega arith) (omega arith)

-- two lists with the same piece have the same bytes in it, and the other way round
same_byte : (x y : List ℕ) (a n z : ℕ) → a ≤ z → z < a + n → part x a n ≡ part y a n → byte x z ≡ byte y z
same_byte x y a n z low high e =
    let i : z - a < n = omega arith in
    let w : a + (z - a) ≡ z = omega arith in
    rw (← w) (sym (byte_part x a n (z - a) i) ∙ ap (λ (l : List ℕ). byte l (z - a)) e ∙ byte_part y a n (z - a) i)

pub same_part : (x y : List ℕ) (a n : ℕ) → a + n ≤ length x → a + n ≤ length y → ((k : ℕ) → k < n → byte x (a + k) ≡ byte y (a + k)) → part x a n ≡ part y a n
same_part x y a n fits fits-too same =
    let m = length_part x a n fits in
    ext_get_or 0 (part x a n) (part y a n) (m ∙ sym (length_part y a n fits-too))
    (λ k h. let k< : k < n = omega (arith, m) in byte_part x a n k k< ∙ same k k< ∙ sym (byte_part y a n k k<))

module _ (g : Geometry) (good : lawful g ≡ true) where
  -- ---- a record of a block, by its place in the block
  rest_rest : (n : ℕ) → n % records g % records g ≡ n % records g
  rest_rest n = mod-eq_of_lt (mod-lt n (bounds g good).some_records)

  pub record_mod : (v : List ℕ) (b n : ℕ) → record_at g v b (n % records g) ≡ record_at g v b n
  unfolding record_at record_start
  record_mod v b n = ap (λ (x : ℕ). part v (start g (b * records g + x)) 128) (rest_rest n)

  -- ---- what is laid
  abbrev pub OffSlots : ℕ → Type 0
  OffSlots z = (k : ℕ) → k < slots g → Off (slot_start g k) 32 z

  abbrev pub OffRecords : ℕ → Type 0
  OffRecords z = (b n : ℕ) → g.directory_blocks ≤ b → b < g.blocks → Off (record_start g b n) 128 z

  pub record Laid (w : List ℕ) (s : ℕ → Entry) (r : ℕ → ℕ → List ℕ) (x : List ℕ) : Type 0 where
    pub size : length x ≡ bytes g
    pub slot : (k : ℕ) → k < slots g → slot_at g x k ≡ s k
    pub block : (b n : ℕ) → g.directory_blocks ≤ b → b < g.blocks → record_at g x b n ≡ r b (n % records g)
    pub rest : (z : ℕ) → OffSlots z → OffRecords z → byte x z ≡ byte w z

  -- the logical records of the blocks from D to T-1
  low_record : ℕ
  low_record = g.directory_blocks * records g

  many_records : ℕ
  many_records = g.blocks * records g - g.directory_blocks * records g

  record_block_lem : (q : ℕ) → low_record ≤ q → q < low_record + many_records → (g.directory_blocks ≤ q / records g) × (q / records g < g.blocks)
  unfolding low_record many_records
  record_block_lem q low high =
      let some = (bounds g good).some_records in
      ((le-div_iff_mul-le some).1 low, (div-lt_iff_lt-mul some).1 (omega (arith, (bounds g good).part_records)))

  off_records : (z : ℕ) → ((q : ℕ) → low_record ≤ q → q < low_record + many_records → Off (start g q) 128 z) → OffRecords z
  unfolding record_start low_record many_records
  off_records z h b n low high =
      let k : n % records g < records g = mod-lt n (bounds g good).some_records in
      let a : g.directory_blocks * records g ≤ b * records g = mul-le-mul_right (records g) low in
      let c : suc b * records g ≤ g.blocks * records g = mul-le-mul_right (records g) high in
      h (b * records g + n % records g) (omega arith) (omega arith)

  -- byte z of two disks that have the same slots and blocks: where it lies in none of them it is as on the disks that they were laid on
  laid_byte : (w u : List ℕ) (s : ℕ → Entry) (r : ℕ → ℕ → List ℕ) (x y : List ℕ) → Laid w s r x → Laid u s r y → (z : ℕ)
      → (OffSlots z → OffRecords z → byte w z ≡ byte u z) → byte x z ≡ byte y z
  unfolding slot_at record_at record_start
  laid_byte w u s r x y a b z rest = at (find (slot_start g) 32 z 0 (slots g)) (find (start g) 128 z low_record many_records)
    where
      at : Has (slot_start g) 32 0 (slots g) z ⊎ ((i : ℕ) → 0 ≤ i → i < 0 + slots g → Off (slot_start g i) 32 z)
          → Has (start g) 128 low_record many_records z ⊎ ((q : ℕ) → low_record ≤ q → q < low_record + many_records → Off (start g q) 128 z)
          → byte x z ≡ byte y z
      at (inl h) d =
          let k< : h.piece < slots g = omega (arith, h.below) in
          same_byte x y (slot_start g h.piece) 32 z h.left h.right (a.slot h.piece k< ∙ sym (b.slot h.piece k<))
      at (inr o) (inl h) =
          let q = h.piece in
          let in_block = record_block_lem q h.from h.below in
          let e : q / records g * records g + q % records g ≡ q = div-add-mod' q (records g) in
          same_byte x y (start g q) 128 z h.left h.right
          (rw e at (a.block (q / records g) q in_block.0 in_block.1 ∙ sym (b.block (q / records g) q in_block.0 in_block.1)))
      at (inr o) (inr p) =
          let i : OffSlots z = λ k h. o k (omega arith) (omega arith) in
          let j : OffRecords z = off_records z p in
          a.rest z i j ∙ rest i j ∙ sym (b.rest z i j)

  pub laid_same : (w : List ℕ) (s : ℕ → Entry) (r : ℕ → ℕ → List ℕ) (x y : List ℕ) → Laid w s r x → Laid w s r y → x ≡ y
  laid_same w s r x y a b = ext_get_or 0 x y (a.size ∙ sym b.size) (λ z h. laid_byte w w s r x y a b z (λ i j. refl))

  -- ---- the logical records: each of their bytes lies in a slot or in a block, so they do not depend on what a disk was laid on
  in_volume : (q : ℕ) → q < g.blocks * records g → (k : ℕ) → k < 128 → OffSlots (start g q + k) → OffRecords (start g q + k) → ⊥
  unfolding slot_start record_start
  in_volume q q< k k< i j = elim (dec_lt q (g.directory_blocks * records g)) [
    | yes h ↦
        let at : (q * 4 + k / 32) / 4 ≡ q = omega arith in
        let e : start g ((q * 4 + k / 32) / 4) ≡ start g q = ap (start g) at in
        ⊎_elim (λ o. omega (arith, e, o)) (λ o. omega (arith, e, o)) (i (q * 4 + k / 32) (omega arith))
    | no h ↦
        let some = (bounds g good).some_records in
        let e : q / records g * records g + q % records g ≡ q = div-add-mod' q (records g) in
        ⊎_elim (λ o. omega (arith, o)) (λ o. omega (arith, o))
        (rw e at (j (q / records g) q ((le-div_iff_mul-le some).1 (omega arith)) ((div-lt_iff_lt-mul some).1 q<)))
  ]

  module _ (w u : List ℕ) (s : ℕ → Entry) (r : ℕ → ℕ → List ℕ) (x y : List ℕ) (a : Laid w s r x) (b : Laid u s r y) where
    pub laid_volume : (q : ℕ) → q < g.blocks * records g → part x (start g q) 128 ≡ part y (start g q) 128
    laid_volume q q< =
        let fits = start_in g good q q< in
        same_part x y (start g q) 128 (omega (arith, a.size)) (omega (arith, b.size))
        (λ k k<. laid_byte w u s r x y a b (start g q + k) (λ i j. absurd (in_volume q q< k k< i j)))

    -- where records lie one behind the other these are all bytes
    pub laid_straight : g.placing ≡ 0 → x ≡ y
    laid_straight e = ext_get_or 0 x y (a.size ∙ sym b.size) (λ z h. laid_byte w u s r x y a b z (λ i j. absurd (off z h i j)))
      where
        off : (z : ℕ) → z < length x → OffSlots z → OffRecords z → ⊥
        off z h i j =
            let q< : z / 128 < g.blocks * records g = omega (arith, a.size, bytes_straight g e, (bounds g good).whole_records) in
            let at : start g (z / 128) + z % 128 ≡ z = rw (start_straight g good (z / 128) e) (omega arith) in
            in_volume (z / 128) q< (z % 128) (omega arith) (rw at i) (rw at j)

  -- a byte in no logical record is as it was
  pub laid_spare : (w : List ℕ) (s : ℕ → Entry) (r : ℕ → ℕ → List ℕ) (x : List ℕ) → Laid w s r x
      → (z : ℕ) → ((q : ℕ) → q < g.blocks * records g → Off (start g q) 128 z) → byte x z ≡ byte w z
  unfolding slot_start low_record many_records
  laid_spare w s r x a z h =
      a.rest z
      (λ k k<. ⊎_elim (λ o. inl (omega (arith, o))) (λ o. inr (omega (arith, o))) (h (k / 4) (slot_record_below g good k k<)))
      (off_records z (λ q low high. h q (omega (arith, (bounds g good).part_records))))

  pub laid_ext : (w : List ℕ) (s t : ℕ → Entry) (r q : ℕ → ℕ → List ℕ) (x : List ℕ) → ((k : ℕ) → k < slots g → s k ≡ t k)
      → ((b n : ℕ) → g.directory_blocks ≤ b → b < g.blocks → n < records g → r b n ≡ q b n) → Laid w s r x → Laid w t q x
  laid_ext w s t r q x e f a = record {
    size = a.size;
    slot = λ k h. a.slot k h ∙ e k h;
    block = λ b n low high. a.block b n low high ∙ f b (n % records g) low high (mod-lt n (bounds g good).some_records);
    rest = a.rest;
  }

  -- nothing is laid yet
  pub laid_none : (w : List ℕ) → length w ≡ bytes g → Laid w (slot_at g w) (record_at g w) w
  laid_none w size = record { size = size; slot = λ k h. refl; block = λ b n low high. sym (record_mod w b n); rest = λ z i j. refl }

  -- ---- an entry laid into slot k
  abbrev pub with_slot : (ℕ → Entry) → ℕ → Entry → ℕ → Entry
  with_slot s k e j = cond (eqb j k) e (s j)

  pub laid_slot : (w : List ℕ) (s : ℕ → Entry) (r : ℕ → ℕ → List ℕ) (x : List ℕ) → Laid w s r x
      → (k : ℕ) → k < slots g → (e : Entry) → length e ≡ 32 → Laid w (with_slot s k e) r (put_slot g x k e)
  laid_slot w s r x a k k< e e32 = record {
    size = put_slot_length g good x a.size k k< e e32 ∙ a.size;
    slot = λ j j<. at j j< (ℕ_discrete j k);
    block = λ b n low high. record_put_slot g good x a.size k k< e e32 b n low high ∙ a.block b n low high;
    rest = λ z i j. unfold put_slot in byte_out x (slot_start g k) 32 e (slot_inside g good x a.size k k<) e32 z (i k k<) ∙ a.rest z i j;
  }
    where
      at : (j : ℕ) → j < slots g → Dec (j ≡ k) → slot_at g (put_slot g x k e) j ≡ cond (eqb j k) e (s j)
      at j j< (yes q) = ap (slot_at g (put_slot g x k e)) q ∙ slot_put_slot g good x a.size k k< e e32 ∙ sym (rw (eq-eqb j k q))
      at j j< (no q) = slot_put_slot_other g good x a.size k k< e e32 j j< q ∙ a.slot j j< ∙ sym (rw (ne_eqb j k q))

  -- entries laid into n slots from a on
  pub laid_slots : (w : List ℕ) (r : ℕ → ℕ → List ℕ) (f : ℕ → Entry) → ((k : ℕ) → k < slots g → length (f k) ≡ 32)
      → (n a : ℕ) (s : ℕ → Entry) (x : List ℕ) → a + n ≤ slots g → Laid w s r x
      → Laid w (λ k. cond (leb a k && ltb k (a + n)) (f k) (s k)) r (fold (λ y k. put_slot g y k (f k)) x a n)
  unfolding fold
  laid_slots w r f size zero a s x h l =
      laid_ext w s (λ k. cond (leb a k && ltb k (a + 0)) (f k) (s k)) r r x (λ k k<. sym (from_none f s a k (dec_lt k a))) (λ b n low high q. refl) l
  laid_slots w r f size (suc n) a s x h l =
      let first = laid_slot w s r x l a (omega arith) (f a) (size a (omega arith)) in
      laid_ext w (λ k. cond (leb (suc a) k && ltb k (suc a + n)) (f k) (with_slot s a (f a) k)) (λ k. cond (leb a k && ltb k (a + suc n)) (f k) (s k)) r r
      (fold (λ y k. put_slot g y k (f k)) (put_slot g x a (f a)) (suc a) n)
      (λ k k<. from_one f s n a k (ℕ_discrete k a) (dec_lt k a)) (λ b m low high q. refl)
      (laid_slots w r f size n (suc a) (with_slot s a (f a)) (put_slot g x a (f a)) (omega arith) first)

  -- ---- records laid into block b
  abbrev pub with_blocks : (ℕ → ℕ → List ℕ) → ℕ → (ℕ → List ℕ) → ℕ → ℕ → List ℕ
  with_blocks r b h c n = cond (eqb c b) (h n) (r c n)

  -- the first k of them
  abbrev with_first : (ℕ → ℕ → List ℕ) → ℕ → (ℕ → List ℕ) → ℕ → ℕ → ℕ → List ℕ
  with_first r b h k c n = cond (eqb c b && ltb n k) (h n) (r c n)

  laid_record : (w : List ℕ) (s : ℕ → Entry) (r : ℕ → ℕ → List ℕ) (h : ℕ → List ℕ) (b k : ℕ) → g.directory_blocks ≤ b → b < g.blocks → k < records g
      → length (h k) ≡ 128 → (x : List ℕ) → Laid w s (with_first r b h k) x → Laid w s (with_first r b h (suc k)) (put_record g x b k (h k))
  laid_record w s r h b k low high k< h128 x a = record {
    size = put_record_length g good x a.size b k high (h k) h128 ∙ a.size;
    slot = λ j j<. slot_put_record g good x a.size b k high (h k) h128 low j j< ∙ a.slot j j<;
    block = λ c n c-low c-high. at c n c-low c-high (ℕ_discrete c b) (ℕ_discrete (n % records g) k);
    rest = λ z i j. unfold put_record in byte_out x (record_start g b k) 128 (h k) (record_inside g good x a.size b k high) h128 z (j b k low high) ∙ a.rest z i j;
  }
    where
      kk : k % records g ≡ k
      kk = mod-eq_of_lt k<

      at : (c n : ℕ) → g.directory_blocks ≤ c → c < g.blocks → Dec (c ≡ b) → Dec (n % records g ≡ k)
          → record_at g (put_record g x b k (h k)) c n ≡ with_first r b h (suc k) c (n % records g)
      at c n c-low c-high (no q) d =
          record_put_record_other g good x a.size b k high (h k) h128 c n c-high q ∙ a.block c n c-low c-high ∙ rw (ne_eqb c b q)
      at c n c-low c-high (yes q) (yes e) =
          ap (λ (y : ℕ). record_at g (put_record g x b k (h k)) y n) q ∙ sym (record_mod (put_record g x b k (h k)) b n) ∙ ap (record_at g (put_record g x b k (h k)) b) e
          ∙ record_put_record g good x a.size b k high (h k) h128
          ∙ sym (rw (eq-eqb c b q, e, lt-ltb k (suc k) (omega arith)))
      at c n c-low c-high (yes q) (no e) =
          ap (λ (y : ℕ). record_at g (put_record g x b k (h k)) y n) q
          ∙ record_put_record_within g good x a.size b k high (h k) h128 n (λ f. e (f ∙ kk))
          ∙ a.block b n low high ∙ within (dec_lt (n % records g) k)
        where
          within : Dec (n % records g < k) → with_first r b h k b (n % records g) ≡ with_first r b h (suc k) c (n % records g)
          within (yes l) = rw (eq-eqb b b refl, eq-eqb c b q, lt-ltb (n % records g) k l, lt-ltb (n % records g) (suc k) (omega arith))
          within (no l) = rw (eq-eqb b b refl, eq-eqb c b q, le-ltb (n % records g) k (omega arith), le-ltb (n % records g) (suc k) (omega arith), q)

  laid_first : (w : List ℕ) (s : ℕ → Entry) (r : ℕ → ℕ → List ℕ) (h : ℕ → List ℕ) (b : ℕ) → g.directory_blocks ≤ b → b < g.blocks
      → ((n : ℕ) → n < records g → length (h n) ≡ 128)
      → (n k : ℕ) → k + n ≤ records g → (x : List ℕ) → Laid w s (with_first r b h k) x → Laid w s (with_first r b h (k + n)) (fold (λ y m. put_record g y b m (h m)) x k n)
  unfolding fold
  laid_first w s r h b low high h128 zero k fits x a = let z : k + 0 ≡ k = omega arith in rw z a
  laid_first w s r h b low high h128 (suc n) k fits x a =
      let z : k + suc n ≡ suc k + n = omega arith in
      rw z (laid_first w s r h b low high h128 n (suc k) (omega arith) (put_record g x b k (h k)) (laid_record w s r h b k low high (omega arith) (h128 k (omega arith)) x a))

  pub laid_block : (w : List ℕ) (s : ℕ → Entry) (r : ℕ → ℕ → List ℕ) (h : ℕ → List ℕ) (b : ℕ) → g.directory_blocks ≤ b → b < g.blocks
      → ((n : ℕ) → n < records g → length (h n) ≡ 128) → (x : List ℕ) → Laid w s r x → Laid w s (with_blocks r b h) (put_block g x b h)
  unfolding put_block
  laid_block w s r h b low high h128 x a =
      let z : 0 + records g ≡ records g = omega arith in
      let start = laid_ext w s s r (with_first r b h 0) x (λ k k<. refl) (λ c n c-low c-high n<. sym (nothing c n)) a in
      let all = rw z at (laid_first w s r h b low high h128 (records g) 0 (omega arith) x start) in
      laid_ext w s s (with_first r b h (records g)) (with_blocks r b h) (fold (λ y m. put_record g y b m (h m)) x 0 (records g)) (λ k k<. refl)
      (λ c n c-low c-high n<. whole c n n< (eqb c b)) all
    where
      nothing : (c n : ℕ) → with_first r b h 0 c n ≡ r c n
      nothing c n = rw (le-ltb n 0 (omega arith), and-false (eqb c b))

      whole : (c n : ℕ) → n < records g → (t : Bool) → cond (t && ltb n (records g)) (h n) (r c n) ≡ cond t (h n) (r c n)
      whole c n n< true = rw (lt-ltb n (records g) n<)
      whole c n n< false = refl

  -- n blocks from a on
  pub laid_blocks : (w : List ℕ) (s : ℕ → Entry) (f : ℕ → ℕ → List ℕ)
      → ((b n : ℕ) → g.directory_blocks ≤ b → b < g.blocks → n < records g → length (f b n) ≡ 128)
      → (n a : ℕ) (r : ℕ → ℕ → List ℕ) (x : List ℕ) → g.directory_blocks ≤ a → a + n ≤ g.blocks → Laid w s r x
      → Laid w s (λ b m. cond (leb a b && ltb b (a + n)) (f b m) (r b m)) (fold (λ y b. put_block g y b (f b)) x a n)
  unfolding fold
  laid_blocks w s f size zero a r x low h l =
      laid_ext w s s r (λ b m. cond (leb a b && ltb b (a + 0)) (f b m) (r b m)) x (λ k k<. refl) (λ b m b-low b-high m<. sym (from_none (λ c. f c m) (λ c. r c m) a b (dec_lt b a))) l
  laid_blocks w s f size (suc n) a r x low h l =
      let first = laid_block w s r (f a) a low (omega arith) (λ m m<. size a m low (omega arith) m<) x l in
      laid_ext w s s (λ b m. cond (leb (suc a) b && ltb b (suc a + n)) (f b m) (with_blocks r a (f a) b m)) (λ b m. cond (leb a b && ltb b (a + suc n)) (f b m) (r b m))
      (fold (λ y b. put_block g y b (f b)) (put_block g x a (f a)) (suc a) n) (λ k k<. refl)
      (λ b m b-low b-high m<. from_one (λ c. f c m) (λ c. r c m) n a b (ℕ_discrete b a) (dec_lt b a))
      (laid_blocks w s f size n (suc a) (with_blocks r a (f a)) (put_block g x a (f a)) (omega arith) (omega arith) first)
