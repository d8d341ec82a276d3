-- What a lawful geometry's sizes are, and where its records and slots lie: inside the volume, and apart from each other.
-- Only `start-straight`, `start-floppy`, `start-in` and `start-apart` know how records lie. Of two things apart the first lies before
-- the second, or behind it.
use mathlib.Core.Path.{◌≡◌, refl, sym, ap, ◌∙◌}
use mathlib.Core.Bool.{Bool, true, false, ◌&&◌, ◌||◌, and-true, true≢false}
use mathlib.Core.Logic.{◌⊎◌, inl, inr, ⊎_elim, ◌≢◌}
use Prim.Native.Nat.{ℕ, suc, ◌+◌, ◌*◌, ◌/◌, ◌%◌, ◌^◌, ◌≤◌, ◌<◌}
use native.Mathlib.Decide.{ℕ_discrete}
use native.Mathlib.Nat.{mul_comm, mul-le-mul, mul-le-mul_right, mod-lt, div-lt_iff_lt-mul, div-add-mod', div-div-eq-div-mul}
use native.Mathlib.Omega.{arith}
use lib.Arith.{digits_lt, digits_div, mod-mul}
use lib.Dec.{leb, eqb}
use borrow.Author.Tests.{leb-true, ltb-true, eqb-true}
use Rattle.lists.proofs.BoolLaws.{and_parts, and_left}
use Rattle.disk_geometry.specs.declared.Geometry.{Geometry}
use Rattle.disk_geometry.specs.EightInch.{track_records, image_bytes, image_start}
use Rattle.disk_geometry.specs.Geometry.{straight, with_placing, floppy, is_floppy, lawful_sizes, lawful, bytes, number_bytes, records, extents, start, slots, slot_start, record_start, group_of, place_of, places}
use Rattle.disk_geometry.proofs.EightInchLaws.{less_or_more, image_in, image_apart}

-- ---- the map of an entry, of any geometry: its numbers take one byte or two, and fill it
pub record MapSizes (g : Geometry) : Type 0 where
  pub some_bytes : 1 ≤ number_bytes g
  pub few_bytes : number_bytes g ≤ 2
  pub full : places g * number_bytes g ≡ 16
  pub places_high : places g ≤ 16

pub map_sizes : (g : Geometry) → MapSizes g
unfolding places
map_sizes g = go (leb g.blocks 256) refl
  where
    go : (t : Bool) → leb g.blocks 256 ≡ t → MapSizes g
    go true q = record { some_bytes = rw q (omega arith); few_bytes = rw q (omega arith); full = rw q; places_high = rw q (omega arith) }
    go false q = record { some_bytes = rw q (omega arith); few_bytes = rw q (omega arith); full = rw q; places_high = rw q (omega arith) }

-- ---- the placing
-- the numbers of an eight-inch disk
pub record Floppy (g : Geometry) : Type 0 where
  pub placed : g.placing ≡ 1
  pub block : g.block_bytes ≡ 1024
  pub blocks_are : g.blocks ≡ 243
  pub directory : g.directory_blocks ≡ 2

pub is_floppy_lem : (g : Geometry) → is_floppy g ≡ true → Floppy g
is_floppy_lem g e =
    let p = and_parts _ _ e in
    let q = and_parts _ _ p.0 in
    let r = and_parts _ _ q.0 in
    record { placed = eqb-true _ _ r.0; block = eqb-true _ _ r.1; blocks_are = eqb-true _ _ q.1; directory = eqb-true _ _ p.1 }

is_floppy_test : (g : Geometry) → Floppy g → is_floppy g ≡ true
is_floppy_test g f = rw (f.placed, f.block, f.blocks_are, f.directory)

placed_by : (g : Geometry) → eqb g.placing 0 || is_floppy g ≡ true → (g.placing ≡ 0) ⊎ Floppy g
placed_by g e = go (eqb g.placing 0) refl e
  where
    go : (t : Bool) → eqb g.placing 0 ≡ t → t || is_floppy g ≡ true → (g.placing ≡ 0) ⊎ Floppy g
    go true q f = inl (eqb-true _ _ q)
    go false q f = inr (is_floppy_lem g f)

-- the volume's length, by the placing
pub bytes_straight : (g : Geometry) → g.placing ≡ 0 → bytes g ≡ g.blocks * g.block_bytes
unfolding bytes
bytes_straight g e = rw e

pub bytes_floppy : (g : Geometry) → g.placing ≡ 1 → bytes g ≡ image_bytes
unfolding bytes
bytes_floppy g e = rw e

-- ---- the sizes
pub record Bounds (g : Geometry) : Type 0 where
  pub block_sizes : (g.block_bytes ≡ 1024) ⊎ ((g.block_bytes ≡ 2048) ⊎ (g.block_bytes ≡ 4096))
  pub block_low : 1024 ≤ g.block_bytes
  pub block_high : g.block_bytes ≤ 4096
  pub blocks_low : 2 ≤ g.blocks
  pub blocks_high : g.blocks ≤ 4096
  pub directory_low : 1 ≤ g.directory_blocks
  pub directory_high : g.directory_blocks ≤ 16
  pub directory_below : g.directory_blocks < g.blocks
  pub block_records : records g * 128 ≡ g.block_bytes
  pub number_fits : g.blocks ≤ 256 ^ number_bytes g
  pub some_records : 0 < records g
  pub some_extents : 0 < extents g
  pub few_extents : extents g ≤ 4
  pub entry_records_lem : places g * records g ≡ 128 * extents g
  pub whole : g.blocks * g.block_bytes ≤ 8388608
  pub part : g.directory_blocks * g.block_bytes ≤ g.blocks * g.block_bytes
  pub whole_records : g.blocks * g.block_bytes ≡ g.blocks * records g * 128
  pub part_records : g.directory_blocks * records g ≤ g.blocks * records g
  pub slots_bytes : slots g * 32 ≡ g.directory_blocks * g.block_bytes
  pub slots_high : slots g ≤ 2048
  pub placed : (g.placing ≡ 0) ⊎ Floppy g
  pub bytes_high : bytes g ≤ 8388608

-- each of the three block sizes is a number of records
in_records : (b : ℕ) → (b ≡ 1024) ⊎ ((b ≡ 2048) ⊎ (b ≡ 4096)) → (b / 128 * 128 ≡ b) × ((1024 ≤ b) × (b ≤ 4096))
in_records b (inl e) = (omega arith, (omega arith, omega arith))
in_records b (inr (inl e)) = (omega arith, (omega arith, omega arith))
in_records b (inr (inr e)) = (omega arith, (omega arith, omega arith))

one_of_three : (a b c : Bool) {x y z : Type 0} → (a ≡ true → x) → (b ≡ true → y) → (c ≡ true → z) → (a || b || c) ≡ true → x ⊎ (y ⊎ z)
one_of_three true b c f g h e = inl (f refl)
one_of_three false true c f g h e = inr (inl (g refl))
one_of_three false false c f g h e = inr (inr (h e))

-- what numbers of w bytes give an entry, for blocks of b bytes of which there are t
record Entries (t b w : ℕ) : Type 0 where
  fits : t ≤ 256 ^ w
  some : 0 < b / (1024 * w)
  few : b / (1024 * w) ≤ 4
  filled : 16 / w * (b / 128) ≡ 128 * (b / (1024 * w))

one_byte : (t b : ℕ) → (b ≡ 1024) ⊎ ((b ≡ 2048) ⊎ (b ≡ 4096)) → t ≤ 256 → Entries t b 1
one_byte t b sizes low =
    let k = in_records b sizes in
    record { fits = low; some = omega arith; few = omega arith; filled = filled sizes }
  where
    filled : (b ≡ 1024) ⊎ ((b ≡ 2048) ⊎ (b ≡ 4096)) → 16 * (b / 128) ≡ 128 * (b / 1024)
    filled (inl e) = omega arith
    filled (inr (inl e)) = omega arith
    filled (inr (inr e)) = omega arith

two_bytes : (t b : ℕ) → (b ≡ 1024) ⊎ ((b ≡ 2048) ⊎ (b ≡ 4096)) → t ≤ 4096 → 2048 ≤ b → Entries t b 2
two_bytes t b sizes low wide =
    let k = in_records b sizes in
    record { fits = omega arith; some = omega arith; few = omega arith; filled = filled sizes }
  where
    filled : (b ≡ 1024) ⊎ ((b ≡ 2048) ⊎ (b ≡ 4096)) → 8 * (b / 128) ≡ 128 * (b / 2048)
    filled (inl e) = absurd (omega arith)
    filled (inr (inl e)) = omega arith
    filled (inr (inr e)) = omega arith

-- the two kinds of volume: up to T 256, and above
record Sized (g : Geometry) : Type 0 where
  high : g.blocks ≤ 4096
  whole : g.blocks * g.block_bytes ≤ 8388608
  entries : Entries g.blocks g.block_bytes (number_bytes g)

sized : (g : Geometry) → (g.block_bytes ≡ 1024) ⊎ ((g.block_bytes ≡ 2048) ⊎ (g.block_bytes ≡ 4096))
    → leb g.blocks 256 || (leb g.blocks 4096 && leb 2048 g.block_bytes && leb (g.blocks * g.block_bytes) 8388608) ≡ true → Sized g
sized g sizes e = go (leb g.blocks 256) refl e
  where
    go : (t : Bool) → leb g.blocks 256 ≡ t → t || (leb g.blocks 4096 && leb 2048 g.block_bytes && leb (g.blocks * g.block_bytes) 8388608) ≡ true → Sized g
    go true q f =
        let low : g.blocks ≤ 256 = leb-true _ _ q in
        record { high = omega arith; whole = omega (arith, mul-le-mul low (in_records g.block_bytes sizes).1.1); entries = rw q (one_byte _ _ sizes low) }
    go false q f =
        let p = and_parts _ _ f in
        let r = and_parts _ _ p.0 in
        record { high = leb-true _ _ r.0; whole = leb-true _ _ p.1; entries = rw q (two_bytes _ _ sizes (leb-true _ _ r.0) (leb-true _ _ r.1)) }

pub bounds : (g : Geometry) → lawful g ≡ true → Bounds g
unfolding lawful places
bounds g e =
    let p₀ = and_parts (lawful_sizes g) (eqb g.placing 0 || is_floppy g) e in
    let p₁ = and_parts _ _ p₀.0 in
    let p₂ = and_parts _ _ p₁.0 in
    let p₃ = and_parts _ _ p₂.0 in
    let p₄ = and_parts _ _ p₃.0 in
    let p₅ = and_parts _ _ p₄.0 in
    let three = one_of_three _ _ _ (eqb-true g.block_bytes 1024) (eqb-true g.block_bytes 2048) (eqb-true g.block_bytes 4096) p₅.0 in
    let s = in_records g.block_bytes three in
    let k = sized g three p₄.1 in
    let r : g.block_bytes / 128 * 128 ≡ g.block_bytes = s.0 in
    let lt : g.directory_blocks < g.blocks = ltb-true _ _ p₁.1 in
    let dh : g.directory_blocks ≤ 16 = leb-true _ _ p₂.1 in
    let t : g.blocks * g.block_bytes ≡ g.blocks * (g.block_bytes / 128 * 128) = ap (λ (x : ℕ). g.blocks * x) (sym r) in
    let d : g.directory_blocks * g.block_bytes ≡ g.directory_blocks * (g.block_bytes / 128 * 128) = ap (λ (x : ℕ). g.directory_blocks * x) (sym r) in
    let m : g.directory_blocks * g.block_bytes ≤ 16 * 4096 = mul-le-mul dh s.1.1 in
    record {
      block_sizes = three;
      block_low = s.1.0;
      block_high = s.1.1;
      blocks_low = leb-true _ _ p₅.1;
      blocks_high = k.high;
      directory_low = leb-true _ _ p₃.1;
      directory_high = dh;
      directory_below = lt;
      block_records = r;
      some_records = omega arith;
      number_fits = k.entries.fits;
      some_extents = k.entries.some;
      few_extents = k.entries.few;
      entry_records_lem = k.entries.filled;
      whole = k.whole;
      part = mul-le-mul (omega arith) (omega arith);
      whole_records = omega arith;
      part_records = mul-le-mul_right (g.block_bytes / 128) (omega arith);
      slots_bytes = omega arith;
      slots_high = omega arith;
      placed = placed_by g p₀.1;
      bytes_high =
          ⊎_elim
          (λ (z : g.placing ≡ 0). rw (bytes_straight g z) k.whole)
          (λ (f : Floppy g). rw (bytes_floppy g f.placed) (omega arith))
          (placed_by g p₀.1);
    }

-- a lawful geometry that is not straight is that of an eight-inch disk
pub placed_floppy : (g : Geometry) → lawful g ≡ true → g.placing ≢ 0 → Floppy g
placed_floppy g good ne = ⊎_elim (λ (z : g.placing ≡ 0). absurd (ne z)) (λ (f : Floppy g). f) (bounds g good).placed

pub is_the_floppy : (g : Geometry) → Floppy g → g ≡ floppy
is_the_floppy g f = λ i. record { block_bytes = f.block i; blocks = f.blocks_are i; directory_blocks = f.directory i; placing = f.placed i }

floppy_lawful : (g : Geometry) → Floppy g → lawful g ≡ true
unfolding lawful
floppy_lawful g f = rw (f.placed, f.block, f.blocks_are, f.directory)

-- a straight geometry is lawful by its sizes alone
pub lawful_straight : (g : Geometry) → g.placing ≡ 0 → lawful g ≡ lawful_sizes g
unfolding lawful
lawful_straight g e = rw e (and-true _)

pub straight_lawful : (g : Geometry) → lawful g ≡ true → lawful (with_placing g straight) ≡ true
unfolding lawful
straight_lawful g e = lawful_straight (with_placing g straight) refl ∙ and_left _ _ e

-- a placing that is not straight is lawful with the numbers of an eight-inch disk, and with no others
pub lawful_placed : (g : Geometry) → g.placing ≢ 0 → lawful g ≡ is_floppy g
lawful_placed g ne = go (is_floppy g) refl
  where
    go : (t : Bool) → is_floppy g ≡ t → lawful g ≡ t
    go true e = floppy_lawful g (is_floppy_lem g e)
    go false e = not_lawful (lawful g) refl
      where
        not_lawful : (u : Bool) → lawful g ≡ u → u ≡ false
        not_lawful false p = refl
        not_lawful true p = absurd (true≢false (sym (is_floppy_test g (placed_floppy g p ne)) ∙ e))

-- ---- where records and slots lie
-- the records of an eight-inch disk's blocks are some of its tracks'
pub floppy_record : (g : Geometry) → Floppy g → (q : ℕ) → q < g.blocks * records g → q < track_records
floppy_record g f q h = let k : q < 243 * (1024 / 128) = rw (f.blocks_are, f.block) at h in omega arith

module _ (g : Geometry) (good : lawful g ≡ true) where
  -- on a straight volume one record lies behind the other
  pub start_straight : (q : ℕ) → g.placing ≡ 0 → start g q ≡ q * 128
  unfolding start
  start_straight q e = rw e

  pub start_floppy : (q : ℕ) → g.placing ≡ 1 → start g q ≡ image_start q
  unfolding start
  start_floppy q e = rw e

  pub start_in : (q : ℕ) → q < g.blocks * records g → start g q + 128 ≤ bytes g
  start_in q h =
      ⊎_elim
      (λ (e : g.placing ≡ 0).
      let a : suc q * 128 ≤ g.blocks * records g * 128 = mul-le-mul_right 128 h in
      rw (start_straight q e, bytes_straight g e) (omega (arith, bounds g good)))
      (λ (f : Floppy g). rw (start_floppy q f.placed, bytes_floppy g f.placed) (image_in q (floppy_record g f q h)))
      (bounds g good).placed

  pub start_apart : (p q : ℕ) → p < g.blocks * records g → q < g.blocks * records g → p ≢ q
      → (start g p + 128 ≤ start g q) ⊎ (start g q + 128 ≤ start g p)
  start_apart p q hp hq ne =
      ⊎_elim
      (λ (e : g.placing ≡ 0).
      rw (start_straight p e, start_straight q e)
      (⊎_elim (λ (k : p < q). inl (omega arith)) (λ (k : q < p). inr (omega arith)) (less_or_more p q ne)))
      (λ (f : Floppy g). rw (start_floppy p f.placed, start_floppy q f.placed) (image_apart p q ne))
      (bounds g good).placed

  -- ---- slots
  -- the record that holds slot i is one of the directory's
  pub slot_record_below_directory : (i : ℕ) → i < slots g → i / 4 < g.directory_blocks * records g
  slot_record_below_directory i h = omega arith

  pub slot_record_below : (i : ℕ) → i < slots g → i / 4 < g.blocks * records g
  slot_record_below i h = omega (arith, bounds g good)

  -- on a straight volume one slot lies behind the other
  pub slot_straight : (i : ℕ) → g.placing ≡ 0 → slot_start g i ≡ i * 32
  unfolding slot_start
  slot_straight i e = rw (start_straight (i / 4) e) (omega arith)

  pub slot_in : (i : ℕ) → i < slots g → slot_start g i + 32 ≤ bytes g
  unfolding slot_start
  slot_in i h = omega (arith, start_in (i / 4) (slot_record_below i h))

  pub slots_apart : (i j : ℕ) → i < slots g → j < slots g → i ≢ j → (slot_start g i + 32 ≤ slot_start g j) ⊎ (slot_start g j + 32 ≤ slot_start g i)
  unfolding slot_start
  slots_apart i j hi hj ne = go (ℕ_discrete (i / 4) (j / 4))
    where
      go : Dec (i / 4 ≡ j / 4) → (start g (i / 4) + i % 4 * 32 + 32 ≤ start g (j / 4) + j % 4 * 32) ⊎ (start g (j / 4) + j % 4 * 32 + 32 ≤ start g (i / 4) + i % 4 * 32)
      go (yes z) =
          let s : start g (i / 4) ≡ start g (j / 4) = ap (start g) z in
          ⊎_elim (λ (k : i % 4 < j % 4). inl (omega arith)) (λ (k : j % 4 < i % 4). inr (omega arith)) (less_or_more (i % 4) (j % 4) (omega arith))
      go (no z) =
          ⊎_elim
          (λ (k : start g (i / 4) + 128 ≤ start g (j / 4)). inl (omega arith))
          (λ (k : start g (j / 4) + 128 ≤ start g (i / 4)). inr (omega arith))
          (start_apart (i / 4) (j / 4) (slot_record_below i hi) (slot_record_below j hj) z)

  -- ---- records of blocks
  -- the logical record that record n in block b is
  pub record_below : (b n : ℕ) → b < g.blocks → b * records g + n % records g < g.blocks * records g
  record_below b n h = digits_lt h (mod-lt n (bounds g good).some_records)

  pub record_in : (b n : ℕ) → b < g.blocks → record_start g b n + 128 ≤ bytes g
  unfolding record_start
  record_in b n h = start_in (b * records g + n % records g) (record_below b n h)

  pub records_apart : (b c n m : ℕ) → b < g.blocks → c < g.blocks → b ≢ c → (record_start g b n + 128 ≤ record_start g c m) ⊎ (record_start g c m + 128 ≤ record_start g b n)
  unfolding record_start
  records_apart b c n m hb hc ne =
      start_apart (b * records g + n % records g) (c * records g + m % records g) (record_below b n hb) (record_below c m hc)
      (λ e. ne (sym (digits_div b (mod-lt n (bounds g good).some_records)) ∙ ap (λ (x : ℕ). x / records g) e ∙ digits_div c (mod-lt m (bounds g good).some_records)))

  pub records_apart_within : (b n m : ℕ) → b < g.blocks → n % records g ≢ m % records g
      → (record_start g b n + 128 ≤ record_start g b m) ⊎ (record_start g b m + 128 ≤ record_start g b n)
  unfolding record_start
  records_apart_within b n m h ne =
      start_apart (b * records g + n % records g) (b * records g + m % records g) (record_below b n h) (record_below b m h) (λ e. ne (omega arith))

  -- a slot and a record of a block from D to T-1
  pub slot_record_apart : (i b n : ℕ) → i < slots g → g.directory_blocks ≤ b → b < g.blocks
      → (slot_start g i + 32 ≤ record_start g b n) ⊎ (record_start g b n + 128 ≤ slot_start g i)
  unfolding slot_start record_start
  slot_record_apart i b n hi low high =
      let a : g.directory_blocks * records g ≤ b * records g = mul-le-mul_right (records g) low in
      ⊎_elim
      (λ (k : start g (i / 4) + 128 ≤ start g (b * records g + n % records g)). inl (omega arith))
      (λ (k : start g (b * records g + n % records g) + 128 ≤ start g (i / 4)). inr (omega arith))
      (start_apart (i / 4) (b * records g + n % records g) (slot_record_below i hi) (record_below b n high) (omega (arith, slot_record_below_directory i hi)))

  -- ---- places
  pub place_lt : (n : ℕ) → place_of g n < places g
  unfolding place_of
  place_lt n =
      let k : n % (128 * extents g) < 128 * extents g = mod-lt n (omega (arith, bounds g good)) in
      (div-lt_iff_lt-mul (bounds g good).some_records).1 (rw (bounds g good).entry_records_lem k)

  -- place and group by the number of blocks' worth of records before it
  place_of_block : (n : ℕ) → place_of g n ≡ n / records g % places g
  unfolding place_of
  place_of_block n =
      let some = (bounds g good).some_records in
      let k : n % (128 * extents g) ≡ n / records g % places g * records g + n % records g
      = rw (← (bounds g good).entry_records_lem) (mod-mul n {m = places g} {c = records g} (omega (arith, place_lt n)) some) in
      rw k (digits_div (n / records g % places g) (mod-lt n some))

  group_of_block : (n : ℕ) → group_of g (n / 128) ≡ n / records g / places g
  unfolding group_of
  group_of_block n =
      let m : records g * places g ≡ 128 * extents g = mul_comm (records g) (places g) ∙ (bounds g good).entry_records_lem in
      div-div-eq-div-mul n 128 (extents g) ∙ ap (λ (x : ℕ). n / x) (sym m) ∙ sym (div-div-eq-div-mul n (records g) (places g))

  -- two records of one block have one place in one group
  pub same_place : (m n : ℕ) → m / records g ≡ n / records g → place_of g m ≡ place_of g n
  same_place m n e = place_of_block m ∙ ap (λ (x : ℕ). x % places g) e ∙ sym (place_of_block n)

  pub same_group : (m n : ℕ) → m / records g ≡ n / records g → group_of g (m / 128) ≡ group_of g (n / 128)
  same_group m n e = group_of_block m ∙ ap (λ (x : ℕ). x / places g) e ∙ sym (group_of_block n)

  -- a record's number from its group, its place and its place in the block
  pub record_number : (n : ℕ) → n ≡ group_of g (n / 128) * (128 * extents g) + (place_of g n * records g + n % records g)
  unfolding group_of place_of
  record_number n =
      let some = (bounds g good).some_records in
      let k : n % (128 * extents g) ≡ n / records g % places g * records g + n % records g
      = rw (← (bounds g good).entry_records_lem) (mod-mul n {m = places g} {c = records g} (omega (arith, place_lt n)) some) in
      let p : n % (128 * extents g) / records g ≡ n / records g % places g = rw k (digits_div (n / records g % places g) (mod-lt n some)) in
      let q : n / 128 / extents g ≡ n / (128 * extents g) = div-div-eq-div-mul n 128 (extents g) in
      sym (div-add-mod' n (128 * extents g)) ∙ rw (q, p, k)
