-- What an image is made of: a straight volume is its own unskewed volume, and an eight-inch image is its reserved tracks, its
-- logical records and nothing else, since every sector of a track is the sector of a place.
use mathlib.Core.Path.{◌≡◌, refl, sym, ap, ◌∙◌}
use mathlib.Core.Bool.{Bool, true, ◌&&◌}
use mathlib.Core.Logic.{◌⊎◌, inl, inr, ◌≢◌}
use mathlib.Core.List.{List}
use Prim.Native.Nat.{ℕ, ◌+◌, ◌-◌, ◌*◌, ◌/◌, ◌%◌, ◌≤◌, ◌<◌}
use native.Mathlib.Decide.{dec_lt}
use native.Mathlib.Omega.{arith}
use lib.Dec.{ltb, eqb}
use lib.ListN.{length}
use lib.Seq.{ext_get_or}
use borrow.Author.Tests.{ltb-true, eqb-true}
use Rattle.lists.specs.Bounded.{low_from, every_from, lowest, every}
use Rattle.lists.specs.Bytes.{byte, part}
use Rattle.lists.proofs.BoolLaws.{and_parts}
use Rattle.lists.proofs.BoundedLaws.{every_true}
use Rattle.lists.proofs.PartLaws.{byte_part}
use Rattle.disk_geometry.specs.declared.Geometry.{Geometry}
use Rattle.disk_geometry.specs.EightInch.{track_sectors, track_records, sector_at, image_start}
use Rattle.disk_geometry.specs.Geometry.{floppy, lawful, bytes, records, start}
use Rattle.disk_geometry.proofs.GeometryLaws.{Floppy, bounds, start_straight, start_floppy, bytes_straight, bytes_floppy}
use Rattle.unskewed.specs.Unskewed.{straightened, unskewed}
use Rattle.unskewed.proofs.Logical.{straight_good, unskewed_size, record_seen}
use Rattle.demands.specs.EightInch.{AllOfImage, Served}
use Rattle.demands.proofs.EightInchHolds.{floppy_lawful}

-- ---- a byte of a part of each of two lists
shared : (v w : List ℕ) (a n k : ℕ) → part w a n ≡ part v a n → a ≤ k → k < a + n → byte w k ≡ byte v k
shared v w a n k e low high =
    let z : a + (k - a) ≡ k = omega arith in
    let i : k - a < n = omega arith in
    rw z at (sym (byte_part w a n (k - a) i) ∙ ap (λ (l : List ℕ). byte l (k - a)) e ∙ byte_part v a n (k - a) i)

-- ---- straight volumes
straight_same : (g : Geometry) → g.placing ≡ 0 → straightened g ≡ g
straight_same g e = λ i. record { block_bytes = g.block_bytes; blocks = g.blocks; directory_blocks = g.directory_blocks; placing = sym e i }

straight_itself : (g : Geometry) → lawful g ≡ true → g.placing ≡ 0 → (v : List ℕ) → length v ≡ bytes g → unskewed g v ≡ v
straight_itself g good e v size =
    let l : length (unskewed g v) ≡ length v = unskewed_size g good v size ∙ ap bytes (straight_same g e) ∙ sym size in
    ext_get_or 0 (unskewed g v) v l (λ k h.
    let b = bounds g good in
    let long : length v ≡ g.blocks * records g * 128 = size ∙ bytes_straight g e ∙ b.whole_records in
    let q< : k / 128 < g.blocks * records g = omega arith in
    let here : part (unskewed g v) (k / 128 * 128) 128 ≡ part v (k / 128 * 128) 128
    = rw (start_straight (straightened g) (straight_good g good) (k / 128) refl, start_straight g good (k / 128) e)
    at (record_seen g good v size (k / 128) q<) in
    shared v (unskewed g v) (k / 128 * 128) 128 k here (omega arith) (omega arith))

-- ---- the table the other way round: the place of sector s + 1 of a track
place_of_sector : ℕ → ℕ
place_of_sector s = lowest track_sectors (λ p. eqb (sector_at p) (s + 1))

has_place : ℕ → Bool
has_place s = ltb (place_of_sector s) track_sectors && eqb (sector_at (place_of_sector s)) (s + 1)

every_sector : every track_sectors has_place ≡ true
unfolding every_from low_from sector_at place_of_sector has_place
every_sector = refl

record Placed (s : ℕ) : Type 0 where
  place : ℕ
  below : place < 26
  there : sector_at place ≡ s + 1

has_place_lem : (s : ℕ) → s < 26 → Placed s
unfolding has_place
has_place_lem s h =
    let p = and_parts _ _ (every_true has_place 0 26 every_sector s (omega arith) (omega arith)) in
    record { place = place_of_sector s; below = ltb-true _ _ p.0; there = eqb-true _ _ p.1 }

-- the logical record in the sector that begins at 128 r
record Holds (r : ℕ) : Type 0 where
  logical : ℕ
  below : logical < track_records
  begins : start floppy logical ≡ r * 128

record_there : (r : ℕ) → 52 ≤ r → r < 2002 → Holds r
unfolding image_start
record_there r low high =
    let p = has_place_lem (r % 26) (omega arith) in
    let q = (r / 26 - 2) * 26 + p.place in
    let t : q / 26 ≡ r / 26 - 2 = omega (arith, p.below) in
    let m : q % 26 ≡ p.place = omega (arith, p.below) in
    let s : sector_at (q % 26) ≡ r % 26 + 1 = ap sector_at m ∙ p.there in
    record {
      logical = q;
      below = omega (arith, p.below);
      begins = start_floppy floppy floppy_lawful q refl ∙ omega (arith, t, s);
    }

-- ---- the image
pub all_of_image : AllOfImage
all_of_image v w size spare same = ext_get_or 0 v w (sym spare.length_kept) (λ k h. go k h (dec_lt k 6656))
  where
    long : length v ≡ 256256
    long = size ∙ bytes_floppy floppy refl

    size_w : length w ≡ bytes floppy
    size_w = spare.length_kept ∙ size

    logical : (q : ℕ) → q < 1950 → Dec (q < 1944) → part w (start floppy q) 128 ≡ part v (start floppy q) 128
    logical q high (yes low) =
        sym (record_seen floppy floppy_lawful w size_w q low)
        ∙ ap (λ (l : List ℕ). part l (start (straightened floppy) q) 128) (sym same)
        ∙ record_seen floppy floppy_lawful v size q low
    logical q high (no behind) = spare.last_six q (omega arith) high

    go : (k : ℕ) → k < length v → Dec (k < 6656) → byte v k ≡ byte w k
    go k h (yes low) = sym (shared v w 0 6656 k spare.reserved (omega arith) low)
    go k h (no behind) =
        let r = record_there (k / 128) (omega arith) (omega (arith, long)) in
        let same_record : part w (k / 128 * 128) 128 ≡ part v (k / 128 * 128) 128
        = rw r.begins at (logical r.logical r.below (dec_lt r.logical 1944)) in
        sym (shared v w (k / 128 * 128) 128 k same_record (omega arith) (omega arith))

-- ---- the geometries
no_other : (g : Geometry) → lawful g ≡ true → g.placing ≢ 0 → g ≡ floppy
no_other g good other = go (bounds g good).placed
  where
    go : (g.placing ≡ 0) ⊎ Floppy g → g ≡ floppy
    go (inl e) = absurd (other e)
    go (inr f) = λ i. record { block_bytes = f.block i; blocks = f.blocks_are i; directory_blocks = f.directory i; placing = f.placed i }

pub served : Served
served = record { within_rules_lem = floppy_lawful; length_is = bytes_floppy floppy refl; no_other = no_other; straight_itself = straight_itself }
