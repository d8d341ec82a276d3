-- Numbers laid one behind the other: each stands in its place, and what was laid is read back.
use mathlib.Core.Path.{◌≡◌, refl, sym, ap, ◌∙◌}
use mathlib.Core.Bool.{true}
use mathlib.Core.Logic.{inl}
use mathlib.Core.List.{List, [], ◌∷◌}
use Prim.Native.Nat.{ℕ, zero, suc, ◌+◌, ◌-◌, ◌*◌, ◌≤◌, ◌<◌, ◌^◌}
use native.Mathlib.Decide.{dec_lt}
use native.Mathlib.Omega.{arith}
use lib.ListN.{length, take, drop, length-append}
use lib.Seq.{take_at, drop-append-add, ext_get_or}
use Rattle.lists.specs.Bytes.{byte, part, put}
use Rattle.lists.proofs.PartLaws.{byte_part, byte_in, byte_out, length_put}
use Rattle.numbers.specs.Numbers.{bytes_of, number}
use Rattle.numbers.proofs.NumberLaws.{number_bytes_lem}
use Rattle.shelf_figures.specs.declared.Shelf.{Shelf}
use Rattle.shelf_figures.specs.Shelf.{figures_of, is_kept}
use Rattle.shelf_figures.proofs.ShelfLaws.{kept}
use Rattle.shelf_bytes.specs.Layout.{laid, encoded, decoded}
use Rattle.shelf_bytes.specs.RoundTrip.{RoundTrip}

eight : (x : ℕ) → length (bytes_of 8 x) ≡ 8
unfolding bytes_of
eight x = refl

length_laid : (f : List ℕ) → length (laid f) ≡ 8 * length f
unfolding laid
length_laid [] = refl
length_laid (x ∷ xs) = rw length-append (omega (arith, eight x, length_laid xs))

-- the number in place k
laid_part : (f : List ℕ) (k : ℕ) → k < length f → part (laid f) (8 * k) 8 ≡ bytes_of 8 (byte f k)
unfolding laid part
laid_part [] k h = absurd (omega arith)
laid_part (x ∷ xs) zero h = take_at (bytes_of 8 x) (laid xs) 8 (eight x)
laid_part (x ∷ xs) (suc k) h =
    let z : 8 * suc k ≡ length (bytes_of 8 x) + 8 * k = omega (arith, eight x) in
    rw (z, drop-append-add (bytes_of 8 x) (laid xs) (8 * k)) (laid_part xs k (omega arith))

laid_byte : (f : List ℕ) (k r : ℕ) → k < length f → r < 8 → byte (laid f) (8 * k + r) ≡ byte (bytes_of 8 (byte f k)) r
laid_byte f k r h l = sym (byte_part (laid f) (8 * k) 8 r l) ∙ ap (λ (x : List ℕ). byte x r) (laid_part f k h)

-- a part of eight bytes as it is lent
pub lent_part : (l : List ℕ) (a : ℕ) → number (take (a + 8 - a) (drop a l)) ≡ number (part l a 8)
unfolding part
lent_part l a = let z : a + 8 - a ≡ 8 = omega arith in rw z

-- ---- a loop that lays them: the first k stand in their places
pub record LaidTo (f : List ℕ) (k : ℕ) (l : List ℕ) : Type 0 where
  pub whole : length l ≡ 8 * length f
  pub same : (j : ℕ) → j < 8 * k → byte l j ≡ byte (laid f) j

pub laid_start : {f l : List ℕ} → length l ≡ 8 * length f → LaidTo f 0 l
laid_start e = record { whole = e; same = λ j h. absurd (omega arith) }

pub laid_next : {f l : List ℕ} {k : ℕ} → LaidTo f k l → k < length f → LaidTo f (k + 1) (put l (8 * k) 8 (bytes_of 8 (byte f k)))
laid_next {f} {l} {k} p h =
    record { whole = length_put l (8 * k) 8 fits new (eight (byte f k)) ∙ p.whole; same = λ j b. at j b (dec_lt j (8 * k)) }
  where
    new : List ℕ
    new = bytes_of 8 (byte f k)

    fits : 8 * k + 8 ≤ length l
    fits = omega (arith, p.whole)

    at : (j : ℕ) → j < 8 * (k + 1) → Dec (j < 8 * k) → byte (put l (8 * k) 8 (bytes_of 8 (byte f k))) j ≡ byte (laid f) j
    at j b (yes c) = byte_out l (8 * k) 8 new fits (eight (byte f k)) j (inl (omega arith)) ∙ p.same j c
    at j b (no c) =
        let z : 8 * k + (j - 8 * k) ≡ j = omega arith in
        rw (← z) (byte_in l (8 * k) 8 new fits (eight (byte f k)) (j - 8 * k) (omega arith) ∙ sym (laid_byte f k (j - 8 * k) h (omega arith)))

pub laid_end : {f l : List ℕ} {k : ℕ} → LaidTo f k l → length f ≤ k → l ≡ laid f
laid_end {f} {l} {k} p h = ext_get_or 0 l (laid f) (p.whole ∙ sym (length_laid f)) (λ j b. p.same j (omega (arith, p.whole)))

-- ---- what was laid is read back
read : (f : List ℕ) (k : ℕ) → k < length f → byte f k < 281474976710656 → number (part (laid f) (8 * k) 8) ≡ byte f k
read f k h l = let m : byte f k < 256 ^ 8 = omega arith in rw (laid_part f k h) (number_bytes_lem 8 (byte f k) m)

read_back : (s : Shelf) → is_kept s ≡ true → decoded (encoded s) ≡ s
unfolding decoded encoded
read_back s h =
    let w = kept s h in
    let f = figures_of s in
    rw (
      read f 0 (omega arith) w.refused,
      read f 1 (omega arith) w.files,
      read f 2 (omega arith) w.entries,
      read f 3 (omega arith) w.records,
      read f 4 (omega arith) w.held,
      read f 5 (omega arith) w.free,
      read f 6 (omega arith) w.waste,
      read f 7 (omega arith) w.seen,
    )

pub round_trip : RoundTrip
unfolding encoded laid bytes_of
round_trip = record { zeros = refl; long = λ s. refl; read_back = read_back }
