-- Laws of the map, proved once over the bytes that a block number takes: what was laid into a place reads back, every other place
-- and every byte before the map stays, and so does the length. Nobody above opens `block_in` or `with_block`.
use mathlib.Core.Path.{◌≡◌, ap, ◌∙◌}
use mathlib.Core.Logic.{◌⊎◌, inl, inr, ◌≢◌}
use Prim.Native.Nat.{ℕ, suc, ◌+◌, ◌*◌, ◌-◌, ◌/◌, ◌%◌, ◌≤◌, ◌<◌}
use native.Mathlib.Decide.{dec_lt}
use native.Mathlib.Nat.{mul-le-mul_right}
use native.Mathlib.Numerals.{add-one}
use native.Mathlib.Omega.{arith}
use lib.ListN.{length, take, set}
use Rattle.lists.specs.Bytes.{byte}
use Rattle.numbers.specs.Numbers.{number, bytes_from, with_number}
use Rattle.numbers.proofs.NumberLaws.{bytes_same, number_zero, length_with, byte_with, take_with, number_with}
use Rattle.disk_geometry.specs.declared.Geometry.{Geometry}
use Rattle.disk_geometry.specs.Geometry.{number_bytes, places}
use Rattle.disk_geometry.proofs.GeometryLaws.{map_sizes}
use Rattle.disk_volume.specs.Entry.{Entry, place_start, block_in, with_block}

-- ---- places lie behind byte 15, inside the entry, and apart from each other
module _ (g : Geometry) where
  pub place_in : (p : ℕ) → p < places g → place_start g p + number_bytes g ≤ 32
  place_in p h =
      let m : suc p * number_bytes g ≤ places g * number_bytes g = mul-le-mul_right (number_bytes g) h in
      omega (arith, (map_sizes g).full)

  before : (p q : ℕ) → p < q → place_start g p + number_bytes g ≤ place_start g q
  before p q h = let m : suc p * number_bytes g ≤ q * number_bytes g = mul-le-mul_right (number_bytes g) h in omega arith

  -- byte k of place q lies in no byte of another place p
  places_apart : (p q k : ℕ) → q ≢ p → place_start g q ≤ k → k < place_start g q + number_bytes g → (k < place_start g p) ⊎ (place_start g p + number_bytes g ≤ k)
  places_apart p q k ne low high = elim (dec_lt q p) [
    | yes l ↦ inl (omega (arith, before q p l))
    | no l ↦ inr (omega (arith, before p q (omega arith)))
  ]

  -- ---- as code reads and writes it: of one byte, or of two
  module _ (e : Entry) (p : ℕ) where
    pub block_one : number_bytes g ≡ 1 → block_in g e p ≡ byte e (place_start g p)
    unfolding block_in
    block_one z = ap (λ (n : ℕ). number (bytes_from e (place_start g p) n)) z ∙ omega arith

    pub block_two : number_bytes g ≡ 2 → block_in g e p ≡ byte e (place_start g p) + 256 * byte e (place_start g p + 1)
    unfolding block_in
    block_two z = ap (λ (n : ℕ). number (bytes_from e (place_start g p) n)) z ∙ rw (add-one (place_start g p)) (omega arith)

    pub with_one : number_bytes g ≡ 1 → (b : ℕ) → with_block g e p b ≡ set e (place_start g p) b
    unfolding with_block
    with_one z b = ap (λ (n : ℕ). with_number e (place_start g p) n b) z

    pub with_two : number_bytes g ≡ 2 → (b : ℕ) → with_block g e p b ≡ set (set e (place_start g p) (b % 256)) (place_start g p + 1) (b / 256)
    unfolding with_block
    with_two z b = ap (λ (n : ℕ). with_number e (place_start g p) n b) z ∙ rw (add-one (place_start g p))

  -- ---- a block number depends on the bytes behind byte 15 alone
  pub block_same : (d e : Entry) → ((k : ℕ) → 16 ≤ k → byte d k ≡ byte e k) → (p : ℕ) → block_in g d p ≡ block_in g e p
  unfolding block_in
  block_same d e h p = ap number (bytes_same d e (place_start g p) (number_bytes g) (λ k low high. h k (omega arith)))

  pub block_zero : (e : Entry) → ((k : ℕ) → 16 ≤ k → byte e k ≡ 0) → (p : ℕ) → block_in g e p ≡ 0
  unfolding block_in
  block_zero e h p = number_zero e (place_start g p) (number_bytes g) (λ k low high. h k (omega arith))

  -- ---- number b laid into place p
  module _ (e : Entry) (p b : ℕ) where
    pub length_with_block : length (with_block g e p b) ≡ length e
    unfolding with_block
    length_with_block = length_with e (place_start g p) (number_bytes g) b

    pub byte_with_block : (k : ℕ) → k < 16 → byte (with_block g e p b) k ≡ byte e k
    unfolding with_block
    byte_with_block k h = byte_with e (place_start g p) (number_bytes g) b k (inl (omega arith))

    pub take_with_block : (k : ℕ) → k ≤ 16 → take k (with_block g e p b) ≡ take k e
    unfolding with_block
    take_with_block k h = take_with e (place_start g p) (number_bytes g) b k (omega arith)

    pub block_with_block : length e ≡ 32 → p < places g → block_in g (with_block g e p b) p ≡ b
    unfolding block_in with_block
    block_with_block e32 h =
        let w = number_bytes g - 1 in
        let z : number_bytes g ≡ suc w = omega (arith, (map_sizes g).some_bytes) in
        let inside = place_in p h in
        ap (λ (n : ℕ). number (bytes_from (with_number e (place_start g p) n b) (place_start g p) n)) z
        ∙ number_with e (place_start g p) w b (omega arith)

    pub block_with_block_other : (q : ℕ) → q ≢ p → block_in g (with_block g e p b) q ≡ block_in g e q
    unfolding block_in with_block
    block_with_block_other q ne =
        ap number
        (bytes_same (with_number e (place_start g p) (number_bytes g) b) e (place_start g q) (number_bytes g)
        (λ k low high. byte_with e (place_start g p) (number_bytes g) b k (places_apart p q k ne low high)))
