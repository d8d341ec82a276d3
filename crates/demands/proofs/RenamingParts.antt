-- Two parts of a list that don't meet can be replaced in either order.
use mathlib.Core.Path.{◌≡◌, sym, ◌∙◌}
use mathlib.Core.Logic.{inl, inr}
use mathlib.Core.List.{List}
use Prim.Native.Nat.{ℕ, ◌+◌, ◌-◌, ◌≤◌, ◌<◌}
use native.Mathlib.Decide.{dec_lt}
use native.Mathlib.Omega.{arith}
use lib.ListN.{length}
use lib.Seq.{ext_get_or}
use Rattle.lists.specs.Bytes.{byte, put}
use Rattle.lists.proofs.PartLaws.{length_put, byte_in, byte_out}

-- ---- two parts that don't meet, replaced in either order
module _ (l : List ℕ) (a m : ℕ) (x : List ℕ) (b n : ℕ) (y : List ℕ) (fits-a : a + m ≤ length l) (fits-b : b + n ≤ length l) (size-x : length x ≡ m) (size-y : length y ≡ n)
    (below : a + m ≤ b) where
  length_a : length (put l a m x) ≡ length l
  length_a = length_put l a m fits-a x size-x

  length_b : length (put l b n y) ≡ length l
  length_b = length_put l b n fits-b y size-y

  fits_after_a : b + n ≤ length (put l a m x)
  fits_after_a = rw length_a fits-b

  fits_after_b : a + m ≤ length (put l b n y)
  fits_after_b = rw length_b fits-a

  data Where (k : ℕ) : Type 0 where
    before_a : k < a → Where k
    in_a : (o : ℕ) → o < m → a + o ≡ k → Where k
    between : a + m ≤ k → k < b → Where k
    in_b : (o : ℕ) → o < n → b + o ≡ k → Where k
    after_b : b + n ≤ k → Where k

  somewhere : (k : ℕ) → Where k
  somewhere k = go (dec_lt k a) (dec_lt k (a + m)) (dec_lt k b) (dec_lt k (b + n))
    where
      go : Dec (k < a) → Dec (k < a + m) → Dec (k < b) → Dec (k < b + n) → Where k
      go (yes h) p q r = before_a h
      go (no h) (yes p) q r = in_a (k - a) (omega arith) (omega arith)
      go (no h) (no p) (yes q) r = between (omega arith) q
      go (no h) (no p) (no q) (yes r) = in_b (k - b) (omega arith) (omega arith)
      go (no h) (no p) (no q) (no r) = after_b (omega arith)

  byte_either : (k : ℕ) → Where k → byte (put (put l a m x) b n y) k ≡ byte (put (put l b n y) a m x) k
  byte_either k (before_a h) =
      byte_out (put l a m x) b n y fits_after_a size-y k (inl (omega arith)) ∙ byte_out l a m x fits-a size-x k (inl (omega arith))
      ∙ sym (byte_out (put l b n y) a m x fits_after_b size-x k (inl (omega arith)) ∙ byte_out l b n y fits-b size-y k (inl (omega arith)))
  byte_either k (in_a o h e) =
      rw (← e)
      (byte_out (put l a m x) b n y fits_after_a size-y (a + o) (inl (omega arith)) ∙ byte_in l a m x fits-a size-x o h
      ∙ sym (byte_in (put l b n y) a m x fits_after_b size-x o h))
  byte_either k (between h i) =
      byte_out (put l a m x) b n y fits_after_a size-y k (inl (omega arith)) ∙ byte_out l a m x fits-a size-x k (inr h)
      ∙ sym (byte_out (put l b n y) a m x fits_after_b size-x k (inr h) ∙ byte_out l b n y fits-b size-y k (inl (omega arith)))
  byte_either k (in_b o h e) =
      rw (← e)
      (byte_in (put l a m x) b n y fits_after_a size-y o h
      ∙ sym (byte_out (put l b n y) a m x fits_after_b size-x (b + o) (inr (omega arith)) ∙ byte_in l b n y fits-b size-y o h))
  byte_either k (after_b h) =
      byte_out (put l a m x) b n y fits_after_a size-y k (inr h) ∙ byte_out l a m x fits-a size-x k (inr (omega arith))
      ∙ sym (byte_out (put l b n y) a m x fits_after_b size-x k (inr (omega arith)) ∙ byte_out l b n y fits-b size-y k (inr h))

  pub put_either : put (put l a m x) b n y ≡ put (put l b n y) a m x
  put_either =
      let c : length (put (put l a m x) b n y) ≡ length l = length_put (put l a m x) b n fits_after_a y size-y ∙ length_a in
      let e : length (put (put l b n y) a m x) ≡ length l = length_put (put l b n y) a m fits_after_b x size-x ∙ length_b in
      ext_get_or 0 (put (put l a m x) b n y) (put (put l b n y) a m x) (c ∙ sym e) (λ k h. byte_either k (somewhere k))
