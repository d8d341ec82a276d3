-- A byte outside the regions that were granted is not laid.
use mathlib.Core.Path.{◌≡◌, refl, ◌∙◌}
use mathlib.Core.List.{List}
use mathlib.Core.Logic.{◌⊎◌, inl, inr}
use Prim.Native.Nat.{ℕ, zero, suc, ◌+◌, ◌*◌, ◌≤◌, ◌<◌}
use native.Mathlib.Omega.{arith}
use lib.ListN.{length, get_or}
use Rattle.lists.specs.Bounded.{fold}
use Rattle.lists.specs.Bytes.{byte, put}
use Rattle.lists.proofs.PartLaws.{length_part, length_put, byte_out}
use Rattle.memory_spans.specs.declared.Span.{Span}
use Rattle.memory_spans.specs.Span.{paragraph_bytes, none, end}
use Rattle.load_header.specs.Header.{length_at, image_start}
use Rattle.load_grants.proofs.GrantsLaws.{Fits}
use Rattle.loading.specs.Laid.{group_image, group_laid}
use Rattle.loading.proofs.LaidLaws.{start_in}
use Rattle.load_promises.specs.Promises.{OutsideOf}

-- a part within a region
within : (s : Span) (x k : ℕ) → k ≤ paragraph_bytes * s.length → OutsideOf s x → (x + 1 ≤ paragraph_bytes * s.start) ⊎ (paragraph_bytes * s.start + k ≤ x)
within s x k h (inl a) = inl a
within s x k h (inr a) = inr (omega arith)

module _ (h : List ℕ) (granted : List Span) (image : List ℕ) (bytes n x : ℕ) (whole : paragraph_bytes * image_start h n ≤ length image)
    (fits : (i : ℕ) → i < n → Fits bytes h i (get_or granted i none)) where
  module _ (m : List ℕ) (i : ℕ) (l : i < n) (e : length m ≡ bytes) where
    size : length (group_image h image i) ≡ paragraph_bytes * length_at h i
    size = let s = start_in h i n l in length_part image (paragraph_bytes * image_start h i) (paragraph_bytes * length_at h i) (omega (arith, s))

    room : paragraph_bytes * (get_or granted i none).start + paragraph_bytes * length_at h i ≤ length m
    room = let g = fits i l in omega (arith, g.enough, g.inside)

    one_length : length (group_laid h granted image m i) ≡ length m
    unfolding group_laid
    one_length = length_put m (paragraph_bytes * (get_or granted i none).start) (paragraph_bytes * length_at h i) room (group_image h image i) size

    one_outside : OutsideOf (get_or granted i none) x → byte (group_laid h granted image m i) x ≡ byte m x
    unfolding group_laid
    one_outside o =
        let g = fits i l in
        byte_out m (paragraph_bytes * (get_or granted i none).start) (paragraph_bytes * length_at h i) (group_image h image i) room size x
        (within (get_or granted i none) x (paragraph_bytes * length_at h i) (omega (arith, g.enough)) o)

  pub laid_length : (i k : ℕ) → i + k ≤ n → (m : List ℕ) → length m ≡ bytes → length (fold (group_laid h granted image) m i k) ≡ bytes
  unfolding fold
  laid_length i zero l m e = e
  laid_length i (suc k) l m e = laid_length (suc i) k (omega arith) (group_laid h granted image m i) (one_length m i (omega arith) e ∙ e)

  pub laid_outside : ((i : ℕ) → i < n → OutsideOf (get_or granted i none) x) → (i k : ℕ) → i + k ≤ n → (m : List ℕ) → length m ≡ bytes
      → byte (fold (group_laid h granted image) m i k) x ≡ byte m x
  unfolding fold
  laid_outside o i zero l m e = refl
  laid_outside o i (suc k) l m e =
      laid_outside o (suc i) k (omega arith) (group_laid h granted image m i) (one_length m i (omega arith) e ∙ e)
      ∙ one_outside m i (omega arith) e (o i (omega arith))

-- the base page lies in its region
pub page_outside : (m page : List ℕ) (s : Span) (bytes size x : ℕ) → length page ≡ size → size ≤ paragraph_bytes * s.length → paragraph_bytes * end s ≤ bytes → length m ≡ bytes
    → OutsideOf s x → byte (put m (paragraph_bytes * s.start) size page) x ≡ byte m x
page_outside m page s bytes size x n h f e o = byte_out m (paragraph_bytes * s.start) size page (omega arith) n x (within s x size h o)
