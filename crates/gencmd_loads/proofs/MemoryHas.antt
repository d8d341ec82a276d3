-- The memory after a load has the image of each group at the start of its region, but for the base page.
use mathlib.Core.Path.{◌≡◌, refl, ap, ◌∙◌}
use mathlib.Core.Logic.{◌⊎◌, inl, inr}
use mathlib.Core.List.{List}
use Prim.Native.Nat.{ℕ, ◌+◌, ◌*◌, ◌≤◌, ◌<◌}
use native.Mathlib.Omega.{arith}
use native.Mathlib.Decide.{ℕ_discrete}
use lib.ListN.{length, get_or}
use Rattle.lists.specs.Bytes.{byte}
use Rattle.lists.proofs.PartLaws.{length_part, byte_part, byte_out}
use Rattle.memory_spans.specs.declared.Span.{Span}
use Rattle.memory_spans.specs.Span.{paragraph_bytes, none, end}
use Rattle.load_header.specs.Header.{length_at, groups, need, page_place, page_paragraphs, image_start}
use Rattle.load_grants.proofs.GrantsLaws.{Fits}
use Rattle.load_promises.specs.Promises.{OutsideOf}
use Rattle.loading.specs.Page.{page_bytes, base_page, page_start}
use Rattle.loading.specs.Laid.{group_image, group_laid, laid, with_page}
use Rattle.loading.proofs.LaidLaws.{start_in}
use Rattle.loading.proofs.PageLaws.{page_length}
use Rattle.gencmd_loads.proofs.PutsLaws.{puts_length, puts_has}

module _ (h : List ℕ) (granted : List Span) (image memory : List ℕ)
    (whole : paragraph_bytes * image_start h (groups h) ≤ length image)
    (fits : (i : ℕ) → i < groups h → Fits (length memory) h i (get_or granted i none))
    (alone : (i j y : ℕ) → i < groups h → j < groups h → (i ≡ j → ⊥) → paragraph_bytes * (get_or granted i none).start ≤ y → y < paragraph_bytes * end (get_or granted i none)
    → OutsideOf (get_or granted j none) y)
    (page : page_place h < groups h) (paged : page_paragraphs ≤ need h (page_place h)) where
  abbrev region : ℕ → Span
  region i = get_or granted i none

  abbrev at : ℕ → ℕ
  at i = paragraph_bytes * (region i).start

  abbrev size : ℕ → ℕ
  size i = paragraph_bytes * length_at h i

  sized : (i : ℕ) → i < groups h → length (group_image h image i) ≡ size i
  sized i l =
      let s = start_in h i (groups h) l in
      length_part image (paragraph_bytes * image_start h i) (paragraph_bytes * length_at h i) (omega (arith, s))

  room : (i : ℕ) → i < groups h → at i + size i ≤ length memory
  room i l = let f = fits i l in omega (arith, f.enough, f.inside)

  -- a place in the image of group i, and the image of another group
  others : (i x : ℕ) → i < groups h → x < size i → (j : ℕ) → j < groups h → (i ≡ j → ⊥) → (at i + x + 1 ≤ at j) ⊎ (at j + size j ≤ at i + x)
  others i x l k j m n = go (alone i j (at i + x) l m n (omega arith) (let f = fits i l in omega (arith, f.enough)))
    where
      go : OutsideOf (region j) (at i + x) → (at i + x + 1 ≤ at j) ⊎ (at j + size j ≤ at i + x)
      go (inl a) = inl a
      go (inr a) = let f = fits j m in inr (omega (arith, f.enough))

  laid_has : (i x : ℕ) → i < groups h → x < size i → byte (laid h granted image memory) (at i + x) ≡ byte (group_image h image i) x
  unfolding laid group_laid
  laid_has i x l k = puts_has at size (group_image h image) (length memory) (groups h) sized room i x l k memory refl (others i x l k)

  laid_size : length (laid h granted image memory) ≡ length memory
  unfolding laid group_laid
  laid_size = puts_length at size (group_image h image) (length memory) (groups h) sized room 0 (groups h) (omega arith) memory refl

  -- the base page lies in its region
  page_room : page_bytes ≤ paragraph_bytes * (region (page_place h)).length
  page_room = let f = fits (page_place h) page in omega (arith, f.enough)

  off_page : (i x : ℕ) → i < groups h → x < size i → (i ≡ page_place h → page_bytes ≤ x)
      → (at i + x + 1 ≤ at (page_place h)) ⊎ (at (page_place h) + page_bytes ≤ at i + x)
  off_page i x l k o = go (ℕ_discrete i (page_place h))
    where
      away : OutsideOf (region (page_place h)) (at i + x) → (at i + x + 1 ≤ at (page_place h)) ⊎ (at (page_place h) + page_bytes ≤ at i + x)
      away (inl a) = inl a
      away (inr a) = inr (omega (arith, page_room))

      go : Dec (i ≡ page_place h) → (at i + x + 1 ≤ at (page_place h)) ⊎ (at (page_place h) + page_bytes ≤ at i + x)
      go (yes e) = let m = o e in let z : at i ≡ at (page_place h) = ap at e in inr (omega arith)
      go (no e) = away (alone i (page_place h) (at i + x) l page e (omega arith) (let f = fits i l in omega (arith, f.enough)))

  pub memory_has : (i x : ℕ) → i < groups h → x < paragraph_bytes * length_at h i → (i ≡ page_place h → page_bytes ≤ x)
      → byte (with_page h granted (laid h granted image memory)) (paragraph_bytes * (get_or granted i none).start + x)
      ≡ byte image (paragraph_bytes * image_start h i + x)
  unfolding with_page page_start
  memory_has i x l k o =
      let f = fits (page_place h) page in
      byte_out (laid h granted image memory) (at (page_place h)) page_bytes (base_page h granted) (omega (arith, laid_size, page_room, f.inside)) (page_length h granted) (at i + x)
      (off_page i x l k o)
      ∙ laid_has i x l k
      ∙ byte_part image (paragraph_bytes * image_start h i) (paragraph_bytes * length_at h i) x k
