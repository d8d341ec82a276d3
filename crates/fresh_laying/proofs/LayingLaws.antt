-- Laid entry by entry, each with its blocks, and then blank slots and blank blocks: that is the fresh disk.
use mathlib.Core.Path.{◌≡◌, refl, sym, ap, ◌∙◌}
use mathlib.Core.Bool.{Bool, true, false, cond, ◌&&◌}
use mathlib.Core.List.{List}
use Prim.Native.Nat.{ℕ, zero, suc, ◌+◌, ◌-◌, ◌≤◌, ◌<◌}
use native.Mathlib.Decide.{ℕ_discrete, dec_lt}
use native.Mathlib.Omega.{arith}
use lib.Dec.{leb, ltb, eqb}
use lib.ListN.{length, replicate, length-replicate, get_or-eq_default}
use borrow.Author.Tests.{lt-ltb, le-ltb, le-leb, lt-leb, eq-eqb, ne_eqb}
use Rattle.lists.specs.Bounded.{fold}
use Rattle.disk_geometry.specs.declared.Geometry.{Geometry}
use Rattle.disk_geometry.specs.Geometry.{lawful, bytes, records, slots, places}
use Rattle.disk_geometry.proofs.InsideLaws.{inside_is}
use Rattle.disk_volume.specs.Entry.{Entry, block_in}
use Rattle.disk_volume.specs.Directory.{slot_at, put_slot}
use Rattle.disk_volume.specs.Record.{record_at}
use Rattle.disk_volume.proofs.DirectoryLaws.{record_length}
use Rattle.disk_rules.specs.GoodSlot.{lowest_bad}
use Rattle.files.specs.Files.{is_used}
use Rattle.fresh_order.specs.Order.{order}
use Rattle.fresh_order.proofs.OrderLaws.{fold_last, few_entries}
use Rattle.fresh_volume.specs.Copy.{blocks_below, numbered, entry_at, blocks_before, first_number, copied_entry, comes_to, copied_record, put_block, fresh}
use Rattle.fresh_volume.proofs.LaidLaws.{Laid, laid_same, laid_ext, laid_none, laid_slot, with_slot, laid_slots, laid_block, with_blocks, laid_blocks}
use Rattle.fresh_volume.proofs.NumberedLaws.{count_used, count_unused, numbered_length, count_before}
use Rattle.fresh_volume.proofs.Copied.{many, moved, entry_length, block_inside, block_low, comes, used_not_zero, moved_fit, fresh_laid}
use Rattle.fresh_laying.specs.CodeLaying.{move_place, move_blocks, lay_entry, blank_slot, blank_block, blank_from, MapFits}

module _ (g : Geometry) (v : List ℕ) (law : lawful g ≡ true) (size : length v ≡ bytes g) (ok : lowest_bad g v ≡ slots g)
    (w : List ℕ) (w-size : length w ≡ bytes g) where
  abbrev m : ℕ
  m = many g v law size ok

  abbrev l : List ℕ
  l = order g v

  abbrev e : ℕ → Entry
  e k = entry_at g v l k

  abbrev d : ℕ
  d = g.directory_blocks

  -- what is laid when n entries and j blocks are
  slots_to : ℕ → ℕ → Entry
  slots_to n k = cond (ltb k n) (copied_entry g v l k) (slot_at g w k)

  blocks_to : ℕ → ℕ → ℕ → List ℕ
  blocks_to j b n = cond (ltb b (d + j)) (copied_record g v l b n) (record_at g w b n)

  -- ---- one block more
  next_block : (s : ℕ → Entry) (j : ℕ) (h : ℕ → List ℕ) (x : List ℕ) → d + j < g.blocks → ((n : ℕ) → n < records g → length (h n) ≡ 128)
      → ((n : ℕ) → h n ≡ copied_record g v l (d + j) n) → Laid g law w s (blocks_to j) x → Laid g law w s (blocks_to (suc j)) (put_block g x (d + j) h)
  unfolding blocks_to
  next_block s j h x high long is a =
      laid_ext g law w s s (with_blocks g law (blocks_to j) (d + j) h) (blocks_to (suc j)) (put_block g x (d + j) h) (λ k k<. refl)
      (λ b n low b< n<. at b n (ℕ_discrete b (d + j)) (dec_lt b (d + j)))
      (laid_block g law w s (blocks_to j) h (d + j) (omega arith) high long x a)
    where
      at : (b n : ℕ) → Dec (b ≡ d + j) → Dec (b < d + j)
          → cond (eqb b (d + j)) (h n) (cond (ltb b (d + j)) (copied_record g v l b n) (record_at g w b n)) ≡ cond (ltb b (d + suc j)) (copied_record g v l b n) (record_at g w b n)
      at b n (yes z) q = rw (eq-eqb b (d + j) z, lt-ltb b (d + suc j) (omega arith)) (is n ∙ ap (λ (c : ℕ). copied_record g v l c n) (sym z))
      at b n (no z) (yes q) = rw (ne_eqb b (d + j) z, lt-ltb b (d + j) q, lt-ltb b (d + suc j) (omega arith))
      at b n (no z) (no q) = rw (ne_eqb b (d + j) z, le-ltb b (d + j) (omega arith), le-ltb b (d + suc j) (omega arith))

  -- ---- the blocks of entry k
  module _ (k : ℕ) (k< : k < m) (s : ℕ → Entry) where
    abbrev b₀ : ℕ
    b₀ = first_number g v l k

    -- how many blocks have come before place p
    abbrev come : ℕ → ℕ
    come p = length (blocks_before g v l k) + length (blocks_below g (e k) p)

    moved_place : (p : ℕ) → p < places g → (x : List ℕ) → Laid g law w s (blocks_to (come p)) x → Laid g law w s (blocks_to (come (suc p))) (move_place g v (e k) b₀ x p)
    unfolding move_place
    moved_place p p< x a = go (is_used g (e k) p) refl
      where
        b : ℕ
        b = block_in g (e k) p

        number : b₀ + length (blocks_below g (e k) p) ≡ d + come p
        number = omega arith

        is : is_used g (e k) p ≡ true → (n : ℕ) → record_at g v b n ≡ copied_record g v l (d + come p) n
        is u n = unfold copied_record in rw (comes g v law size ok k p k< p< u, ne_eqb b 0 (used_not_zero g (e k) p u))

        go : (t : Bool) → is_used g (e k) p ≡ t → Laid g law w s (blocks_to (come (suc p))) (cond t (put_block g x (b₀ + length (blocks_below g (e k) p)) (record_at g v b)) x)
        go true u =
            let c : come (suc p) ≡ suc (come p) = omega (arith, count_used g (e k) p u) in
            let b< = (inside_is g b (block_inside g v law size ok k p k< p< u)).1 in
            rw (c, number) (next_block s (come p) (record_at g v b) x (block_low g v law size ok w w-size k p k< p< u) (λ n n<. record_length g law v size b n b<) (is u) a)
        go false u = let c : come (suc p) ≡ come p = omega (arith, count_unused g (e k) p u) in rw c a

    moved_places : (n : ℕ) → n ≤ places g → (x : List ℕ) → Laid g law w s (blocks_to (come 0)) x → Laid g law w s (blocks_to (come n)) (fold (move_place g v (e k) b₀) x 0 n)
    unfolding fold
    moved_places zero h x a = a
    moved_places (suc n) h x a =
        rw (fold_last (move_place g v (e k) b₀) x n) (moved_place n h (fold (move_place g v (e k) b₀) x 0 n) (moved_places n (omega arith) x a))

  -- ---- entry k
  laid_entry : (k : ℕ) → k < m → (x : List ℕ) → Laid g law w (slots_to k) (blocks_to (length (blocks_before g v l k))) x
      → Laid g law w (slots_to (suc k)) (blocks_to (length (blocks_before g v l (suc k)))) (lay_entry g v l x k)
  unfolding lay_entry move_blocks slots_to blocks_below
  laid_entry k k< x a =
      let b₀ = first_number g v l k in
      let new = numbered g b₀ (e k) in
      let y = fold (move_place g v (e k) b₀) x 0 (places g) in
      let none : length (blocks_before g v l k) ≡ length (blocks_before g v l k) + 0 = omega arith in
      let start = ap (λ (j : ℕ). Laid g law w (slots_to k) (blocks_to j) x) none in
      let all : Laid g law w (slots_to k) (blocks_to (length (blocks_before g v l (suc k)))) y =
      rw (count_before g v l k) (moved_places k k< (slots_to k) (places g) (omega arith) x (rw (← none) a)) in
      laid_ext g law w (with_slot g law (slots_to k) k new) (slots_to (suc k)) (blocks_to (length (blocks_before g v l (suc k)))) (blocks_to (length (blocks_before g v l (suc k)))) (put_slot g y k new)
      (λ i i<. at i (ℕ_discrete i k) (dec_lt i k)) (λ b n low high n<. refl)
      (laid_slot g law w (slots_to k) (blocks_to (length (blocks_before g v l (suc k)))) y all k (omega (arith, few_entries g v law ok)) new (numbered_length g b₀ (e k) (entry_length g v law size ok k k<)))
    where
      own : numbered g (first_number g v l k) (e k) ≡ copied_entry g v l k
      own = unfold copied_entry in sym (rw (lt-ltb k m k<))

      at : (i : ℕ) → Dec (i ≡ k) → Dec (i < k)
          → cond (eqb i k) (numbered g (first_number g v l k) (e k)) (cond (ltb i k) (copied_entry g v l i) (slot_at g w i)) ≡ cond (ltb i (suc k)) (copied_entry g v l i) (slot_at g w i)
      at i (yes z) q = rw (eq-eqb i k z, lt-ltb i (suc k) (omega arith)) (own ∙ ap (copied_entry g v l) (sym z))
      at i (no z) (yes q) = rw (ne_eqb i k z, lt-ltb i k q, lt-ltb i (suc k) (omega arith))
      at i (no z) (no q) = rw (ne_eqb i k z, le-ltb i k (omega arith), le-ltb i (suc k) (omega arith))

  laid_entries : (n : ℕ) → n ≤ m → Laid g law w (slots_to n) (blocks_to (length (blocks_before g v l n))) (fold (lay_entry g v l) w 0 n)
  unfolding fold slots_to blocks_to blocks_before
  laid_entries zero h =
      laid_ext g law w (slot_at g w) (slots_to 0) (record_at g w) (blocks_to 0) w
      (λ k k<. rw (le-ltb k 0 (omega arith))) (λ b n low high n<. rw (le-ltb b (d + 0) (omega arith))) (laid_none g law w w-size)
  laid_entries (suc n) h = rw (fold_last (lay_entry g v l) w n) (laid_entry n h (fold (lay_entry g v l) w 0 n) (laid_entries n (omega arith)))

  -- ---- and what is blank
  slot_is : (k : ℕ) → k < slots g → Dec (k < m) → cond (leb m k && ltb k (m + (slots g - m))) (replicate 32 229) (slots_to m k) ≡ copied_entry g v l k
  unfolding slots_to copied_entry
  slot_is k k< (yes h) = rw (lt-leb m k h, lt-ltb k m h)
  slot_is k k< (no h) = rw (le-leb m k (omega arith), lt-ltb k (m + (slots g - m)) (omega arith), le-ltb k m (omega arith))

  record_is : (c i : ℕ) → c < g.blocks → Dec (c < first_number g v l m)
      → cond (leb (first_number g v l m) c && ltb c (first_number g v l m + (g.blocks - first_number g v l m))) (replicate 128 229) (blocks_to (length (moved g v law size ok)) c i) ≡ copied_record g v l c i
  unfolding blocks_to copied_record
  record_is c i c< (yes h) = rw (lt-leb (first_number g v l m) c h, lt-ltb c (first_number g v l m) h)
  record_is c i c< (no h) =
      let free : comes_to g v l c ≡ 0 = get_or-eq_default (moved g v law size ok) 0 (omega arith) in
      rw (le-leb (first_number g v l m) c (omega arith), lt-ltb c (first_number g v l m + (g.blocks - first_number g v l m)) (omega arith), free)

  pub laying_is_fresh : blank_from g (fold (lay_entry g v l) w 0 m) m (first_number g v l m) ≡ fresh g v w
  unfolding blank_from
  laying_is_fresh =
      let x = fold (lay_entry g v l) w 0 m in
      let n = slots g - m in
      let first = first_number g v l m in
      let more = g.blocks - first in
      let s : ℕ → Entry = λ k. cond (leb m k && ltb k (m + n)) (replicate 32 229) (slots_to m k) in
      let r : ℕ → ℕ → List ℕ = λ b i. cond (leb first b && ltb b (first + more)) (replicate 128 229) (blocks_to (length (moved g v law size ok)) b i) in
      let fits = few_entries g v law ok in
      let room = moved_fit g v law size ok in
      let a = laid_slots g law w (blocks_to (length (moved g v law size ok))) (λ k. replicate 32 229) (λ k k<. length-replicate {A = ℕ} 32 229) n m (slots_to m) x (omega (arith, fits)) (laid_entries m (omega arith)) in
      let b = laid_blocks g law w s (λ c i. replicate 128 229) (λ c i low high i<. length-replicate {A = ℕ} 128 229) more first (blocks_to (length (moved g v law size ok))) (fold (blank_slot g) x m n) (omega arith) (omega (arith, room)) a in
      let y = fold (blank_block g) (fold (blank_slot g) x m n) first more in
      laid_same g law w (copied_entry g v l) (copied_record g v l) y (fresh g v w)
      (laid_ext g law w s (copied_entry g v l) r (copied_record g v l) y (λ k k<. slot_is k k< (dec_lt k m)) (λ c i low high i<. record_is c i high (dec_lt c first)) b)
      (fresh_laid g v law size ok w w-size)

  -- ---- what code asks of entry k
  pub map_fits : (k : ℕ) → k < m → MapFits g (e k) (first_number g v l k)
  map_fits k k< p p< u =
      ((inside_is g (block_in g (e k) p) (block_inside g v law size ok k p k< p< u)).1, omega (arith, block_low g v law size ok w w-size k p k< p< u))
