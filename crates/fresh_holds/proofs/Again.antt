-- "Copying the copy gives the same bytes": what is laid into each slot and each block is what stands there.
use mathlib.Core.Path.{◌≡◌, refl, sym, ap, ap₂, ◌∙◌}
use mathlib.Core.Bool.{Bool, true, false}
use mathlib.Core.List.{List, ◌++◌}
use Prim.Native.Nat.{ℕ, zero, suc, ◌+◌, ◌*◌, ◌-◌, ◌≤◌, ◌<◌}
use native.Mathlib.Decide.{dec_lt}
use native.Mathlib.Nat.{mod-eq_of_lt}
use native.Mathlib.Omega.{arith}
use lib.ListN.{length, get_or, take, replicate, length-append, get_or-eq_default}
use borrow.Author.Tests.{lt-ltb, le-ltb, ne_eqb}
use Rattle.lists.specs.Bounded.{fold}
use Rattle.lists.specs.Bytes.{part}
use Rattle.disk_geometry.specs.declared.Geometry.{Geometry}
use Rattle.disk_geometry.specs.Geometry.{lawful, bytes, records, start, slots, places}
use Rattle.disk_geometry.proofs.GeometryLaws.{bounds}
use Rattle.disk_volume.specs.Entry.{Entry, block_in}
use Rattle.disk_volume.specs.Directory.{slot_at}
use Rattle.disk_rules.specs.GoodSlot.{lowest_bad}
use Rattle.files.specs.Files.{is_used}
use Rattle.fresh_order.specs.Order.{order}
use Rattle.fresh_volume.specs.Copy.{blocks_below, number_place, numbered, entry_at, blocks_before, first_number, copied_entry, comes_to, copied_record, fresh}
use Rattle.fresh_volume.proofs.LaidLaws.{Laid, laid_same, laid_ext, laid_volume, laid_straight}
use Rattle.fresh_volume.proofs.NumberedLaws.{count_used, count_unused, turn, turn_at, turn_of}
use Rattle.fresh_volume.proofs.Copied.{many, moved, entry, fresh_laid, fresh_size}
use Rattle.fresh_holds.proofs.Passes.{fresh_head, fresh_used, fresh_number, fresh_passes}
use Rattle.fresh_holds.proofs.InTurn.{up_to, length_up, at_up, order_fresh}

-- ---- two entries with the same head and the same used places have as many blocks, and the same numbers
fold_same : (f h : Entry → ℕ → Entry) (n a : ℕ) (e : Entry) → ((d : Entry) (i : ℕ) → a ≤ i → i < a + n → f d i ≡ h d i) → fold f e a n ≡ fold h e a n
unfolding fold
fold_same f h zero a e s = refl
fold_same f h (suc n) a e s = rw (s e a (omega arith) (omega arith)) (fold_same f h n (suc a) (h e a) (λ d i l b. s d i (omega arith) (omega arith)))

module _ (g : Geometry) (d e : Entry) (alike : (p : ℕ) → p < places g → is_used g d p ≡ is_used g e p) where
  count_same : (p : ℕ) → p ≤ places g → length (blocks_below g d p) ≡ length (blocks_below g e p)
  unfolding blocks_below
  count_same zero h = refl
  count_same (suc p) h = go (is_used g e p) refl (count_same p (omega arith))
    where
      go : (t : Bool) → is_used g e p ≡ t → length (blocks_below g d p) ≡ length (blocks_below g e p) → length (blocks_below g d (suc p)) ≡ length (blocks_below g e (suc p))
      go true u ih = count_used g d p (alike p (omega arith) ∙ u) ∙ ap suc ih ∙ sym (count_used g e p u)
      go false u ih = count_unused g d p (alike p (omega arith) ∙ u) ∙ ih ∙ sym (count_unused g e p u)

  numbered_same : (b : ℕ) → take 16 d ≡ take 16 e → numbered g b d ≡ numbered g b e
  unfolding numbered number_place
  numbered_same b h =
      ap (λ (l : List ℕ). fold (number_place g b d) (l ++ replicate 16 0) 0 (places g)) h
      ∙ fold_same (number_place g b d) (number_place g b e) (places g) 0 (take 16 e ++ replicate 16 0)
      (λ c p l q. rw (alike p (omega arith), count_same p (omega arith)))

module _ (g : Geometry) (v : List ℕ) (law : lawful g ≡ true) (size : length v ≡ bytes g) (ok : lowest_bad g v ≡ slots g)
    (w : List ℕ) (w-size : length w ≡ bytes g) where
  abbrev m : ℕ
  m = many g v law size ok

  abbrev x : List ℕ
  x = fresh g v w

  in_order : order g x ≡ up_to m
  in_order = order_fresh g v law size ok w w-size

  as_many : length (order g x) ≡ m
  as_many = ap length in_order ∙ length_up m

  -- ---- entry k of the copy stands in its slot k
  entry_here : (k : ℕ) → k < m → entry_at g x (order g x) k ≡ slot_at g x k
  entry_here k h = ap (slot_at g x) (ap (λ (l : List ℕ). get_or l k 0) in_order ∙ at_up m k h)

  used_here : (k : ℕ) → k < m → (p : ℕ) → p < places g → is_used g (entry_at g x (order g x) k) p ≡ is_used g (entry g v law size ok k) p
  used_here k h p q = ap (λ (e : Entry). is_used g e p) (entry_here k h) ∙ fresh_used g v law size ok w w-size k p h q

  before_here : (k : ℕ) → k ≤ m → length (blocks_before g x (order g x) k) ≡ length (blocks_before g v (order g v) k)
  unfolding blocks_before
  before_here zero h = refl
  before_here (suc k) h =
      length-append (blocks_before g x (order g x) k) (blocks_below g (entry_at g x (order g x) k) (places g))
      ∙ ap₂ (λ (a b : ℕ). a + b) (before_here k (omega arith)) (count_same g (entry_at g x (order g x) k) (entry g v law size ok k) (used_here k h) (places g) (omega arith))
      ∙ sym (length-append (blocks_before g v (order g v) k) (blocks_below g (entry g v law size ok k) (places g)))

  -- ---- the same is laid into each slot
  entry_again : (k : ℕ) → copied_entry g x (order g x) k ≡ copied_entry g v (order g v) k
  unfolding copied_entry
  entry_again k = elim (dec_lt k m) [
    | yes h ↦
        rw (lt-ltb k (length (order g x)) (omega (arith, as_many)), lt-ltb k m h)
        (numbered_same g (entry_at g x (order g x) k) (entry g v law size ok k) (used_here k h) (first_number g x (order g x) k) (ap (take 16) (entry_here k h) ∙ fresh_head g v law size ok w w-size k h)
        ∙ ap (λ (n : ℕ). numbered g (g.directory_blocks + n) (entry g v law size ok k)) (before_here k (omega arith)))
    | no h ↦ rw (le-ltb k (length (order g x)) (omega (arith, as_many)), le-ltb k m (omega arith))
  ]

  -- ---- and into each block
  all_here : length (blocks_before g x (order g x) (length (order g x))) ≡ length (moved g v law size ok)
  all_here = ap (λ (n : ℕ). length (blocks_before g x (order g x) n)) as_many ∙ before_here m (omega arith)

  -- a block that has come stays where it is
  stays : (b : ℕ) → g.directory_blocks ≤ b → b - g.directory_blocks < length (moved g v law size ok) → comes_to g x (order g x) b ≡ b
  stays b low h =
      let n = length (order g x) in
      let t = turn_of g x (order g x) n (b - g.directory_blocks) (omega (arith, all_here)) in
      let k = t.entry in
      let k< : k < m = omega (arith, t.lower, as_many) in
      let u : is_used g (entry g v law size ok k) t.place ≡ true = sym (used_here k k< t.place t.in_map) ∙ t.used in
      let at : get_or (blocks_before g x (order g x) n) (turn g x (order g x) k t.place) 0 ≡ block_in g (entry_at g x (order g x) k) t.place =
      turn_at g x (order g x) k n t.place t.lower t.in_map t.used in
      let number : block_in g (entry_at g x (order g x) k) t.place ≡ g.directory_blocks + turn g v (order g v) k t.place =
      ap (λ (e : Entry). block_in g e t.place) (entry_here k k<) ∙ fresh_number g v law size ok w w-size k t.place k< t.in_map u in
      let same : turn g x (order g x) k t.place ≡ turn g v (order g v) k t.place =
      ap₂ (λ (a c : ℕ). a + c) (before_here k (omega arith)) (count_same g (entry_at g x (order g x) k) (entry g v law size ok k) (used_here k k<) t.place (omega (arith, t.in_map))) in
      ap (λ (j : ℕ). get_or (blocks_before g x (order g x) n) j 0) t.is ∙ at ∙ number ∙ omega (arith, same, t.is)

  record_again : (b n : ℕ) → g.directory_blocks ≤ b → b < g.blocks → n < records g → copied_record g x (order g x) b n ≡ copied_record g v (order g v) b n
  unfolding copied_record
  record_again b n low high n< = elim (dec_lt (b - g.directory_blocks) (length (moved g v law size ok))) [
    | yes h ↦
        rw (stays b low h, ne_eqb b 0 (λ z. omega (arith, (bounds g law).directory_low)))
        ((fresh_laid g v law size ok w w-size).block b n low high ∙ ap (copied_record g v (order g v) b) (mod-eq_of_lt n<))
    | no h ↦
        let here : comes_to g x (order g x) b ≡ 0 = get_or-eq_default (blocks_before g x (order g x) (length (order g x))) 0 (omega (arith, all_here)) in
        let there : comes_to g v (order g v) b ≡ 0 = get_or-eq_default (moved g v law size ok) 0 (omega arith) in
        rw (here, there)
  ]

  -- what is laid on z from the copy
  again_laid : (z : List ℕ) → length z ≡ bytes g → Laid g law z (copied_entry g v (order g v)) (copied_record g v (order g v)) (fresh g x z)
  again_laid z z-size =
      laid_ext g law z (copied_entry g x (order g x)) (copied_entry g v (order g v)) (copied_record g x (order g x)) (copied_record g v (order g v)) (fresh g x z)
      (λ k h. entry_again k) record_again
      (fresh_laid g x law (fresh_size g v law size ok w w-size) (fresh_passes g v law size ok w w-size) z z-size)

  pub again_on : (z : List ℕ) → length z ≡ bytes g → fresh g x z ≡ fresh g v z
  again_on z z-size =
      laid_same g law z (copied_entry g v (order g v)) (copied_record g v (order g v)) (fresh g x z) (fresh g v z) (again_laid z z-size) (fresh_laid g v law size ok z z-size)

  pub again_volume : (z : List ℕ) → length z ≡ bytes g → (q : ℕ) → q < g.blocks * records g → part (fresh g x z) (start g q) 128 ≡ part x (start g q) 128
  again_volume z z-size =
      laid_volume g law z w (copied_entry g v (order g v)) (copied_record g v (order g v)) (fresh g x z) x (again_laid z z-size) (fresh_laid g v law size ok w w-size)

  pub again_all : g.placing ≡ 0 → (z : List ℕ) → length z ≡ bytes g → fresh g x z ≡ x
  again_all straight z z-size =
      laid_straight g law z w (copied_entry g v (order g v)) (copied_record g v (order g v)) (fresh g x z) x (again_laid z z-size) (fresh_laid g v law size ok w w-size) straight

  -- ---- as many blocks have come
  pub moved_again : length (moved g x law (fresh_size g v law size ok w w-size) (fresh_passes g v law size ok w w-size)) ≡ length (moved g v law size ok)
  moved_again = all_here
