-- The entries of a fresh disk stand in order already: slot 0 first, then slot 1, up to its last entry.
use mathlib.Core.Path.{◌≡◌, refl, sym, ap, ◌∙◌}
use mathlib.Core.Bool.{true, false}
use mathlib.Core.Logic.{◌≢◌}
use mathlib.Core.List.{List, [], ◌∷◌, ◌++◌}
use Prim.Native.Nat.{ℕ, zero, suc, ◌+◌, ◌-◌, ◌*◌, ◌≤◌, ◌<◌}
use native.Mathlib.Decide.{ℕ_discrete, dec_lt}
use native.Mathlib.Omega.{arith}
use lib.Dec.{eqb}
use lib.ListN.{length, get_or, length-append, get_or-append}
use lib.Seq.{get_or_at}
use borrow.Author.Tests.{lt-leb, eq-eqb, eqb-true}
use Rattle.lists.specs.Bounded.{fold}
use Rattle.lists.specs.Bytes.{byte}
use Rattle.lists.proofs.BoolLaws.{and_parts}
use Rattle.disk_geometry.specs.declared.Geometry.{Geometry}
use Rattle.disk_geometry.specs.Geometry.{lawful, bytes, slots}
use Rattle.disk_geometry.proofs.GeometryLaws.{bounds}
use Rattle.disk_volume.specs.declared.Wanted.TheVariants.{File}
use Rattle.disk_volume.specs.Name.{name_of, same}
use Rattle.disk_volume.specs.Entry.{is_empty, extent, of_file}
use Rattle.disk_volume.specs.Directory.{slot_at, find_slot}
use Rattle.disk_volume.proofs.NameLaws.{same_refl, same_true}
use Rattle.disk_volume.proofs.FindLaws.{find_low, found_fits}
use Rattle.disk_rules.specs.GoodSlot.{lowest_bad}
use Rattle.fresh_order.specs.Order.{file_slot, goes_before, put_before, enter, order}
use Rattle.fresh_order.specs.CodeKeys.{key_of, All, ordered_to}
use Rattle.fresh_order.proofs.EnteredLaws.{behind_all}
use Rattle.fresh_order.proofs.OrderLaws.{IsEntry, extent_low, key_before, key_rises, few_entries, ordered, next_empty, next_entry}
use Rattle.fresh_volume.specs.Copy.{fresh}
use Rattle.fresh_volume.proofs.Copied.{many, is_entry_lem, slot_blank}
use Rattle.fresh_holds.proofs.Passes.{fresh_empty, fresh_user, fresh_name, fresh_extent, fresh_passes}

-- ---- the numbers below n
pub up_to : ℕ → List ℕ
up_to zero = []
up_to (suc n) = up_to n ++ (n ∷ [])

pub length_up : (n : ℕ) → length (up_to n) ≡ n
unfolding up_to
length_up zero = refl
length_up (suc n) = length-append (up_to n) (n ∷ []) ∙ omega (arith, length_up n)

pub at_up : (n k : ℕ) → k < n → get_or (up_to n) k 0 ≡ k
unfolding up_to
at_up zero k h = absurd (omega arith)
at_up (suc n) k h = go (ℕ_discrete k n) (λ l. at_up n k l)
  where
    go : Dec (k ≡ n) → (k < n → get_or (up_to n) k 0 ≡ k) → get_or (up_to n ++ (n ∷ [])) k 0 ≡ k
    go (yes z) ih = rw z (get_or_at (up_to n) n [] 0 n (length_up n))
    go (no z) ih = get_or-append (up_to n) (n ∷ []) 0 k (omega (arith, length_up n)) ∙ ih (omega arith)

all_behind : (p : ℕ → Type 0) (l : List ℕ) (x : ℕ) → All p l → p x → All p (l ++ (x ∷ []))
all_behind p [] x a h = (h, tt)
all_behind p (y ∷ l) x a h = (a.0, all_behind p l x a.1 h)

all_up : (p : ℕ → Type 0) (n : ℕ) → ((j : ℕ) → j < n → p j) → All p (up_to n)
unfolding up_to
all_up p zero h = tt
all_up p (suc n) h = all_behind p (up_to n) n (all_up p n (λ j l. h j (omega arith))) (h n (omega arith))

-- ---- the lowest slot of an entry's file
module _ (g : Geometry) (v : List ℕ) where
  own_file : (i : ℕ) → of_file (byte (slot_at g v i) 0) (name_of (slot_at g v i)) (slot_at g v i) ≡ true
  unfolding of_file
  own_file i = rw (eq-eqb (byte (slot_at g v i) 0) (byte (slot_at g v i) 0) refl, same_refl (name_of (slot_at g v i)))

  file_low : (i : ℕ) → file_slot g v i ≤ i
  unfolding file_slot
  file_low i = find_low g v (byte (slot_at g v i) 0) (name_of (slot_at g v i)) File i (own_file i)

  -- it has an entry of the same file
  record SameFile (i j : ℕ) : Type 0 where
    user : byte (slot_at g v i) 0 ≡ byte (slot_at g v j) 0
    name : name_of (slot_at g v i) ≡ name_of (slot_at g v j)

  file_has : (i : ℕ) → i < slots g → SameFile (file_slot g v i) i
  unfolding file_slot of_file
  file_has i h =
      let u = byte (slot_at g v i) 0 in
      let n = name_of (slot_at g v i) in
      let f = slot_at g v (find_slot g v u n File) in
      let q : of_file u n f ≡ true = found_fits g v u n File (omega (arith, find_low g v u n File i (own_file i))) in
      let p = and_parts (eqb (byte f 0) u) (same (name_of f) n) q in
      record { user = eqb-true (byte f 0) u p.0; name = same_true (name_of f) n p.1 }

  file_same : (i j : ℕ) → SameFile i j → file_slot g v i ≡ file_slot g v j
  unfolding file_slot
  file_same i j s = rw (s.user, s.name)

  same_file : (i j : ℕ) → i < slots g → j < slots g → file_slot g v i ≡ file_slot g v j → SameFile i j
  same_file i j h l z =
      let a = file_has i h in
      let b = file_has j l in
      record {
        user = sym a.user ∙ ap (λ (x : ℕ). byte (slot_at g v x) 0) z ∙ b.user;
        name = sym a.name ∙ ap (λ (x : ℕ). name_of (slot_at g v x)) z ∙ b.name;
      }

module _ (g : Geometry) (v : List ℕ) (law : lawful g ≡ true) (size : length v ≡ bytes g) (ok : lowest_bad g v ≡ slots g)
    (w : List ℕ) (w-size : length w ≡ bytes g) where
  abbrev m : ℕ
  m = many g v law size ok

  abbrev x : List ℕ
  x = fresh g v w

  -- the slot on the worn disk of entry k
  abbrev from : ℕ → ℕ
  from k = get_or (order g v) k 0

  low : (k : ℕ) → k < m → from k < slots g
  low k h = (is_entry_lem g v law size ok k h).0

  slot_low : (k : ℕ) → k < m → k < slots g
  slot_low k h = omega (arith, few_entries g v law ok)

  -- ---- files are the same, there and here
  same_here : (j k : ℕ) → j < m → k < m → SameFile g v (from j) (from k) → SameFile g x j k
  same_here j k h l s = record {
    user = fresh_user g v law size ok w w-size j h ∙ s.user ∙ sym (fresh_user g v law size ok w w-size k l);
    name = fresh_name g v law size ok w w-size j h ∙ s.name ∙ sym (fresh_name g v law size ok w w-size k l);
  }

  same_there : (j k : ℕ) → j < m → k < m → SameFile g x j k → SameFile g v (from j) (from k)
  same_there j k h l s = record {
    user = sym (fresh_user g v law size ok w w-size j h) ∙ s.user ∙ fresh_user g v law size ok w w-size k l;
    name = sym (fresh_name g v law size ok w w-size j h) ∙ s.name ∙ fresh_name g v law size ok w w-size k l;
  }

  -- the numbers of two entries, as what they are made of
  record Parts (d : List ℕ) (i : ℕ) : Type 0 where
    is : key_of g d i ≡ (file_slot g d i * 512 + extent (slot_at g d i)) * 2048 + i
    extents : extent (slot_at g d i) < 512
    slot : i < 2048

  parts_worn : (k : ℕ) → k < m → Parts v (from k)
  unfolding key_of
  parts_worn k h = record { is = refl; extents = extent_low g v law ok (from k) (is_entry_lem g v law size ok k h); slot = omega (arith, low k h, (bounds g law).slots_high) }

  extent_here : (k : ℕ) → k < m → extent (slot_at g x k) ≡ extent (slot_at g v (from k))
  extent_here k h = fresh_extent g v law size ok w w-size k h

  parts_fresh : (k : ℕ) → k < m → Parts x k
  unfolding key_of
  parts_fresh k h = record { is = refl; extents = omega (arith, extent_here k h, (parts_worn k h).extents); slot = omega (arith, slot_low k h, (bounds g law).slots_high) }

  -- ---- of two entries the one in the lower slot has the lower number
  module _ (j k : ℕ) (h : j < k) (l : k < m) where
    before : key_of g v (from j) < key_of g v (from k)
    before = key_rises g v law ok j k h l

    within_file : file_slot g v (from j) ≡ file_slot g v (from k) → key_of g x j < key_of g x k
    within_file z =
        let a = parts_worn j (omega arith) in
        let b = parts_worn k l in
        let c = parts_fresh j (omega arith) in
        let d = parts_fresh k l in
        let f : file_slot g x j ≡ file_slot g x k = file_same g x j k (same_here j k (omega arith) l (same_file g v (from j) (from k) (low j (omega arith)) (low k l) z)) in
        omega (arith, before, a.is, b.is, a.slot, b.slot, c.is, d.is, extent_here j (omega arith), extent_here k l)

    -- the lowest slot here of the later file has no lower file there
    first_here : ℕ
    first_here = file_slot g x k

    first_low : first_here ≤ k
    unfolding first_here
    first_low = file_low g x k

    first_there : file_slot g v (from first_here) ≡ file_slot g v (from k)
    unfolding first_here
    first_there = file_same g v (from (file_slot g x k)) (from k) (same_there (file_slot g x k) k (omega (arith, file_low g x k)) l (file_has g x k (slot_low k l)))

    behind : file_slot g v (from j) < file_slot g v (from k) → j < first_here
    behind z = elim (dec_lt j first_here) [
      | yes q ↦ q
      | no q ↦ absurd (at (omega arith) (ℕ_discrete first_here j))
    ]
      where
        at : first_here ≤ j → Dec (first_here ≡ j) → ⊥
        at low (yes q) = omega (arith, first_there, ap (λ (i : ℕ). file_slot g v (from i)) q)
        at low (no q) =
            let a = parts_worn j (omega arith) in
            let b = parts_worn first_here (omega (arith, first_low)) in
            let c = key_rises g v law ok first_here j (omega arith) (omega arith) in
            omega (arith, first_there, a.is, b.is, a.extents, a.slot)

    across_files : file_slot g v (from j) ≢ file_slot g v (from k) → key_of g x j < key_of g x k
    unfolding first_here
    across_files n =
        let a = parts_worn j (omega arith) in
        let b = parts_worn k l in
        let c = parts_fresh j (omega arith) in
        let d = parts_fresh k l in
        let lower : file_slot g v (from j) < file_slot g v (from k) = omega (arith, before, a.is, b.is, a.extents, b.extents, a.slot, b.slot) in
        let q = behind lower in
        omega (arith, file_low g x j, c.is, d.is, c.extents, c.slot)

    pub rises_here : key_of g x j < key_of g x k
    rises_here = elim (ℕ_discrete (file_slot g v (from j)) (file_slot g v (from k))) [ yes z ↦ within_file z | no z ↦ across_files z ]

  -- ---- so the order is that of the slots
  passes : lowest_bad g x ≡ slots g
  passes = fresh_passes g v law size ok w w-size

  is_here : (n k : ℕ) → k < n → k < m → IsEntry g x n k
  is_here n k h l = (h, fresh_empty g v law size ok w w-size k l)

  order_low : (n : ℕ) → n ≤ m → ordered_to g x n ≡ up_to n
  unfolding fold up_to
  order_low zero h = refl
  order_low (suc n) h =
      let i = is_here (slots g) n (slot_low n h) h in
      next_entry g x law passes n i.0 (ordered g x law passes n (omega (arith, i.0))) i.1
      ∙ ap (λ (l : List ℕ). put_before (goes_before g x n) l n) (order_low n (omega arith))
      ∙ behind_all (goes_before g x n) (up_to n) n (all_up (λ j. goes_before g x n j ≡ false) n (λ j l. sym (key_before g x law passes n j i (is_here n j l (omega arith))) ∙ lt-leb (key_of g x n) (key_of g x j) (rises_here j n l h)))

  order_high : (d : ℕ) → m + d ≤ slots g → ordered_to g x (m + d) ≡ up_to m
  order_high zero h = let z : m + 0 ≡ m = omega arith in rw z (order_low m (omega arith))
  order_high (suc d) h =
      let z : m + suc d ≡ suc (m + d) = omega arith in
      let e : is_empty (slot_at g x (m + d)) ≡ true = ap is_empty (slot_blank g v law size ok w w-size (m + d) (omega arith) (omega arith)) in
      rw z (next_empty g x law passes (m + d) (omega arith) (ordered g x law passes (m + d) (omega arith)) e ∙ order_high d (omega arith))

  pub order_fresh : order g x ≡ up_to m
  unfolding order
  order_fresh =
      let z : m + (slots g - m) ≡ slots g = omega (arith, few_entries g v law ok) in
      ap (λ (n : ℕ). fold (enter g x) [] 0 n) (sym z) ∙ order_high (slots g - m) (omega (arith, few_entries g v law ok))
