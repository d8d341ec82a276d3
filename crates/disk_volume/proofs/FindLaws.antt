-- What the lowest slot that has something tells: found, the entry in it has what is wanted and none below does; not found, none has.
-- So a step for each slot that has something may begin at the lowest that has it.
use mathlib.Core.Path.{◌≡◌, refl, sym, ◌∙◌}
use mathlib.Core.Bool.{Bool, true, false, true≢false}
use mathlib.Core.List.{List}
use Prim.Native.Nat.{ℕ, zero, suc, ◌+◌, ◌-◌, ◌≤◌, ◌<◌}
use native.Mathlib.Omega.{arith}
use lib.Dec.{ltb, eqb}
use borrow.Author.Tests.{ltb-true, ltb-false}
use Rattle.lists.proofs.BoolLaws.{and_left}
use Rattle.lists.specs.Bounded.{low_from, any, fold}
use Rattle.lists.proofs.BoundedLaws.{Low, low_le, low_hit, low_miss, low_is, any_intro, any_none}
use Rattle.lists.proofs.FoldLaws.{Folded, fold_add}
use Rattle.disk_geometry.specs.declared.Geometry.{Geometry}
use Rattle.disk_volume.specs.declared.Wanted.{Wanted}
use Rattle.disk_volume.specs.declared.Wanted.TheVariants.{File, Group}
use Rattle.disk_geometry.specs.Geometry.{slots, group_of}
use Rattle.disk_volume.specs.Entry.{Entry, extent, of_file, of_group}
use Rattle.disk_volume.specs.Directory.{fits, slot_fits, slot_at, find_from, find_slot}

module _ (g : Geometry) (v : List ℕ) (u : ℕ) (name : List ℕ) where
  pub find_le : (w : Wanted) → find_slot g v u name w ≤ slots g
  unfolding find_slot
  find_le w = let h = low_le (slot_fits g v u name w) 0 (slots g) in omega arith

  pub found : (w : Wanted) → find_slot g v u name w < slots g → Low (slot_fits g v u name w) 0 (slots g) (find_slot g v u name w)
  unfolding find_slot
  found w h = low_hit (slot_fits g v u name w) 0 (slots g) (low_from (slot_fits g v u name w) 0 (slots g)) refl (omega arith)

  -- the entry in the slot has what is wanted
  pub found_fits : (w : Wanted) → find_slot g v u name w < slots g → slot_fits g v u name w (find_slot g v u name w) ≡ true
  found_fits w h = (found w h).passes

  -- none has it
  pub not_found : (w : Wanted) → slots g ≤ find_slot g v u name w → (i : ℕ) → i < slots g → slot_fits g v u name w i ≡ false
  unfolding find_slot
  not_found w h i b = low_miss (slot_fits g v u name w) 0 (slots g) (omega arith) i (omega arith) (omega arith)

  -- none below has it
  pub found_first : (w : Wanted) (i : ℕ) → i < find_slot g v u name w → slot_fits g v u name w i ≡ false
  found_first w i h = go (ltb (find_slot g v u name w) (slots g)) refl
    where
      go : (t : Bool) → ltb (find_slot g v u name w) (slots g) ≡ t → slot_fits g v u name w i ≡ false
      go true e = (found w (ltb-true _ _ e)).first i (omega arith) h
      go false e = not_found w (ltb-false _ _ e) i (omega (arith, find_le w))

  -- a slot that has it: the lowest is no higher
  pub find_low : (w : Wanted) (i : ℕ) → slot_fits g v u name w i ≡ true → find_slot g v u name w ≤ i
  find_low w i e = go (ltb i (find_slot g v u name w)) refl
    where
      go : (t : Bool) → ltb i (find_slot g v u name w) ≡ t → find_slot g v u name w ≤ i
      go true q = absurd (true≢false (sym e ∙ found_first w i (ltb-true _ _ q)))
      go false q = ltb-false _ _ q

  pub find_is : (w : Wanted) (i : ℕ) → Low (slot_fits g v u name w) 0 (slots g) i → find_slot g v u name w ≡ i
  unfolding find_slot
  find_is w i l = low_is (slot_fits g v u name w) 0 (slots g) i l

  -- what has the one also has the other: where the one is found so is the other
  pub found_other : (w x : Wanted) → ((e : Entry) → fits g u name w e ≡ true → fits g u name x e ≡ true) → find_slot g v u name w < slots g → find_slot g v u name x < slots g
  found_other w x f h =
      let l : find_slot g v u name x ≤ find_slot g v u name w = find_low x (find_slot g v u name w) (f (slot_at g v (find_slot g v u name w)) (found_fits w h)) in
      omega arith

  -- a file that has an entry of group k exists
  pub group_file : (k : ℕ) → find_slot g v u name (Group k) < slots g → find_slot g v u name File < slots g
  unfolding of_group
  group_file k = found_other (Group k) File (λ e h. and_left (of_file u name e) (eqb (group_of g (extent e)) k) h)

  -- a search from slot i on: it ends at i or above, and none that it passed has what is wanted
  pub from_low : (w : Wanted) (i : ℕ) → i ≤ slots g → i ≤ find_from g v u name w i
  from_low w i h = go (ltb (find_from g v u name w i) (i + (slots g - i))) refl
    where
      go : (t : Bool) → ltb (find_from g v u name w i) (i + (slots g - i)) ≡ t → i ≤ find_from g v u name w i
      go true e = (low_hit (slot_fits g v u name w) i (slots g - i) (find_from g v u name w i) refl (ltb-true _ _ e)).from
      go false e = omega (arith, ltb-false (find_from g v u name w i) (i + (slots g - i)) e)

  pub from_first : (w : Wanted) (i m : ℕ) → i ≤ m → m < find_from g v u name w i → slot_fits g v u name w m ≡ false
  from_first w i m low high = go (ltb (find_from g v u name w i) (i + (slots g - i))) refl
    where
      go : (t : Bool) → ltb (find_from g v u name w i) (i + (slots g - i)) ≡ t → slot_fits g v u name w m ≡ false
      go true e = (low_hit (slot_fits g v u name w) i (slots g - i) (find_from g v u name w i) refl (ltb-true _ _ e)).first m low high
      go false e =
          let all = low_le (slot_fits g v u name w) i (slots g - i) in
          low_miss (slot_fits g v u name w) i (slots g - i) (ltb-false _ _ e) m low (omega arith)

  -- the entry in the slot where it ends has what is wanted
  pub from_fits : (w : Wanted) (i : ℕ) → i ≤ slots g → find_from g v u name w i < slots g → slot_fits g v u name w (find_from g v u name w i) ≡ true
  from_fits w i h l = (low_hit (slot_fits g v u name w) i (slots g - i) (find_from g v u name w i) refl (omega arith)).passes

  pub from_le : (w : Wanted) (i : ℕ) → i ≤ slots g → find_from g v u name w i ≤ slots g
  from_le w i h = let l = low_le (slot_fits g v u name w) i (slots g - i) in omega arith

  -- one of the n lowest slots has it exactly if the lowest that has it is one of them
  pub any_below : (w : Wanted) (n : ℕ) → n ≤ slots g → any n (slot_fits g v u name w) ≡ ltb (find_slot g v u name w) n
  any_below w n h = go (ltb (find_slot g v u name w) n) refl
    where
      go : (t : Bool) → ltb (find_slot g v u name w) n ≡ t → any n (slot_fits g v u name w) ≡ t
      go true e =
          let l : find_slot g v u name w < n = ltb-true _ _ e in
          any_intro (slot_fits g v u name w) 0 n (find_slot g v u name w) (omega arith) (omega arith) (found_fits w (omega arith))
      go false e = any_none (slot_fits g v u name w) 0 n (λ m low high. found_first w m (omega (arith, ltb-false (find_slot g v u name w) n e)))

-- ---- steps that change nothing are passed over
fold_over : {A : Type 0} (step : A → ℕ → A) (a : A) (i k : ℕ) → ((m : ℕ) → i ≤ m → m < i + k → step a m ≡ a) → fold step a i k ≡ a
unfolding fold
fold_over step a i zero h = refl
fold_over step a i (suc k) h =
    rw (h i (omega arith) (omega arith)) (fold_over step a (suc i) k (λ m low high. h m (omega arith) (omega arith)))

pub fold_from : {A : Type 0} (step : A → ℕ → A) (a : A) (n i j : ℕ) → i ≤ j → j ≤ n → ((m : ℕ) → i ≤ m → m < j → step a m ≡ a)
    → fold step a i (n - i) ≡ fold step a j (n - j)
fold_from step a n i j low high h =
    let z : n - i ≡ (j - i) + (n - j) = omega arith in
    let y : i + (j - i) ≡ j = omega arith in
    rw (z, fold_add step a i (j - i) (n - j), fold_over step a i (j - i) (λ m l b. h m l (omega arith)), y)

-- a loop over the slots that begins at the lowest that has what is wanted
module _ (g : Geometry) (v : List ℕ) (u : ℕ) (name : List ℕ) (w : Wanted) where
  pub folded_from_found : {A : Type 0} (step : A → ℕ → A) (a : A) → ((i : ℕ) → slot_fits g v u name w i ≡ false → step a i ≡ a)
      → Folded step a (slots g) a (find_slot g v u name w)
  folded_from_found step a h =
      let z : slots g - 0 ≡ slots g = omega arith in
      record {
        rest = rw z at (fold_from step a (slots g) 0 (find_slot g v u name w) (omega arith) (find_le g v u name w) (λ m low high. h m (found_first g v u name w m high)));
      }

  -- and goes on at the next that has it
  pub folded_to_next : {A : Type 0} {step : A → ℕ → A} {a₀ a : A} {i : ℕ} → Folded step a₀ (slots g) a i → i ≤ slots g
      → ((m : ℕ) → slot_fits g v u name w m ≡ false → step a m ≡ a) → Folded step a₀ (slots g) a (find_from g v u name w i)
  folded_to_next {A} {step} {a₀} {a} {i} f i≤ h =
      record {
        rest =
            f.rest
            ∙ fold_from step a (slots g) i (find_from g v u name w i) (from_low g v u name w i i≤) (from_le g v u name w i i≤) (λ m low high. h m (from_first g v u name w i m low high));
      }
