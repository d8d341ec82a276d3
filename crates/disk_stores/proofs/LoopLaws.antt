-- A loop from one entry that is meant to the next, with a number of stores that are left: what is still to be done with what is
-- left gives the whole.
use mathlib.Core.Path.{◌≡◌, refl, sym, ap, ◌∙◌}
use mathlib.Core.Bool.{Bool, true}
use mathlib.Core.Logic.{◌≢◌}
use mathlib.Core.List.{List, [], ◌∷◌}
use Prim.Native.Nat.{ℕ, zero, suc, ◌+◌, ◌-◌, ◌*◌, ◌/◌, ◌%◌, ◌≤◌, ◌<◌}
use native.Mathlib.Omega.{arith}
use lib.ListN.{length}
use Rattle.lists.specs.Bytes.{part, put}
use Rattle.lists.proofs.PartLaws.{part_apart}
use Rattle.lists.proofs.BoundedLaws.{from_zero}
use Rattle.disk_geometry.specs.declared.Geometry.{Geometry}
use Rattle.disk_geometry.specs.Geometry.{lawful, bytes, records, start, slots}
use Rattle.disk_geometry.proofs.GeometryLaws.{bounds, start_in, start_apart}
use Rattle.disk_volume.specs.declared.Wanted.{Wanted}
use Rattle.disk_volume.specs.Entry.{Entry}
use Rattle.disk_volume.specs.Directory.{fits, slot_at, slot_fits, find_from, find_slot}
use Rattle.disk_volume.proofs.FindLaws.{find_le, from_low, from_first, from_fits}
use Rattle.disk_stores.specs.Pieces.{map_pieces, meant_only}
use Rattle.disk_stores.specs.Stores.{Store, store, laid, cut, sweep_stores}
use Rattle.disk_stores.proofs.CodeLaws.{cut_cons, cut_none}
use Rattle.disk_stores.proofs.SweptLaws.{pieces_128, slot_holds, sweep_same, stores_hit, stores_skip}

-- in slot i of the volume v, with so many left, on the way from v₀ with `most`
pub record Swept (g : Geometry) (meant : Entry → Bool) (f : Entry → Entry) (v₀ : List ℕ) (most : ℕ) (v : List ℕ) (left i : ℕ)
    : Type 0 where
  pub volume_is : cut g v₀ most (sweep_stores g meant f v₀ 0 (g.directory_blocks * records g))
      ≡ cut g v left (sweep_stores g meant f v (i / 4) (g.directory_blocks * records g - i / 4))
  pub left_is : most - length (sweep_stores g meant f v₀ 0 (g.directory_blocks * records g))
      ≡ left - length (sweep_stores g meant f v (i / 4) (g.directory_blocks * records g - i / 4))
  pub here : i < slots g → meant (slot_at g v i) ≡ true

module _ (g : Geometry) (good : lawful g ≡ true) (u : ℕ) (name : List ℕ) (w : Wanted) (f : Entry → Entry)
    (keeps : (e : Entry) → length e ≡ 32 → length (f e) ≡ 32) where
  abbrev meant : Entry → Bool
  meant = fits g u name w

  abbrev count : ℕ
  count = g.directory_blocks * records g

  -- from record r on to the next entry that is meant
  to_next : {v₀ v : List ℕ} {most left : ℕ} → length v ≡ bytes g → (r : ℕ) → r ≤ count
      → cut g v₀ most (sweep_stores g meant f v₀ 0 count) ≡ cut g v left (sweep_stores g meant f v r (count - r))
      → most - length (sweep_stores g meant f v₀ 0 count) ≡ left - length (sweep_stores g meant f v r (count - r))
      → (i : ℕ) → i ≡ find_from g v u name w (4 * r) → i ≤ slots g → Swept g meant f v₀ most v left i
  to_next {v₀} {v} {most} {left} size r h ev el i is below =
      let low = from_low g v u name w (4 * r) (omega arith) in
      let skip = stores_skip g good meant f keeps (i / 4 - r) r (i / 4) v size (omega arith) (omega arith)
      (λ j l b. from_first g v u name w (4 * r) j l (omega arith)) in
      record {
        volume_is = ev ∙ ap (cut g v left) skip;
        left_is = el ∙ ap (λ (l : List Store). left - length l) skip;
        here = λ l. rw is (from_fits g v u name w (4 * r) (omega arith) (omega arith));
      }

  -- at the first entry that is meant
  pub swept_first : {v : List ℕ} {most : ℕ} → length v ≡ bytes g → (i : ℕ) → i ≡ find_slot g v u name w → Swept g meant f v most v most i
  unfolding find_slot
  swept_first {v} {most} size i is =
      let z : count - 0 ≡ count = omega arith in
      to_next size 0 (omega arith) (rw z) (rw z) i (is ∙ sym (from_zero (slot_fits g v u name w) (slots g))) (rw is (find_le g v u name w))

  -- the record of slot i is stored if a store is left, and the loop goes on behind it
  module _ (v : List ℕ) (size : length v ≡ bytes g) (i : ℕ) (i< : i < slots g) where
    abbrev made : List ℕ
    made = map_pieces (meant_only meant f) (part v (start g (i / 4)) 128)

    i/4< : i / 4 < count
    i/4< = omega arith

    in_v : start g (i / 4) + 128 ≤ length v
    in_v = rw size (start_in g good (i / 4) (omega (arith, bounds g good)))

    made_128 : length made ≡ 128
    made_128 = pieces_128 g good meant f keeps v size (i / 4) i/4<

    -- records behind it stay as they were
    behind : (left q : ℕ) → q < count → q ≢ i / 4
        → part (cut g v left (store (i / 4) made ∷ [])) (start g q) 128 ≡ part v (start g q) 128
    unfolding laid
    behind zero q q< ne = refl
    behind (suc left) q q< ne =
        ap (λ (x : List ℕ). part x (start g q) 128) (cut_none g (put v (start g (i / 4)) 128 made) left)
        ∙ part_apart v (start g (i / 4)) 128 made (start g q) 128 in_v made_128
        (start_apart g good q (i / 4) (omega (arith, bounds g good)) (omega (arith, bounds g good)) ne)

    -- and so do the stores that are still to be made
    rest_same : (left : ℕ) → sweep_stores g meant f (cut g v left (store (i / 4) made ∷ [])) (i / 4 + 1) (count - (i / 4 + 1))
        ≡ sweep_stores g meant f v (i / 4 + 1) (count - (i / 4 + 1))
    rest_same left =
        sweep_same g good meant f keeps (count - (i / 4 + 1)) (i / 4 + 1) v (cut g v left (store (i / 4) made ∷ [])) (λ q a b. behind left q (omega arith) (omega arith))

    pub swept_next : {v₀ new : List ℕ} {most left left' j : ℕ} → Swept g meant f v₀ most v left i
        → new ≡ cut g v left (store (i / 4) made ∷ []) → left' ≡ left - 1 → length new ≡ bytes g
        → j ≡ find_from g new u name w (4 * (i / 4 + 1)) → j ≤ slots g → Swept g meant f v₀ most new left' j
    swept_next {v₀} {new} {most} {left} {left'} {j} s e l size' is below =
        let holds = slot_holds g good meant f keeps v size (i / 4) i/4< (i % 4) (omega arith) (let z : 4 * (i / 4) + i % 4 ≡ i = omega arith in rw z (s.here i<)) in
        let z : count - i / 4 ≡ suc (count - (i / 4 + 1)) = omega arith in
        let y : suc (i / 4) ≡ i / 4 + 1 = omega arith in
        let list = ap (sweep_stores g meant f v (i / 4)) z ∙ stores_hit g good meant f keeps (count - (i / 4 + 1)) (i / 4) v holds in
        let same = rest_same left in
        to_next size' (i / 4 + 1) (omega arith)
        (s.volume_is ∙ ap (cut g v left) list ∙ rw (y, e, l, same)
        (cut_cons g v (store (i / 4) made) (sweep_stores g meant f v (i / 4 + 1) (count - (i / 4 + 1))) left))
        (s.left_is ∙ ap (λ (x : List Store). left - length x) list ∙ rw (y, e, l, same) (omega arith))
        j is below

  pub swept_end : {v₀ v : List ℕ} {most left i : ℕ} → Swept g meant f v₀ most v left i → slots g ≤ i → i ≤ slots g
      → (v ≡ cut g v₀ most (sweep_stores g meant f v₀ 0 count)) × (left ≡ most - length (sweep_stores g meant f v₀ 0 count))
  unfolding sweep_stores laid
  swept_end {v₀} {v} {most} {left} {i} s h h' =
      let z : count - i / 4 ≡ 0 = omega arith in
      (sym (s.volume_is ∙ rw z (cut_none g v left)), sym (s.left_is ∙ rw z (omega arith)))
