-- A sweep's stores cut anywhere: each slot is as it was, or its entry was meant and is changed; the length stays, and so does
-- every record of a block from D to T-1.
use mathlib.Core.Path.{◌≡◌, refl, ap, ◌∙◌}
use mathlib.Core.Logic.{inr}
use mathlib.Core.Bool.{Bool, true, false, cond}
use mathlib.Core.List.{List}
use Prim.Native.Nat.{ℕ, ◌*◌, ◌≤◌, ◌<◌}
use native.Mathlib.Omega.{arith}
use native.Mathlib.Decide.{dec_lt}
use lib.ListN.{length}
use Rattle.lists.specs.Bounded.{fold}
use Rattle.disk_geometry.specs.declared.Geometry.{Geometry}
use Rattle.disk_geometry.specs.Geometry.{lawful, bytes, slots}
use Rattle.disk_volume.specs.Entry.{Entry}
use Rattle.disk_volume.specs.Directory.{slot_at, map_slot}
use Rattle.disk_volume.specs.Record.{record_at}
use Rattle.disk_stores.specs.Pieces.{meant_only}
use Rattle.disk_stores.specs.Stores.{Store, laid, cut, directory_records, sweep_stores}
use Rattle.disk_stores.proofs.LaidLaws.{cut_enough}
use Rattle.disk_stores.proofs.SweepLaws.{sweep_length, sweep_slot, sweep_other, sweep_record, map_slots_slot}
use Rattle.disk_stores.proofs.SweptLaws.{meant_keeps, sweep_cut, swept_laid}

-- an entry e, and what stands in its slot afterwards
pub data After (meant : Entry → Bool) (f : Entry → Entry) (e e' : Entry) : Type 0 where
  changed : meant e ≡ true → e' ≡ f e → After meant f e e'
  stays : e' ≡ e → After meant f e e'

pub record Swept (g : Geometry) (meant : Entry → Bool) (f : Entry → Entry) (v w : List ℕ) : Type 0 where
  pub size : length w ≡ bytes g
  pub slot : (j : ℕ) → j < slots g → After meant f (slot_at g v j) (slot_at g w j)
  pub beyond : (b n : ℕ) → g.directory_blocks ≤ b → b < g.blocks → record_at g w b n ≡ record_at g v b n

module _ (g : Geometry) (law : lawful g ≡ true) (meant : Entry → Bool) (f : Entry → Entry)
    (keeps : (e : Entry) → length e ≡ 32 → length (f e) ≡ 32) (v : List ℕ) (size : length v ≡ bytes g) where
  abbrev F : Entry → Entry
  F = meant_only meant f

  -- the first m slots
  first_swept : (m : ℕ) → m ≤ slots g → Swept g meant f v (fold (map_slot g F) v 0 m)
  first_swept m m≤ = record {
    size = sweep_length g law F F_32 0 m v size (omega arith) ∙ size;
    slot = λ j j<. at j j< (dec_lt j m);
    beyond = sweep_record g law F F_32 0 m v size (omega arith);
  }
    where
      F_32 : (e : Entry) → length e ≡ 32 → length (F e) ≡ 32
      F_32 = meant_keeps g law meant f keeps

      reached : (e e' : Entry) → e' ≡ F e → (t : Bool) → meant e ≡ t → After meant f e e'
      reached e e' is true q = changed q (is ∙ ap (λ (s : Bool). cond s (f e) e) q)
      reached e e' is false q = stays (is ∙ ap (λ (s : Bool). cond s (f e) e) q)

      at : (j : ℕ) → j < slots g → Dec (j < m) → After meant f (slot_at g v j) (slot_at g (fold (map_slot g F) v 0 m) j)
      at j j< (yes h) =
          reached (slot_at g v j) _ (sweep_slot g law F F_32 0 m v size (omega arith) j (omega arith) (omega arith)) (meant (slot_at g v j)) refl
      at j j< (no h) = stays (sweep_other g law F F_32 0 m v size (omega arith) j j< (inr (omega arith)))

  abbrev stores : List Store
  stores = sweep_stores g meant f v 0 (directory_records g)

  pub cut_swept : (k : ℕ) → Swept g meant f v (cut g v k stores)
  cut_swept k =
      let x = sweep_cut g law meant f keeps (directory_records g) 0 k v size (omega arith) in
      let m≤ : 4 * x.upto ≤ slots g = omega (arith, x.within) in
      rw x.is (first_swept (4 * x.upto) m≤)

  -- all of them laid down
  pub laid_swept : Swept g meant f v (laid g v stores)
  laid_swept = rw (cut_enough g v stores (length stores) (omega arith)) at (cut_swept (length stores))

  pub laid_slots : (j : ℕ) → j < slots g → slot_at g (laid g v stores) j ≡ F (slot_at g v j)
  laid_slots j j< =
      ap (λ (w : List ℕ). slot_at g w j) (swept_laid g law meant f keeps v size)
      ∙ map_slots_slot g law F (meant_keeps g law meant f keeps) v size j j<
