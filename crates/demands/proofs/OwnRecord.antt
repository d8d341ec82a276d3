-- The record that a write means, at each cut: as it was before, or present with the bytes written. Nothing else: so data come
-- before the entry, and a record is stored whole.
use mathlib.Core.Path.{◌≡◌, refl, sym, ap, ◌∙◌}
use mathlib.Core.Logic.{◌⊎◌, inl, inr}
use mathlib.Core.Bool.{Bool, true, false, ◌&&◌, false≢true}
use mathlib.Core.List.{List}
use Prim.Native.Nat.{ℕ, ◌/◌, ◌≤◌}
use native.Mathlib.Omega.{arith}
use lib.ListN.{length}
use lib.Dec.{ltb}
use borrow.Author.Tests.{lt-ltb, ltb-true, ne_eqb}
use Rattle.lists.proofs.BoundedLaws.{low_ext}
use Rattle.disk_geometry.specs.declared.Geometry.{Geometry}
use Rattle.disk_geometry.specs.Geometry.{lawful, bytes, slots, group_of, place_of}
use Rattle.disk_volume.specs.declared.Wanted.TheVariants.{Group}
use Rattle.disk_volume.specs.Name.{name_of}
use Rattle.disk_volume.specs.Entry.{Entry, block_in, of_group}
use Rattle.disk_volume.specs.Directory.{slot_at, slot_fits, find_slot}
use Rattle.disk_volume.specs.Record.{record_slot, record_block, record_at, counted, present}
use Rattle.call_read.specs.Read.{read_block, read_bytes}
use Rattle.call_answers.specs.Refusal.{is_none, first_met}
use Rattle.call_decide.specs.Write.{has_group, base_entry, needs_block, write_block, write_tests}
use Rattle.filecalls.specs.declared.Drive.{Drive}
use Rattle.demands.proofs.Demand2Apart.{own, own_block, has_group_lem}
use Rattle.demands.proofs.Demand2Others.{is_present}
use Rattle.demands.proofs.Demand2Others as place
use Rattle.demands.specs.Cuts.{Itself, as_before, as_written}
use Rattle.demands.proofs.DataStored.{DataOnly}

module _ (d : Drive) (v f : List ℕ) (n : ℕ) (law : lawful d.geometry ≡ true) (size : length v ≡ bytes d.geometry) (u15 : d.user ≤ 15)
    (passed : is_none (first_met (write_tests d.geometry d.held v d.user (name_of f) n)) ≡ true) (w r : List ℕ)
    (only : DataOnly d.geometry (write_block d.geometry d.held v d.user (name_of f) n) v w)
    (stored : needs_block d.geometry v d.user (name_of f) n ≡ false
    → (record_at d.geometry w (write_block d.geometry d.held v d.user (name_of f) n) n ≡ record_at d.geometry v (write_block d.geometry d.held v d.user (name_of f) n) n)
    ⊎ (record_at d.geometry w (write_block d.geometry d.held v d.user (name_of f) n) n ≡ r)) where
  abbrev g : Geometry
  g = d.geometry

  abbrev u : ℕ
  u = d.user

  abbrev name : List ℕ
  name = name_of f

  abbrev b : ℕ
  b = write_block d.geometry d.held v d.user (name_of f) n

  abbrev i : ℕ
  i = record_slot d.geometry v d.user (name_of f) n

  slot_same : record_slot g w u name n ≡ i
  unfolding record_slot find_slot
  slot_same =
      low_ext (slot_fits g w u name (Group (group_of g (n / 128)))) (slot_fits g v u name (Group (group_of g (n / 128)))) 0 (slots g)
      (λ j x y. ap (of_group g u name (group_of g (n / 128))) (only.slots_same j (omega arith)))

  module _ (h : present g v u name n ≡ true) where
    p : place.Present g v u name n
    p = is_present g v u name n h

    has : has_group g v u name n ≡ true
    has = lt-ltb i (slots g) p.slot

    no_need : needs_block g v u name n ≡ false
    unfolding needs_block read_block
    no_need =
        ne_eqb (record_block g (base_entry g v u name n) n) 0
        (λ z. p.block (ap (λ (e : Entry). record_block g e n) (sym (own g d.held v u name n law size u15 passed has).entry_is) ∙ z))

    block_is : b ≡ record_block g (slot_at g v i) n
    block_is =
        own_block g d.held v u name n law size u15 passed no_need
        ∙ ap (λ (j : ℕ). block_in g (slot_at g v j) (place_of g n)) (has_group_lem g d.held v u name n law size u15 passed no_need).slot_is

    still : present g w u name n ≡ true
    unfolding present
    still = rw (slot_same, only.slots_same i p.slot) h

    bytes_now : read_bytes g w u name n ≡ record_at g w b n
    unfolding read_bytes read_block
    bytes_now = rw (slot_same, only.slots_same i p.slot, block_is)

    bytes_then : read_bytes g v u name n ≡ record_at g v b n
    unfolding read_bytes read_block
    bytes_then = rw block_is

    itself_present : Itself d f v w n r
    itself_present = go (stored no_need)
      where
        go : (record_at g w b n ≡ record_at g v b n) ⊎ (record_at g w b n ≡ r) → Itself d f v w n r
        go (inl z) = as_before (still ∙ sym h) (λ s q. record { is_present = still; has_bytes = bytes_now ∙ z ∙ sym bytes_then ∙ q.has_bytes })
        go (inr z) = as_written (record { is_present = still; has_bytes = bytes_now ∙ z })

  -- a record is present where it was
  presence : present g w u name n ≡ present g v u name n
  unfolding present
  presence = rw slot_same (go (ltb i (slots g)) refl)
    where
      go : (t : Bool) → ltb i (slots g) ≡ t → (ltb i (slots g) && counted g (slot_at g w i) n) ≡ (ltb i (slots g) && counted g (slot_at g v i) n)
      go false e = rw e
      go true e = rw (e, only.slots_same i (ltb-true i (slots g) e))

  pub own_data : Itself d f v w n r
  own_data = go (present g v u name n) refl
    where
      go : (t : Bool) → present g v u name n ≡ t → Itself d f v w n r
      go true h = itself_present h
      go false h = as_before presence (λ s q. absurd (false≢true (sym h ∙ q.is_present)))
