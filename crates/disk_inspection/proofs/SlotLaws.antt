-- A slot's tests, as the code makes them one after the other.
use mathlib.Core.Path.{◌≡◌, sym, ap, ◌∙◌}
use mathlib.Core.Bool.{true, false, not, ◌&&◌, and-false}
use mathlib.Core.List.{List}
use Prim.Native.Nat.{ℕ, ◌+◌}
use native.Mathlib.Omega.{arith}
use borrow.Author.Tests.{eq-eqb, ne_eqb}
use Rattle.lists.specs.Bounded.{every}
use Rattle.lists.specs.Bytes.{byte}
use Rattle.lists.proofs.PartLaws.{byte_part}
use Rattle.disk_geometry.specs.declared.Geometry.{Geometry}
use Rattle.disk_geometry.specs.Geometry.{slot_start, places}
use Rattle.disk_volume.specs.Name.{name_of, good_name}
use Rattle.disk_volume.specs.Entry.{is_empty}
use Rattle.disk_volume.specs.Directory.{slot_at}
use Rattle.disk_rules.specs.GoodSlot.{good_fields, good_top_bits, good_place, seen_below, good_slot}

module _ (g : Geometry) (v : List ℕ) (i : ℕ) where
  -- the first byte of slot i, which begins at `at`
  first_byte : (at : ℕ) → at ≡ slot_start g i → byte (slot_at g v i) 0 ≡ byte v at
  unfolding slot_at
  first_byte at e =
      let z : slot_start g i + 0 ≡ at = omega arith in
      byte_part v (slot_start g i) 32 0 (omega arith) ∙ ap (byte v) z

  pub slot_empty : (at : ℕ) → at ≡ slot_start g i → byte v at ≡ 229 → is_empty (slot_at g v i) ≡ true
  slot_empty at e q = eq-eqb (byte (slot_at g v i) 0) 229 (first_byte at e ∙ q)

  pub slot_used : (at : ℕ) → at ≡ slot_start g i → (byte v at ≡ 229 → ⊥) → is_empty (slot_at g v i) ≡ false
  slot_used at e n = ne_eqb (byte (slot_at g v i) 0) 229 (λ q. n (sym (first_byte at e) ∙ q))

  pub empty_good : is_empty (slot_at g v i) ≡ true → good_slot g v i ≡ true
  unfolding good_slot
  empty_good e = rw e

  module _ (used : is_empty (slot_at g v i) ≡ false) where
    pub entry_bad : good_fields (slot_at g v i) && good_name false (name_of (slot_at g v i)) && good_top_bits (slot_at g v i) ≡ false → good_slot g v i ≡ false
    unfolding good_slot
    entry_bad e = rw (used, e)

    pub map_bad : every (places g) (good_place g v i) ≡ false → good_slot g v i ≡ false
    unfolding good_slot
    map_bad e = rw (used, e, and-false)

    -- all but the last test passed
    pub seen_decides : good_fields (slot_at g v i) && good_name false (name_of (slot_at g v i)) && good_top_bits (slot_at g v i) ≡ true
        → every (places g) (good_place g v i) ≡ true → good_slot g v i ≡ not (seen_below g v i)
    unfolding good_slot
    seen_decides e m = rw (used, e, m)
