-- Two entries that differ in their maps alone: all that is said of an entry but for its map is said of both.
use mathlib.Core.Path.{◌≡◌, sym, ap, ap₂, ◌∙◌}
use mathlib.Core.Bool.{cond}
use mathlib.Core.List.{List}
use Prim.Native.Nat.{ℕ, ◌+◌, ◌*◌, ◌<◌, min}
use native.Mathlib.Omega.{arith}
use lib.Dec.{ltb, eqb}
use lib.ListN.{length, take}
use lib.Seq.{get_or-take}
use Rattle.lists.specs.Bytes.{byte, part}
use Rattle.lists.proofs.BoundedLaws.{every_ext}
use Rattle.lists.proofs.PartLaws.{part_part}
use Rattle.disk_geometry.specs.declared.Geometry.{Geometry}
use Rattle.disk_volume.specs.Name.{strip, name_at, name_of}
use Rattle.disk_volume.specs.Entry.{Entry, is_empty, extent, count_of, of_file, of_group}
use Rattle.disk_rules.specs.GoodSlot.{good_fields, good_top_bits}

module _ (d e : Entry) (d32 : length d ≡ 32) (e32 : length e ≡ 32) (same : take 16 d ≡ take 16 e) where
  pub same_byte : (k : ℕ) → k < 16 → byte d k ≡ byte e k
  same_byte k h = sym (get_or-take 16 d k 0 h) ∙ ap (λ (l : List ℕ). byte l k) same ∙ get_or-take 16 e k 0 h

  pub same_empty : is_empty d ≡ is_empty e
  same_empty = ap (λ (x : ℕ). eqb x 229) (same_byte 0 (omega arith))

  heads : part d 0 16 ≡ part e 0 16
  unfolding part
  heads = same

  pub same_name : name_of d ≡ name_of e
  unfolding name_at
  same_name =
      ap strip
      (sym (part_part d 0 16 (omega arith) 1 11 (omega arith)) ∙ ap (λ (l : List ℕ). part l 1 11) heads ∙ part_part e 0 16 (omega arith) 1 11 (omega arith))

  pub same_file : (u : ℕ) (name : List ℕ) → of_file u name d ≡ of_file u name e
  unfolding of_file
  same_file u name = rw (same_byte 0 (omega arith), same_name)

  pub same_extent : extent d ≡ extent e
  same_extent = ap₂ (λ (x y : ℕ). 32 * x + y) (same_byte 14 (omega arith)) (same_byte 12 (omega arith))

  pub same_count : (x : ℕ) → count_of d x ≡ count_of e x
  unfolding count_of
  same_count x =
      ap₂ (λ (a b : ℕ). cond (ltb x a) 128 (cond (ltb a x) 0 (min b 128))) same_extent (same_byte 15 (omega arith))

  pub same_group : (g : Geometry) (u : ℕ) (name : List ℕ) (k : ℕ) → of_group g u name k d ≡ of_group g u name k e
  unfolding of_group
  same_group g u name k = rw (same_file u name, same_extent)

  pub same_fields : good_fields d ≡ good_fields e
  unfolding good_fields
  same_fields = rw (same_byte 0 (omega arith), same_byte 12 (omega arith), same_byte 13 (omega arith), same_byte 14 (omega arith), same_byte 15 (omega arith))

  pub same_top_bits : good_top_bits d ≡ good_top_bits e
  unfolding good_top_bits
  same_top_bits = every_ext _ _ 0 11 (λ k a b. rw (same_byte (1 + k) (omega arith)))
