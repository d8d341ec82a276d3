-- Entries that match a pattern are gone, some of them or all: the directory stays sound, and every file that the pattern
-- does not match stays as it is.
use mathlib.Core.Path.{◌≡◌, sym, ap, ◌∙◌}
use mathlib.Core.Bool.{true, false, ◌&&◌, true≢false}
use mathlib.Core.List.{List}
use Prim.Native.Nat.{ℕ, ◌≤◌, ◌<◌}
use native.Mathlib.Omega.{arith}
use lib.Dec.{eqb}
use lib.ListN.{length, set}
use lib.Seq.{get_or-set_same}
use borrow.Author.Tests.{eq-eqb}
use Rattle.lists.specs.Bytes.{byte}
use Rattle.disk_geometry.specs.declared.Geometry.{Geometry}
use Rattle.disk_geometry.specs.Geometry.{lawful, bytes, slots}
use Rattle.disk_volume.specs.Name.{like}
use Rattle.disk_volume.specs.Entry.{Entry, is_empty, block_in, matches}
use Rattle.disk_volume.specs.Directory.{slot_at}
use Rattle.disk_volume.proofs.DirectoryLaws.{slot_length}
use Rattle.call_sweep.specs.Sweep.{erased}
use Rattle.demands.proofs.Orderly.{Live, Orderly, sound_less}
use Rattle.demands.proofs.Frame.{Touch, unchanged, foreign, Apart}
use Rattle.demands.proofs.Files.{matched, other_match, file_block, empty_foreign}
use Rattle.demands.proofs.Acts.{Safe, leaves_apart}
use Rattle.demands.proofs.Swept.{After, changed, stays, Swept}

pub erased_empty : (e : Entry) → length e ≡ 32 → is_empty (erased e) ≡ true
erased_empty e l = eq-eqb (byte (set e 0 229) 0) 229 (get_or-set_same e 0 229 0 (omega arith))

module _ (g : Geometry) (law : lawful g ≡ true) (v : List ℕ) (size : length v ≡ bytes g) (sound : Orderly g (slot_at g v))
    (u : ℕ) (pattern w : List ℕ) (swept : Swept g (matches u pattern) erased v w) where
  gone_sound : Orderly g (slot_at g w)
  gone_sound = sound_less g (slot_at g v) (slot_at g w) sound (λ j j< l. left j j< l (swept.slot j j<))
    where
      left : (j : ℕ) → j < slots g → Live (slot_at g w j) → After (matches u pattern) erased (slot_at g v j) (slot_at g w j) → slot_at g w j ≡ slot_at g v j
      left j j< l (stays s) = s
      left j j< l (changed q is) = absurd (true≢false (sym (ap is_empty is ∙ erased_empty (slot_at g v j) (slot_length g law v size j j<)) ∙ l))

  gone_apart : (x : ℕ) (name : List ℕ) → x ≤ 15 → (eqb x u && like name pattern) ≡ false → Apart g x name v w
  gone_apart x name x15 other = record {
    entries = λ j j<. entry j j< (swept.slot j j<);
    bytes = λ j p n j< p< own nz.
        let b = file_block g v sound x name x15 j p j< p< own nz in
        swept.beyond (block_in g (slot_at g v j) p) n b.0 b.1;
  }
    where
      entry : (j : ℕ) → j < slots g → After (matches u pattern) erased (slot_at g v j) (slot_at g w j) → Touch x name (slot_at g v j) (slot_at g w j)
      entry j j< (stays s) = unchanged s
      entry j j< (changed q is) =
          foreign (other_match u pattern x name (slot_at g v j) other (matched u pattern (slot_at g v j) q))
          (empty_foreign x name (slot_at g w j) x15 (ap is_empty is ∙ erased_empty (slot_at g v j) (slot_length g law v size j j<)))

  pub gone_safe : Safe (λ x name. eqb x u && like name pattern) g v w
  gone_safe = record { same_size = swept.size ∙ sym size; sound = gone_sound; others = λ x name x15 other. leaves_apart g law x name v w (gone_apart x name x15 other) }
