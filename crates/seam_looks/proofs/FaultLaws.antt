-- What code learns on its way to a fault, as the definitions say it.
use Rattle.std.specs.Prelude.{Option, Some, None, IfSome}
use Rattle.numbers.specs.Numbers.{bytes_of}
use mathlib.Core.Path.{◌≡◌, refl, sym}
use mathlib.Core.Bool.{Bool, true, false, not, cond}
use mathlib.Core.List.{List}
use Prim.Native.Nat.{ℕ, ◌+◌, ◌-◌, ◌<◌}
use native.Mathlib.Omega.{arith}
use lib.Dec.{ltb, eqb}
use lib.ListN.{length, take, drop, replicate}
use lib.Seq.{take-take}
use borrow.Author.Tests.{eq-eqb, ne_eqb, eqb-true, ltb-true, not-true}
use Rattle.lists.specs.Bounded.{lowest}
use Rattle.lists.specs.Bytes.{part}
use Rattle.lists.proofs.BoundedLaws.{low_hit}
use Rattle.lists.proofs.PartLaws.{length_part}
use Rattle.disk_geometry.specs.declared.Geometry.{Geometry}
use Rattle.disk_geometry.specs.Geometry.{lawful, bytes, slots, slot_start, blocks, directory_blocks_of}
use Rattle.disk_volume.specs.CodeLent.{IsVolume}
use Rattle.disk_volume.specs.Directory.{slot_at}
use Rattle.disk_volume.proofs.DirectoryLaws.{slot_length}
use Rattle.disk_faults.specs.declared.Fault.{Fault}
use Rattle.disk_faults.specs.Faults.{has_other}
use Rattle.disk_held.specs.Held.{free_count}
use Rattle.disk_rules.specs.GoodSlot.{good_slot, lowest_bad}
use Rattle.disk_rules.specs.Named.{held_of}
use Rattle.call_answers.specs.declared.Refusal.TheVariants.{Closed, VolumeLength, BufferLength}
use Rattle.call_answers.specs.declared.Answer.TheVariants as answer
use Rattle.call_answers.specs.Refusal.{first_met}
use Rattle.filecalls.specs.declared.Reply.{Reply}
use Rattle.filecalls.specs.LogIn.{log_in, log_in_tests, refused_log_in}
use Rattle.seam_words.specs.Answered.{answered}
use Rattle.seam_looks.specs.Fault.{fault_length, rule_bytes, owner_length, owner_bytes, other_bytes, fault_for, explained, fault_at_seam}

-- where log-in tells of a bad slot, the volume is one of the geometry, and the slot is one of the volume and bad
pub record Bad (g : Geometry) (v : List ℕ) (slot : ℕ) : Type 0 where
  pub volume : IsVolume g v
  pub inside : slot < slots g
  pub bad : good_slot g v slot ≡ false

lowest_bad_lem : (g : Geometry) (v : List ℕ) → lowest_bad g v < slots g → good_slot g v (lowest_bad g v) ≡ false
unfolding lowest_bad
lowest_bad_lem g v h = not-true _ (low_hit (λ i. not (good_slot g v i)) 0 (slots g) (lowest (slots g) (λ i. not (good_slot g v i))) refl (omega arith)).passes

pub bad_slot_lem : (g : Geometry) (v : List ℕ) (slot : ℕ) → (log_in g v).answer ≡ answer.BadSlot slot → Bad g v slot
unfolding log_in log_in_tests first_met refused_log_in
bad_slot_lem g v slot said = go (lawful g) (eqb (length v) (bytes g)) (ltb (lowest_bad g v) (slots g)) refl refl refl
  where
    go : (a b c : Bool) → lawful g ≡ a → eqb (length v) (bytes g) ≡ b → ltb (lowest_bad g v) (slots g) ≡ c → Bad g v slot
    go false b c e f h =
        let k : (log_in g v).answer ≡ answer.Refused Closed = rw e in
        let z : ◌≡◌ {A = ℕ} 0 1 = cc in
        absurd (omega arith)
    go true false c e f h =
        let k : (log_in g v).answer ≡ answer.Refused VolumeLength = rw (e, f) in
        let z : ◌≡◌ {A = ℕ} 0 1 = cc in
        absurd (omega arith)
    go true true false e f h =
        let k : (log_in g v).answer ≡ answer.Ready (free_count (held_of g v) (directory_blocks_of g) (blocks g)) = rw (e, f, h) in
        let z : ◌≡◌ {A = ℕ} 0 1 = cc in
        absurd (omega arith)
    go true true true e f h =
        let k : (log_in g v).answer ≡ answer.BadSlot (lowest_bad g v) = rw (e, f, h) in
        let s : slot ≡ lowest_bad g v = cc in
        let l : lowest_bad g v < slots g = ltb-true (lowest_bad g v) (slots g) h in
        record { volume = (e, eqb-true (length v) (bytes g) f); inside = rw s l; bad = rw s (lowest_bad_lem g v l) }

-- ---- user and name: `&volume[at..at + 12]`, where at is the start of slot i
module _ (g : Geometry) (v : List ℕ) (known : IsVolume g v) (i : ℕ) (h : i < slots g) where
  pub owner_lent : (at : ℕ) → at ≡ slot_start g i → take (at + 12 - at) (drop at v) ≡ owner_bytes g v i
  unfolding owner_bytes slot_at part
  owner_lent at e =
      let z : at + 12 - at ≡ 12 = omega arith in
      rw (z, e) (sym (take-take 12 32 (drop (slot_start g i) v) (omega arith)))

  pub owner_length_lem : length (owner_bytes g v i) ≡ owner_length
  unfolding owner_bytes
  owner_length_lem = length_part (slot_at g v i) 0 12 (omega (arith, slot_length g known.0 v known.1 i h))

pub rule_length : (f : Option Fault) → length (rule_bytes f) ≡ 4
unfolding bytes_of
rule_length None = refl
rule_length (Some f) = refl

pub other_length : (g : Geometry) (v : List ℕ) → IsVolume g v → (f : Option Fault) → IfSome f (λ f. f.other < slots g) → length (other_bytes g v f) ≡ owner_length
unfolding other_bytes
other_length g v known None h = refl
other_length g v known (Some f) h = go (has_other f.rule)
  where
    go : (t : Bool) → length (cond t (owner_bytes g v f.other) (replicate owner_length 0)) ≡ owner_length
    go true = owner_length_lem g v known f.other h
    go false = refl

module _ (g : Geometry) (v f : List ℕ) where
  pub fault_refused : {r : ℕ} → (length f ≡ fault_length → ⊥) → r ≡ answered (answer.Refused BufferLength) → explained r f ≡ fault_at_seam g v f
  unfolding fault_at_seam
  fault_refused h e = rw (ne_eqb (length f) fault_length h, e)

  pub fault_done : {r : ℕ} {o : Reply} {after : List ℕ} → length f ≡ fault_length → o ≡ log_in g v
      → after ≡ fault_for g v o.answer → r ≡ answered o.answer → explained r after ≡ fault_at_seam g v f
  unfolding fault_at_seam
  fault_done h is lays e = rw (eq-eqb (length f) fault_length h, ← is, e, lays)
