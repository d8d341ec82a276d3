-- Four parts fill the 32 bytes; the other slot is never above the bad one, so it is one of the volume.
use Rattle.std.specs.Prelude.{Option, Some, None, IfSome}
use Rattle.disk_faults.specs.declared.Fault.{Fault}
use mathlib.Core.Path.{refl}
use Prim.Native.Nat.{ℕ, ◌<◌, ◌≤◌}
use native.Mathlib.Omega.{arith}
use Rattle.numbers.specs.Numbers.{bytes_of}
use Rattle.lists.specs.Bytes.{put}
use Rattle.drive_bytes.proofs.LayLaws.{four_laid}
use Rattle.disk_faults.proofs.OtherLaws.{other_below}
use Rattle.seam_looks.specs.Fault.{rule_bytes, slot_bytes, owner_bytes, other_bytes, fault_bytes}
use Rattle.seam_looks.proofs.FaultLaws.{rule_length, owner_length_lem, other_length}
use borrow.Author.Rules.{rules}
use Rattle.seam_looks.proofs.bad_slot.put_fault.Goals as goal

other_inside : (o : Option Fault) {i n : ℕ} → IfSome o (λ f. f.other ≤ i) → i < n → IfSome o (λ f. f.other < n)
other_inside None h l = tt
other_inside (Some f) h l = omega arith

pub put_other-requires : goal.put_other-requires
put_other-requires c =
    let a = c.args in
    let below = rw (← c.first_broken-broken.ensures) at (other_below a.g a.volume.now a.i c.requires.1.1) in
    (search rules, (search rules, other_inside c.first_broken-broken.result below c.requires.1.1))

pub returns : goal.returns
unfolding fault_bytes put bytes_of
returns c =
    let a = c.args in
    let v = a.volume.now in
    let f = c.first_broken-broken.result in
    let below = rw (← c.first_broken-broken.ensures) at (other_below a.g v a.i c.requires.1.1) in
    rw (c.put_rule.ensures, c.put_slots.ensures, c.put_owner.ensures, c.put_other.ensures, ← c.first_broken-broken.ensures)
    (four_laid a.out.now (rule_bytes f) (slot_bytes a.i f) (owner_bytes a.g v a.i) (other_bytes a.g v f) 4 4 12 12 c.requires.1.0
    (rule_length f) refl (owner_length_lem a.g v c.requires.0 a.i c.requires.1.1) (other_length a.g v c.requires.0 f (other_inside f below c.requires.1.1)))
