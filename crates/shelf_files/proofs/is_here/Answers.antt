-- An entry of the file has its key; where the slot's is another, no name need be compared.
use mathlib.Core.Path.{sym, ap, ◌∙◌}
use Prim.Native.Nat.{ℕ, ◌/◌}
use Rattle.disk_volume.specs.Name.{strip}
use Rattle.disk_volume.proofs.EntryLaws.{lent_slot}
use Rattle.shelf_files.proofs.WalkLaws.{other_file}
use Rattle.shelf_files.proofs.is_here.Goals as goal

pub returns-then-node-key : goal.returns-then-node-key
returns-then-node-key c =
    let a = c.args in
    sym (other_file a.g a.volume.now a.user (strip a.name.now) a.j (λ e. c.if-node-key.true (c.requires.j_bound.1 ∙ ap (λ (x : ℕ). x / 4294967296) (e ∙ sym c.requires.name.1))))

pub returns : goal.returns
returns c =
    let a = c.args in
    let at = c.slot_start-at in
    rw (← lent_slot a.g a.volume.now a.j at.result at.ensures.0) c.has.ensures
