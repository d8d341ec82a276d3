-- The data, and then the entry on the volume that they left; where none is left for it, what it is made of does not matter.
use mathlib.Core.Path.{ap, ◌∙◌}
use Prim.Native.Nat.{ℕ, ◌-◌}
use Rattle.disk_stores.specs.Stores.{laid, record_stores}
use Rattle.disk_stores.proofs.CodeLaws.{then_entry, then_length}
use Rattle.call_store.proofs.store_most.Goals as goal

pub returns : goal.returns
returns c =
    let a = c.args in
    let d = c.put_filled in
    let o = c.put_slot in
    let records = record_stores a.g a.fills a.block a.n a.buffer.now in record { volume_after = o.ensures.volume_after ∙ rw (d.ensures.volume_after, d.ensures.left_after) (then_entry a.g a.volume.now records a.left.now a.slot a.e.now); left_after = o.ensures.left_after ∙ ap (λ (x : ℕ). x - 1) d.ensures.left_after ∙ then_length a.g (laid a.g a.volume.now records) records a.left.now a.slot a.e.now }
