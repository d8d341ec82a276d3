-- Two renames in a row, from a first name to a second and from there to a last: what both leave, that their two sweeps are
-- one, and what that makes of each entry.
use mathlib.Core.Path.{◌≡◌, ap, ◌∙◌}
use mathlib.Core.Bool.{true, false}
use mathlib.Core.List.{List, []}
use Prim.Native.Nat.{ℕ, ◌<◌}
use Rattle.lists.specs.Bytes.{part}
use Rattle.disk_geometry.specs.Geometry.{slots}
use Rattle.disk_volume.specs.Entry.{of_file}
use Rattle.disk_volume.specs.Directory.{slot_at, map_slots}
use Rattle.call_answers.specs.declared.Answer.TheVariants.{Done}
use Rattle.call_sweep.specs.Sweep.{renamed}
use Rattle.filecalls.specs.declared.Drive.{Drive}
use Rattle.demands.specs.Renaming.{rename, then_rename}
use Rattle.demands.proofs.Files.{of_file_lem}
use Rattle.demands.proofs.RenameKeeps.{rename_hit, rename_miss}
use Rattle.demands.proofs.RenamingSweeps.{map_slots_twice}
use Rattle.demands.proofs.RenamingCalls.{none_of, Granted, edit, after, leaves, law, edit_keeps, own_after}

module _ {d : Drive} {v f h first second last : List ℕ} (r : Granted d v f first second) (s : Granted d (after d v f first) h second last) where
  -- all that they leave
  pub both : then_rename (rename d v f) h ≡ record { answer = Done 0; drive = d; volume = after d (after d v f first) h second; fcb = h; buffer = [] }
  both = rw (leaves r) (leaves s)

  -- both sweeps are one
  pub one_sweep : after d (after d v f first) h second ≡ map_slots d.geometry (λ e. edit d h second (edit d f first e)) v
  one_sweep = map_slots_twice d.geometry (law r) (edit d f first) (edit d h second) (edit_keeps r) (edit_keeps s) v r.volume_length_lem

  -- an entry of the file is renamed twice
  pub both_hit : (j : ℕ) → j < slots d.geometry → of_file d.user first (slot_at d.geometry v j) ≡ true
      → edit d h second (edit d f first (slot_at d.geometry v j)) ≡ renamed (renamed (slot_at d.geometry v j) (part f 17 11)) (part h 17 11)
  both_hit j j< own =
      let e = renamed (slot_at d.geometry v j) (part f 17 11) in
      ap (edit d h second) (rename_hit d.user first (part f 17 11) (slot_at d.geometry v j) own)
      ∙ rename_hit d.user second (part h 17 11) e (of_file_lem d.user second e (own_after r j j< own))

  -- any other stays
  pub both_miss : (j : ℕ) → j < slots d.geometry → of_file d.user first (slot_at d.geometry v j) ≡ false
      → edit d h second (edit d f first (slot_at d.geometry v j)) ≡ slot_at d.geometry v j
  both_miss j j< other =
      ap (edit d h second) (rename_miss d.user first (part f 17 11) (slot_at d.geometry v j) other)
      ∙ rename_miss d.user second (part h 17 11) (slot_at d.geometry v j) (none_of d v second r.new_free j j<)
