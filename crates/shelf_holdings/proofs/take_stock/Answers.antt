-- The blocks that are not free are held, and the records of the entries are those of the files.
use mathlib.Core.Path.{◌≡◌, sym, ◌∙◌}
use Prim.Native.Nat.{◌-◌}
use native.Mathlib.Omega.{arith}
use Rattle.disk_geometry.proofs.GeometryLaws.{bounds}
use Rattle.shelf_holdings.specs.Holdings.{records_present, blocks_held, blocks_free, waste, holdings}
use Rattle.shelf_holdings.specs.Sums.{Sums}
use Rattle.shelf_holdings.proofs.RecordLaws.{by_entries}
use Rattle.shelf_holdings.proofs.WasteLaws.{sums_hold, free_is}
use Rattle.shelf_holdings.proofs.take_stock.Goals as goal

pub overflow_sub-held : goal.overflow_sub-held
overflow_sub-held c = omega (arith, (bounds _ c.requires.volume.0).directory_below)

pub overflow_sub-held-2 : goal.overflow_sub-held-2
overflow_sub-held-2 c =
    let sums : Sums c.args.g c.args.volume.now = sums_hold c.args.g c.args.volume.now c.requires.volume.0 c.requires.volume_value.0 in
    let free_are : c.args.free ≡ blocks_free c.args.g c.args.volume.now = c.requires.volume_value.1 ∙ free_is c.args.g c.args.volume.now c.requires.volume.0 in
    omega (arith, sums.held_and_free, free_are)

pub overflow_mul-room : goal.overflow_mul-room
overflow_mul-room c =
    let sums : Sums c.args.g c.args.volume.now = sums_hold c.args.g c.args.volume.now c.requires.volume.0 c.requires.volume_value.0 in
    let free_are : c.args.free ≡ blocks_free c.args.g c.args.volume.now = c.requires.volume_value.1 ∙ free_is c.args.g c.args.volume.now c.requires.volume.0 in
    let held_are_lem : (let a = c.args in a.g.blocks - a.g.directory_blocks - a.free ≡ blocks_held a.g a.volume.now) = omega (arith, sums.held_and_free, free_are) in
    rw (held_are_lem, c.records.ensures) (omega (arith, sums.waste_and_records, sums.waste_most, sums.records_most))

pub overflow_sub-waste : goal.overflow_sub-waste
overflow_sub-waste c =
    let sums : Sums c.args.g c.args.volume.now = sums_hold c.args.g c.args.volume.now c.requires.volume.0 c.requires.volume_value.0 in
    let free_are : c.args.free ≡ blocks_free c.args.g c.args.volume.now = c.requires.volume_value.1 ∙ free_is c.args.g c.args.volume.now c.requires.volume.0 in
    let held_are_lem : (let a = c.args in a.g.blocks - a.g.directory_blocks - a.free ≡ blocks_held a.g a.volume.now) = omega (arith, sums.held_and_free, free_are) in
    let records_are : (let a = c.args in c.count-c.result.records ≡ records_present a.g a.volume.now) = (c.count-c.ensures.records_value ∙ sym (by_entries c.args.g c.args.volume.now c.requires.volume.0 c.requires.volume_value.0)) in
    rw (held_are_lem, c.records.ensures, records_are) sums.never_below

pub returns : goal.returns
unfolding holdings waste
returns c =
    let sums : Sums c.args.g c.args.volume.now = sums_hold c.args.g c.args.volume.now c.requires.volume.0 c.requires.volume_value.0 in
    let free_are : c.args.free ≡ blocks_free c.args.g c.args.volume.now = c.requires.volume_value.1 ∙ free_is c.args.g c.args.volume.now c.requires.volume.0 in
    let held_are_lem : (let a = c.args in a.g.blocks - a.g.directory_blocks - a.free ≡ blocks_held a.g a.volume.now) = omega (arith, sums.held_and_free, free_are) in
    let records_are : (let a = c.args in c.count-c.result.records ≡ records_present a.g a.volume.now) = (c.count-c.ensures.records_value ∙ sym (by_entries c.args.g c.args.volume.now c.requires.volume.0 c.requires.volume_value.0)) in
    rw (held_are_lem, free_are, c.count-c.ensures.files_value, c.count-c.ensures.entries_value, records_are, c.records.ensures)
