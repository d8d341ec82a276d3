-- An empty slot adds nothing; another one an entry, its records, and a file if it is the first of that.
use mathlib.Core.Path.{◌≡◌, ap, ◌∙◌}
use mathlib.Core.Bool.{Bool, false, cond}
use Prim.Native.Nat.{ℕ, ◌+◌}
use native.Mathlib.Omega.{arith}
use Rattle.disk_geometry.proofs.GeometryLaws.{bounds}
use Rattle.disk_volume.specs.Entry.{Entry, is_empty}
use Rattle.disk_volume.specs.Directory.{slot_at}
use Rattle.disk_volume.proofs.EntryLaws.{lent_slot}
use Rattle.disk_inspection.proofs.SlotLaws.{slot_empty, slot_used}
use Rattle.files.specs.Files.{is_listed}
use Rattle.shelf_files.proofs.TreeLaws.{holds_still}
use Rattle.shelf_holdings.specs.CodeEntries.{entry_records}
use Rattle.shelf_holdings.proofs.SlotLaws.{not_listed, no_file, no_entry_lem, no_records, one_entry, its_records, one_if}
use borrow.Author.Rules.{rules}
use Rattle.shelf_holdings.proofs.add_slot.Goals as goal

pub returns-then-volume-at : goal.returns-then-volume-at
returns-then-volume-at c =
    let a = c.args in
    let at = c.slot_start-at in
    let e = slot_empty a.g a.volume.now a.i at.result at.ensures.0 c.if-volume-at.true in
    record {
      files_value = no_file a.g a.volume.now a.i a.c.files e;
      entries_value = no_entry_lem a.g a.volume.now a.i a.c.entries e;
      records_value = no_records a.g a.volume.now a.i a.c.records e;
      files_bound = (omega (arith, c.requires.i_bound), (omega (arith, c.requires.i_bound), omega (arith, c.requires.i_bound)));
      tree_after = holds_still a.g a.volume.now a.i (not_listed a.g a.volume.now a.i e) c.requires.tree;
    }

pub is_first-first-requires : goal.is_first-first-requires
is_first-first-requires c =
    let used : (let a = c.args in is_empty (slot_at a.g a.volume.now a.i) ≡ false) = (let a = c.args in
    let at = c.slot_start-at in
    slot_used a.g a.volume.now a.i at.result at.ensures.0 c.if-volume-at.false) in
    let a = c.args in
    let at = c.slot_start-at in
    let e = lent_slot a.g a.volume.now a.i at.result at.ensures.0 in
    record {
      volume = c.requires.volume;
      i_bound = (c.requires.i_bound.0, (search rules, e));
      e_value = rw e used;
      tree = c.requires.tree;
    }

pub overflow_add-files : goal.overflow_add-files
overflow_add-files c = omega (arith, (bounds _ c.requires.volume.0).slots_high, c.requires.i_bound, (one_if c.is_first-first.result).1)

pub overflow_add-entries : goal.overflow_add-entries
overflow_add-entries c = omega (arith, (bounds _ c.requires.volume.0).slots_high, c.requires.i_bound)

pub overflow_add-records : goal.overflow_add-records
overflow_add-records c = omega (arith, (bounds _ c.requires.volume.0).slots_high, c.requires.i_bound, c.entry_records.ensures.1)

pub returns : goal.returns
returns c =
    let used : (let a = c.args in is_empty (slot_at a.g a.volume.now a.i) ≡ false) = (let a = c.args in
    let at = c.slot_start-at in
    slot_used a.g a.volume.now a.i at.result at.ensures.0 c.if-volume-at.false) in
    let a = c.args in
    let at = c.slot_start-at in
    let e = lent_slot a.g a.volume.now a.i at.result at.ensures.0 in
    let first = c.is_first-first.ensures.value ∙ ap (λ (x : Entry). is_listed a.g a.volume.now x a.i) e in
    let one : c.from.result ≡ cond c.is_first-first.result 1 0 = c.from.ensures ∙ (one_if c.is_first-first.result).0 in
    let some = c.entry_records.ensures in
    record {
      files_value = ap (λ (x : ℕ). a.c.files + x) (one ∙ ap (λ (t : Bool). cond t 1 0) first);
      entries_value = one_entry a.g a.volume.now a.i a.c.entries used;
      records_value = ap (λ (x : ℕ). a.c.records + x) (some.0 ∙ ap (λ (x : Entry). entry_records a.g x) e ∙ its_records a.g a.volume.now a.i 0 used);
      files_bound = (omega (arith, c.requires.i_bound, (one_if c.is_first-first.result).1), (omega (arith, c.requires.i_bound), omega (arith, c.requires.i_bound, some.1)));
      tree_after = c.is_first-first.ensures.tree;
    }
