-- How many stores are enough for each changing call.
use mathlib.Core.Path.{◌≡◌, refl}
use mathlib.Core.Bool.{Bool, true, false, not}
use mathlib.Core.List.{List, ◌∷◌, ◌++◌}
use Prim.Native.Nat.{ℕ, ◌*◌, ◌≤◌}
use native.Mathlib.Omega.{arith}
use lib.ListN.{length, length-append}
use borrow.Author.Tests.{not-false}
use Rattle.disk_geometry.specs.Geometry.{lawful, records}
use Rattle.disk_geometry.proofs.GeometryLaws.{bounds}
use Rattle.disk_volume.specs.Name.{name_of}
use Rattle.disk_volume.specs.Entry.{Entry}
use Rattle.disk_stores.specs.Stores.{laid, record_stores, entry_stores, sweep_stores}
use Rattle.disk_stores.proofs.SweptLaws.{sweep_most}
use Rattle.disk_stores.proofs.CodeLaws.{entry_length, record_most}
use Rattle.call_answers.specs.declared.Refusal.TheVariants.{Closed}
use Rattle.call_answers.specs.Refusal.{Test, test, is_none, first_met}
use Rattle.call_answers.proofs.Ladder.{unmet}
use Rattle.call_fcb.specs.Fcb.{position, random}
use Rattle.call_decide.specs.Write.{write_slot, fills_block, write_block, entry_after}
use Rattle.filecalls.specs.declared.Drive.{Drive}
use Rattle.filecalls.specs.State.{is_open}
use Rattle.filecalls.specs.Outcome.{act_stores}
use Rattle.filecalls.specs.Names.{delete_ladder, delete_act, make_ladder, make_act, rename_ladder, rename_act, attributes_ladder, attributes_act}
use Rattle.filecalls.specs.Read.{sequential_tests, random_tests}
use Rattle.filecalls.specs.Write.{directory_tests, write_done, write_sequential_act}
use Rattle.filecalls.specs.Stores.{delete_stores, make_stores, rename_stores, attributes_stores, sequential_stores, direct_stores}
use Rattle.filecalls.proofs.StateLaws.{is_open_lem}
use Rattle.filecalls.proofs.CutLaws.{unless_most}

-- an open state has a lawful geometry
law : (d : Drive) (ts : List Test) → is_none (first_met (test Closed (not (is_open d)) ∷ ts)) ≡ true → lawful d.geometry ≡ true
law d ts h = (is_open_lem d (not-false (is_open d) (unmet Closed _ _ refl h).0)).law

-- a directory has at most 512 records
sweep_enough : (d : Drive) (meant : Entry → Bool) (e : Entry → Entry) (v : List ℕ) → lawful d.geometry ≡ true
    → length (sweep_stores d.geometry meant e v 0 (d.geometry.directory_blocks * records d.geometry)) ≤ 528
sweep_enough d meant e v good =
    omega (arith, sweep_most d.geometry meant e v (d.geometry.directory_blocks * records d.geometry) 0, (bounds d.geometry good).slots_high)

pub delete_enough : (d : Drive) (v f : List ℕ) → length (delete_stores d v f) ≤ 528
unfolding delete_act delete_ladder
delete_enough d v f = unless_most (delete_ladder d v f) _ 528 (λ h. sweep_enough d _ _ v (law d _ h))

pub make_enough : (d : Drive) (v f : List ℕ) → length (make_stores d v f) ≤ 528
unfolding make_act entry_stores
make_enough d v f = unless_most (make_ladder d v f) _ 528 (λ h. omega arith)

pub rename_enough : (d : Drive) (v f : List ℕ) → length (rename_stores d v f) ≤ 528
unfolding rename_act rename_ladder
rename_enough d v f = unless_most (rename_ladder d v f) _ 528 (λ h. sweep_enough d _ _ v (law d _ h))

pub attributes_enough : (d : Drive) (v f : List ℕ) → length (attributes_stores d v f) ≤ 528
unfolding attributes_act attributes_ladder
attributes_enough d v f = unless_most (attributes_ladder d v f) _ 528 (λ h. sweep_enough d _ _ v (law d _ h))

-- a write: a block's records, and one of the directory
write_most : (d : Drive) (v f : List ℕ) (n cr : ℕ) (fills : Bool) (b : List ℕ) → lawful d.geometry ≡ true → length (act_stores (write_done d v f n cr fills b)) ≤ 33
unfolding write_done
write_most d v f n cr fills b good =
    let g = d.geometry in
    let t = fills_block g v d.user (name_of f) n fills in
    let x = write_block g d.held v d.user (name_of f) n in
    let ds = record_stores g t x n b in
    let es = entry_stores g (laid g v ds) (write_slot g v d.user (name_of f) n) (entry_after g d.held v d.user (name_of f) n) in
    rw (length-append ds es) (omega (arith, record_most g good t x n b, entry_length g (laid g v ds) (write_slot g v d.user (name_of f) n) (entry_after g d.held v d.user (name_of f) n)))

pub sequential_most : (d : Drive) (v f b : List ℕ) → length (sequential_stores d v f b) ≤ 33
unfolding write_sequential_act
sequential_most d v f b =
    unless_most (sequential_tests d v f b ++ directory_tests d v f (position f)) _ 33 (λ h. write_most d v f (position f) _ false b (unfold sequential_tests in law d _ h))

direct_most : (fills : Bool) (d : Drive) (v f b : List ℕ) → length (direct_stores fills d v f b) ≤ 33
direct_most fills d v f b =
    unless_most (random_tests d v f b ++ directory_tests d v f (random f)) _ 33 (λ h. write_most d v f (random f) _ fills b (unfold random_tests in law d _ h))

pub sequential_enough : (d : Drive) (v f b : List ℕ) → length (sequential_stores d v f b) ≤ 528
sequential_enough d v f b = omega (arith, sequential_most d v f b)

pub direct_enough : (fills : Bool) (d : Drive) (v f b : List ℕ) → length (direct_stores fills d v f b) ≤ 528
direct_enough fills d v f b = omega (arith, direct_most fills d v f b)
