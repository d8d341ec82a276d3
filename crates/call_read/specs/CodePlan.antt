-- The plan of a read: where the record lies, or the first refusal; the code is cut up by it.
use Rattle.std.specs.Prelude.{cond, List, ℕ, Result, Ok, Err}
use Rattle.disk_geometry.specs.declared.Geometry.{Geometry}
use Rattle.disk_geometry.specs.Geometry.{inside}
use Rattle.disk_volume.specs.Directory.{slot_at}
use Rattle.disk_volume.specs.Record.{record_slot, record_block, counted}
use Rattle.call_answers.specs.declared.Refusal.{Refusal}
use Rattle.call_answers.specs.declared.Refusal.TheVariants.{Absent, Outside}
use Rattle.call_answers.specs.Refusal.{is_none, first_met}
use Rattle.call_read.specs.declared.read.ReadPlan.{ReadPlan}
use Rattle.call_read.specs.Read.{read_tests, read_block}

-- a record that can be read: it lies in this block, by the entry in this slot
abbrev pub go : ℕ → ℕ → Result ReadPlan Refusal
go slot block = Ok (record { slot = slot; block = block })

-- record n by the entry in a slot
unfoldable pub plan_in : Geometry → List ℕ → ℕ → ℕ → Result ReadPlan Refusal
plan_in g v slot n =
    cond (counted g (slot_at g v slot) n)
    (cond (inside g (record_block g (slot_at g v slot) n)) (go slot (record_block g (slot_at g v slot) n)) (Err Outside))
    (Err Absent)

-- record n of the file
unfoldable pub read_plan : Geometry → List ℕ → ℕ → List ℕ → ℕ → Refusal → Result ReadPlan Refusal
read_plan g v u name n missing =
    let why = first_met (read_tests g v u name n missing) in
    cond (is_none why) (go (record_slot g v u name n) (read_block g v u name n)) (Err why)
