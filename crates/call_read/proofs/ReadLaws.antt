-- The plan of a read: what each way through the code finds is the first refusal of the ladder, or where the record lies.
use mathlib.Core.Path.{◌≡◌, refl, sym, ap}
use mathlib.Core.Bool.{Bool, true, false, not, cond}
use mathlib.Core.List.{List}
use Prim.Native.Nat.{ℕ, ◌/◌, ◌≤◌, ◌<◌}
use native.Mathlib.Omega.{arith}
use lib.Dec.{leb, ltb}
use Rattle.std.specs.Prelude.{Result, Ok, Err}
use borrow.Author.Tests.{leb-false, ltb-true, not-false, le-leb, lt-leb, lt-ltb}
use Rattle.lists.proofs.BoolLaws.{and_right}
use Rattle.disk_geometry.specs.declared.Geometry.{Geometry}
use Rattle.disk_volume.specs.declared.Wanted.TheVariants.{File}
use Rattle.disk_geometry.specs.Geometry.{slots, group_of, inside}
use Rattle.disk_volume.specs.Directory.{slot_at, find_slot}
use Rattle.disk_volume.specs.Record.{record_slot, record_block, counted, present}
use Rattle.call_answers.specs.declared.Refusal.{Refusal}
use Rattle.call_answers.specs.declared.Refusal.TheVariants.{None, NoFile, Absent, Outside}
use Rattle.call_answers.specs.Refusal.{is_none, refusing, first, first_met}
use Rattle.call_answers.proofs.Ladder.{unmet}
use Rattle.call_read.specs.declared.read.ReadPlan.{ReadPlan}
use Rattle.call_read.specs.Read.{read_tests, read_block}
use Rattle.call_read.specs.CodePlan.{go, plan_in, read_plan}
use Rattle.disk_volume.proofs.FindLaws.{group_file}

-- the last two tests, 1 and 41
last_two : (t s : Bool) (r : Result ReadPlan Refusal)
    → cond (is_none (first (refusing Absent (not t)) (first (refusing Outside (not s)) None))) r (Err (first (refusing Absent (not t)) (first (refusing Outside (not s)) None)))
    ≡ cond t (cond s r (Err Outside)) (Err Absent)
last_two true true r = refl
last_two true false r = refl
last_two false s r = refl

module _ (g : Geometry) (v : List ℕ) (u : ℕ) (name : List ℕ) (n : ℕ) where
  -- where a record's group has an entry the file has one
  pub file_found : record_slot g v u name n < slots g → find_slot g v u name File < slots g
  unfolding record_slot
  file_found h = group_file g v u name (group_of g (n / 128)) h

  -- present, by the entry
  pub present_counted : record_slot g v u name n < slots g → present g v u name n ≡ counted g (slot_at g v (record_slot g v u name n)) n
  unfolding present
  present_counted h = rw (lt-ltb (record_slot g v u name n) (slots g) h)

  -- the four tests, none of them met
  pub record Unmet : Type 0 where
    pub file : leb (slots g) (find_slot g v u name File) ≡ false
    pub group : leb (slots g) (record_slot g v u name n) ≡ false
    pub absent : not (present g v u name n) ≡ false
    pub outside : not (inside g (read_block g v u name n)) ≡ false

  -- what the arm that reads may rely on
  pub record Goes (missing : Refusal) (slot block : ℕ) : Type 0 where
    pub slot_is : slot ≡ record_slot g v u name n
    pub block_is : block ≡ read_block g v u name n
    pub clear : first_met (read_tests g v u name n missing) ≡ None
    pub slot_in : slot < slots g
    pub block_in : block < g.blocks

  pub unmet_none : (missing : Refusal) → Unmet → first_met (read_tests g v u name n missing) ≡ None
  unfolding read_tests first_met
  unmet_none missing t = rw (t.file, t.group, t.absent, t.outside)

  pub block_below : Unmet → read_block g v u name n < g.blocks
  unfolding inside
  block_below t =
      ltb-true _ _ (and_right (leb g.directory_blocks (read_block g v u name n)) (ltb (read_block g v u name n) g.blocks) (not-false _ t.outside))

  module _ (missing : Refusal) (some : is_none missing ≡ false) where
    -- a ladder that does not refuse: none of its tests is met
    pub none_unmet : is_none (first_met (read_tests g v u name n missing)) ≡ true → Unmet
    unfolding read_tests
    none_unmet q =
        let a = unmet NoFile _ _ refl q in
        let b = unmet missing _ _ some a.1 in
        let d = unmet Absent _ _ refl b.1 in
        let e = unmet Outside _ _ refl d.1 in
        record { file = a.0; group = b.0; absent = d.0; outside = e.0 }

    -- by the entry in the record's slot
    pub plan_in_lem : record_slot g v u name n < slots g → plan_in g v (record_slot g v u name n) n ≡ read_plan g v u name n missing
    unfolding plan_in read_plan read_tests read_block first_met
    plan_in_lem h =
        let e = slot_at g v (record_slot g v u name n) in
        rw (lt-leb (slots g) (find_slot g v u name File) (file_found h), lt-leb (slots g) (record_slot g v u name n) h, present_counted h)
        (sym (last_two (counted g e n) (inside g (record_block g e n)) (go (record_slot g v u name n) (record_block g e n))))

    -- the file has an entry, the group none
    pub plan_missing : slots g ≤ record_slot g v u name n → find_slot g v u name File < slots g → Err missing ≡ read_plan g v u name n missing
    unfolding read_plan read_tests first_met
    plan_missing m h = rw (lt-leb (slots g) (find_slot g v u name File) h, le-leb (slots g) (record_slot g v u name n) m, some, some)

    -- the file has no entry
    pub plan_none : slots g ≤ find_slot g v u name File → Err NoFile ≡ read_plan g v u name n missing
    unfolding read_plan read_tests first_met
    plan_none h = rw (le-leb (slots g) (find_slot g v u name File) h)

    -- a plan that goes on, and one that does not
    pub plan_go : (plan : ReadPlan) → read_plan g v u name n missing ≡ Ok plan → Goes missing plan.slot plan.block
    unfolding read_plan
    plan_go plan e = go_on (is_none (first_met (read_tests g v u name n missing))) refl e
      where
        go_on : (t : Bool) → is_none (first_met (read_tests g v u name n missing)) ≡ t
            → cond t (go (record_slot g v u name n) (read_block g v u name n)) (Err (first_met (read_tests g v u name n missing))) ≡ Ok plan
            → Goes missing plan.slot plan.block
        go_on false q f = let w : ◌≡◌ {A = ℕ} 0 1 = cc in absurd (omega arith)
        go_on true q f =
            let p : record { slot = record_slot g v u name n; block = read_block g v u name n } ≡ plan = cc in
            let s : record_slot g v u name n ≡ plan.slot = ap (λ (r : ReadPlan). r.slot) p in
            let b : read_block g v u name n ≡ plan.block = ap (λ (r : ReadPlan). r.block) p in
            let t = none_unmet q in
            record {
              slot_is = sym s;
              block_is = sym b;
              clear = unmet_none missing t;
              slot_in = rw s at (leb-false (slots g) (record_slot g v u name n) t.group);
              block_in = rw b at (block_below t);
            }

    pub plan_no : (why : Refusal) → read_plan g v u name n missing ≡ Err why → (why ≡ first_met (read_tests g v u name n missing)) × (is_none why ≡ false)
    unfolding read_plan
    plan_no why e = stop (is_none (first_met (read_tests g v u name n missing))) refl e
      where
        stop : (t : Bool) → is_none (first_met (read_tests g v u name n missing)) ≡ t
            → cond t (go (record_slot g v u name n) (read_block g v u name n)) (Err (first_met (read_tests g v u name n missing))) ≡ Err why
            → (why ≡ first_met (read_tests g v u name n missing)) × (is_none why ≡ false)
        stop true q f = let w : ◌≡◌ {A = ℕ} 0 1 = cc in absurd (omega arith)
        stop false q f =
            let w : first_met (read_tests g v u name n missing) ≡ why = cc in
            (sym w, rw w at q)
