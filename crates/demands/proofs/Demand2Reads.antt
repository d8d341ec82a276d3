-- The reads: one that succeeds found its record present and shows it; one whose tests of what is lent pass succeeds
-- wherever the record is present, for its block is one from D to T-1.
use mathlib.Core.Path.{◌≡◌, refl, sym, ap, ◌∙◌}
use mathlib.Core.Bool.{true, false}
use mathlib.Core.List.{List}
use Prim.Native.Nat.{ℕ, ◌/◌, ◌%◌, ◌+◌, ◌≤◌, ◌<◌}
use borrow.Author.Tests.{not-false, lt-leb}
use Rattle.disk_geometry.specs.declared.Geometry.{Geometry}
use Rattle.disk_volume.specs.declared.Wanted.TheVariants.{File}
use Rattle.disk_geometry.specs.Geometry.{lawful, slots, inside, group_of, place_of}
use Rattle.disk_volume.specs.Name.{name_of}
use Rattle.disk_volume.specs.Directory.{find_slot}
use Rattle.disk_volume.specs.Record.{record_slot, present}
use Rattle.disk_volume.proofs.FindLaws.{group_file}
use Rattle.disk_geometry.proofs.GeometryLaws.{place_lt}
use Rattle.call_fcb.specs.Fcb.{position, random}
use Rattle.call_answers.specs.declared.Refusal.{Refusal}
use Rattle.call_answers.specs.declared.Refusal.TheVariants.{Closed, NoFile, NoGroup, Absent}
use Rattle.call_answers.specs.Refusal.{Test, is_none, first_met}
use Rattle.call_answers.proofs.Ladder.{unmet, ladder_pass}
use Rattle.call_read.specs.Read.{read_block, read_tests, read_bytes}
use Rattle.disk_geometry.proofs.InsideLaws.{is_inside}
use Rattle.filecalls.specs.declared.Drive.{Drive}
use Rattle.filecalls.specs.Outcome.{unless, Outcome, outcome}
use Rattle.filecalls.specs.CodeReady.{OpenState}
use Rattle.filecalls.specs.State.{is_open}
use Rattle.filecalls.specs.Read.{sequential_tests, random_tests, read_done, read_sequential_act, read_random_act}
use Rattle.filecalls.proofs.OutcomeLaws as laws
use Rattle.filecalls.proofs.StateLaws.{both_clear, is_open_lem}
use Rattle.call_served.specs.declared.Call.{Call}
use Rattle.call_served.specs.declared.Call.TheVariants.{Moves}
use Rattle.call_served.specs.declared.Transfer.TheVariants.{ReadSequential, ReadRandom}
use Rattle.bdos.specs.Step.{carries, does}
use Rattle.demands.specs.Order.{tests_of}
use Rattle.demands.specs.Demand2.{Reads, in_sequence, at_random, Present}
use Rattle.demands.proofs.Demand2Apart.{Apart, group_used}
use Rattle.demands.proofs.Demand2Others.{is_present}

-- ---- the directory's tests
module _ (g : Geometry) (v : List ℕ) (u : ℕ) (name : List ℕ) (n : ℕ) (missing : Refusal) where
  found_present : is_none missing ≡ false → is_none (first_met (read_tests g v u name n missing)) ≡ true → present g v u name n ≡ true
  unfolding read_tests
  found_present k e =
      let x = unmet NoFile _ _ refl e in
      let y = unmet missing _ _ k x.1 in
      not-false (present g v u name n) (unmet Absent _ _ refl y.1).0

  file_there : record_slot g v u name n < slots g → find_slot g v u name File < slots g
  unfolding record_slot
  file_there h = group_file g v u name (group_of g (n / 128)) h

  block_inside : (held : List ℕ) → lawful g ≡ true → u ≤ 15 → Apart g held v → present g v u name n ≡ true → inside g (read_block g v u name n) ≡ true
  unfolding read_block
  block_inside held good u15 a h =
      let p = is_present g v u name n h in
      let i = record_slot g v u name n in
      let r = a.range i (place_of g n) (record { slot = p.slot; used = group_used g v u name n u15 p.slot; place = place_lt g good n }) p.block in
      is_inside g (read_block g v u name n) r.0 r.1

  present_passes : (held : List ℕ) → lawful g ≡ true → u ≤ 15 → Apart g held v → present g v u name n ≡ true
      → is_none (first_met (read_tests g v u name n missing)) ≡ true
  unfolding read_tests first_met
  present_passes held good u15 a h =
      let s = (is_present g v u name n h).slot in
      rw (lt-leb (slots g) (find_slot g v u name File) (file_there s), lt-leb (slots g) (record_slot g v u name n) s, h, block_inside held good u15 a h)

-- ---- the two reads
module _ (g : Geometry) (p : ℕ) (d : Drive) (v f b : List ℕ) where
  buffer_left : (n cr : ℕ) (ts : List Test) → is_none (first_met ts) ≡ true
      → (outcome d v f b (unless ts (read_done d v f n cr))).buffer ≡ read_bytes d.geometry v d.user (name_of f) n
  unfolding outcome read_done
  buffer_left n cr ts e = ap (λ (o : Outcome). o.buffer) (ap (outcome d v f b) (laws.does ts (read_done d v f n cr) e))

  pub shows : {k : Call} {n : ℕ} {ts : List Test} → Reads d v f b k n ts → is_none (first_met (tests_of g k p d v f b)) ≡ true
      → Present d f v n (does g k p d v f b).buffer
  unfolding does carries read_sequential_act read_random_act
  shows in_sequence e =
      let c = both_clear (sequential_tests d v f b) (read_tests d.geometry v d.user (name_of f) (position f) Absent) e in
      record {
        is_present = found_present d.geometry v d.user (name_of f) (position f) Absent refl c.1;
        has_bytes = sym (buffer_left (position f) (position f % 128 + 1) (tests_of g (Moves ReadSequential) p d v f b) e);
      }
  shows at_random e =
      let c = both_clear (random_tests d v f b) (read_tests d.geometry v d.user (name_of f) (random f) NoGroup) e in
      record {
        is_present = found_present d.geometry v d.user (name_of f) (random f) NoGroup refl c.1;
        has_bytes = sym (buffer_left (random f) (random f % 128) (tests_of g (Moves ReadRandom) p d v f b) e);
      }

  opened : {k : Call} {n : ℕ} {ts : List Test} → Reads d v f b k n ts → is_none (first_met ts) ≡ true → OpenState d
  unfolding sequential_tests random_tests
  opened in_sequence e = is_open_lem d (not-false (is_open d) (unmet Closed _ _ refl e).0)
  opened at_random e = is_open_lem d (not-false (is_open d) (unmet Closed _ _ refl e).0)

  pub reads_present : {k : Call} {n : ℕ} {ts : List Test} → Reads d v f b k n ts → is_none (first_met ts) ≡ true → Apart d.geometry d.held v
      → present d.geometry v d.user (name_of f) n ≡ true → is_none (first_met (tests_of g k p d v f b)) ≡ true
  reads_present in_sequence e a h =
      let o = opened in_sequence e in
      ap is_none (ladder_pass (sequential_tests d v f b) (read_tests d.geometry v d.user (name_of f) (position f) Absent) e)
      ∙ present_passes d.geometry v d.user (name_of f) (position f) Absent d.held o.law o.user15 a h
  reads_present at_random e a h =
      let o = opened at_random e in
      ap is_none (ladder_pass (random_tests d v f b) (read_tests d.geometry v d.user (name_of f) (random f) NoGroup) e)
      ∙ present_passes d.geometry v d.user (name_of f) (random f) NoGroup d.held o.law o.user15 a h
