-- Each wrong way is tried on a small volume: one call of it, or a run of two or three, is evaluated, and an answer or a byte
-- is not what the demand says.
use mathlib.Core.Path.{◌≡◌, refl, ap}
use mathlib.Core.Bool.{Bool, true, false, cond, false≢true}
use mathlib.Core.Logic.{◌≢◌}
use mathlib.Core.List.{List, [], ◌∷◌, ◌++◌}
use Prim.Native.Nat.{ℕ, zero, suc, ◌<◌}
use native.Mathlib.Omega.{arith}
use lib.Dec.{ltb, eqb}
use lib.ListN.{replicate}
use borrow.Author.Tests.{ltb-true}
use Rattle.lists.specs.Bounded.{low_from, any_from, every_from, count_from, fold}
use Rattle.lists.specs.Bytes.{byte, part, put, all}
use Rattle.disk_geometry.specs.declared.Geometry.{Geometry}
use Rattle.disk_geometry.specs.Geometry.{lawful, bytes, start, slot_start, record_start, group_of, place_of, inside, places, geometry_of}
use Rattle.disk_volume.specs.Name.{strip, name_at, same, like, good_name}
use Rattle.disk_volume.specs.Entry.{block_in, with_block, count_of, of_file, of_group, matches}
use Rattle.disk_volume.specs.Directory.{slot_at, put_slot, find_slot, map_slot}
use Rattle.disk_volume.specs.Record.{record_slot, counted, present, record_at, put_record, fill_record, put_filled}
use Rattle.disk_held.specs.Held.{digit, holds, hold, release, word_of, words_of, lowest_free, free_count}
use Rattle.call_fcb.specs.Fcb.{position, random, set_to}
use Rattle.call_answers.specs.Refusal.{first_met}
use Rattle.disk_rules.specs.GoodSlot.{good_fields, good_top_bits, in_places, names_block, named_below, good_place, seen_below, good_slot, lowest_bad}
use Rattle.disk_rules.specs.Named.{named, held_of}
use Rattle.disk_rules.proofs.AcceptedLaws.{accepted}
use Rattle.call_read.specs.Read.{read_block, read_tests, read_bytes}
use Rattle.call_sweep.specs.Sweep.{changed}
use Rattle.call_delete.specs.Delete.{delete_tests, free_place, free_entry, free_slot, free_matches}
use Rattle.call_decide.specs.Write.{write_slot, base_entry, needs_block, write_block, write_tests}
use Rattle.call_entry.specs.Grown.{like_entry, grown, written_entry}
use Rattle.call_entry.specs.Alloc.{alloc}
use Rattle.filecalls.specs.declared.Drive.{Drive}
use Rattle.disk_stores.specs.Pieces.{map_piece}
use Rattle.disk_stores.specs.Stores.{laid, fill_stores, record_stores, entry_stores, sweep_stores}
use Rattle.filecalls.specs.Outcome.{unless, outcome, changed_state}
use Rattle.filecalls.specs.State.{is_open, closed, logged_in}
use Rattle.filecalls.specs.LogIn.{log_in_tests, refused_log_in, log_in}
use Rattle.filecalls.specs.Names.{delete_ladder, delete_act}
use Rattle.filecalls.specs.Read.{sequential_tests, random_tests, read_done, read_random_act}
use Rattle.filecalls.specs.Write.{write_entry, write_done, write_sequential_act, write_random_act, write_zero_fill_act}
use Rattle.call_served.specs.declared.Call.TheVariants.{LogIn, Moves}
use Rattle.call_served.specs.declared.Transfer.TheVariants.{ReadRandom}
use Rattle.bdos.specs.Step.{carries, does, step}
use Rattle.call_served.specs.Asked.{Asked, asked}
use Rattle.call_served.specs.Calls.{call_of}
use Rattle.demands.specs.Run.{Way, answers, final}
use Rattle.demands.specs.Demand1.{Demand1Of}
use Rattle.demands.specs.Demand2.{direct, zero_filling, at_random, Sound, Demand2Of}
use Rattle.numbers.specs.Numbers.{Bytes}
use Rattle.demands.specs.Demand3.{BytesLent, touches, touched, Kept, Demand3Of}
use Rattle.demands.specs.ZeroFill.{ZeroFillOf}
use Rattle.demands.specs.AtSeam.{logs_in}
use Rattle.demands.specs.WrongWays.{refuses_every, reads_nothing, stores_nothing, stores_first, invents_count, moves_cr, keeps_old_bytes, throws_away, overlooks_twice, fills_nothing, fills_always, held_not_updated, frees_too_many, takes_held, stores_elsewhere, ShutOut}

-- what has to compute where a call is evaluated
unfoldable pub computes : Unit {0}
unfolding low_from any_from every_from count_from fold part put all lawful bytes start slot_start record_start group_of place_of inside strip name_at same like good_name places block_in with_block count_of of_file of_group matches slot_at put_slot find_slot map_slot record_slot counted present record_at put_record fill_record put_filled digit holds hold release word_of words_of lowest_free free_count position random set_to first_met good_fields good_top_bits in_places names_block named_below good_place seen_below good_slot lowest_bad named held_of read_block read_tests read_bytes changed delete_tests free_place free_entry free_slot free_matches alloc like_entry grown write_slot base_entry needs_block write_block written_entry write_tests is_open outcome unless laid fill_stores record_stores entry_stores map_piece sweep_stores changed_state log_in log_in_tests refused_log_in delete_ladder delete_act sequential_tests random_tests read_done read_random_act write_entry write_done write_sequential_act write_random_act write_zero_fill_act call_of does carries step
computes = tt

-- ---- the volume: B 1,024, T 4, D 1, three files. A has record 0 in block 1; B and C have no block; block 2 has old bytes
abbrev pub small : Geometry
small = geometry_of 1024 4 1

abbrev name_of_file : ℕ → List ℕ
name_of_file letter = letter ∷ replicate 10 32

abbrev pub entry_of : ℕ → ℕ → ℕ → List ℕ
entry_of letter rc block = (0 ∷ name_of_file letter) ++ ((0 ∷ 0 ∷ 0 ∷ rc ∷ block ∷ []) ++ replicate 15 0)

abbrev pub bytes_of : ℕ → List ℕ
bytes_of x = replicate 128 x

abbrev pub disk : List ℕ
disk =
    entry_of 65 1 1 ++ (entry_of 66 0 0 ++ (entry_of 67 0 0 ++ (replicate 928 0xE5 ++ (bytes_of 7 ++ (replicate 896 0 ++ (replicate 1024 5 ++ replicate 1024 0))))))

-- the state after its log-in: block 1 is held
abbrev pub ready : Drive
ready = logged_in small (2 ∷ replicate 63 0)

-- one in which block 1 stands in the entries of A and B
abbrev shared : List ℕ
shared = entry_of 65 1 1 ++ (entry_of 66 1 1 ++ (replicate 960 0xE5 ++ replicate 3072 0))

-- the control block of record n, below 256, of a file; and calls with it
abbrev pub fcb_of : ℕ → ℕ → List ℕ
fcb_of letter n = (0 ∷ name_of_file letter) ++ (replicate 21 0 ++ (n ∷ 0 ∷ 0 ∷ []))

abbrev reads : ℕ → ℕ → Asked
reads letter n = asked 33 0 (fcb_of letter n) (bytes_of 0)

abbrev pub writes : ℕ → ℕ → Asked
writes letter n = asked 34 0 (fcb_of letter n) (bytes_of 9)

abbrev fills : ℕ → ℕ → Asked
fills letter n = asked 40 0 (fcb_of letter n) (bytes_of 9)

abbrev deletes : ℕ → Asked
deletes letter = asked 19 0 (fcb_of letter 0) []

-- ---- demand 2
stores_nothing_lem : Demand2Of stores_nothing → ⊥
unfolding computes
stores_nothing_lem d = false≢true (d.write_stores_lem small (writes 66 0) ready disk 0 (bytes_of 9) direct refl).is_present

keeps_old_bytes_lem : Demand2Of keeps_old_bytes → ⊥
unfolding computes
keeps_old_bytes_lem d =
    let z : ◌≡◌ {A = ℕ} 5 9 = ap (λ (l : List ℕ). byte l 0) (d.write_stores_lem small (writes 66 0) ready disk 0 (bytes_of 9) direct refl).has_bytes in
    absurd (omega arith)

throws_away_lem : Demand2Of throws_away → ⊥
unfolding computes
throws_away_lem d =
    let z : ◌≡◌ {A = ℕ} 0 9 = ap (λ (l : List ℕ). byte l 0) (d.write_stores_lem small (fills 66 0) ready disk 0 (bytes_of 9) zero_filling refl).has_bytes in
    absurd (omega arith)

refuses_every_lem : Demand2Of refuses_every → ⊥
unfolding computes
refuses_every_lem d = false≢true (d.accepts_good small logs_in closed disk refl refl refl (accepted small disk refl))

reads_nothing_lem : Demand2Of reads_nothing → ⊥
unfolding computes
reads_nothing_lem d =
    let sound : Sound ready disk = d.accepted_is_sound small logs_in closed disk refl refl in
    false≢true (d.present_is_read small (reads 65 0) ready disk 0 _ at_random refl sound (bytes_of 7) (record { is_present = refl; has_bytes = refl }))

stores_first_lem : Demand2Of stores_first → ⊥
unfolding computes
stores_first_lem d =
    let sound : Sound ready disk = d.accepted_is_sound small logs_in closed disk refl refl in
    false≢true (d.sequential_writes small 0 (bytes_of 9 ∷ bytes_of 9 ∷ []) ready disk (fcb_of 66 0) sound refl 1 (omega arith)).is_present

invents_count_lem : Demand2Of invents_count → ⊥
unfolding computes
invents_count_lem d =
    let z : ◌≡◌ {A = ℕ} 3 2 = d.log_in_count small logs_in closed disk refl refl in
    absurd (omega arith)

overlooks_twice_lem : Demand2Of overlooks_twice → ⊥
unfolding computes
overlooks_twice_lem d = false≢true (d.accepted_is_good small logs_in closed shared refl refl 1 (omega arith))

-- ---- demand 1
not_log_in : Moves ReadRandom ≢ LogIn
not_log_in e = let z : ◌≡◌ {A = ℕ} 0 1 = cc in absurd (omega arith)

moves_cr_lem : Demand1Of moves_cr → ⊥
unfolding computes
moves_cr_lem d =
    let z : ◌≡◌ {A = ℕ} 1 0 = ap (λ (l : List ℕ). byte l 32) (d.refused_leaves_all small (reads 66 5) ready disk not_log_in refl).fcb_kept in
    absurd (omega arith)

-- ---- request (iii)
fills_nothing_lem : ZeroFillOf fills_nothing → ⊥
unfolding computes
fills_nothing_lem d =
    let z : ◌≡◌ {A = ℕ} 5 0
    = ap (λ (l : List ℕ). byte l 0) (d.others_zero small 0 ready disk (fcb_of 66 0) (bytes_of 9) refl refl 1 (λ e. absurd (omega arith))) in
    absurd (omega arith)

fills_always_lem : ZeroFillOf fills_always → ⊥
unfolding computes
fills_always_lem d =
    let z : ◌≡◌ {A = ℕ} 0 7 = ap (λ (l : List ℕ). byte l 1024) (d.same_volume small 0 ready disk (fcb_of 65 1) (bytes_of 9) refl) in
    absurd (omega arith)

-- ---- demand 3
pub bytes_below : (l : List ℕ) → all (λ b. ltb b 256) l ≡ true → Bytes l
unfolding all
bytes_below [] e k = omega arith
bytes_below (x ∷ xs) e k = go (ltb x 256) refl e (λ rest. bytes_below xs rest) k
  where
    go : (t : Bool) → ltb x 256 ≡ t → cond t (all (λ b. ltb b 256) xs) false ≡ true → (all (λ b. ltb b 256) xs ≡ true → Bytes xs)
        → (k : ℕ) → byte (x ∷ xs) k < 256
    go true low rest below zero = ltb-true x 256 low
    go true low rest below (suc k) = below rest k
    go false low rest below k = absurd (false≢true rest)

-- a run of calls on the volume: what demand 3 says of it
on_disk : {way : Geometry → Way} → Demand3Of way → (cs : List Asked) → BytesLent cs
    → Kept (way small) small disk (logs_in ∷ cs) closed (answers (way small) (logs_in ∷ cs) closed disk) (final (way small) (logs_in ∷ cs) closed disk)
    (touched (way small) (logs_in ∷ cs) closed disk)
unfolding computes
on_disk d cs lent = d small refl disk refl refl logs_in refl cs lent closed closed

-- it passes inspection
on_disk_inspected : {way : Geometry → Way} → Demand3Of way → (cs : List Asked) → BytesLent cs
    → eqb (lowest_bad small (final (way small) (logs_in ∷ cs) closed disk)) 32 ≡ true
on_disk_inspected d cs lent = ap (λ (n : ℕ). eqb n 32) (on_disk d cs lent).inspected

held_not_updated_lem : Demand3Of held_not_updated → ⊥
unfolding computes final
held_not_updated_lem d = false≢true (on_disk_inspected d (writes 66 0 ∷ writes 67 0 ∷ []) (bytes_below (fcb_of 66 0) refl, (bytes_below (fcb_of 67 0) refl, tt)))

frees_too_many_lem : Demand3Of frees_too_many → ⊥
unfolding computes final
frees_too_many_lem d = false≢true (on_disk_inspected d (deletes 66 ∷ writes 67 0 ∷ []) (bytes_below (fcb_of 66 0) refl, (bytes_below (fcb_of 67 0) refl, tt)))

takes_held_lem : Demand3Of takes_held → ⊥
unfolding computes final
takes_held_lem d = false≢true (on_disk_inspected d (writes 66 0 ∷ []) (bytes_below (fcb_of 66 0) refl, tt))

stores_elsewhere_lem : Demand3Of stores_elsewhere → ⊥
unfolding computes final touches touched
stores_elsewhere_lem d =
    let kept = on_disk d (writes 66 0 ∷ []) (bytes_below (fcb_of 66 0) refl, tt) in
    let z : ◌≡◌ {A = ℕ} 9 7 = ap (λ (l : List ℕ). byte l 0) (kept.others_bytes 0 (name_of_file 65) (omega arith) refl 0 refl) in
    absurd (omega arith)

pub shut_out : ShutOut
shut_out = record {
  refuses_every_lem = refuses_every_lem;
  reads_nothing_lem = reads_nothing_lem;
  stores_nothing_lem = stores_nothing_lem;
  stores_first_lem = stores_first_lem;
  invents_count_lem = invents_count_lem;
  moves_cr_lem = moves_cr_lem;
  keeps_old_bytes_lem = keeps_old_bytes_lem;
  throws_away_lem = throws_away_lem;
  overlooks_twice_lem = overlooks_twice_lem;
  fills_nothing_lem = fills_nothing_lem;
  fills_always_lem = fills_always_lem;
  held_not_updated_lem = held_not_updated_lem;
  frees_too_many_lem = frees_too_many_lem;
  takes_held_lem = takes_held_lem;
  stores_elsewhere_lem = stores_elsewhere_lem;
}
