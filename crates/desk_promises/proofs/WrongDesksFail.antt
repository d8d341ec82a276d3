-- Each wrong desk is evaluated on a volume where it breaks what is said of a replacement (`desk_keeps/proofs/Examples`).
use mathlib.Core.Path.{◌≡◌, refl, ap}
use mathlib.Core.List.{List}
use Prim.Native.Nat.{ℕ, ◌≤◌, ◌<◌}
use native.Mathlib.Omega.{arith}
use native.Mathlib.Decide.{dec_le}
use Rattle.lists.specs.Bytes.{byte}
use Rattle.numbers.specs.Numbers.{Bytes}
use Rattle.disk_volume.specs.Name.{name_of}
use Rattle.disk_stores.specs.Stores.{cut}
use Rattle.call_answers.specs.declared.Refusal.TheVariants.{Closed}
use Rattle.filecalls.specs.State.{closed}
use Rattle.desk.specs.declared.Why.TheVariants.{Call, Contents}
use Rattle.desk.specs.Answer.{number_of}
use Rattle.desk_keeps.specs.Sigla.{Matches, CutShort, Way, Storing, OnAnyVolumeBy}
use Rattle.desk_keeps.proofs.Examples.{computes, AB, PQ, geometry, drive, fcb, before, volume, unreadable, joint, doubled, passes}
use Rattle.demands.proofs.WrongWaysFail.{bytes_below}
use Rattle.desk_promises.specs.WrongDesks.{refuses_all, always_fifty, from_contents, every_chapter, changes_first, counts_listed, count_in_turn, decides_in_turn, stores_down, highest_first, DesksShutOut}

volume_bytes_lem : Bytes volume
unfolding computes
volume_bytes_lem = bytes_below volume refl

-- nothing stands against it: chapter 3 is records 1 and 2
refuses_all_lem : (stores : Storing) → OnAnyVolumeBy refuses_all stores → ⊥
unfolding computes
refuses_all_lem stores h =
    let z : ◌≡◌ {A = ℕ} 50 0 = ap number_of ((h drive volume fcb 3 AB PQ volume_bytes_lem (omega arith)).goes_when 1 2 refl) in
    absurd (omega arith)

-- a closed drive is 32
always_fifty_lem : (stores : Storing) → OnAnyVolumeBy always_fifty stores → ⊥
unfolding computes
always_fifty_lem stores h =
    let z : ◌≡◌ {A = ℕ} 50 32 = ap number_of ((h closed volume fcb 3 AB PQ volume_bytes_lem (omega arith)).refused_when (Call Closed) refl) in
    absurd (omega arith)

counts_listed_lem : (stores : Storing) → OnAnyVolumeBy counts_listed stores → ⊥
unfolding computes
counts_listed_lem stores h =
    let z : ◌≡◌ {A = ℕ} 2 1 = (h drive volume fcb 3 AB PQ volume_bytes_lem (omega arith)).counts 2 refl in
    absurd (omega arith)

-- record 3 is of another chapter, and has the new siglum
every_chapter_lem : (stores : Storing) → OnAnyVolumeBy every_chapter stores → ⊥
unfolding computes
every_chapter_lem stores h =
    let z : ◌≡◌ {A = ℕ} 80 65
    = ((h drive volume fcb 3 AB PQ volume_bytes_lem (omega arith)).altered 1 refl).records_stay passes 0 (name_of fcb) (omega arith) 3 refl 0 (omega arith)
    (λ u name m. let high : 3 < 3 = m.to_last in absurd (omega (arith, high))) in
    absurd (omega arith)

-- byte 4 of record 1 is no longer its commentary
from_contents_lem : (stores : Storing) → OnAnyVolumeBy from_contents stores → ⊥
unfolding computes
from_contents_lem stores h =
    let z : ◌≡◌ {A = ℕ} 2 46
    = ((h drive volume fcb 3 AB PQ volume_bytes_lem (omega arith)).altered 1 refl).records_stay passes 0 (name_of fcb) (omega arith) 1 refl 4 (omega arith)
    (λ u name m. omega arith) in
    absurd (omega arith)

-- record 4 is missing, and record 1 is changed
changes_first_lem : (stores : Storing) → OnAnyVolumeBy changes_first stores → ⊥
unfolding computes
changes_first_lem stores h =
    let z : ◌≡◌ {A = ℕ} 80 65
    = ap (λ (l : List ℕ). byte l 1152) ((h drive unreadable fcb 3 AB PQ (bytes_below unreadable refl) (omega arith)).refused_keeps Contents refl) in
    absurd (omega arith)

-- record 9 stands where record 1 stands, and no longer has the old siglum at its turn
decides_in_turn_lem : (stores : Storing) → OnAnyVolumeBy decides_in_turn stores → ⊥
unfolding computes count_in_turn
decides_in_turn_lem stores h =
    let z : ◌≡◌ {A = ℕ} 2 3 = (h drive (doubled before) fcb 3 AB PQ (bytes_below (doubled before) refl) (omega arith)).counts 2 refl in
    absurd (omega arith)

-- after one store record 3 is done and record 1 is not
highest_first_lem : (way : Way) → OnAnyVolumeBy way highest_first → ⊥
unfolding computes stores_down
highest_first_lem way h = go ((h drive (joint before) fcb 3 AB PQ (bytes_below (joint before) refl) (omega arith)).cut_short 1)
  where
    go : CutShort drive (joint before) fcb 3 AB PQ (cut geometry (joint before) 1 (highest_first drive (joint before) fcb 3 AB PQ)) → ⊥
    go c = either (dec_le 2 c.reached)
      where
        either : Dec (2 ≤ c.reached) → ⊥
        either (yes l) =
            let m : Matches drive (joint before) fcb 3 AB 1 = record { from_first = omega arith; to_last = omega arith; has_siglum = refl } in
            let z : ◌≡◌ {A = ℕ} 65 80 = (c.altered.siglum_laid 1 (m, l)).0 in
            absurd (omega arith)
        either (no l) =
            let z : ◌≡◌ {A = ℕ} 80 65
            = c.altered.others_stay 1408 (λ n t. let low : 1 ≤ n = t.0.from_first in let high = t.1 in absurd (omega (arith, low, high, l))) in
            absurd (omega arith)

pub desks_shut_out : DesksShutOut
desks_shut_out = record {
  refuses_all_lem = refuses_all_lem;
  always_fifty_lem = always_fifty_lem;
  from_contents_lem = from_contents_lem;
  every_chapter_lem = every_chapter_lem;
  changes_first_lem = changes_first_lem;
  counts_listed_lem = counts_listed_lem;
  decides_in_turn_lem = decides_in_turn_lem;
  highest_first_lem = highest_first_lem;
}
