-- Each wrong placing is tried on one eight-inch image: a call of it, or a run of two, is evaluated there, and is not what it is on the
-- image.
use mathlib.Core.Path.{◌≡◌, refl, sym, ap, ◌∙◌}
use mathlib.Core.Bool.{Bool, true, false, cond}
use mathlib.Core.List.{List, [], ◌∷◌, ◌++◌, map}
use Prim.Native.Nat.{ℕ, ◌+◌, ◌≤◌, ◌<◌}
use native.Mathlib.Omega.{arith}
use lib.Dec.{eqb}
use lib.ListN.{length, replicate, length-replicate, get_or-replicate}
use Rattle.lists.specs.Bytes.{byte, part, put}
use Rattle.disk_geometry.specs.declared.Geometry.{Geometry}
use Rattle.lists.proofs.PartLaws.{byte_part, byte_in}
use Rattle.disk_geometry.specs.EightInch.{sector_at, image_start}
use Rattle.disk_geometry.specs.Geometry.{eight_inch, placing, floppy, lawful, bytes, start}
use Rattle.disk_geometry.proofs.GeometryLaws.{bytes_floppy}
use Rattle.disk_stores.specs.Stores.{Store}
use Rattle.call_answers.specs.Answer.{number_of}
use Rattle.call_open.specs.Open.{open_slot}
use Rattle.call_served.specs.Asked.{Asked, asked}
use Rattle.unskewed.specs.Unskewed.{straightened, unskewed}
use Rattle.unskewed.proofs.Logical.{straight_good}
use Rattle.filecalls.specs.declared.Drive.{Drive}
use Rattle.filecalls.specs.State.{logged_in}
use Rattle.filecalls.specs.Open.{open_tests, open_act}
use Rattle.filecalls.specs.Outcome.{Outcome}
use Rattle.bdos.specs.Step.{step}
use Rattle.bdos.specs.Stores.{call_stores, stores_of}
use Rattle.demands.specs.Run.{Seen, Way, answers, final}
use Rattle.demands.specs.Order.{among}
use Rattle.demands.specs.WrongWays.{with_drive}
use Rattle.demands.specs.EightInch.{straight_drive, unskewed_outcome, has_geometry, EachCallOf, EachRunOf, EachCutOf, SpareKeptOf}
use Rattle.demands.specs.WrongPlacings.{directory_straight, data_straight, placing_lost, marks_reserved, marks_last, in_disk_order, stores_by_sector, PlacingsShutOut}
use Rattle.demands.proofs.EightInchActs.{placed}
use Rattle.demands.proofs.EightInchHolds.{straight_is, straight_not, floppy_lawful, each_call, each_run, each_cut}
use Rattle.demands.proofs.WrongWaysFail.{computes, entry_of, bytes_of, fcb_of}

-- what has to compute
unfoldable lying : Unit {0}
unfolding computes sector_at image_start call_stores
lying = tt

-- ---- the image: on track 2 the entry of B stands in directory record 13, sector 2, and that of A in record 3, sector 19; A's record 0 is
-- logical record 16, sector 20, and has bytes 7; all else is E5H
image : List ℕ
image =
    replicate 6784 0xE5 ++ (entry_of 66 0 0 ++ (replicate 2144 0xE5 ++ (entry_of 65 1 2 ++ (replicate 96 0xE5 ++ (bytes_of 7 ++ replicate 247040 0xE5)))))

image_long : length image ≡ bytes floppy
unfolding image bytes
image_long = refl

-- block 2 is held
ready : Drive
ready = logged_in floppy (4 ∷ replicate 63 0)

reads : Asked
reads = asked 33 0 (fcb_of 65 0) (bytes_of 0)

-- ---- calls: a way that is `step` on straight volumes is `step` on the image, as far as the unskewed volume shows
as_step : (way : Geometry → Way) → EachCallOf way → (v : List ℕ) → length v ≡ bytes floppy
    → step (straightened floppy) reads (straight_drive ready) (unskewed floppy v)
    ≡ way (straightened floppy) reads (straight_drive ready) (unskewed floppy v)
    → unskewed_outcome floppy (step floppy reads ready v) ≡ unskewed_outcome floppy (way floppy reads ready v)
unfolding ready
as_step way each v size same =
    sym (each_call floppy floppy_lawful ready (has_geometry refl) v size reads) ∙ same ∙ each floppy floppy_lawful ready (has_geometry refl) v size reads

-- what is looked at: the answer's number, and a byte of the buffer
abbrev shown : Outcome → List ℕ
shown o = number_of o.answer ∷ byte o.buffer 0 ∷ []

-- the read shows A's bytes
read_shows : shown (step floppy reads ready image) ≡ 0 ∷ 7 ∷ []
unfolding lying image ready reads
read_shows = refl

-- A is not found where it would stand in a straight directory, and E5H stands where its record would be in straight data
not_found : shown (directory_straight floppy reads ready image) ≡ 3 ∷ 0 ∷ []
unfolding lying image ready reads
not_found = refl

other_bytes_lem : shown (data_straight floppy reads ready image) ≡ 0 ∷ 0xE5 ∷ []
unfolding lying image ready reads
other_bytes_lem = refl

directory_straight_lem : EachCallOf directory_straight → ⊥
directory_straight_lem each =
    let e = sym read_shows ∙ ap shown (as_step directory_straight each image image_long refl) ∙ not_found in
    absurd (omega (arith, ap (λ (l : List ℕ). byte l 0) e))

data_straight_lem : EachCallOf data_straight → ⊥
data_straight_lem each =
    let e = sym read_shows ∙ ap shown (as_step data_straight each image image_long refl) ∙ other_bytes_lem in
    absurd (omega (arith, ap (λ (l : List ℕ). byte l 1) e))

-- ---- runs: a log-in on an empty disk, and then an open of A
empty : List ℕ
empty = replicate 256256 0xE5

empty_long : length empty ≡ bytes floppy
unfolding empty
empty_long = length-replicate {A = ℕ} 256256 0xE5 ∙ sym (bytes_floppy floppy refl)

opens : List Asked
opens = asked 13 0 [] [] ∷ asked 15 0 (fcb_of 65 0) [] ∷ []

run_as_step : EachRunOf placing_lost → (v : List ℕ) → length v ≡ bytes floppy
    → answers (step floppy) opens ready v ≡ answers (placing_lost floppy) opens ready v
unfolding ready
run_as_step each v size =
    sym (each_run floppy floppy_lawful ready (has_geometry refl) v size opens).seen_same
    ∙ (each floppy floppy_lawful ready (has_geometry refl) v size opens).seen_same

abbrev numbers : List Seen → List ℕ
numbers = map (λ (s : Seen). number_of s.answer)

-- A is not there
none_found : numbers (answers (step floppy) opens ready empty) ≡ 0 ∷ 255 ∷ []
unfolding lying open_slot open_tests open_act answers empty ready opens
none_found = refl

-- of a straight state the image has a wrong length
wrong_length : numbers (answers (placing_lost floppy) opens ready empty) ≡ 0 ∷ 33 ∷ []
unfolding lying open_slot open_tests open_act answers empty ready opens
wrong_length = refl

placing_lost_lem : EachRunOf placing_lost → ⊥
placing_lost_lem each =
    let e = sym none_found ∙ ap numbers (run_as_step each empty empty_long) ∙ wrong_length in
    absurd (omega (arith, ap (λ (l : List ℕ). byte l 1) e))

-- a call by itself does not show it: a straight state is straightened to itself
straight_twice : (d : Drive) → straight_drive (straight_drive d) ≡ straight_drive d
straight_twice d = go (lawful d.geometry) refl
  where
    go : (t : Bool) → lawful d.geometry ≡ t → straight_drive (straight_drive d) ≡ straight_drive d
    go true e = ap straight_drive (straight_is d e) ∙ straight_is (placed d) (straight_good d.geometry e) ∙ sym (straight_is d e)
    go false e = ap straight_drive (straight_not d e)

same_unskewed : (g : Geometry) (o : Outcome) (t u : Bool)
    → unskewed_outcome g o ≡ unskewed_outcome g (cond t (cond u (with_drive o (straight_drive o.drive)) o) o)
same_unskewed g o true true = ap (with_drive (unskewed_outcome g o)) (sym (straight_twice o.drive))
same_unskewed g o true false = refl
same_unskewed g o false u = refl

placing_lost_by_call : EachCallOf placing_lost
placing_lost_by_call g good d st v size c =
    each_call g good d st v size c ∙ same_unskewed g (step g c d v) (eqb (placing g) eight_inch) (among c.function (13 ∷ 37 ∷ []))

-- ---- the reserved tracks and the last six logical records: an image of zeros is marked by a 1
zeros : List ℕ
zeros = replicate 256256 0

zeros_long : length zeros ≡ bytes floppy
unfolding zeros
zeros_long = length-replicate {A = ℕ} 256256 0 ∙ sym (bytes_floppy floppy refl)

zeros_are : (k : ℕ) → k < 256256 → byte zeros k ≡ 0
unfolding zeros
zeros_are k h = get_or-replicate {A = ℕ} 256256 k 0 0 h

-- byte k of a part that is as it was
unmarked : (a k n : ℕ) → k < n → a + k < 256256 → part (put zeros (a + k) 1 (1 ∷ [])) a n ≡ part zeros a n → ⊥
unmarked a k n k< in_image same =
    let fits : a + k + 1 ≤ length zeros = omega (arith, zeros_long ∙ bytes_floppy floppy refl) in
    let one : byte (put zeros (a + k) 1 (1 ∷ [])) (a + k + 0) ≡ 1 = byte_in zeros (a + k) 1 (1 ∷ []) fits refl 0 (omega arith) in
    let y : a + k + 0 ≡ a + k = omega arith in
    let e : byte (put zeros (a + k) 1 (1 ∷ [])) (a + k) ≡ byte zeros (a + k)
    = sym (byte_part (put zeros (a + k) 1 (1 ∷ [])) a n k k<) ∙ ap (λ (l : List ℕ). byte l k) same ∙ byte_part zeros a n k k< in
    omega (arith, rw y at one, zeros_are (a + k) in_image)

logs_in_lem : List Asked
logs_in_lem = asked 13 0 [] [] ∷ []

marks_reserved_lem : SpareKeptOf marks_reserved stores_of → ⊥
unfolding ready logs_in_lem final
marks_reserved_lem kept = unmarked 0 0 6656 (omega arith) (omega arith) (kept ready (has_geometry refl) zeros zeros_long logs_in_lem).at_end.reserved

marks_last_lem : SpareKeptOf marks_last stores_of → ⊥
unfolding ready logs_in_lem final start sector_at image_start
marks_last_lem kept =
    unmarked (start floppy 1944) 0 128 (omega arith) (omega arith)
    ((kept ready (has_geometry refl) zeros zeros_long logs_in_lem).at_end.last_six 1944 (omega arith) (omega arith))

-- ---- a delete of both: record 3 comes before record 13
deletes : Asked
deletes = asked 19 0 (0 ∷ (replicate 11 63 ++ replicate 24 0)) []

in_order : EachCutOf stores_by_sector → (v : List ℕ) → length v ≡ bytes floppy → stores_of deletes ready v ≡ in_disk_order floppy (stores_of deletes ready v)
unfolding ready deletes lawful
in_order each v size =
    sym (each_cut floppy floppy_lawful ready (has_geometry refl) v size deletes).stores_same
    ∙ (each floppy floppy_lawful ready (has_geometry refl) v size deletes).stores_same

abbrev records_of : List Store → List ℕ
records_of [] = []
records_of (s ∷ ss) = s.at ∷ records_of ss

both_stored : records_of (stores_of deletes ready image) ≡ 3 ∷ 13 ∷ []
unfolding lying image ready deletes
both_stored = refl

-- sector 2 lies before sector 19
other_order : (ss : List Store) → records_of ss ≡ 3 ∷ 13 ∷ [] → records_of (in_disk_order floppy ss) ≡ 13 ∷ 3 ∷ []
unfolding start sector_at image_start
other_order [] e = let z : ◌≡◌ {A = ℕ} 0 1 = cc in absurd (omega arith)
other_order (s ∷ []) e = let z : ◌≡◌ {A = ℕ} 0 1 = cc in absurd (omega arith)
other_order (s ∷ t ∷ []) e =
    let a : s.at ≡ 3 = cc in
    let b : t.at ≡ 13 = cc in
    rw (a, b)
other_order (s ∷ t ∷ u ∷ ss) e = let z : ◌≡◌ {A = ℕ} 0 1 = cc in absurd (omega arith)

by_sector : EachCutOf stores_by_sector → ⊥
by_sector each =
    let e : ◌≡◌ {A = List ℕ} (3 ∷ 13 ∷ []) (13 ∷ 3 ∷ [])
    = sym both_stored ∙ ap records_of (in_order each image image_long) ∙ other_order (stores_of deletes ready image) both_stored in
    absurd (omega (arith, ap (λ (l : List ℕ). byte l 0) e))

pub placings_shut_out : PlacingsShutOut
placings_shut_out = record {
  directory_straight_lem = directory_straight_lem;
  data_straight_lem = data_straight_lem;
  placing_lost_lem = placing_lost_lem;
  placing_lost_by_call = placing_lost_by_call;
  marks_reserved_lem = marks_reserved_lem;
  marks_last_lem = marks_last_lem;
  by_sector = by_sector;
}
