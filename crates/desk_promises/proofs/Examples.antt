-- A run that mixes calls and replacements, evaluated on a volume of `desk_keeps/proofs/Examples`: log-in; "AB" by "PQ" in chapter 7;
-- its record 3 written as it was; "AB" by "PQ" in chapter 3. And what C is told of replacements there, by the drive's bytes.
use Prim.{Unit, tt}
use mathlib.Core.Path.{◌≡◌, refl}
use mathlib.Core.Bool.{true, false}
use mathlib.Core.List.{List, [], ◌∷◌, ◌++◌}
use Prim.Native.Nat.{ℕ}
use lib.ListN.{take, replicate}
use Rattle.numbers.specs.Numbers.{number, bytes_of}
use Rattle.disk_volume.specs.Name.{name_of}
use Rattle.filecalls.specs.State.{closed}
use Rattle.call_served.specs.Asked.{asked}
use Rattle.drive_bytes.specs.Layout.{encoded, front_bytes, head_bytes, search_bytes, held_bytes, kind_stored, words_at, fields, laid_out, is_drive, decoded, encoded_in}
use Rattle.seam_words.specs.Answered.{answered}
use Rattle.seam_calls.specs.Seam.{at_seam, log_in_at_seam}
use Rattle.seam_desk.specs.Sigla.{replaced, replace_at_seam}
use Rattle.demands.specs.Demand3.{touches}
use Rattle.demands.specs.AtSeam.{logs_in}
use Rattle.demands.proofs.WrongWaysFail as door
use Rattle.desk_keeps.proofs.Examples.{computes, AB, PQ, geometry, fcb, entry, contents, reading, volume_of, before, first_done, both_done, volume, joint}
use Rattle.desk_promises.specs.Mixed.{Deed, calls, replaces, ending, named_in}
use Rattle.desk_promises.specs.MixedAtSeam.{ending_at_seam, drive_ending, named_at_seam}

abbrev after_log_in : List Deed
after_log_in = replaces fcb 7 AB PQ ∷ calls (asked 34 0 (take 33 fcb ++ (3 ∷ 0 ∷ 0 ∷ [])) (reading 65 66 3)) ∷ replaces fcb 3 AB PQ ∷ []

abbrev mixed : List Deed
mixed = calls logs_in ∷ after_log_in

-- each is given the state and the volume that the last left
pub ends : ending geometry mixed closed volume ≡ volume_of entry contents first_done
unfolding computes door.computes ending
ends = refl

-- a replacement counts its file as named, and no other user's; a refused one counts none
pub names_its_file : (named_in geometry (calls logs_in ∷ replaces fcb 7 AB PQ ∷ []) closed volume 0 (name_of fcb) ≡ true)
    × ((named_in geometry mixed closed volume 1 (name_of fcb) ≡ false)
    × (named_in geometry (calls logs_in ∷ replaces fcb 9 AB PQ ∷ []) closed volume 0 (name_of fcb) ≡ false))
unfolding computes door.computes touches named_in
names_its_file = (refl, (refl, refl))

-- ---- at the seam
-- what has to compute there
unfoldable at_the_seam : Unit {0}
unfolding kind_stored words_at fields laid_out is_drive decoded number encoded front_bytes head_bytes search_bytes held_bytes encoded_in bytes_of answered at_seam log_in_at_seam replace_at_seam
at_the_seam = tt

-- the drive's bytes: B 1,024, T 4, D 1, user 0; block 1 is held
abbrev drive_open : List ℕ
drive_open = 0 ∷ 4 ∷ 4 ∷ 0 ∷ 1 ∷ replicate 27 0 ++ (2 ∷ replicate 31 0)

-- the number in the low 16 bits, the matching records in the high 16: one match, two, none; refused, 50 and 32, and no byte changed
pub told : (replace_at_seam drive_open volume fcb 3 AB PQ ≡ replaced 65536 (volume_of entry contents first_done))
    × ((replace_at_seam drive_open (joint before) fcb 3 AB PQ ≡ replaced 131072 (joint both_done)) × ((replace_at_seam drive_open volume fcb 7 PQ AB ≡ replaced 0 volume)
    × ((replace_at_seam drive_open volume fcb 9 AB PQ ≡ replaced 50 volume) × (replace_at_seam (replicate 64 0) volume fcb 3 AB PQ ≡ replaced 32 volume))))
unfolding computes at_the_seam
told = (refl, (refl, (refl, (refl, refl))))

-- log-in leaves these bytes; the run behind it leaves the same volume and the drive as it was
pub logged_in_lem : (log_in_at_seam geometry volume (replicate 64 0)).drive ≡ drive_open
unfolding computes door.computes at_the_seam
logged_in_lem = refl

pub ends_at_seam : (ending_at_seam after_log_in drive_open volume ≡ volume_of entry contents first_done) × (drive_ending after_log_in drive_open volume ≡ drive_open)
unfolding computes door.computes at_the_seam ending_at_seam drive_ending
ends_at_seam = (refl, refl)

-- a file counts as named by the number of the answer alone
pub names_at_seam : (named_at_seam (replaces fcb 7 AB PQ ∷ []) drive_open volume 0 (name_of fcb) ≡ true)
    × ((named_at_seam after_log_in drive_open volume 1 (name_of fcb) ≡ false) × (named_at_seam (replaces fcb 9 AB PQ ∷ []) drive_open volume 0 (name_of fcb) ≡ false))
unfolding computes door.computes at_the_seam touches named_at_seam
names_at_seam = (refl, (refl, refl))
