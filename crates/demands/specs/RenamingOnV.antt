-- Request (viii) on V: what it asks can be met, and what comes of it, evaluated call by call. The draft SIGLA.TXT goes
-- through SIGLA.$$$ to LESARTEN.BAK. It has two entries, one with the system bit and one without; beside it stand another
-- file of the user, and a file of the same name that is another user's. Then an altered volume, on which renaming there and
-- back leaves a trace.
use Rattle.std.specs.Prelude.{◌≡◌, refl, true, List, [], ◌∷◌, ◌++◌, ℕ, ◌+◌, replicate, set}
use Rattle.std.proofs.Common.{arith}
use Rattle.lists.specs.Bounded.{low_from, any_from, every_from, count_from, fold}
use Rattle.lists.specs.Bytes.{byte, part, put, all}
use Rattle.disk_geometry.specs.declared.Geometry.{Geometry}
use Rattle.disk_geometry.specs.Geometry.{lawful, bytes, start, slot_start, group_of, inside, places, geometry_of}
use Rattle.disk_volume.specs.Name.{strip, name_at, same, good_name}
use Rattle.call_typing.specs.Typing.{typeable_byte, blank_before, typeable}
use Rattle.disk_volume.specs.Entry.{Entry, block_in, of_file, of_group}
use Rattle.disk_volume.specs.Directory.{slot_at, put_slot, find_slot, map_slot}
use Rattle.disk_held.specs.Held.{digit, holds, word_of, words_of, none_held, free_count}
use Rattle.call_answers.specs.declared.Answer.TheVariants.{Done, Ready}
use Rattle.call_answers.specs.Refusal.{first_met}
use Rattle.disk_rules.specs.GoodSlot.{good_fields, good_top_bits, in_places, names_block, named_below, good_place, seen_below, good_slot, lowest_bad}
use Rattle.disk_rules.specs.Named.{named, held_of}
use Rattle.call_sweep.specs.Sweep.{renamed, changed}
use Rattle.call_rename.specs.Rename.{rename_tests}
use Rattle.filecalls.specs.declared.Drive.{Drive}
use Rattle.filecalls.specs.State.{is_open, logged_in}
use Rattle.disk_stores.specs.Pieces.{map_piece}
use Rattle.disk_stores.specs.Stores.{laid, fill_stores, record_stores, entry_stores, sweep_stores}
use Rattle.filecalls.specs.Outcome.{Outcome, outcome, unless, changed_state}
use Rattle.filecalls.specs.LogIn.{log_in_tests, log_in}
use Rattle.filecalls.specs.Names.{rename_ladder, rename_act}
use Rattle.demands.specs.Renaming.{rename, then_rename, Drafts, PassesInspection, Asks}

-- "Volume V: B 1,024, T 40, D 1", and a state with blocks 1 to 5 held, which is the one that log-in gives
abbrev pub geometry_v : Geometry
geometry_v = geometry_of 1024 40 1

abbrev pub state_v : Drive
state_v = logged_in geometry_v (62 ∷ replicate 63 0)

-- SIGLA.TXT, SIGLA.$$$, LESARTEN.BAK; and LEMMATA.TXT
abbrev pub draft : List ℕ
draft = 83 ∷ 73 ∷ 71 ∷ 76 ∷ 65 ∷ 32 ∷ 32 ∷ 32 ∷ 84 ∷ 88 ∷ 84 ∷ []

abbrev pub temporary : List ℕ
temporary = 83 ∷ 73 ∷ 71 ∷ 76 ∷ 65 ∷ 32 ∷ 32 ∷ 32 ∷ 36 ∷ 36 ∷ 36 ∷ []

abbrev pub finished : List ℕ
finished = 76 ∷ 69 ∷ 83 ∷ 65 ∷ 82 ∷ 84 ∷ 69 ∷ 78 ∷ 66 ∷ 65 ∷ 75 ∷ []

abbrev pub lemmata : List ℕ
lemmata = 76 ∷ 69 ∷ 77 ∷ 77 ∷ 65 ∷ 84 ∷ 65 ∷ 32 ∷ 84 ∷ 88 ∷ 84 ∷ []

-- an entry: user, name, ex, rc, and the blocks in its first two places; and byte k of it with a top bit
abbrev pub entry : ℕ → List ℕ → ℕ → ℕ → ℕ → ℕ → Entry
entry user name ex rc b c = (user ∷ name) ++ ((ex ∷ 0 ∷ 0 ∷ rc ∷ b ∷ c ∷ []) ++ replicate 14 0)

abbrev pub topped : ℕ → Entry → Entry
topped k e = set e k (byte e k + 128)

-- V with the file under a name: its entries in slots 0 and 2, the first of them a system file
abbrev pub volume_v : List ℕ → List ℕ
volume_v name =
    topped 10 (entry 0 name 0 128 1 2)
    ++ (entry 0 lemmata 0 8 3 0
    ++ (entry 0 name 1 1 4 0
    ++ (entry 1 draft 0 8 5 0
    ++ (replicate 896 0xE5 ++ replicate 39936 7))))

-- the control block of a rename
abbrev pub renaming : List ℕ → List ℕ → List ℕ
renaming old new = (0 ∷ old) ++ (replicate 5 0 ++ (new ++ replicate 8 0))

-- first to second, with a top bit in the old name and in the new; second to third, dr 1; first to third, with bytes that
-- rename does not look at; second to first, with a top bit on the new name's byte 9
abbrev pub there : List ℕ
there = topped 25 (topped 1 (renaming draft temporary))

abbrev pub on : List ℕ
on = set (renaming temporary finished) 0 1

abbrev pub direct : List ℕ
direct = set (set (renaming draft finished) 16 255) 28 255

abbrev pub back : List ℕ
back = topped 25 (renaming temporary draft)

pub logged_in_lem : log_in geometry_v (volume_v draft) ≡ record { answer = Ready 34; drive = state_v }
unfolding log_in log_in_tests first_met lawful bytes held_of named word_of words_of free_count digit holds count_from lowest_bad good_slot good_fields good_top_bits good_place in_places names_block named_below seen_below low_from any_from every_from part all start slot_start group_of inside strip name_at same good_name places block_in of_file of_group slot_at
logged_in_lem = refl

-- ---- what is asked is met
pub inspected : PassesInspection state_v (volume_v draft)
unfolding lowest_bad good_slot good_fields good_top_bits good_place in_places names_block named_below seen_below low_from any_from every_from part all start slot_start group_of inside strip name_at same good_name places block_in of_file of_group slot_at
inspected = refl

pub drafts : Drafts state_v (volume_v draft) draft temporary finished
unfolding is_open lawful bytes good_name typeable typeable_byte blank_before all same find_slot low_from of_file strip name_at part slot_at slot_start start
drafts = record {
  is_open_lem = refl;
  volume_length_lem = refl;
  not_protected = refl;
  first_permitted = refl;
  second_permitted = refl;
  third_permitted = refl;
  second_typeable = refl;
  third_typeable = refl;
  first_not_second = refl;
  first_not_third = refl;
  second_not_third = refl;
  first_exists = refl;
  second_free = refl;
  third_free = refl;
  not_read_only = refl;
}

pub draft_typeable : typeable draft ≡ true
unfolding typeable typeable_byte blank_before all part
draft_typeable = refl

pub asks_there : Asks there draft temporary
unfolding strip name_at part
asks_there = record { length_36 = refl; drive_code_lem = omega arith; old_name = refl; new_name_lem = refl }

pub asks_on : Asks on temporary finished
unfolding strip name_at part
asks_on = record { length_36 = refl; drive_code_lem = omega arith; old_name = refl; new_name_lem = refl }

pub asks_direct : Asks direct draft finished
unfolding strip name_at part
asks_direct = record { length_36 = refl; drive_code_lem = omega arith; old_name = refl; new_name_lem = refl }

pub asks_back : Asks back temporary draft
unfolding strip name_at part
asks_back = record { length_36 = refl; drive_code_lem = omega arith; old_name = refl; new_name_lem = refl }

-- ---- the calls evaluated
-- a call answers 0 and hands back the state and the control block as they were
abbrev pub done : Drive → List ℕ → List ℕ → Outcome
done d fcb v = record { answer = Done 0; drive = d; volume = v; fcb = fcb; buffer = [] }

-- each call on the volume that the last left, with every byte that it leaves
pub record OnV : Type 0 where
  pub there_is : rename state_v (volume_v draft) there ≡ done state_v there (volume_v temporary)
  pub on_is : rename state_v (volume_v temporary) on ≡ done state_v on (volume_v finished)
  pub direct_is : rename state_v (volume_v draft) direct ≡ done state_v direct (volume_v finished)
  pub back_is : rename state_v (volume_v temporary) back ≡ done state_v back (volume_v draft)

pub on_v_lem : OnV
unfolding outcome unless first_met laid fill_stores record_stores entry_stores map_piece sweep_stores changed_state rename_act rename_ladder rename_tests renamed changed is_open lawful bytes good_name typeable typeable_byte blank_before all same find_slot low_from any_from fold map_slot put_slot put of_file strip name_at part slot_at slot_start start
on_v_lem = record { there_is = refl; on_is = refl; direct_is = refl; back_is = refl }

-- ---- an altered volume: B 1,024, T 2, D 1, and an entry with a top bit on byte 1. All is met but inspection, and renaming
-- there and back takes the top bit off: so the second half of the request can't do without inspection
abbrev pub state_altered : Drive
state_altered = logged_in (geometry_of 1024 2 1) none_held

abbrev pub volume_altered : Entry → List ℕ
volume_altered e = e ++ (replicate 992 0xE5 ++ replicate 1024 7)

abbrev pub topped1 : Entry
topped1 = topped 1 (entry 0 draft 0 0 0 0)

pub refused_altered : lowest_bad state_altered.geometry (volume_altered topped1) ≡ 0
unfolding lowest_bad good_slot good_fields good_top_bits good_place in_places names_block named_below seen_below low_from any_from every_from part all start slot_start group_of inside strip name_at same good_name places block_in of_file of_group slot_at
refused_altered = refl

pub drafts_altered : Drafts state_altered (volume_altered topped1) draft temporary finished
unfolding is_open lawful bytes good_name typeable typeable_byte blank_before all same find_slot low_from of_file strip name_at part slot_at slot_start start
drafts_altered = record {
  is_open_lem = refl;
  volume_length_lem = refl;
  not_protected = refl;
  first_permitted = refl;
  second_permitted = refl;
  third_permitted = refl;
  second_typeable = refl;
  third_typeable = refl;
  first_not_second = refl;
  first_not_third = refl;
  second_not_third = refl;
  first_exists = refl;
  second_free = refl;
  third_free = refl;
  not_read_only = refl;
}

pub altered_trace : then_rename (rename state_altered (volume_altered topped1) there) back ≡ done state_altered back (volume_altered (entry 0 draft 0 0 0 0))
unfolding outcome unless first_met laid fill_stores record_stores entry_stores map_piece sweep_stores changed_state rename_act rename_ladder rename_tests renamed changed is_open lawful bytes good_name typeable typeable_byte blank_before all same find_slot low_from any_from fold map_slot put_slot put of_file strip name_at part slot_at slot_start start
altered_trace = refl
