-- Volumes put on a shelf, evaluated: V after 01's writes, a disk of another geometry beside it, volumes that log-in refuses, the 65,535th
-- and the 65,536th.
use mathlib.Core.Path.{◌≡◌, refl, ap}
use mathlib.Core.List.{[], ◌∷◌}
use Prim.Native.Nat.{ℕ}
use Rattle.std.specs.Prelude.{Result, Ok, Err}
use Rattle.disk_geometry.specs.Geometry.{lawful, geometry_of, bytes}
use Rattle.call_answers.specs.Refusal.{first_met}
use Rattle.filecalls.specs.LogIn.{log_in_tests, refused_log_in, log_in}
use Rattle.shelf_holdings.proofs.Examples.{sizes, large, volume, written, large_disk, bad}
use Rattle.shelf_holdings.proofs.Examples as volumes
use Rattle.shelf_figures.specs.declared.Shelf.{Shelf}
use Rattle.shelf_figures.specs.declared.ShelfRefusal.{ShelfRefusal}
use Rattle.shelf_figures.specs.declared.ShelfRefusal.TheVariants.{Full, Outside}
use Rattle.shelf_figures.specs.declared.Added.{Added}
use Rattle.shelf_figures.specs.Shelf.{bare, plus, one, most_figure, put}
use Rattle.shelf_figures.specs.Order.{Volume, shelve}

-- so many volumes, all of them refused; and with so many files, which they can't have
abbrev pub refused : ℕ → Shelf
refused n = record { refused = n; files = 0; entries = 0; records = 0; held = 0; free = 0; waste = 0; seen = n }

abbrev with_files : ℕ → ℕ → Shelf
with_files n f = record { refused = n; files = f; entries = 0; records = 0; held = 0; free = 0; waste = 0; seen = n }

-- V after 01's writes, a volume without a byte, and the figures of both where so many are refused and seen
abbrev pub three : Volume
three = record { geometry = sizes; bytes = volume written }

abbrev none : Volume
none = record { geometry = sizes; bytes = [] }

abbrev pub both : ℕ → ℕ → Shelf
both r n = record { refused = r; files = 1; entries = 2; records = 14; held = 3; free = 36; waste = 10; seen = n }

abbrev pub after : Result ℕ ShelfRefusal → Shelf → Added
after a s = record { answer = a; shelf = s }

pub record Examples : Type 0 where
  -- a sound volume alone on the shelf
  pub alone : put bare sizes (volume written) ≡ after (Ok 0) (both 0 1)
  -- fourteen records in three blocks, beside a volume that was refused
  pub counted : put (refused 1) sizes (volume written) ≡ after (Ok 0) (record { refused = 1; files = 1; entries = 2; records = 14; held = 3; free = 36; waste = 10; seen = 2 })
  -- a volume of another geometry beside it: 39 records in two blocks of 32, and one block free
  pub two_kinds : put (both 0 1) large large_disk ≡ after (Ok 0) (record { refused = 0; files = 2; entries = 3; records = 53; held = 5; free = 37; waste = 35; seen = 2 })
  -- "the volumes refused at log-in": each is counted, and nothing of it
  pub lawless : put bare (geometry_of 1000 40 1) [] ≡ after (Ok 32) (refused 1)
  pub short : put bare sizes [] ≡ after (Ok 33) (refused 1)
  pub one_byte : put bare sizes (229 ∷ []) ≡ after (Ok 33) (refused 1)
  pub bad_slot_lem : put bare sizes (volume bad) ≡ after (Ok 36) (refused 1)
  -- "up to 65,535 volumes", "47 for the 65,536th"
  pub last : put (refused 65534) sizes [] ≡ after (Ok 33) (refused 65535)
  pub one_too_many : put (refused 65535) sizes (volume written) ≡ after (Err Full) (refused 65535)
  -- 32 comes before 47
  pub outside : put (with_files 65535 most_figure) sizes [] ≡ after (Err Outside) (with_files 65535 most_figure)
  -- "their order makes no difference", and two shelves add up
  pub in_turn_lem : shelve bare (three ∷ (none ∷ [])) ≡ both 1 2
  pub other_turn : shelve bare (none ∷ (three ∷ [])) ≡ both 1 2
  pub two_shelves : plus (shelve bare (three ∷ [])) (shelve bare (none ∷ [])) ≡ both 1 2
  -- the same of the 65,534th and the 65,535th; of the 65,535th and the 65,536th only the first is counted
  pub last_two : shelve (refused 65533) (three ∷ (none ∷ [])) ≡ both 65534 65535
  pub last_two_turned : shelve (refused 65533) (none ∷ (three ∷ [])) ≡ both 65534 65535
  pub one_more : shelve (refused 65534) (three ∷ (none ∷ [])) ≡ both 65534 65535
  pub one_more_turned : shelve (refused 65534) (none ∷ (three ∷ [])) ≡ refused 65535

-- V after the writes as the next volume of a shelf that has seen none, 65,533 or 65,534
record Next : Type 0 where
  on_bare : (put bare sizes (volume written)).shelf ≡ both 0 1
  on_many : (put (refused 65533) sizes (volume written)).shelf ≡ both 65533 65534
  on_most : (put (refused 65534) sizes (volume written)).shelf ≡ both 65534 65535

next : Next
unfolding put plus one log_in log_in_tests refused_log_in first_met lawful bytes
next =
    record {
      on_bare = rw ((volumes.examples).good_slots, (volumes.examples).three_writes);
      on_many = rw ((volumes.examples).good_slots, (volumes.examples).three_writes);
      on_most = rw ((volumes.examples).good_slots, (volumes.examples).three_writes);
    }

pub examples : Examples
unfolding shelve put plus one log_in log_in_tests refused_log_in first_met lawful bytes
examples =
    record {
      alone = rw ((volumes.examples).good_slots, (volumes.examples).three_writes);
      counted = rw ((volumes.examples).good_slots, (volumes.examples).three_writes);
      two_kinds = rw ((volumes.examples).good_large, (volumes.examples).four_extents);
      lawless = refl;
      short = refl;
      one_byte = refl;
      bad_slot_lem = rw (volumes.examples).bad_slot_lem;
      last = refl;
      one_too_many = refl;
      outside = refl;
      in_turn_lem = ap (λ (s : Shelf). shelve s (none ∷ [])) next.on_bare;
      other_turn = rw ((volumes.examples).good_slots, (volumes.examples).three_writes);
      two_shelves = rw ((volumes.examples).good_slots, (volumes.examples).three_writes);
      last_two = ap (λ (s : Shelf). shelve s (none ∷ [])) next.on_many;
      last_two_turned = rw ((volumes.examples).good_slots, (volumes.examples).three_writes);
      one_more = ap (λ (s : Shelf). shelve s (none ∷ [])) next.on_most;
      one_more_turned = refl;
    }
