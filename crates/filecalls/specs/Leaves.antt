-- All that each call leaves: its act, done with the state and with what the call is lent. What it is not lent is
-- empty here.
use Rattle.std.specs.Prelude.{List, [], ℕ}
use Rattle.filecalls.specs.declared.Drive.{Drive}
use Rattle.filecalls.specs.Outcome.{Outcome, outcome}
use Rattle.filecalls.specs.Open.{open_act, close_act, size_act}
use Rattle.filecalls.specs.Search.{search_first_act, search_next_act}
use Rattle.filecalls.specs.Names.{delete_act, make_act, rename_act, attributes_act}
use Rattle.filecalls.specs.Read.{read_sequential_act, read_random_act}
use Rattle.filecalls.specs.Write.{write_sequential_act, write_random_act, write_zero_fill_act}
use Rattle.filecalls.specs.Small.{protect_act, user_act, set_random_act}

-- lent volume and control block
abbrev pub open_leaves : Drive → List ℕ → List ℕ → Outcome
open_leaves d v fcb = outcome d v fcb [] (open_act d v fcb)

abbrev pub close_leaves : Drive → List ℕ → List ℕ → Outcome
close_leaves d v fcb = outcome d v fcb [] (close_act d v fcb)

abbrev pub size_leaves : Drive → List ℕ → List ℕ → Outcome
size_leaves d v fcb = outcome d v fcb [] (size_act d v fcb)

abbrev pub delete_leaves : Drive → List ℕ → List ℕ → Outcome
delete_leaves d v fcb = outcome d v fcb [] (delete_act d v fcb)

abbrev pub make_leaves : Drive → List ℕ → List ℕ → Outcome
make_leaves d v fcb = outcome d v fcb [] (make_act d v fcb)

abbrev pub rename_leaves : Drive → List ℕ → List ℕ → Outcome
rename_leaves d v fcb = outcome d v fcb [] (rename_act d v fcb)

abbrev pub attributes_leave : Drive → List ℕ → List ℕ → Outcome
attributes_leave d v fcb = outcome d v fcb [] (attributes_act d v fcb)

-- lent the transfer buffer too; search next is lent no control block
abbrev pub search_first_leaves : Drive → List ℕ → List ℕ → List ℕ → Outcome
search_first_leaves d v fcb b = outcome d v fcb b (search_first_act d v fcb b)

abbrev pub search_next_leaves : Drive → List ℕ → List ℕ → Outcome
search_next_leaves d v b = outcome d v [] b (search_next_act d v b)

abbrev pub read_sequential_leaves : Drive → List ℕ → List ℕ → List ℕ → Outcome
read_sequential_leaves d v fcb b = outcome d v fcb b (read_sequential_act d v fcb b)

abbrev pub read_random_leaves : Drive → List ℕ → List ℕ → List ℕ → Outcome
read_random_leaves d v fcb b = outcome d v fcb b (read_random_act d v fcb b)

abbrev pub write_sequential_leaves : Drive → List ℕ → List ℕ → List ℕ → Outcome
write_sequential_leaves d v fcb b = outcome d v fcb b (write_sequential_act d v fcb b)

abbrev pub write_random_leaves : Drive → List ℕ → List ℕ → List ℕ → Outcome
write_random_leaves d v fcb b = outcome d v fcb b (write_random_act d v fcb b)

abbrev pub write_zero_fill_leaves : Drive → List ℕ → List ℕ → List ℕ → Outcome
write_zero_fill_leaves d v fcb b = outcome d v fcb b (write_zero_fill_act d v fcb b)

-- "User, 28 and 36 are lent no volume; log-in, user and 28 no control block"
abbrev pub protect_leaves : Drive → Outcome
protect_leaves d = outcome d [] [] [] (protect_act d)

abbrev pub user_leaves : Drive → ℕ → Outcome
user_leaves d code = outcome d [] [] [] (user_act d code)

abbrev pub set_random_leaves : Drive → List ℕ → Outcome
set_random_leaves d fcb = outcome d [] fcb [] (set_random_act d fcb)
