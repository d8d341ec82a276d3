-- Request (xii), if the emulator is closed halfway. "Each changing call shall store whole 128-byte records: data records
-- first, then directory records in rising order. Wherever the run of stores is cut, a volume used as in demand 3 still
-- passes inspection, and every file not named or matched by that call reads as before. For a write of record n, the other
-- records that were present in that file keep their bytes. A call of (ii) stores as its single calls would. .. the call is
-- that function with enough of them, a cut the volume it leaves."
--
-- For any geometry within the rules, any volume of its length that passes inspection, any run of calls as in demand 3, any
-- call after it and any k, what the first k of the call's stores leave
--   passes inspection (`inspected`), so that a further log-in accepts (`AcceptsCut`);
--   has each file, that is user and name, that the call does not name or match, with the same records present with the same
--   bytes (`others-present`, `others-bytes`);
--   has, for a write of record n, each other record of the file that was present, with the same bytes (`records-stay`), and
--   record n as before or present with its new bytes (`itself`);
--   is the call's volume, with k at least the number of stores (`enough`).
-- For function 221 it is so at each cut in each of its writes (`as-singles`, `in-one-write`), and each record that was done
-- before the cut is present with its new bytes (`done-before`). Nothing is asked that demand 3 does not ask. A call that is
-- refused or changes nothing has no store, so its cut is the volume as it was.
--
-- `itself` says more than the request's other sentences, and with `in_order` shuts out what those let pass (`WrongOrders`).
use Rattle.std.specs.Prelude.{◌≡◌, true, false, ◌≢◌, ◌⊎◌, List, [], ◌++◌, ℕ, zero, suc, ◌+◌, ◌≤◌, ◌<◌, length}
use Rattle.disk_geometry.specs.declared.Geometry.{Geometry}
use Rattle.disk_geometry.specs.Geometry.{slots}
use Rattle.disk_volume.specs.Name.{name_of}
use Rattle.disk_volume.specs.Record.{present}
use Rattle.disk_stores.specs.Stores.{Store, cut}
use Rattle.disk_stores.specs.Order.{Ordered}
use Rattle.disk_rules.specs.GoodSlot.{lowest_bad}
use Rattle.call_answers.specs.declared.Refusal.TheVariants.{None}
use Rattle.call_answers.specs.declared.Answer.TheVariants.{Several}
use Rattle.call_answers.specs.Refusal.{is_none, first_met}
use Rattle.call_fcb.specs.Fcb.{position}
use Rattle.call_read.specs.Read.{read_bytes}
use Rattle.call_served.specs.declared.Call.TheVariants.{Moves}
use Rattle.call_served.specs.declared.Transfer.TheVariants.{WriteSeveral}
use Rattle.call_served.specs.Asked.{Asked, asked}
use Rattle.filecalls.specs.declared.Drive.{Drive}
use Rattle.filecalls.specs.Outcome.{Outcome}
use Rattle.filecalls.specs.Leaves.{write_sequential_leaves}
use Rattle.several.specs.Several.{several_tests, piece_at, singles}
use Rattle.bdos.specs.Step.{step}
use Rattle.bdos.specs.Stores.{stores_of}
use Rattle.numbers.specs.Numbers.{Bytes}
use Rattle.demands.specs.Run.{final, final_state}
use Rattle.demands.specs.Demand1.{call}
use Rattle.demands.specs.Demand2.{Writes, Present}
use Rattle.demands.specs.Demand3.{touches, OverRuns, Accepts}

-- ---- what the statement is written with
-- a way to store: by the call, the state and the volume its stores, the first one first
abbrev pub Storing : Type 0
Storing = Asked → Drive → List ℕ → List Store

-- record n, which a write means: the volume was v and is w
pub data Itself (d : Drive) (fcb v w : List ℕ) (n : ℕ) (r : List ℕ) : Type 0 where
  as_before : present d.geometry w d.user (name_of fcb) n ≡ present d.geometry v d.user (name_of fcb) n
      → ((s : List ℕ) → Present d fcb v n s → Present d fcb w n s)
      → Itself d fcb v w n r
  as_written : Present d fcb w n r → Itself d fcb v w n r

-- ---- one cut of the call c in the state d: the volume was v and is w
pub record Harmless (g : Geometry) (c : Asked) (d : Drive) (v w : List ℕ) : Type 0 where
  pub length_kept : length w ≡ length v
  -- it "still passes inspection"
  pub inspected : lowest_bad g w ≡ slots g
  -- "every file not named or matched by that call reads as before"
  pub others_present : (u : ℕ) (name : List ℕ) → u ≤ 15 → touches c d u name ≡ false
      → (n : ℕ) → present g w u name n ≡ present g v u name n
  pub others_bytes : (u : ℕ) (name : List ℕ) → u ≤ 15 → touches c d u name ≡ false
      → (n : ℕ) → present g v u name n ≡ true → read_bytes g w u name n ≡ read_bytes g v u name n
  -- "For a write of record n, the other records that were present in that file keep their bytes", and are present
  pub records_stay : (n : ℕ) (r : List ℕ) → Writes c.fcb c.buffer (call c) n r
      → (m : ℕ) → m ≢ n → (s : List ℕ) → Present d c.fcb v m s → Present d c.fcb w m s
  -- and record n is as before, or present with the bytes written
  pub itself : (n : ℕ) (r : List ℕ) → Writes c.fcb c.buffer (call c) n r → Itself d c.fcb v w n r

-- ---- a call of several records, function 221
-- its tests of what is lent are not met
abbrev pub LentWell : Asked → Drive → List ℕ → Type 0
LentWell c d v = is_none (first_met (several_tests d v c.fcb c.buffer c.parameter)) ≡ true

-- what its first j writes leave, and the write that follows them: function 21 with its own piece of the buffer
abbrev pub after_writes : Asked → ℕ → Drive → List ℕ → Outcome
after_writes c j d v = singles write_sequential_leaves 0 j d v c.fcb c.buffer

abbrev pub next_write : Asked → ℕ → Drive → List ℕ → Asked
next_write c j d v = asked 21 0 (after_writes c j d v).fcb (piece_at c.buffer j)

abbrev pub next_stores : Storing → Asked → ℕ → Drive → List ℕ → List Store
next_stores stores c j d v = stores (next_write c j d v) (after_writes c j d v).drive (after_writes c j d v).volume

-- the stores of its first j writes, in turn; one that is refused has none
unfoldable pub in_turn : Storing → Asked → ℕ → Drive → List ℕ → List Store
in_turn stores c zero d v = []
in_turn stores c (suc j) d v = in_turn stores c j d v ++ next_stores stores c j d v

-- a cut lies in one of its writes: it is a cut of that write, on what those before it left
pub record InOneWrite (stores : Storing) (g : Geometry) (c : Asked) (d : Drive) (v w : List ℕ) : Type 0 where
  pub before : ℕ
  pub made : ℕ
  pub is : w ≡ cut g (after_writes c before d v).volume made (next_stores stores c before d v)
  pub harmless : Harmless g (next_write c before d v) (after_writes c before d v).drive (after_writes c before d v).volume w

-- ---- every cut of the call c in the state d on the volume v
pub record CutAnywhere (stores : Storing) (g : Geometry) (c : Asked) (d : Drive) (v : List ℕ) : Type 0 where
  -- "Wherever the run of stores is cut"
  pub harmless : (k : ℕ) → Harmless g c d v (cut g v k (stores c d v))
  -- "A call of (ii) stores as its single calls would": so it is the same in each of its writes
  pub as_singles : call c ≡ Moves WriteSeveral → LentWell c d v → stores c d v ≡ in_turn stores c c.parameter d v
  pub in_one_write : call c ≡ Moves WriteSeveral → (k : ℕ) → InOneWrite stores g c d v (cut g v k (stores c d v))
  -- the file's records but those meant stay; and a record that was done before the cut is present with its new bytes
  pub outside_stay : call c ≡ Moves WriteSeveral → (k m : ℕ) → (m < position c.fcb) ⊎ (position c.fcb + c.parameter ≤ m)
      → (s : List ℕ) → Present d c.fcb v m s → Present d c.fcb (cut g v k (stores c d v)) m s
  pub done_before : call c ≡ Moves WriteSeveral → LentWell c d v → (k j : ℕ) → j < c.parameter
      → (after_writes c (suc j) d v).answer ≡ Several (suc j) None → length (in_turn stores c (suc j) d v) ≤ k
      → Present d c.fcb (cut g v k (stores c d v)) (position c.fcb + j) (piece_at c.buffer j)
  -- "whole 128-byte records: data records first, then directory records in rising order"
  pub in_order : call c ≢ Moves WriteSeveral → Ordered g (stores c d v)
  pub each_in_order : call c ≡ Moves WriteSeveral → (j : ℕ) → Ordered g (next_stores stores c j d v)
  -- "the call is that function with enough of them"
  pub enough : (k : ℕ) → length (stores c d v) ≤ k → cut g v k (stores c d v) ≡ (step g c d v).volume

-- ---- the statement, of a way to store
abbrev pub AnyCutOf : Storing → Type 0
AnyCutOf stores =
    OverRuns (λ g v cs. (d : Drive) (c : Asked) → Bytes c.fcb
    → CutAnywhere stores g c (final_state (step g) cs d v) (final (step g) cs d v))

abbrev pub AnyCut : Type 0
AnyCut = AnyCutOf stores_of

-- And so a further log-in accepts what a cut leaves
abbrev pub AcceptsCut : Type 0
AcceptsCut =
    OverRuns (λ g v cs. (d : Drive) (c : Asked) → Bytes c.fcb → (k : ℕ)
    → Accepts g (cut g (final (step g) cs d v) k (stores_of c (final_state (step g) cs d v) (final (step g) cs d v))))
