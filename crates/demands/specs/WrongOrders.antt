-- What the statement of cuts shuts out. Each wrong way to store is the door's `stores_of` with the stores of one function in
-- another order, or with other stores; `AnyCutOf`, said of it, is false (`OrdersShutOut`). Of record n itself the request's
-- own sentences say nothing: directory first, and a record stored in two halves, fail by `itself`. Nor does a cut tell in
-- which order directory records came: falling order fails by `in_order`.
use Rattle.std.specs.Prelude.{Bool, not, cond, List, [], ◌∷◌, ◌++◌, ℕ, ltb, take}
use Rattle.lists.specs.Bytes.{part, put}
use Rattle.disk_geometry.specs.declared.Geometry.{Geometry}
use Rattle.disk_geometry.specs.Geometry.{record_bytes, start}
use Rattle.disk_stores.specs.Stores.{Store, store, directory_records}
use Rattle.bdos.specs.Stores.{stores_of}
use Rattle.demands.specs.Order.{among}
use Rattle.demands.specs.Cuts.{Storing, AnyCutOf}

-- ---- what they are written with
-- the stores of the functions of these numbers, rearranged
abbrev rearranged : List ℕ → (Geometry → List ℕ → List Store → List Store) → Storing
rearranged ns f c d v = cond (among c.function ns) (f d.geometry v (stores_of c d v)) (stores_of c d v)

abbrev reversed : List Store → List Store
reversed [] = []
reversed (s ∷ ss) = reversed ss ++ (s ∷ [])

-- the first store made in two: its first 64 bytes before the others
abbrev halved : Geometry → List ℕ → List Store → List Store
halved g v [] = []
halved g v (s ∷ ss) = store s.at (put (part v (start g s.at) record_bytes) 0 64 (take 64 s.bytes)) ∷ s ∷ ss

-- those of the directory, or the others
abbrev those : Geometry → (Bool → Bool) → List Store → List Store
those g f [] = []
those g f (s ∷ ss) = cond (f (ltb s.at (directory_records g))) (s ∷ those g f ss) (those g f ss)

-- ---- wrong ways to store
-- a random write stores the directory first: its record is present with the bytes that the block had (`itself`)
abbrev pub directory_first : Storing
directory_first = rearranged (34 ∷ []) (λ g v ss. reversed ss)

-- a random write stores its record in two halves (`itself`)
abbrev pub in_halves : Storing
in_halves = rearranged (34 ∷ []) halved

-- a delete stores directory records in falling order (`in_order`)
abbrev pub falling : Storing
falling = rearranged (19 ∷ []) (λ g v ss. reversed ss)

-- function 221 stores the data of all its records, and then the directory (`done-before`)
abbrev pub data_of_all : Storing
data_of_all = rearranged (221 ∷ []) (λ g v ss. those g not ss ++ those g (λ b. b) ss)

-- a random write stores its data, and no entry (`enough`)
abbrev pub no_entry : Storing
no_entry = rearranged (34 ∷ []) (λ g v ss. those g not ss)

-- ---- the statement is false of them
pub record OrdersShutOut : Type 0 where
  pub directory_first_lem : AnyCutOf directory_first → ⊥
  pub in_halves_lem : AnyCutOf in_halves → ⊥
  pub falls : AnyCutOf falling → ⊥
  pub data_of_all_lem : AnyCutOf data_of_all → ⊥
  pub no_entry_lem : AnyCutOf no_entry → ⊥
