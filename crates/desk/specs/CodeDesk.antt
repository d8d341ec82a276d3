-- What the desk's functions say to each other: stores made as long as one is left, and the marks of the code, one for each
-- record of a file, true where it matches; not for the reader of the paper.
use Rattle.std.specs.Prelude.{◌≡◌, Bool, true, false, List, ℕ, ◌+◌, ◌-◌, ◌≤◌, ◌<◌, get_or, length, Result, Ok, Err}
use Prim.{Unit}
use Rattle.lists.specs.Bounded.{every_from}
use Rattle.disk_geometry.specs.declared.Geometry.{Geometry}
use Rattle.disk_stores.specs.Stores.{Store, cut}
use Rattle.call_fcb.specs.Fcb.{fcb_bytes, file_records}
use Rattle.filecalls.specs.declared.Drive.{Drive}
use Rattle.desk.specs.declared.Why.{Why}
use Rattle.desk.specs.Records.{readable, bears}

-- the volume was v and is w, and of the stores that were left so many are left
pub record Stored (g : Geometry) (v : List ℕ) (most : ℕ) (stores : List Store) (w : List ℕ) (left : ℕ) : Type 0 where
  pub volume_is : w ≡ cut g v most stores
  pub left_is : left ≡ most - length stores

-- ---- marks
abbrev pub marked : List Bool → ℕ → Bool
marked marks n = get_or marks n false

-- the answer r says whether each of the records 1 to k can be read; if so, they are marked as they match
pub record Sifted (d : Drive) (v fcb : List ℕ) (siglum k : ℕ) (marks : List Bool) (r : Bool) : Type 0 where
  pub all_read : r ≡ every_from (readable d v fcb) 1 k
  pub right : r ≡ true → (n : ℕ) → 1 ≤ n → n < 1 + k → marked marks n ≡ bears d v fcb siglum n

-- what code knows of a body to be replaced: the control block has its length, the body lies in a file, and the marks of its
-- records say which match
pub record Marked (d : Drive) (v fcb : List ℕ) (old : ℕ) (marks : List Bool) (first count : ℕ) : Type 0 where
  pub lent : length fcb ≡ fcb_bytes
  pub fits : first + count ≤ file_records
  pub right : (n : ℕ) → first ≤ n → n < first + count → marked marks n ≡ bears d v fcb old n

abbrev pub Planned : Drive → List ℕ → List ℕ → ℕ → List Bool → Result (ℕ × ℕ) Why → Type 0
Planned d v fcb old marks (Err why) = Unit
Planned d v fcb old marks (Ok (first, count)) = Marked d v fcb old marks first count
