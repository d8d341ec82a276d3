-- What a replacement stores (xii): "Each changing call shall store whole 128-byte records". Each record that matches is rewritten
-- by one write of the file calls, so the stores are those of these single writes in turn, as for a call of several records.
use Rattle.std.specs.Prelude.{Bool, false, cond, List, [], ◌++◌, ℕ, zero, suc, ◌-◌, length, Result, Ok, Err}
use Rattle.disk_stores.specs.Stores.{Store, cut}
use Rattle.call_fcb.specs.Fcb.{with_random}
use Rattle.filecalls.specs.declared.Drive.{Drive}
use Rattle.filecalls.specs.Stores.{direct_stores}
use Rattle.desk.specs.declared.Why.{Why}
use Rattle.desk.specs.Records.{record_shown, bears, with_siglum}
use Rattle.desk.specs.Replace.{plan, rewrite_if, replacement}

-- the stores of the random write of record n with the bytes r
unfoldable pub written_stores : Drive → List ℕ → List ℕ → ℕ → List ℕ → List Store
written_stores d v fcb n r = direct_stores false d v (with_random fcb n) r

-- of record n rewritten with this siglum, and of it if it is hit
unfoldable pub rewritten_stores : Drive → List ℕ → ℕ → List ℕ → ℕ → List Store
rewritten_stores d fcb siglum v n = written_stores d v fcb n (with_siglum siglum (record_shown d v fcb n))

abbrev pub stores_if : Bool → Drive → List ℕ → ℕ → List ℕ → ℕ → List Store
stores_if hit d fcb siglum v n = cond hit (rewritten_stores d fcb siglum v n) []

-- of k records from n on, in turn: each is decided by the volume that those before it left
unfoldable pub all_stores : (ℕ → Bool) → Drive → List ℕ → ℕ → List ℕ → ℕ → ℕ → List Store
all_stores hit d fcb siglum v n zero = []
all_stores hit d fcb siglum v n (suc k) =
    let rest = all_stores hit d fcb siglum (rewrite_if hit d fcb siglum v n) (suc n) k in
    stores_if (hit n) d fcb siglum v n ++ rest

-- of a plan, and of the call
unfoldable pub plan_stores : Drive → List ℕ → List ℕ → ℕ → ℕ → Result (ℕ × ℕ) Why → List Store
plan_stores d v fcb old new (Err why) = []
plan_stores d v fcb old new (Ok (first, count)) = all_stores (bears d v fcb old) d fcb new v first count

unfoldable pub replacement_stores : Drive → List ℕ → List ℕ → ℕ → ℕ → ℕ → List Store
replacement_stores d v fcb chapter old new = plan_stores d v fcb old new (plan d v fcb chapter)

-- what the call leaves whose stores are cut after the first `most`, and how many of these are left
pub record DeskCut : Type 0 where
  pub answer : Result ℕ Why
  pub volume : List ℕ
  pub left : ℕ

abbrev pub desk_cut : Result ℕ Why → List ℕ → ℕ → DeskCut
desk_cut answer volume left = record { answer = answer; volume = volume; left = left }

unfoldable pub cut_replacement : ℕ → Drive → List ℕ → List ℕ → ℕ → ℕ → ℕ → DeskCut
cut_replacement most d v fcb chapter old new =
    desk_cut (replacement d v fcb chapter old new).answer
    (cut d.geometry v most (replacement_stores d v fcb chapter old new))
    (most - length (replacement_stores d v fcb chapter old new))
