-- Wrong desks that the statements shut out. Each is the replacement with one small change, and what is said of any volume of bytes
-- (`desk_keeps/specs/Sigla`) is false of it, whatever it stores; and it is false of a wrong order of stores, whatever the desk leaves
-- (`DesksShutOut`).
use Rattle.std.specs.Prelude.{Bool, cond, ◌&&◌, List, [], ◌++◌, ℕ, zero, suc, ◌+◌}
use Rattle.lists.specs.Bounded.{fold}
use Rattle.disk_stores.specs.Stores.{Store}
use Rattle.filecalls.specs.declared.Drive.{Drive}
use Rattle.desk_contents.specs.Contents.{listed}
use Rattle.desk.specs.declared.Why.TheVariants.{Contents}
use Rattle.std.specs.Prelude.{Result, Ok, Err}
use Rattle.desk.specs.declared.Why.{Why}
use Rattle.desk.specs.Records.{readable, record_shown, bears, with_siglum, written}
use Rattle.desk.specs.Replace.{Desk, plan, rewrite_if, rewrite_all, replacement}
use Rattle.desk.specs.Stores.{stores_if}
use Rattle.desk_keeps.specs.Sigla.{body_first, body_count, Way, Storing, OnAnyVolumeBy}

-- ---- what they are written with
-- one thing for a refusal, another for a body that is replaced
abbrev by_plan : {A : Type 0} → A → (ℕ → ℕ → A) → Result (ℕ × ℕ) Why → A
by_plan kept done (Err why) = kept
by_plan kept done (Ok (first, count)) = done first count

-- an answer and a volume, and the state as given
abbrev leaving : Result ℕ Why → Drive → List ℕ → Desk
leaving answer d v = record { answer = answer; drive = d; volume = v }

-- ---- the wrong desks
-- it refuses everything (`goes-when`)
abbrev pub refuses_all : Way
refuses_all d v fcb chapter old new = leaving (Err Contents) d v

-- it answers 50 for every refusal (`refused-when`)
abbrev pub always_fifty : Way
always_fifty d v fcb chapter old new = by_plan (leaving (Err Contents) d v) (λ first count. replacement d v fcb chapter old new) (plan d v fcb chapter)

-- it rewrites the whole record, with the bytes of the contents (`altered`)
abbrev pub from_contents : Way
from_contents d v fcb chapter old new =
    let r = replacement d v fcb chapter old new in
    let one : List ℕ → ℕ → List ℕ = λ w n. cond (bears d v fcb old n) (written d w fcb n (with_siglum new (record_shown d v fcb 0))).volume w in
    by_plan r (λ first count. leaving r.answer d (fold one v first count)) (plan d v fcb chapter)

-- it replaces in every chapter (`altered`)
abbrev pub every_chapter : Way
every_chapter d v fcb chapter old new =
    let r = replacement d v fcb chapter old new in
    by_plan r (λ first count. leaving r.answer d (rewrite_all (bears d v fcb old) d fcb new v 1 (listed (record_shown d v fcb 0))))
    (plan d v fcb chapter)

-- it changes the records of the chapter that can be read before it finds a listed record missing (`refused-keeps`)
abbrev pub changes_first : Way
changes_first d v fcb chapter old new =
    let r = replacement d v fcb chapter old new in
    let hit : ℕ → Bool = λ n. readable d v fcb n && bears d v fcb old n in
    by_plan (leaving r.answer d (rewrite_all hit d fcb new v (body_first d v fcb chapter) (body_count d v fcb chapter))) (λ first count. r)
    (plan d v fcb chapter)

-- it counts listed records (`counts`)
abbrev pub counts_listed : Way
counts_listed d v fcb chapter old new =
    let r = replacement d v fcb chapter old new in
    by_plan r (λ first count. leaving (Ok count) d r.volume) (plan d v fcb chapter)

-- it looks for matches in what it has changed by then (`counts`)
unfoldable pub count_in_turn : Drive → List ℕ → ℕ → ℕ → List ℕ → ℕ → ℕ → ℕ
count_in_turn d fcb old new v n zero = 0
count_in_turn d fcb old new v n (suc k) =
    cond (bears d v fcb old n) 1 0 + count_in_turn d fcb old new (rewrite_if (bears d v fcb old) d fcb new v n) (suc n) k

abbrev pub decides_in_turn : Way
decides_in_turn d v fcb chapter old new =
    let r = replacement d v fcb chapter old new in
    by_plan r (λ first count. leaving (Ok (count_in_turn d fcb old new v first count)) d r.volume) (plan d v fcb chapter)

-- its stores are those of the highest record first (`cut_short`)
unfoldable pub stores_down : (ℕ → Bool) → Drive → List ℕ → ℕ → List ℕ → ℕ → ℕ → List Store
stores_down hit d fcb siglum v n zero = []
stores_down hit d fcb siglum v n (suc k) =
    let rest = stores_down hit d fcb siglum (rewrite_if hit d fcb siglum v (n + k)) n k in
    stores_if (hit (n + k)) d fcb siglum v (n + k) ++ rest

abbrev pub highest_first : Storing
highest_first d v fcb chapter old new = by_plan [] (λ first count. stores_down (bears d v fcb old) d fcb new v first count) (plan d v fcb chapter)

-- ---- the statements are false of them
pub record DesksShutOut : Type 0 where
  pub refuses_all_lem : (stores : Storing) → OnAnyVolumeBy refuses_all stores → ⊥
  pub always_fifty_lem : (stores : Storing) → OnAnyVolumeBy always_fifty stores → ⊥
  pub from_contents_lem : (stores : Storing) → OnAnyVolumeBy from_contents stores → ⊥
  pub every_chapter_lem : (stores : Storing) → OnAnyVolumeBy every_chapter stores → ⊥
  pub changes_first_lem : (stores : Storing) → OnAnyVolumeBy changes_first stores → ⊥
  pub counts_listed_lem : (stores : Storing) → OnAnyVolumeBy counts_listed stores → ⊥
  pub decides_in_turn_lem : (stores : Storing) → OnAnyVolumeBy decides_in_turn stores → ⊥
  pub highest_first_lem : (way : Way) → OnAnyVolumeBy way highest_first → ⊥
