-- What each changing call stores, record by record, and what a cut leaves. "Each changing call shall store whole 128-byte
-- records: data records first, then directory records in rising order." A refused call stores nothing.
use Rattle.std.specs.Prelude.{◌≡◌, Bool, cond, List, ℕ, ◌-◌, ◌≤◌, length}
use Rattle.disk_geometry.specs.declared.Geometry.{Geometry}
use Rattle.disk_stores.specs.Stores.{Store, cut}
use Rattle.call_answers.specs.declared.Answer.{Answer}
use Rattle.call_answers.specs.Answer.{number_of, succeeded}
use Rattle.filecalls.specs.declared.Drive.{Drive}
use Rattle.filecalls.specs.declared.Reply.{Reply}
use Rattle.filecalls.specs.Outcome.{Act, act_stores, Outcome, outcome, left}
use Rattle.filecalls.specs.Names.{delete_act, make_act, rename_act, attributes_act}
use Rattle.filecalls.specs.Write.{write_sequential_act, write_direct_act}

abbrev pub delete_stores : Drive → List ℕ → List ℕ → List Store
delete_stores d v fcb = act_stores (delete_act d v fcb)

abbrev pub make_stores : Drive → List ℕ → List ℕ → List Store
make_stores d v fcb = act_stores (make_act d v fcb)

abbrev pub rename_stores : Drive → List ℕ → List ℕ → List Store
rename_stores d v fcb = act_stores (rename_act d v fcb)

abbrev pub attributes_stores : Drive → List ℕ → List ℕ → List Store
attributes_stores d v fcb = act_stores (attributes_act d v fcb)

abbrev pub sequential_stores : Drive → List ℕ → List ℕ → List ℕ → List Store
sequential_stores d v fcb b = act_stores (write_sequential_act d v fcb b)

-- functions 34 and 40
abbrev pub direct_stores : Bool → Drive → List ℕ → List ℕ → List ℕ → List Store
direct_stores fills d v fcb b = act_stores (write_direct_act fills d v fcb b)

-- all that a call leaves whose stores are cut after the first k, and how many of the k are left
pub record Cut : Type 0 where
  pub outcome : Outcome
  pub left : ℕ

-- the volume is cut, and the rest is as ever: all else was decided before the first store
unfoldable pub cut_outcome : ℕ → Drive → List ℕ → List ℕ → List ℕ → Act → Cut
cut_outcome k d v fcb b act =
    let o : Outcome = outcome d v fcb b act in
    let cut_short : List ℕ = cut d.geometry v k (act_stores act) in
    record {
      outcome = record { answer = o.answer; drive = o.drive; volume = cut_short; fcb = o.fcb; buffer = o.buffer };
      left = k - length (act_stores act);
    }

-- a reply with the bytes that stand after the call, and the stores that are left
abbrev pub cut_left : Reply → List ℕ → List ℕ → List ℕ → ℕ → Cut
cut_left r v fcb b n = record { outcome = left r v fcb b; left = n }

-- the refusal's number, 0 where a call is not refused: "221 that stops after its first record is not refused"
abbrev pub refused_by : Answer → ℕ
refused_by a = cond (succeeded a) 0 (number_of a)

-- what is asked of a call whose stores are cut after the first `most`: the volume so cut, how many are left, and whether the
-- call is refused, as all that it would leave says. With stores enough it is the call; what else a cut leaves is not asked.
pub record CutAfter (most : ℕ) (g : Geometry) (v : List ℕ) (stores : List Store) (o : Outcome) (c : Cut) : Type 0 where
  pub volume_is : c.outcome.volume ≡ cut g v most stores
  pub left_is : c.left ≡ most - length stores
  pub refused_is : refused_by c.outcome.answer ≡ refused_by o.answer
  pub whole : length stores ≤ most → c.outcome ≡ o
