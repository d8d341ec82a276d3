-- What a call does, as data, and what it leaves: one function for all calls. A call first decides; only where no test
-- refuses does anything change. The volume that it leaves is all its stores laid down.
use Rattle.std.specs.Prelude.{Bool, true, cond, List, [], ℕ}
use Rattle.disk_stores.specs.Stores.{Store, laid}
use Rattle.call_answers.specs.declared.Refusal.{Refusal}
use Rattle.call_answers.specs.declared.Answer.{Answer}
use Rattle.call_answers.specs.declared.Answer.TheVariants.{Done, Refused}
use Rattle.call_answers.specs.Refusal.{Test, is_none, first_met}
use Rattle.call_delete.specs.Delete.{free_matches}
use Rattle.call_write.specs.Write.{hold_if}
use Rattle.filecalls.specs.declared.KeptSearch.{KeptSearch}
use Rattle.filecalls.specs.declared.Drive.{Drive}
use Rattle.filecalls.specs.declared.Reply.{Reply}

-- how the state changes: not, a block is held if it is newly given, the blocks of all entries that match are free,
-- protection, user, search
pub data Change : Type 0 where
  keeps : Change
  takes : Bool → ℕ → Change
  frees : ℕ → List ℕ → Change
  protects : Change
  becomes : ℕ → Change
  searches : KeptSearch → Change

-- a call is refused, or done: with a code, a change of the state, its stores in order, control block and buffer
pub data Act : Type 0 where
  deny : Refusal → Act
  done : ℕ → Change → List Store → List ℕ → List ℕ → Act

-- the stores of a call: none where it is refused
abbrev pub act_stores : Act → List Store
act_stores (deny why) = []
act_stores (done code change stores fcb b) = stores

-- the first test that is met refuses
unfoldable pub unless : List Test → Act → Act
unless ts act = cond (is_none (first_met ts)) act (deny (first_met ts))

abbrev pub with_held : Drive → List ℕ → Drive
with_held d held =
    record { geometry = d.geometry; user = d.user; protected = d.protected; search = d.search; held = held }

abbrev pub with_user : Drive → ℕ → Drive
with_user d u = record { geometry = d.geometry; user = u; protected = d.protected; search = d.search; held = d.held }

abbrev pub with_protection : Drive → Drive
with_protection d = record { geometry = d.geometry; user = d.user; protected = true; search = d.search; held = d.held }

abbrev pub with_search : Drive → KeptSearch → Drive
with_search d q = record { geometry = d.geometry; user = d.user; protected = d.protected; search = q; held = d.held }

-- the state after a change; v is the volume before the stores
unfoldable pub changed_state : Drive → List ℕ → Change → Drive
changed_state d v keeps = d
changed_state d v (takes fresh b) = with_held d (hold_if fresh d.held b)
changed_state d v (frees u pattern) = with_held d (free_matches d.geometry v u pattern d.held)
changed_state d v protects = with_protection d
changed_state d v (becomes u) = with_user d u
changed_state d v (searches q) = with_search d q

-- all that a call leaves
pub record Outcome : Type 0 where
  pub answer : Answer
  pub drive : Drive
  pub volume : List ℕ
  pub fcb : List ℕ
  pub buffer : List ℕ

-- "A refusal hands back the state as given and alters no lent byte."
unfoldable pub outcome : Drive → List ℕ → List ℕ → List ℕ → Act → Outcome
outcome d v fcb b (deny why) = record { answer = Refused why; drive = d; volume = v; fcb = fcb; buffer = b }
outcome d v fcb b (done code change stores fcb' b') =
    record {
      answer = Done code;
      drive = changed_state d v change;
      volume = laid d.geometry v stores;
      fcb = fcb';
      buffer = b';
    }

-- a reply with the bytes that stand after the call
abbrev pub left : Reply → List ℕ → List ℕ → List ℕ → Outcome
left r v fcb b = record { answer = r.answer; drive = r.drive; volume = v; fcb = fcb; buffer = b }
