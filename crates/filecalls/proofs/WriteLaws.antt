-- What a write leaves, by what the write of the record hands back: why it is refused, the bytes, the held blocks, and the stores
-- that are left.
use mathlib.Core.Path.{◌≡◌, refl, sym, ap, ◌∙◌}
use mathlib.Core.Bool.{Bool, false, cond}
use mathlib.Core.List.{List}
use Prim.Native.Nat.{ℕ}
use Rattle.disk_volume.specs.Name.{name_of}
use Rattle.disk_stores.specs.Stores.{Store}
use Rattle.call_fcb.specs.Fcb.{set_to}
use Rattle.call_answers.specs.declared.Refusal.{Refusal}
use Rattle.call_answers.specs.declared.Refusal.TheVariants.{Protected}
use Rattle.call_answers.specs.declared.Answer.TheVariants.{Done, Refused}
use Rattle.call_answers.specs.Refusal.{Test, is_none}
use Rattle.call_decide.specs.Write.{needs_block, write_block, entry_after, write_tests}
use Rattle.call_write.specs.Write.{write_stores, hold_if}
use Rattle.call_write.specs.CodeWrite.{Wrote}
use Rattle.call_write.proofs.AfterLaws.{written, held_after}
use Rattle.filecalls.specs.declared.Drive.{Drive}
use Rattle.filecalls.specs.declared.Reply.{Reply}
use Rattle.filecalls.specs.Outcome.{takes, unless, outcome, with_held, changed_state}
use Rattle.filecalls.specs.Stores.{cut_outcome, cut_left}
use Rattle.filecalls.specs.Write.{write_entry, write_done, directory_tests}
use Rattle.filecalls.proofs.OutcomeLaws.{goes_by, either}
use Rattle.filecalls.proofs.NamingLaws.{held_or}
use Rattle.filecalls.proofs.CutLaws.{cut_decided}

-- what the write of record n leaves
pub leaves : (d : Drive) (v f : List ℕ) (n cr : ℕ) (fills : Bool) (b : List ℕ) → outcome d v f b (write_done d v f n cr fills b)
    ≡ record {
      answer = Done 0;
      drive = with_held d (held_after d.geometry d.held v d.user (name_of f) n);
      volume = written d.geometry d.held v d.user (name_of f) n fills b;
      fcb = set_to f (entry_after d.geometry d.held v d.user (name_of f) n) n cr;
      buffer = b;
    }
unfolding outcome write_done write_entry changed_state
leaves d v f n cr fills b = refl

module _ (d : Drive) (v f : List ℕ) (n cr : ℕ) (fills : Bool) (b : List ℕ) (most : ℕ) where
  abbrev tests : List Test
  tests = write_tests d.geometry d.held v d.user (name_of f) n

  abbrev stores : List Store
  stores = write_stores d.geometry d.held v d.user (name_of f) n fills b

  abbrev fcb : List ℕ
  fcb = set_to f (entry_after d.geometry d.held v d.user (name_of f) n) n cr

  abbrev fresh : Bool
  fresh = needs_block d.geometry v d.user (name_of f) n

  abbrev block : ℕ
  block = write_block d.geometry d.held v d.user (name_of f) n

  pub write_decided : {why : Refusal} {s : Reply} {v' f' h' : List ℕ} {left : ℕ} → d.protected ≡ false
      → Wrote d.geometry fills v f b d.user d.held n cr most why v' f' h' left
      → s ≡ record { answer = cond (is_none why) (Done 0) (Refused why); drive = with_held d h' }
      → cut_left s v' f' b left ≡ cut_outcome most d v f b (unless (directory_tests d v f n) (write_done d v f n cr fills b))
  unfolding write_done write_entry changed_state
  write_decided {why} p w q =
      cut_decided d v f b most 0 (takes fresh block) stores fcb b tests w.why_is (held_or d (is_none why) (hold_if fresh d.held block) w.held_is) w.volume_is w.fcb_is_lem (either (is_none why) b) w.left_is q
      ∙ ap (cut_outcome most d v f b) (sym (goes_by Protected d.protected tests (write_done d v f n cr fills b) p))
