-- Several records in two states that differ in the held blocks alone, both of them consistent with the volume: each single
-- call leaves such states again, and so all answer alike.
use mathlib.Core.Path.{◌≡◌, refl, sym, subst}
use mathlib.Core.Bool.{Bool, true, false, cond}
use mathlib.Core.List.{List}
use Prim.Native.Nat.{ℕ, zero, suc, ◌*◌, ◌≤◌, ◌<◌}
use Rattle.lists.specs.Bytes.{part, put}
use Rattle.disk_volume.specs.Directory.{slot_at}
use Rattle.disk_held.specs.Held.{holds}
use Rattle.call_answers.specs.Refusal.{is_none, first_met}
use Rattle.call_answers.specs.Answer.{succeeded, why_of}
use Rattle.filecalls.specs.declared.Drive.{Drive}
use Rattle.filecalls.specs.State.{is_open}
use Rattle.filecalls.specs.Outcome.{Outcome, with_held}
use Rattle.several.specs.Several.{Single, ended, on_piece, singles, several, several_tests}
use Rattle.demands.proofs.Orderly.{held_agree}
use Rattle.demands.proofs.Acts.{Consistent}
use Rattle.demands.proofs.Alike.{Alike, otherwise_held, alike_is}

-- both states hold the blocks that entries name, and so the same of those from D to T-1
pub held_same : (d : Drive) (h v : List ℕ) → Consistent d v → Consistent (with_held d h) v
    → (b : ℕ) → d.geometry.directory_blocks ≤ b → b < d.geometry.blocks → holds h b ≡ holds d.held b
held_same d h v c e = held_agree d.geometry h d.held (slot_at d.geometry v) e.held c.held

ended_alike : (n : ℕ) (o p : Outcome) → Alike (ended n (why_of o.answer) o.drive o.volume o.fcb o.buffer)
    (ended n (why_of o.answer) (with_held o.drive p.drive.held) o.volume o.fcb o.buffer)
ended_alike n o p = record { answer = refl; volume = refl; fcb = refl; buffer = refl; drive = refl }

alike_cond : (t : Bool) (x y z w : Outcome) → Alike x z → Alike y w → Alike (cond t x y) (cond t z w)
alike_cond true x y z w a b = a
alike_cond false x y z w a b = b

module _ (single : Single)
    (one : (d : Drive) (h v f b : List ℕ) → Consistent d v → Consistent (with_held d h) v → Alike (single d v f b) (single (with_held d h) v f b))
    (keeps : (d : Drive) (v f b : List ℕ) → Consistent d v → Consistent (single d v f b).drive (single d v f b).volume) where
  piece_alike : (i : ℕ) (d : Drive) (h v f b : List ℕ) → Consistent d v → Consistent (with_held d h) v
      → Alike (on_piece single i d v f b) (on_piece single i (with_held d h) v f b)
  unfolding on_piece
  piece_alike i d h v f b c e =
      let a = one d h v f (part b (128 * i) 128) c e in
      record { answer = a.answer; volume = a.volume; fcb = a.fcb; buffer = λ j. put b (128 * i) 128 (a.buffer j); drive = a.drive }

  piece_keeps : (i : ℕ) (d : Drive) (v f b : List ℕ) → Consistent d v → Consistent (on_piece single i d v f b).drive (on_piece single i d v f b).volume
  unfolding on_piece
  piece_keeps i d v f b c = keeps d v f (part b (128 * i) 128) c

  singles_alike : (k i : ℕ) (d : Drive) (h v f b : List ℕ) → Consistent d v → Consistent (with_held d h) v
      → Alike (singles single i k d v f b) (singles single i k (with_held d h) v f b)
  unfolding singles
  singles_alike zero i d h v f b c e = record { answer = refl; volume = refl; fcb = refl; buffer = refl; drive = refl }
  singles_alike (suc k) i d h v f b c e =
      let o : Outcome = on_piece single i d v f b in
      let p : Outcome = on_piece single i (with_held d h) v f b in
      let same : p ≡ otherwise_held o p = alike_is o p (piece_alike i d h v f b c e) in
      let there : Consistent (with_held o.drive p.drive.held) o.volume
      = subst (λ (x : Outcome). Consistent x.drive x.volume) same (piece_keeps i (with_held d h) v f b e) in
      let rest = singles_alike k (suc i) o.drive p.drive.held o.volume o.fcb o.buffer (piece_keeps i d v f b c) there in
      subst
      (λ (x : Outcome).
      Alike
      (cond (succeeded o.answer) (singles single (suc i) k o.drive o.volume o.fcb o.buffer)
      (ended i (why_of o.answer) o.drive o.volume o.fcb o.buffer))
      (cond (succeeded x.answer) (singles single (suc i) k x.drive x.volume x.fcb x.buffer)
      (ended i (why_of x.answer) x.drive x.volume x.fcb x.buffer)))
      (sym same)
      (alike_cond (succeeded o.answer) _ _ _ _ rest (ended_alike i o p))

  pub several_alike : (d : Drive) (h v f b : List ℕ) (k : ℕ) → Consistent d v → Consistent (with_held d h) v
      → Alike (several single d v f b k) (several single (with_held d h) v f b k)
  unfolding several several_tests is_open
  several_alike d h v f b k c e =
      alike_cond (is_none (first_met (several_tests d v f b k))) _ _ _ _ (singles_alike k 0 d h v f b c e)
      (record { answer = refl; volume = refl; fcb = refl; buffer = refl; drive = refl })
