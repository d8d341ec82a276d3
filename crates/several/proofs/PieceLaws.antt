-- A loop over the pieces: what is still to be done from here gives the whole.
use mathlib.Core.Path.{◌≡◌, sym, ap, ◌∙◌}
use mathlib.Core.Bool.{true, false}
use mathlib.Core.List.{List}
use Prim.Native.Nat.{ℕ, suc, ◌+◌, ◌-◌, ◌*◌, ◌≤◌, ◌<◌}
use native.Mathlib.Numerals.{add-one}
use native.Mathlib.Omega.{arith}
use lib.ListN.{length}
use Rattle.lists.specs.Bytes.{part, put}
use Rattle.lists.proofs.PartLaws.{put_part}
use Rattle.call_answers.specs.declared.Refusal.TheVariants.{None}
use Rattle.call_answers.specs.Answer.{succeeded, why_of}
use Rattle.filecalls.specs.declared.Drive.{Drive}
use Rattle.filecalls.specs.declared.Reply.{Reply}
use Rattle.filecalls.specs.Outcome.{Outcome, left}
use Rattle.several.specs.Several.{Single, ended, on_piece, singles}

-- the single call that is lent piece i, by what it leaves of the piece
pub piece_done : (single : Single) (i : ℕ) (d : Drive) (v f b : List ℕ) {r : Reply} {v' f' p : List ℕ}
    → left r v' f' p ≡ single d v f (part b (128 * i) 128) → left r v' f' (put b (128 * i) 128 p) ≡ on_piece single i d v f b
unfolding on_piece
piece_done single i d v f b e =
    ap (λ (o : Outcome). record { answer = o.answer; drive = o.drive; volume = o.volume; fcb = o.fcb; buffer = put b (128 * i) 128 o.buffer }) e

-- the same where the piece is only read
pub piece_read : (single : Single) (i : ℕ) (d : Drive) (v f b : List ℕ) {r : Reply} {v' f' : List ℕ} → 128 * i + 128 ≤ length b
    → left r v' f' (part b (128 * i) 128) ≡ single d v f (part b (128 * i) 128) → left r v' f' b ≡ on_piece single i d v f b
piece_read single i d v f b {r} {v'} {f'} fits e =
    ap (λ (x : List ℕ). left r v' f' x) (sym (put_part b (128 * i) 128 fits)) ∙ piece_done single i d v f b e

-- of k single calls those from piece i on are still to be done
pub record Left (single : Single) (whole : Outcome) (k : ℕ) (d : Drive) (v f b : List ℕ) (i : ℕ) : Type 0 where
  pub rest : whole ≡ singles single i (k - i) d v f b

less : (k i : ℕ) → i < k → k - i ≡ suc (k - (i + 1))
less k i h = omega arith

pub left_start : (single : Single) (k : ℕ) (d : Drive) (v f b : List ℕ) → Left single (singles single 0 k d v f b) k d v f b 0
left_start single k d v f b = record { rest = let z : k - 0 ≡ k = omega arith in rw z }

module _ {single : Single} {whole : Outcome} {k : ℕ} {d : Drive} {v f b : List ℕ} {i : ℕ} (l : Left single whole k d v f b i) where
  pub left_end : k ≤ i → whole ≡ ended i None d v f b
  unfolding singles
  left_end h = let z : k - i ≡ 0 = omega arith in l.rest ∙ rw z

  module _ {r : Reply} {v' f' b' : List ℕ} (h : i < k) (e : left r v' f' b' ≡ on_piece single i d v f b) where
    pub left_next : succeeded r.answer ≡ true → Left single whole k r.drive v' f' b' (i + 1)
    unfolding singles
    left_next t = record { rest = l.rest ∙ rw (less k i h, add-one, ← e, t) }

    pub left_stop : succeeded r.answer ≡ false → whole ≡ ended i (why_of r.answer) r.drive v' f' b'
    unfolding singles
    left_stop t = l.rest ∙ rw (less k i h, ← e, t)
