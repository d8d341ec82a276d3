-- A call of the drive is the call of its front with the held blocks beside it.
use mathlib.Core.Path.{◌≡◌, ap, ◌∙◌}
use mathlib.Core.List.{List}
use Prim.Native.Nat.{ℕ, ◌≤◌}
use lib.ListN.{length}
use Rattle.filecalls.specs.declared.Front.{Front}
use Rattle.filecalls.specs.declared.FrontReply.{FrontReply}
use Rattle.filecalls.specs.declared.Drive.{Drive}
use Rattle.filecalls.specs.declared.Reply.{Reply}
use Rattle.filecalls.specs.CodeFront.{front_of, joined, joined_reply}
use Rattle.filecalls.specs.Outcome.{Act, act_stores, Outcome, outcome, left}
use Rattle.filecalls.specs.Stores.{cut_outcome, cut_left}
use Rattle.filecalls.proofs.CutLaws.{code_whole}

module _ (d : Drive) {w : Front} {q : FrontReply} {r : Reply} {h : List ℕ} {v f b : List ℕ} (reply : r ≡ joined_reply q h) (front : w ≡ front_of d) where
  -- what the front leaves, the drive leaves
  pub joined_left : (leaves : Drive → Outcome) → left (joined_reply q h) v f b ≡ leaves (joined w d.held) → left r v f b ≡ leaves d
  joined_left leaves e = ap (λ (x : Reply). left x v f b) reply ∙ e ∙ ap (λ (x : Front). leaves (joined x d.held)) front

  -- and so where its stores are enough
  pub joined_whole : {n most : ℕ} (v₀ f₀ b₀ : List ℕ) (act : Drive → Act) → length (act_stores (act d)) ≤ most
      → cut_left (joined_reply q h) v f b n ≡ cut_outcome most (joined w d.held) v₀ f₀ b₀ (act (joined w d.held))
      → left r v f b ≡ outcome d v₀ f₀ b₀ (act d)
  joined_whole {n} {most} v₀ f₀ b₀ act enough e =
      ap (λ (x : Reply). left x v f b) reply
      ∙ code_whole d v₀ f₀ b₀ most (act d) enough (e ∙ ap (λ (x : Front). cut_outcome most (joined x d.held) v₀ f₀ b₀ (act (joined x d.held))) front)

-- an equal reply leaves the same
pub reply_left : {r s : Reply} {v f b : List ℕ} {o : Outcome} → r ≡ s → left s v f b ≡ o → left r v f b ≡ o
reply_left {r} {s} {v} {f} {b} e h = ap (λ (x : Reply). left x v f b) e ∙ h
