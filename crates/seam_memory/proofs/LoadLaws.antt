-- Load at the seam: the value fits the high 16 bits, and what is sealed is the definition's.
use mathlib.Core.Path.{◌≡◌, ap, ◌∙◌}
use mathlib.Core.List.{List}
use Prim.Native.Nat.{ℕ, ◌<◌}
use Rattle.filecalls.specs.declared.Front.{Front}
use Rattle.filecalls.specs.CodeFront.{front_of, joined}
use Rattle.drive_bytes.specs.Layout.{decoded}
use Rattle.loading.specs.Load.{LoadAnswer, value_of}
use Rattle.load_bytes.specs.LoadOver.{LoadOver, load_over, load_bytes}
use Rattle.load_bytes.proofs.LoadOverLaws.{value_low}
use Rattle.seam_memory.specs.Load.{load_answered, started, load_at_seam}

-- w, a, x, m: the front of the state in the drive's bytes, and what load answered and left over it
module _ (s v f table memory : List ℕ) {w : Front} (is : w ≡ front_of (decoded s)) {a : LoadAnswer} {x m : List ℕ}
    (leaves : (held : List ℕ) → load_over a x m ≡ load_bytes (joined w held) v f table memory) where
  left : load_over a x m ≡ load_bytes (decoded s) v f table memory
  left = leaves (decoded s).held ∙ ap (λ (y : Front). load_bytes (joined y (decoded s).held) v f table memory) is

  pub paragraph_low : value_of a < 65536
  paragraph_low = rw (ap (λ (o : LoadOver). o.answer) left) (value_low (decoded s) v f table memory)

  pub load_sealed : {r : ℕ} → r ≡ load_answered a → started r x m ≡ load_at_seam s v f table memory
  unfolding load_at_seam
  load_sealed z = rw (z, ← left)
