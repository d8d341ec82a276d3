-- A part of the memory is lent to be filled from the image.
use Rattle.loading.proofs.LaidLaws.{lent_part}
use Rattle.memory_spans.specs.Span.{paragraph_bytes}
use Prim.Native.Nat.{ℕ, ◌*◌}
use mathlib.Core.Path.{refl, ap}
use Rattle.loading.proofs.lay.lay_group.Goals as goal

pub returns : goal.returns
returns c = lent_part _ _ _ _ _ (ap (λ (x : ℕ). paragraph_bytes * x) c.from-at.ensures) (ap (λ (x : ℕ). paragraph_bytes * x) c.length_at.ensures.0) (ap (λ (x : ℕ). paragraph_bytes * x) c.image_start-from.ensures.0) refl c.requires.i_in_bounds.0 c.lay_image.ensures
