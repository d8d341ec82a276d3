-- The size stands in the copy.
use Rattle.load_records.proofs.RecordLaws.{sizes}
use Rattle.numbers.specs.Numbers.{three}
use Rattle.call_fcb.specs.Fcb.{R0}
use mathlib.Core.List.{List, []}
use Prim.Native.Nat.{ℕ}
use mathlib.Core.Path.{ap, ◌∙◌}
use Rattle.load_records.proofs.File.measure.Goals as goal

pub returns : goal.returns
returns c =
    let s = sizes _ _ _ c.copy_from_slice.ensures.after (c.file_size-r.ensures []) c.why_of-why.ensures in
    (s.0, (c.random_of.ensures.0 ∙ ap (λ (x : List ℕ). three x R0) s.1, c.random_of.ensures.1))
