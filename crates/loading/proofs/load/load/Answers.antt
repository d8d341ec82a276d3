-- The file is read, and then its groups are placed.
use Rattle.loading.proofs.LoadLaws.{not_read, was_read, load_any}
use mathlib.Core.Path.{sym, ◌∙◌}
use mathlib.Core.List.{List}
use Prim.Native.Nat.{ℕ}
use Rattle.loading.proofs.load.load.Goals as goal

pub returns-then-not-is_none : goal.returns-then-not-is_none
returns-then-not-is_none c = λ (held : List ℕ).
    not_read _ _ _ _ _ c.read_all-seen.ensures.refusal (sym c.is_none.ensures ∙ c.if-not-is_none.true) c.refuse.ensures
    ∙ load_any _ held _ _ _ _

pub place-requires : goal.place-requires
place-requires c =
    let r = c.read_all-seen.ensures in
    let n = sym c.is_none.ensures ∙ c.if-not-is_none.false in
    (r.lent n, (r.size n, r.few))

pub returns : goal.returns
returns c = λ (held : List ℕ).
    was_read _ _ _ _ _ c.read_all-seen.ensures.refusal (sym c.is_none.ensures ∙ c.if-not-is_none.false) c.read_all-seen.ensures.header c.place.ensures
    ∙ load_any _ held _ _ _ _
