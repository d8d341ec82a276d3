-- The geometry is asked first, since the number of slots rests on it; a search only where one is kept.
use mathlib.Core.Bool.{not}
use Rattle.filecalls.specs.State.{good_kept}
use mathlib.Core.Path.{sym, ap, ◌∙◌}
use mathlib.Core.List.{List}
use Prim.Native.Nat.{ℕ}
use borrow.Author.Rules.{rules}
use Rattle.lists.proofs.BoolLaws.{and_parts}
use Rattle.filecalls.proofs.SearchLaws.{outside_closed, search_left, not_kept}
use Rattle.filecalls.proofs.Front.is_open.Goals as goal

pub returns-then-not-is_lawful-self : goal.returns-then-not-is_lawful-self
returns-then-not-is_lawful-self c = λ (held : List ℕ). sym (outside_closed _ c.is_lawful.ensures c.if-not-is_lawful-self.true)

pub returns-then-not-is_open_search : goal.returns-then-not-is_open_search
returns-then-not-is_open_search c =
    λ (held : List ℕ). sym
    (search_left _ c.is_lawful.ensures (ap not c.if-not-is_lawful-self.false)
    ∙ (let q = c.args.self.search in not_kept q.kind q.user q.last q.pattern) _ (sym c.is_open_search.ensures ∙ c.if-not-is_open_search.true))

pub slots-requires : goal.slots-requires
slots-requires c = sym c.is_lawful.ensures ∙ (and_parts c.is_lawful.result _ c.if-not-is_lawful-self.false).0

pub is_kept-requires : goal.is_kept-requires
is_kept-requires c = (sym c.is_open_search.ensures ∙ c.if-not-is_open_search.false, search rules)

pub returns : goal.returns
returns c =
    λ (held : List ℕ). c.is_kept.ensures ∙ ap (let q = c.args.self.search in good_kept q.kind q.user q.last q.pattern) c.slots.ensures.0
    ∙ sym (search_left _ c.is_lawful.ensures (ap not c.if-not-is_lawful-self.false))
