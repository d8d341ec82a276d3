-- The first words decide where they differ, else the last do.
use mathlib.Core.Path.{sym, ◌∙◌}
use borrow.Author.Rules.{rules}
use borrow.Author.Tests.{eq-eqb, ne_eqb}
use Rattle.lists.specs.Bytes.{part}
use Rattle.disk_volume.proofs.NameLaws.{same_words}
use Rattle.disk_volume.proofs.names.same_name.Goals as goal

-- src/names.rt:40:9
pub returns-then-stripped : goal.returns-then-stripped
unfolding part
returns-then-stripped c =
    let a = c.args in
    sym (same_words a.a.now a.b.now (search rules) (search rules)
    ∙ rw (ne_eqb _ _ (λ e. c.if-stripped.true (c.stripped.ensures ∙ e ∙ sym c.stripped-2.ensures))))

-- src/names.rt:35:1
pub returns : goal.returns
unfolding part
returns c =
    let a = c.args in
    let e = sym c.stripped.ensures ∙ c.if-stripped.false ∙ c.stripped-2.ensures in
    rw (c.stripped-3.ensures, c.stripped-4.ensures)
    (sym (same_words a.a.now a.b.now (search rules) (search rules) ∙ rw (eq-eqb _ _ e)))
