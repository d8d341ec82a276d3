-- The first byte may decide; else what was gathered of the bytes passed so far, with what is left.
use Prim.Native.Nat.{◌%◌}
use Rattle.lists.specs.Bytes.{byte}
use borrow.Author.Tests.{eq-eqb, ne_eqb}
use mathlib.Core.Bool.{and-true, and-false}
use mathlib.Core.Path.{sym, ◌∙◌}
use borrow.Author.Rules.{rules}
use Rattle.disk_volume.proofs.NameLaws.{good_places, gathered_start, gathered_next, gathered_end}
use Rattle.disk_volume.proofs.names.good_name.Goals as goal

pub returns-then-name-eq-BLANK : goal.returns-then-name-eq-BLANK
returns-then-name-eq-BLANK c =
    let a = c.args in
    sym (good_places 11 a.pattern a.name.now (search rules) ∙ rw (eq-eqb (byte a.name.now 0 % 128) 32 c.if-name-eq-BLANK.true, and-false))

pub loop-k-init : goal.loop-k-init
loop-k-init c = (gathered_start, gathered_start)

pub loop-k-preserved : goal.loop-k-preserved
loop-k-preserved c = (gathered_next c.loop-k.invariant.0 (search rules), gathered_next c.loop-k.invariant.1 (search rules))

pub returns : goal.returns
returns c =
    let a = c.args in
    sym (good_places 11 a.pattern a.name.now (search rules)
    ∙ rw (gathered_end c.loop-k.invariant.0 (search rules), gathered_end c.loop-k.invariant.1 (search rules), ne_eqb (byte a.name.now 0 % 128) 32 c.if-name-eq-BLANK.false) (and-true _))
