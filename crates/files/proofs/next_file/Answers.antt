-- No slot passed so far stands for its file, so what is still to be searched gives the whole.
use Rattle.files.specs.Files.{next_file}
use Rattle.disk_volume.proofs.EntryLaws.{lent_slot}
use Rattle.lists.proofs.BoundedLaws.{searched_next, searched_hit, searched_none}
use mathlib.Core.Path.{◌≡◌, sym, ◌∙◌}
use native.Mathlib.Omega.{arith}
use borrow.Author.Rules.{rules}
use Rattle.files.proofs.next_file.Invariants.{listed_at}
use Rattle.files.proofs.next_file.Goals as goal

pub returns-then-is_listed : goal.returns-then-is_listed
unfolding next_file
returns-then-is_listed c =
    let a = c.args in
    let at = c.slot_start-at in
    let j = c.loop-i.i in
    let seen : c.is_listed.result ≡ listed_at a.g a.volume.now j = rw (← lent_slot a.g a.volume.now j at.result at.ensures.0) c.is_listed.ensures in
    sym (searched_hit c.loop-i.invariant.1 (search rules) (sym seen ∙ c.if-is_listed.true))

pub loop-i-preserved : goal.loop-i-preserved
loop-i-preserved c =
    let a = c.args in
    let at = c.slot_start-at in
    let j = c.loop-i.i in
    let seen : c.is_listed.result ≡ listed_at a.g a.volume.now j = rw (← lent_slot a.g a.volume.now j at.result at.ensures.0) c.is_listed.ensures in
    (omega arith, searched_next c.loop-i.invariant.1 (search rules) (sym seen ∙ c.if-is_listed.false))

pub returns : goal.returns
unfolding next_file
returns c =
    let last : c.max.result ≡ c.loop-i.i = omega arith in
    last ∙ sym (searched_none c.loop-i.invariant.1 (search rules))
