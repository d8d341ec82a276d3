-- The fields of the types passed so far are laid.
use Rattle.loading.proofs.PageLaws.{field_length, field_is}
use Rattle.loading.specs.Page.{field_bytes, base_page}
use Rattle.load_header.specs.Header.{CODE, LAST_AUX}
use Rattle.joined.proofs.JoinedLaws.{joined_start, joined_next, joined_end}
use native.Mathlib.Omega.{arith}
use borrow.Author.Rules.{rules}
use Rattle.loading.proofs.page.put_page.Goals as goal

pub loop-i-init : goal.loop-i-init
loop-i-init c = joined_start _ field_bytes CODE c.args.out.now

pub loop-i-preserved : goal.loop-i-preserved
loop-i-preserved c =
    let l = c.loop-i in
    joined_next _ field_bytes CODE l.i l.out _ (omega arith) l.invariant
    (field_is _ _ l.i c.shown_of-s.ensures c.last_of-last.ensures c.put_field.ensures)
    (field_length _ _ _)

pub returns : goal.returns
unfolding base_page
returns c =
    let l = c.loop-i in
    joined_end _ field_bytes CODE l.i LAST_AUX l.out (omega arith) (search rules) l.invariant
