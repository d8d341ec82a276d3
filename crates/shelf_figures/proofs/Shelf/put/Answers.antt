-- The tests are asked in the definition's order; what is added is within the rules, so no sum overflows.
use Rattle.shelf_figures.proofs.ShelfLaws.{within_kept, one_within}
use Rattle.shelf_figures.specs.Shelf.{is_kept, one, put}
use borrow.Author.Tests.{le-leb, lt-leb}
use native.Mathlib.Omega.{arith}
use mathlib.Core.Bool.{true}
use mathlib.Core.Path.{◌≡◌, sym, ◌∙◌}
use Rattle.shelf_figures.proofs.Shelf.put.Goals as goal

pub returns-then-not-is_kept : goal.returns-then-not-is_kept
unfolding put
returns-then-not-is_kept c = rw (← c.is_kept.ensures, c.if-not-is_kept.true)

pub returns-then-self-ge-VOLUMES : goal.returns-then-self-ge-VOLUMES
unfolding put
returns-then-self-ge-VOLUMES c =
    let self_kept : is_kept c.args.self ≡ true = sym c.is_kept.ensures ∙ c.if-not-is_kept.false in
    rw (self_kept, le-leb _ _ c.if-self-ge-VOLUMES.true)

pub plus-requires : goal.plus-requires
plus-requires c =
    let self_kept : is_kept c.args.self ≡ true = sym c.is_kept.ensures ∙ c.if-not-is_kept.false in
    let alone_kept : is_kept (one c.args.g c.args.volume.now) ≡ true = within_kept 1 _ (omega arith) (one_within _ _) in
    (self_kept, rw c.look-looked.ensures.alone_value alone_kept)

pub returns : goal.returns
unfolding put
returns c =
    let self_kept : is_kept c.args.self ≡ true = sym c.is_kept.ensures ∙ c.if-not-is_kept.false in
    rw (self_kept, lt-leb _ _ c.if-self-ge-VOLUMES.false, c.plus.ensures, c.look-looked.ensures.said_value, c.look-looked.ensures.alone_value)
