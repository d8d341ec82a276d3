-- The first match leaves nothing, or one region at its place.
use Rattle.memory_regions.proofs.FreeLaws.{First, first_leaves, freed_whole, freed_rest}
use Rattle.memory_regions.specs.Places.{places_of}
use Rattle.memory_regions.proofs.PlaceLaws.{behind}
use mathlib.Core.Path.{sym, ap, ◌∙◌}
use Rattle.memory_regions.proofs.free_at.Goals as goal

pub returns-then-part-region : goal.returns-then-part-region
returns-then-part-region c =
    let a = c.args in
    let first : First a.part a.regions.now a.at = first_leaves a.part a.regions.now a.at c.requires.1.0 c.requires.1.1.0 in
    c.joined.ensures ∙ ap places_of (rw (behind a.regions.now a.at) (sym (freed_whole a.part a.regions.now a.at first c.if-part-region.true)))

pub rest-requires : goal.rest-requires
rest-requires c =
    let a = c.args in
    let first : First a.part a.regions.now a.at = first_leaves a.part a.regions.now a.at c.requires.1.0 c.requires.1.1.0 in
    (first.matches, (c.if-part-region.false, c.requires.1.1.1))

pub returns : goal.returns
returns c =
    let a = c.args in
    let first : First a.part a.regions.now a.at = first_leaves a.part a.regions.now a.at c.requires.1.0 c.requires.1.1.0 in
    c.joined-2.ensures ∙ ap places_of (rw (behind a.regions.now a.at) (sym (freed_rest a.part a.regions.now a.at c.rest.result first c.rest.ensures)))
