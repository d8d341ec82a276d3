-- Figures below 2^48 add up without overflow.
use mathlib.Core.Path.{refl}
use Rattle.shelf_figures.proofs.ShelfLaws.{kept}
use Rattle.shelf_figures.specs.Shelf.{plus}
use native.Mathlib.Omega.{arith}
use Rattle.shelf_figures.proofs.Shelf.plus.Goals as goal

pub overflow_add-result : goal.overflow_add-result
overflow_add-result c = omega (arith, (kept c.args.self c.requires.0).refused, (kept c.args.other c.requires.1).refused)

pub overflow_add-result-2 : goal.overflow_add-result-2
overflow_add-result-2 c = omega (arith, (kept c.args.self c.requires.0).files, (kept c.args.other c.requires.1).files)

pub overflow_add-result-3 : goal.overflow_add-result-3
overflow_add-result-3 c = omega (arith, (kept c.args.self c.requires.0).entries, (kept c.args.other c.requires.1).entries)

pub overflow_add-result-4 : goal.overflow_add-result-4
overflow_add-result-4 c = omega (arith, (kept c.args.self c.requires.0).records, (kept c.args.other c.requires.1).records)

pub overflow_add-result-5 : goal.overflow_add-result-5
overflow_add-result-5 c = omega (arith, (kept c.args.self c.requires.0).held, (kept c.args.other c.requires.1).held)

pub overflow_add-result-6 : goal.overflow_add-result-6
overflow_add-result-6 c = omega (arith, (kept c.args.self c.requires.0).free, (kept c.args.other c.requires.1).free)

pub overflow_add-result-7 : goal.overflow_add-result-7
overflow_add-result-7 c = omega (arith, (kept c.args.self c.requires.0).waste, (kept c.args.other c.requires.1).waste)

pub overflow_add-result-8 : goal.overflow_add-result-8
overflow_add-result-8 c = omega (arith, (kept c.args.self c.requires.0).seen, (kept c.args.other c.requires.1).seen)

pub returns : goal.returns
unfolding plus
returns c = refl
