-- A volume that was counted, and no other, has the number 0.
use mathlib.Core.Path.{◌≡◌, refl, sym, ◌∙◌}
use Prim.Native.Nat.{ℕ}
use lib.Dec.{eqb}
use Rattle.std.specs.Prelude.{Result, Ok, Err}
use Rattle.std.specs.Result.{is_ok}
use Rattle.shelf_figures.specs.declared.ShelfRefusal.{ShelfRefusal}
use Rattle.shelf_figures.specs.declared.ShelfRefusal.TheVariants.{Full, Outside}
use Rattle.shelf_figures.specs.Shelf.{shelved_number}
use Rattle.seam_shelf.specs.Shelf.{shelved_in}
use Rattle.seam_shelf.proofs.lay_shelved.Goals as goal

counted : (r : Result ℕ ShelfRefusal) → eqb (shelved_number r) 0 ≡ is_ok r
counted (Ok said) = refl
counted (Err Full) = refl
counted (Err Outside) = refl

pub returns-then-is_ok : goal.returns-then-is_ok
unfolding shelved_in
returns-then-is_ok c = rw (counted c.args.added.answer ∙ sym c.is_ok.ensures.value ∙ c.if-is_ok.true) c.encode.ensures

pub returns-else-is_ok : goal.returns-else-is_ok
unfolding shelved_in
returns-else-is_ok c = rw (counted c.args.added.answer ∙ sym c.is_ok.ensures.value ∙ c.if-is_ok.false)
