-- What the loop over the pieces of several writes leaves, with so many stores, where the tests of what is lent have passed; not
-- for the reader of the paper.
use Rattle.std.specs.Prelude.{List, ℕ}
use Rattle.filecalls.specs.declared.Drive.{Drive}
use Rattle.filecalls.specs.Leaves.{write_sequential_leaves}
use Rattle.several.specs.Several.{singles}
use Rattle.filecalls.specs.Stores.{Cut, CutAfter}
use Rattle.several.specs.Stores.{singles_stores}

abbrev pub SinglesCut : ℕ → Drive → List ℕ → List ℕ → List ℕ → ℕ → Cut → Type 0
SinglesCut most d v fcb b k c =
    CutAfter most d.geometry v (singles_stores 0 k d v fcb b) (singles write_sequential_leaves 0 k d v fcb b) c
