-- What several writes store, record by record, and what a cut leaves of them.
use Rattle.std.specs.Prelude.{cond, List, [], ◌++◌, ℕ, zero, suc}
use Rattle.disk_stores.specs.Stores.{Store}
use Rattle.call_answers.specs.Refusal.{is_none, first_met}
use Rattle.call_answers.specs.Answer.{succeeded}
use Rattle.filecalls.specs.declared.Drive.{Drive}
use Rattle.filecalls.specs.Outcome.{Outcome}
use Rattle.filecalls.specs.Leaves.{write_sequential_leaves}
use Rattle.filecalls.specs.Stores.{Cut, CutAfter, sequential_stores}
use Rattle.several.specs.Several.{several_tests, piece_at, on_piece, several}

-- "A call of (ii) stores as its single calls would": k single writes in order from piece i on, to the first refused one
unfoldable pub singles_stores : ℕ → ℕ → Drive → List ℕ → List ℕ → List ℕ → List Store
singles_stores i zero d v fcb b = []
singles_stores i (suc k) d v fcb b =
    let o : Outcome = on_piece write_sequential_leaves i d v fcb b in
    let rest : List Store = singles_stores (suc i) k o.drive o.volume o.fcb o.buffer in
    sequential_stores d v fcb (piece_at b i) ++ cond (succeeded o.answer) rest []

unfoldable pub several_stores : Drive → List ℕ → List ℕ → List ℕ → ℕ → List Store
several_stores d v fcb b k =
    cond (is_none (first_met (several_tests d v fcb b k))) (singles_stores 0 k d v fcb b) []

-- several writes
abbrev pub SeveralCut : ℕ → Drive → List ℕ → List ℕ → List ℕ → ℕ → Cut → Type 0
SeveralCut most d v fcb b k c =
    CutAfter most d.geometry v (several_stores d v fcb b k) (several write_sequential_leaves d v fcb b k) c
