-- Lists of bytes laid one behind the other.
use Rattle.std.specs.Prelude.{List, [], ◌++◌, ℕ, zero, suc}

-- the bytes of k things from i on, one behind the other
unfoldable pub joined : (ℕ → List ℕ) → ℕ → ℕ → List ℕ
joined bytes i zero = []
joined bytes i (suc k) = bytes i ++ joined bytes (suc i) k
