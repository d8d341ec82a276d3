-- A window on a script that is read in pieces: the n bytes from `from` on move to the front, where there are so many.
use Rattle.std.specs.Prelude.{cond, List, ℕ, ◌+◌, leb, length}
use Rattle.lists.specs.Bytes.{part, put}

unfoldable pub shifted : List ℕ → ℕ → ℕ → List ℕ
shifted w from n = cond (leb (from + n) (length w)) (put w 0 n (part w from n)) w
