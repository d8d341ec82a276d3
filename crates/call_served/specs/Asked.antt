-- What is asked: a call as it comes to the door.
use Rattle.std.specs.Prelude.{List, ℕ}

-- a call at the door: the function's number, its parameter, and what is lent beside the volume
pub record Asked : Type 0 where
  pub function : ℕ
  pub parameter : ℕ
  pub fcb : List ℕ
  pub buffer : List ℕ

abbrev pub asked : ℕ → ℕ → List ℕ → List ℕ → Asked
asked n p fcb b = record { function = n; parameter = p; fcb = fcb; buffer = b }
