-- What laying a line's bytes leaves of a group's bytes, one by one from its address on; those beyond the end are left out.
use Rattle.std.specs.Prelude.{cond, List, ℕ, ◌+◌, eqb, set}
use Rattle.lists.specs.Bounded.{fold}
use Rattle.gencmd_lines.specs.Line.{Line, count_of, address_of, data_of, group_of}

abbrev pub lay_byte : Line → List ℕ → ℕ → List ℕ
lay_byte l bytes i = set bytes (address_of l + i) (data_of l i)

unfoldable pub laid : List ℕ → Line → ℕ → List ℕ
laid bytes l g = cond (eqb (group_of l) g) (fold (lay_byte l) bytes 0 (count_of l)) bytes
