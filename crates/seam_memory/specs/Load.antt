-- Load as an exported call leaves it: its answer as one number, and every byte of table and memory. Drive, volume and control block are
-- lent to be read alone.
use Rattle.std.specs.Prelude.{List, ℕ, ◌+◌, ◌*◌}
use Rattle.drive_bytes.specs.Layout.{decoded}
use Rattle.loading.specs.Load.{LoadAnswer, number_of, value_of}
use Rattle.load_bytes.specs.LoadOver.{LoadOver, load_bytes}

-- "high 16: the paragraph of the base page"
unfoldable pub load_answered : LoadAnswer → ℕ
load_answered a = number_of a + 65536 * value_of a

pub record Started : Type 0 where
  pub answer : ℕ
  pub table : List ℕ
  pub memory : List ℕ

abbrev pub started : ℕ → List ℕ → List ℕ → Started
started answer table memory = record { answer = answer; table = table; memory = memory }

abbrev pub started_by : LoadOver → Started
started_by o = started (load_answered o.answer) o.table o.memory

unfoldable pub load_at_seam : List ℕ → List ℕ → List ℕ → List ℕ → List ℕ → Started
load_at_seam s v f table memory = started_by (load_bytes (decoded s) v f table memory)
