-- "whole 128-byte records: data records first, then directory records in rising order"
use Rattle.std.specs.Prelude.{◌≡◌, List, [], ◌∷◌, ℕ, suc, ◌≤◌, ◌<◌, length}
use Rattle.disk_geometry.specs.declared.Geometry.{Geometry}
use Rattle.disk_geometry.specs.Geometry.{record_bytes}
use Rattle.disk_stores.specs.Stores.{Store, directory_records}

-- directory records, each above the last
pub data Rising (g : Geometry) : ℕ → List Store → Type 0 where
  ends : (low : ℕ) → Rising g low []
  rises : (low : ℕ) (s : Store) (ss : List Store) → low ≤ s.at → s.at < directory_records g → length s.bytes ≡ record_bytes
      → Rising g (suc s.at) ss → Rising g low (s ∷ ss)

-- data records, and then those
pub data Ordered (g : Geometry) : List Store → Type 0 where
  directory : (ss : List Store) → Rising g 0 ss → Ordered g ss
  data_first : (s : Store) (ss : List Store) → directory_records g ≤ s.at → length s.bytes ≡ record_bytes → Ordered g ss
      → Ordered g (s ∷ ss)
