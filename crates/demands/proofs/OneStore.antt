-- A run of one store: a cut leaves none of it or all of it.
use mathlib.Core.List.{List, [], ◌∷◌}
use Prim.Native.Nat.{ℕ, zero, suc}
use Rattle.disk_geometry.specs.declared.Geometry.{Geometry}
use Rattle.disk_volume.specs.Entry.{Entry}
use Rattle.disk_stores.specs.Stores.{Store, laid, cut, entry_stores}

pub single_cut : (P : List ℕ → Type 0) (g : Geometry) (v : List ℕ) (s : Store) → P v → P (laid g v (s ∷ [])) → (k : ℕ) → P (cut g v k (s ∷ []))
unfolding laid
single_cut P g v s before after zero = before
single_cut P g v s before after (suc zero) = after
single_cut P g v s before after (suc (suc k)) = after

pub entry_cut : (P : List ℕ → Type 0) (g : Geometry) (v : List ℕ) (i : ℕ) (e : Entry) → P v → P (laid g v (entry_stores g v i e))
    → (k : ℕ) → P (cut g v k (entry_stores g v i e))
unfolding entry_stores
entry_cut P g v i e before after k = single_cut P g v _ before after k
