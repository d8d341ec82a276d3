-- The calls that write a record, cut anywhere: a refused one stores nothing.
use mathlib.Core.Path.{◌≡◌, refl}
use mathlib.Core.Bool.{Bool, true, false, cond}
use mathlib.Core.List.{List, [], ◌++◌}
use Prim.Native.Nat.{ℕ}
use Rattle.disk_stores.specs.Stores.{Store, cut}
use Rattle.disk_stores.proofs.CodeLaws.{cut_none}
use Rattle.call_fcb.specs.Fcb.{position, random}
use Rattle.call_answers.specs.Refusal.{Test, is_none, first_met}
use Rattle.filecalls.specs.declared.Drive.{Drive}
use Rattle.filecalls.specs.Outcome.{Act, deny, unless, act_stores}
use Rattle.filecalls.specs.Read.{sequential_tests, random_tests}
use Rattle.filecalls.specs.Write.{write_entry, write_done, directory_tests, write_sequential_act}
use Rattle.filecalls.specs.Stores.{sequential_stores, direct_stores}
use Rattle.numbers.specs.Numbers.{Bytes}
use Rattle.demands.proofs.Acts.{Consistent}
use Rattle.demands.proofs.Demand2Writes.{clear_sequential, clear_random}
use Rattle.demands.proofs.WritesKeep.{random_low, position_low}
use Rattle.demands.proofs.WriteCut.{WriteSafe, write_none, write_cut_lem}

-- what holds of no store, and of an act's where it is not refused, holds of a call's
pub stores_unless : (P : List Store → Type 0) (ts : List Test) (act : Act)
    → P [] → (is_none (first_met ts) ≡ true → P (act_stores act)) → P (act_stores (unless ts act))
unfolding unless
stores_unless P ts act none h = go (is_none (first_met ts)) refl
  where
    go : (t : Bool) → is_none (first_met ts) ≡ t → P (act_stores (cond (is_none (first_met ts)) act (deny (first_met ts))))
    go true e = rw e (h e)
    go false e = rw e none

module _ (d : Drive) (v f b : List ℕ) (c : Consistent d v) where
  -- the stores of a write of record n
  abbrev Cuts : ℕ → List Store → Type 0
  Cuts n ss = (k : ℕ) → WriteSafe d f n b v (cut d.geometry v k ss)

  no_cut : (n : ℕ) → Cuts n []
  no_cut n k = rw (cut_none d.geometry v k) (write_none c)

  pub sequential_safe : (k : ℕ) → WriteSafe d f (position f) b v (cut d.geometry v k (sequential_stores d v f b))
  unfolding write_sequential_act write_done write_entry
  sequential_safe = stores_unless (Cuts (position f)) (sequential_tests d v f b ++ directory_tests d v f (position f)) _ (no_cut (position f)) (λ h.
      let l = clear_sequential d v f b h in
      write_cut_lem d v f c l.state (position f) false b (position_low d v f b h) l.record128 l.passed)

  pub direct_safe : Bytes f → (fills : Bool) (k : ℕ) → WriteSafe d f (random f) b v (cut d.geometry v k (direct_stores fills d v f b))
  unfolding write_done write_entry
  direct_safe small fills = stores_unless (Cuts (random f)) (random_tests d v f b ++ directory_tests d v f (random f)) _ (no_cut (random f)) (λ h.
      let l = clear_random d v f b h in
      write_cut_lem d v f c l.state (random f) fills b (random_low f small) l.record128 l.passed)
