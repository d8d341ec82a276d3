-- What a write of the file calls leaves, as the desk asks for it; and what a rewriting stores.
use mathlib.Core.Path.{◌≡◌, refl, ap}
use mathlib.Core.Bool.{Bool, true, false, cond}
use mathlib.Core.List.{List}
use Prim.Native.Nat.{ℕ, ◌/◌, ◌%◌, ◌≤◌}
use native.Mathlib.Omega.{arith}
use lib.ListN.{length}
use Rattle.disk_stores.specs.Stores.{laid}
use Rattle.call_fcb.specs.Fcb.{with_random}
use Rattle.filecalls.specs.declared.Drive.{Drive}
use Rattle.filecalls.specs.Outcome.{Act, deny, done, act_stores, outcome}
use Rattle.filecalls.specs.Write.{write_direct_act, write_random_act}
use Rattle.filecalls.specs.Stores.{Cut, cut_outcome}
use Rattle.filecalls.specs.Rewrite.{rewritten_bytes}
use Rattle.filecalls.proofs.EnoughLaws.{direct_enough}
use Rattle.desk.specs.Records.{shown, record_shown, with_siglum, written, rewritten}
use Rattle.desk.specs.Replace.{rewrite_if}
use Rattle.desk.specs.Stores.{written_stores, rewritten_stores, stores_if}
use Rattle.desk.specs.CodeDesk.{Stored}

-- a record read and written again with another siglum, as long as a store is left
pub rewrites : (d : Drive) (v f : List ℕ) (n siglum most : ℕ) {low high : ℕ} {copy : List ℕ} {x : Cut} → copy ≡ with_random f n
    → x ≡ cut_outcome most d v copy (rewritten_bytes d v copy low high) (write_direct_act false d v copy (rewritten_bytes d v copy low high))
    → low ≡ siglum % 256 → high ≡ siglum / 256
    → Stored d.geometry v most (rewritten_stores d f siglum v n) x.outcome.volume x.left
unfolding rewritten_stores written_stores shown rewritten_bytes cut_outcome
rewrites d v f n siglum most {low} {high} {copy} {x} e h a b =
    let r = rewritten_bytes d v (with_random f n) (siglum % 256) (siglum / 256) in
    let o : x ≡ cut_outcome most d v (with_random f n) r (write_direct_act false d v (with_random f n) r) = rw (e, a, b) at h in
    record { volume_is = ap (λ (y : Cut). y.outcome.volume) o; left_is = ap (λ (y : Cut). y.left) o }

-- the volume that an act leaves is its stores laid down
act_laid : (d : Drive) (v f b : List ℕ) (act : Act) → (outcome d v f b act).volume ≡ laid d.geometry v (act_stores act)
unfolding outcome laid
act_laid d v f b (deny why) = refl
act_laid d v f b (done code change ss f' b') = refl

written_laid : (d : Drive) (v f : List ℕ) (n : ℕ) (r : List ℕ) → (written d v f n r).volume ≡ laid d.geometry v (written_stores d v f n r)
unfolding written written_stores write_random_act
written_laid d v f n r = act_laid d v (with_random f n) r (write_direct_act false d v (with_random f n) r)

module _ (d : Drive) (f : List ℕ) (siglum : ℕ) (v : List ℕ) (n : ℕ) where
  pub rewritten_laid : rewritten d f siglum v n ≡ laid d.geometry v (rewritten_stores d f siglum v n)
  unfolding rewritten rewritten_stores
  rewritten_laid = written_laid d v f n (with_siglum siglum (record_shown d v f n))

  pub if_laid : (hit : ℕ → Bool) → rewrite_if hit d f siglum v n ≡ laid d.geometry v (stores_if (hit n) d f siglum v n)
  unfolding rewrite_if laid
  if_laid hit = go (hit n)
    where
      go : (t : Bool) → cond t (rewritten d f siglum v n) v ≡ laid d.geometry v (stores_if t d f siglum v n)
      go true = rewritten_laid
      go false = refl

  -- there are few
  pub if_most : (t : Bool) → length (stores_if t d f siglum v n) ≤ 528
  unfolding rewritten_stores written_stores
  if_most true = direct_enough false d v (with_random f n) (with_siglum siglum (record_shown d v f n))
  if_most false = omega arith
