-- What an accepted log-in tells: the geometry is lawful, the volume has its length, no slot is bad, and the count is that of the
-- free blocks.
use mathlib.Core.Path.{◌≡◌, refl, sym, ◌∙◌}
use mathlib.Core.Bool.{Bool, true, false, true≢false}
use mathlib.Core.List.{List}
use Prim.Native.Nat.{ℕ}
use native.Mathlib.Omega.{arith}
use borrow.Author.Tests.{ltb-false, eqb-true}
use lib.Dec.{ltb, eqb}
use lib.ListN.{length}
use Rattle.disk_geometry.specs.declared.Geometry.{Geometry}
use Rattle.disk_geometry.specs.Geometry.{lawful, bytes, slots}
use Rattle.disk_rules.specs.GoodSlot.{lowest_bad}
use Rattle.disk_rules.specs.Named.{free_of}
use Rattle.disk_rules.proofs.AcceptedLaws.{lowest_bad_le}
use Rattle.call_answers.specs.declared.Answer.TheVariants.{Ready}
use Rattle.call_answers.specs.Answer.{succeeded}
use Rattle.call_answers.specs.Refusal.{first_met}
use Rattle.filecalls.specs.LogIn.{log_in, log_in_tests, refused_log_in}

pub record Accepted (g : Geometry) (v : List ℕ) : Type 0 where
  pub law : lawful g ≡ true
  pub size : length v ≡ bytes g
  pub good : lowest_bad g v ≡ slots g
  pub answer : (log_in g v).answer ≡ Ready (free_of g v)

pub accepted : (g : Geometry) (v : List ℕ) → succeeded (log_in g v).answer ≡ true → Accepted g v
unfolding log_in log_in_tests first_met refused_log_in
accepted g v e = go (lawful g) refl (eqb (length v) (bytes g)) refl (ltb (lowest_bad g v) (slots g)) refl
  where
    refused : succeeded (log_in g v).answer ≡ false → Accepted g v
    refused f = absurd (true≢false (sym e ∙ f))

    go : (a : Bool) → lawful g ≡ a → (b : Bool) → eqb (length v) (bytes g) ≡ b → (c : Bool) → ltb (lowest_bad g v) (slots g) ≡ c → Accepted g v
    go false p b q c r = refused (rw p)
    go true p false q c r = refused (rw (p, q))
    go true p true q true r = refused (rw (p, q, r))
    go true p true q false r =
        record {
          law = p;
          size = eqb-true (length v) (bytes g) q;
          good = omega (arith, ltb-false (lowest_bad g v) (slots g) r, lowest_bad_le g v);
          answer = rw (p, q, r);
        }
