-- What the groups of tests that code asks first tell where they do not refuse.
use mathlib.Core.Path.{◌≡◌, refl}
use mathlib.Core.Bool.{Bool, true, false, not, ◌&&◌}
use mathlib.Core.List.{List, [], ◌∷◌}
use Prim.Native.Nat.{ℕ, ◌<◌, ◌≤◌}
use lib.Dec.{leb, eqb}
use lib.ListN.{length}
use native.Mathlib.Omega.{arith}
use borrow.Author.Tests.{not-false, eqb-false, leb-true}
use Rattle.lists.specs.Bytes.{byte}
use Rattle.lists.proofs.BoolLaws.{and_parts}
use Rattle.call_fcb.specs.Fcb.{position, position_fits}
use Rattle.call_answers.specs.declared.Refusal.{Refusal}
use Rattle.call_answers.specs.declared.Refusal.TheVariants.{Position, Beyond}
use Rattle.call_answers.specs.Refusal.{is_none, first_met}
use Rattle.call_answers.proofs.Ladder.{unmet}
use Rattle.filecalls.specs.declared.Drive.{Drive}
use Rattle.filecalls.specs.Tests.{too_large, beyond}
use Rattle.filecalls.specs.CodeReady.{Lent}
use Rattle.filecalls.specs.CodeLadder.{lent_tests, named_tests, sequential_lent, random_lent}
use Rattle.filecalls.specs.Read.{sequential_tests, random_tests}
use Rattle.filecalls.proofs.OutcomeLaws.{clears}
use Rattle.filecalls.proofs.StateLaws.{both_clear, lent_clear, named_clear}

-- what code knows once `lent_why` has not refused
pub record LengthsLent (d : Drive) (v f b : ℕ) : Type 0 where
  pub none : is_none (first_met (lent_tests d v f b)) ≡ true
  pub lent : Lent d v f b

pub lengths_passed : (d : Drive) (v f b : ℕ) {why : Refusal} {t : Bool}
    → why ≡ first_met (lent_tests d v f b) → t ≡ is_none why → not t ≡ false → LengthsLent d v f b
lengths_passed d v f b e i h =
    let n = clears (lent_tests d v f b) e i h in
    record { none = n; lent = lent_clear d v f b n }

-- what code knows once `named_why` has not refused
pub record NamedLent (d : Drive) (v f : List ℕ) (b : ℕ) (p : Bool) : Type 0 where
  pub none : is_none (first_met (named_tests d v f b p)) ≡ true
  pub lent : Lent d (length v) (length f) b

pub named_passed : (d : Drive) (v f : List ℕ) (b : ℕ) (p : Bool) {why : Refusal} {t : Bool}
    → why ≡ first_met (named_tests d v f b p) → t ≡ is_none why → not t ≡ false → NamedLent d v f b p
named_passed d v f b p e i h =
    let n = clears (named_tests d v f b p) e i h in
    record { none = n; lent = named_clear d v f b p n }

-- "ex at most 31, s2 at most 15, cr at most 128", and the position is not 65,536
position_low : (f : List ℕ) → position_fits f ≡ true → eqb (position f) 65536 ≡ false → position f < 65536
unfolding position
position_low f e n =
    let p = and_parts (leb (byte f 12) 31 && leb (byte f 14) 15) (leb (byte f 32) 128) e in
    let q = and_parts (leb (byte f 12) 31) (leb (byte f 14) 15) p.0 in
    let x : byte f 12 ≤ 31 = leb-true _ _ q.0 in
    let y : byte f 14 ≤ 15 = leb-true _ _ q.1 in
    let z : byte f 32 ≤ 128 = leb-true _ _ p.1 in
    omega (arith, eqb-false (position f) 65536 n)

-- the same groups, said with the buffer and said with its length
pub sequential_lent_lem : (d : Drive) (v f b : List ℕ) → sequential_tests d v f b ≡ sequential_lent d v f (length b)
unfolding sequential_tests sequential_lent named_tests
sequential_lent_lem d v f b = refl

pub random_lent_lem : (d : Drive) (v f b : List ℕ) → random_tests d v f b ≡ random_lent d v f (length b)
unfolding random_tests random_lent named_tests
random_lent_lem d v f b = refl

-- what code knows once `sequential_why` has not refused
pub record Sequential (d : Drive) (v f : List ℕ) (b : ℕ) : Type 0 where
  pub none : is_none (first_met (sequential_lent d v f b)) ≡ true
  pub lent : Lent d (length v) (length f) b
  pub low : position f < 65536

pub sequential_passed : (d : Drive) (v f : List ℕ) (b : ℕ) {why : Refusal} {t : Bool}
    → why ≡ first_met (sequential_lent d v f b) → t ≡ is_none why → not t ≡ false → Sequential d v f b
unfolding sequential_lent
sequential_passed d v f b e i h =
    let n = clears (sequential_lent d v f b) e i h in
    let p = both_clear (named_tests d v f b false) (too_large (position_fits f) ∷ beyond (eqb (position f) 65536) ∷ []) n in
    let x = unmet Position _ _ refl p.1 in
    let y = unmet Beyond _ _ refl x.1 in
    record { none = n; lent = named_clear d v f b false p.0; low = position_low f (not-false (position_fits f) x.0) y.0 }

-- what code knows once `random_why` has not refused
pub record Random (d : Drive) (v f : List ℕ) (b : ℕ) : Type 0 where
  pub none : is_none (first_met (random_lent d v f b)) ≡ true
  pub lent : Lent d (length v) (length f) b

pub random_passed : (d : Drive) (v f : List ℕ) (b : ℕ) {why : Refusal} {t : Bool}
    → why ≡ first_met (random_lent d v f b) → t ≡ is_none why → not t ≡ false → Random d v f b
unfolding random_lent
random_passed d v f b e i h =
    let n = clears (random_lent d v f b) e i h in
    record { none = n; lent = named_clear d v f b false (both_clear (named_tests d v f b false) _ n).0 }
