-- By the number of an answer C can tell its two halves, and whether the call succeeded: a refusal's number is none of the
-- codes that the call succeeds with, and of several records the value says how many were done.
use mathlib.Core.Path.{◌≡◌, refl}
use mathlib.Core.Bool.{Bool, true, false, not, cond, ◌&&◌, ◌||◌, false≢true}
use mathlib.Core.List.{List, [], ◌∷◌}
use Prim.Native.Nat.{ℕ, zero, suc, ◌/◌, ◌%◌, ◌≤◌, ◌<◌}
use native.Mathlib.Omega.{arith}
use lib.Dec.{ltb, eqb}
use borrow.Author.Tests.{le-ltb, not-true, ltb-true, eqb-true}
use Rattle.lists.specs.Bytes.{all}
use Rattle.lists.proofs.BoolLaws.{and_parts}
use Rattle.disk_geometry.specs.declared.Geometry.{Geometry}
use Rattle.call_answers.specs.declared.Refusal.TheVariants.{Closed}
use Rattle.call_answers.specs.declared.Answer.{Answer}
use Rattle.call_answers.specs.declared.Answer.TheVariants.{Refused}
use Rattle.call_answers.specs.Answer.{number_of, value_of, succeeded, why_of}
use Rattle.filecalls.specs.Leaves.{read_sequential_leaves, write_sequential_leaves}
use Rattle.filecalls.specs.declared.Drive.{Drive}
use Rattle.filecalls.specs.Outcome.{Outcome}
use Rattle.several.specs.Several.{Single, ended, on_piece, singles, several}
use Rattle.several.proofs.SinglesLaws.{chosen}
use Rattle.several.proofs.SeveralLaws.{several_chosen}
use Rattle.call_served.specs.declared.Call.{Call}
use Rattle.call_served.specs.declared.Call.TheVariants.{LogIn, Open, Close, SearchFirst, SearchNext, Delete, Make, Rename, Protect, Attributes, User, Size, SetRandom, Moves, Unserved}
use Rattle.call_served.specs.declared.Transfer.TheVariants.{ReadSequential, WriteSequential, ReadRandom, WriteRandom, WriteZeroFill, ReadSeveral, WriteSeveral}
use Rattle.bdos.specs.Step.{carries, does, step}
use Rattle.call_served.specs.Asked.{Asked}
use Rattle.seam_words.specs.Answered.{answered}
use Rattle.demands.specs.Order.{numbers_of, refusals_of, codes_of, is_several, among, answers_of}
use Rattle.demands.specs.Demand1.{call}
use Rattle.demands.proofs.Demand1.{demand1}

-- ---- the numbers
-- a refusal's number is below 256 and, but for several records, none of the codes that the call succeeds with
abbrev apart : Call → ℕ → Bool
apart k x = ltb x 256 && (is_several k || not (ltb x (codes_of k)))

told_apart : (k : Call) → (codes_of k ≤ 16) × (all (apart k) (numbers_of (refusals_of k)) ≡ true)
unfolding all
told_apart LogIn = (omega arith, refl)
told_apart Open = (omega arith, refl)
told_apart Close = (omega arith, refl)
told_apart SearchFirst = (omega arith, refl)
told_apart SearchNext = (omega arith, refl)
told_apart Delete = (omega arith, refl)
told_apart (Moves ReadSequential) = (omega arith, refl)
told_apart (Moves WriteSequential) = (omega arith, refl)
told_apart Make = (omega arith, refl)
told_apart Rename = (omega arith, refl)
told_apart Protect = (omega arith, refl)
told_apart Attributes = (omega arith, refl)
told_apart User = (omega arith, refl)
told_apart (Moves ReadRandom) = (omega arith, refl)
told_apart (Moves WriteRandom) = (omega arith, refl)
told_apart Size = (omega arith, refl)
told_apart SetRandom = (omega arith, refl)
told_apart (Moves WriteZeroFill) = (omega arith, refl)
told_apart (Moves ReadSeveral) = (omega arith, refl)
told_apart (Moves WriteSeveral) = (omega arith, refl)
told_apart Unserved = (omega arith, refl)

among_all : (p : ℕ → Bool) (n : ℕ) (ns : List ℕ) → among n ns ≡ true → all p ns ≡ true → p n ≡ true
unfolding all
among_all p n [] a e = absurd (false≢true a)
among_all p n (x ∷ xs) a e = go (eqb n x) (p x) refl refl a e (among_all p n xs)
  where
    go : (t u : Bool) → eqb n x ≡ t → p x ≡ u → (t || among n xs) ≡ true → cond u (all p xs) false ≡ true
        → (among n xs ≡ true → all p xs ≡ true → p n ≡ true) → p n ≡ true
    go t false q r a e later = absurd (false≢true e)
    go true true q r a e later = rw (eqb-true n x q) r
    go false true q r a e later = later a e

module _ (k : Call) (n : ℕ) where
  refusal_apart : among n (numbers_of (refusals_of k)) ≡ true → (ltb n 256 ≡ true) × ((is_several k || not (ltb n (codes_of k))) ≡ true)
  refusal_apart e = and_parts (ltb n 256) (is_several k || not (ltb n (codes_of k))) (among_all (apart k) n (numbers_of (refusals_of k)) e (told_apart k).1)

  refusal_low : among n (numbers_of (refusals_of k)) ≡ true → n < 256
  refusal_low e = ltb-true n 256 (refusal_apart e).0

  code_low : ltb n (codes_of k) ≡ true → n < 256
  code_low e = omega (arith, ltb-true n (codes_of k) e, (told_apart k).0)

  answer_low : answers_of k n ≡ true → n < 256
  answer_low e = go (is_several k) (ltb n (codes_of k)) refl e
    where
      go : (t u : Bool) → ltb n (codes_of k) ≡ u → cond t (u || among n (numbers_of (refusals_of k))) u ≡ true → n < 256
      go t true q e = code_low q
      go true false q e = refusal_low e
      go false false q e = absurd (false≢true e)

-- 32 is no success of any call
pub closed_told : (k : Call) → cond (is_several k) (ltb 0 (answered (Refused Closed) / 65536)) (ltb (answered (Refused Closed) % 65536) (codes_of k)) ≡ false
unfolding answered
closed_told k = go (is_several k)
  where
    go : (t : Bool) → cond t false (ltb 32 (codes_of k)) ≡ false
    go true = refl
    go false = le-ltb 32 (codes_of k) (omega (arith, (told_apart k).0))

-- ---- of several records the value is how many were done
abbrev Told : Outcome → Type 0
Told o = ltb 0 (value_of o.answer) ≡ succeeded o.answer

singles_told : (single : Single) (k i : ℕ) (d : Drive) (v f b : List ℕ) → Told (singles single i k d v f b)
unfolding singles
singles_told single zero i d v f b = refl
singles_told single (suc k) i d v f b =
    let o : Outcome = on_piece single i d v f b in
    let more = singles_told single k (suc i) o.drive o.volume o.fcb o.buffer in
    chosen Told (succeeded o.answer) (singles single (suc i) k o.drive o.volume o.fcb o.buffer)
    (ended i (why_of o.answer) o.drive o.volume o.fcb o.buffer) (λ t. more) (λ t. refl)

several_told_lem : (single : Single) (d : Drive) (v f b : List ℕ) (k : ℕ) → Told (several single d v f b k)
several_told_lem single d v f b k = several_chosen Told single d v f b k (λ h. singles_told single k 0 d v f b) (λ h. refl)

call_told : (g : Geometry) (k : Call) (p : ℕ) (d : Drive) (v f b : List ℕ) → is_several k ≡ true → Told (does g k p d v f b)
unfolding does carries
call_told g (Moves ReadSeveral) p d v f b e = several_told_lem read_sequential_leaves d v f b p
call_told g (Moves WriteSeveral) p d v f b e = several_told_lem write_sequential_leaves d v f b p
call_told g (Moves ReadSequential) p d v f b e = absurd (false≢true e)
call_told g (Moves WriteSequential) p d v f b e = absurd (false≢true e)
call_told g (Moves ReadRandom) p d v f b e = absurd (false≢true e)
call_told g (Moves WriteRandom) p d v f b e = absurd (false≢true e)
call_told g (Moves WriteZeroFill) p d v f b e = absurd (false≢true e)
call_told g LogIn p d v f b e = absurd (false≢true e)
call_told g Open p d v f b e = absurd (false≢true e)
call_told g Close p d v f b e = absurd (false≢true e)
call_told g SearchFirst p d v f b e = absurd (false≢true e)
call_told g SearchNext p d v f b e = absurd (false≢true e)
call_told g Delete p d v f b e = absurd (false≢true e)
call_told g Make p d v f b e = absurd (false≢true e)
call_told g Rename p d v f b e = absurd (false≢true e)
call_told g Protect p d v f b e = absurd (false≢true e)
call_told g Attributes p d v f b e = absurd (false≢true e)
call_told g User p d v f b e = absurd (false≢true e)
call_told g Size p d v f b e = absurd (false≢true e)
call_told g SetRandom p d v f b e = absurd (false≢true e)
call_told g Unserved p d v f b e = absurd (false≢true e)

-- ---- an answer at the door
module _ (g : Geometry) (c : Asked) (d : Drive) (v : List ℕ) where
  abbrev a : Answer
  a = (step g c d v).answer

  number_low : number_of a < 256
  number_low = go (succeeded a) refl
    where
      go : (t : Bool) → succeeded a ≡ t → number_of a < 256
      go true e = answer_low (call c) (number_of a) (demand1.success_of_paper g c d v e)
      go false e = refusal_low (call c) (number_of a) (demand1.refusal_of_paper g c d v e)

  single_told : is_several (call c) ≡ false → ltb (number_of a) (codes_of (call c)) ≡ succeeded a
  single_told one = go (succeeded a) refl
    where
      go : (t : Bool) → succeeded a ≡ t → ltb (number_of a) (codes_of (call c)) ≡ t
      go true e = rw one at (demand1.success_of_paper g c d v e)
      go false e = not-true _ (rw one at (refusal_apart (call c) (number_of a) (demand1.refusal_of_paper g c d v e)).1)

  pub success_told : cond (is_several (call c)) (ltb 0 (value_of a)) (ltb (number_of a) (codes_of (call c))) ≡ succeeded a
  unfolding step
  success_told = go (is_several (call c)) refl
    where
      go : (t : Bool) → is_several (call c) ≡ t → cond t (ltb 0 (value_of a)) (ltb (number_of a) (codes_of (call c))) ≡ succeeded a
      go true e = call_told g (call c) c.parameter d v c.fcb c.buffer e
      go false e = single_told e

  -- the two halves
  pub low_half : answered a % 65536 ≡ number_of a
  unfolding answered
  low_half = omega (arith, number_low)

  pub high_half : answered a / 65536 ≡ value_of a
  unfolding answered
  high_half = omega (arith, number_low)
