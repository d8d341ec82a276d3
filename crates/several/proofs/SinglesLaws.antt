-- Single calls in order: what each of them keeps they keep, how many are done, and the number that stops them.
use mathlib.Core.Path.{◌≡◌, refl, sym, ap, ◌∙◌}
use mathlib.Core.Bool.{Bool, true, false, cond, true≢false}
use mathlib.Core.List.{List}
use Prim.Native.Nat.{ℕ, zero, suc, ◌+◌, ◌*◌, ◌≤◌}
use native.Mathlib.Omega.{arith}
use lib.ListN.{length}
use borrow.Author.Tests.{lt-ltb}
use Rattle.lists.specs.Bytes.{part, put}
use Rattle.lists.proofs.PartLaws.{put_part}
use Rattle.call_answers.specs.declared.Answer.TheVariants as answer
use Rattle.call_answers.specs.Answer.{number_of, value_of, succeeded, why_of}
use Rattle.call_answers.proofs.AnswerLaws.{why_number_lem}
use Rattle.filecalls.specs.declared.Drive.{Drive}
use Rattle.filecalls.specs.Outcome.{Outcome}
use Rattle.filecalls.proofs.OutcomeLaws.{same_all}
use Rattle.several.specs.Several.{Single, ended, on_piece, singles}

-- a property of the outcome that a test chooses
pub chosen : (P : Outcome → Type 0) (t : Bool) (x y : Outcome) → (t ≡ true → P x) → (t ≡ false → P y) → P (cond t x y)
chosen P true x y h k = h refl
chosen P false x y h k = k refl

-- a property of state, volume, control block and buffer, said of an outcome
abbrev pub Holds : (Drive → List ℕ → List ℕ → List ℕ → Type 0) → Outcome → Type 0
Holds Q o = Q o.drive o.volume o.fcb o.buffer

-- "A refusal hands back the state as given and alters no lent byte", of a single call
abbrev pub Refuses : Single → Type 0
Refuses single = (d : Drive) (v f b : List ℕ) → succeeded (single d v f b).answer ≡ false → single d v f b ≡ same_all (single d v f b) d v f b

module _ (single : Single) where
  -- what each single call keeps, single calls in order keep
  pub singles_keep : (Q : Drive → List ℕ → List ℕ → List ℕ → Type 0)
      → ((i : ℕ) (d : Drive) (v f b : List ℕ) → Q d v f b → Holds Q (on_piece single i d v f b))
      → (k i : ℕ) (d : Drive) (v f b : List ℕ) → Q d v f b → Holds Q (singles single i k d v f b)
  unfolding singles
  singles_keep Q one zero i d v f b q = q
  singles_keep Q one (suc k) i d v f b q =
      let o : Outcome = on_piece single i d v f b in
      let here = one i d v f b q in
      chosen (Holds Q) (succeeded o.answer) (singles single (suc i) k o.drive o.volume o.fcb o.buffer)
      (ended i (why_of o.answer) o.drive o.volume o.fcb o.buffer)
      (λ t. singles_keep Q one k (suc i) o.drive o.volume o.fcb o.buffer here) (λ t. here)

  -- from piece i on at most k more are done
  pub count_most : (k i : ℕ) (d : Drive) (v f b : List ℕ) → value_of (singles single i k d v f b).answer ≤ i + k
  unfolding singles
  count_most zero i d v f b = omega arith
  count_most (suc k) i d v f b =
      let o : Outcome = on_piece single i d v f b in
      let more = count_most k (suc i) o.drive o.volume o.fcb o.buffer in
      chosen (λ x. value_of x.answer ≤ i + suc k) (succeeded o.answer) (singles single (suc i) k o.drive o.volume o.fcb o.buffer)
      (ended i (why_of o.answer) o.drive o.volume o.fcb o.buffer)
      (λ t. omega (arith, more)) (λ t. omega arith)

  -- once one is done the call has succeeded
  pub past_first : (k i : ℕ) (d : Drive) (v f b : List ℕ) → succeeded (singles single (suc i) k d v f b).answer ≡ true
  unfolding singles
  past_first zero i d v f b = lt-ltb 0 (suc i) (omega arith)
  past_first (suc k) i d v f b =
      let o : Outcome = on_piece single (suc i) d v f b in
      let more = past_first k (suc i) o.drive o.volume o.fcb o.buffer in
      chosen (λ x. succeeded x.answer ≡ true) (succeeded o.answer) (singles single (suc (suc i)) k o.drive o.volume o.fcb o.buffer)
      (ended (suc i) (why_of o.answer) o.drive o.volume o.fcb o.buffer)
      (λ t. more) (λ t. lt-ltb 0 (suc i) (omega arith))

  -- the answer of the call with piece i is the single call's
  pub piece_answer : (i : ℕ) (d : Drive) (v f b : List ℕ) → (on_piece single i d v f b).answer ≡ (single d v f (part b (128 * i) 128)).answer
  unfolding on_piece
  piece_answer i d v f b = refl

  -- the first of them is refused, and is done
  pub first_refused : (k : ℕ) (d : Drive) (v f b : List ℕ) → 1 ≤ k → succeeded (on_piece single 0 d v f b).answer ≡ false
      → (singles single 0 k d v f b).answer ≡ answer.Several 0 (why_of (on_piece single 0 d v f b).answer)
  unfolding singles
  first_refused zero d v f b l e = absurd (omega arith)
  first_refused (suc k) d v f b l e = rw e

  pub first_done : (k : ℕ) (d : Drive) (v f b : List ℕ) → 1 ≤ k → succeeded (on_piece single 0 d v f b).answer ≡ true
      → succeeded (singles single 0 k d v f b).answer ≡ true
  unfolding singles
  first_done zero d v f b l e = absurd (omega arith)
  first_done (suc k) d v f b l e = let o : Outcome = on_piece single 0 d v f b in rw e (past_first k 0 o.drive o.volume o.fcb o.buffer)

  -- the stopping number is 0 or that of a single call that is refused
  pub stop_number : (ok : ℕ → Bool) → ok 0 ≡ true
      → ((d : Drive) (v f b : List ℕ) → succeeded (single d v f b).answer ≡ false → ok (number_of (single d v f b).answer) ≡ true)
      → (k i : ℕ) (d : Drive) (v f b : List ℕ) → ok (number_of (singles single i k d v f b).answer) ≡ true
  unfolding singles on_piece
  stop_number ok none one zero i d v f b = none
  stop_number ok none one (suc k) i d v f b =
      let o : Outcome = on_piece single i d v f b in
      let more = stop_number ok none one k (suc i) o.drive o.volume o.fcb o.buffer in
      let s = single d v f (part b (128 * i) 128) in
      chosen (λ x. ok (number_of x.answer) ≡ true) (succeeded s.answer) (singles single (suc i) k o.drive o.volume o.fcb o.buffer)
      (ended i (why_of s.answer) o.drive o.volume o.fcb o.buffer)
      (λ t. more) (λ t. ap ok (why_number_lem s.answer t) ∙ one d v f (part b (128 * i) 128) t)

  module _ (refuses : Refuses single) where
    -- a refused single call leaves all as it was, its piece of the buffer too
    pub piece_refused : (i : ℕ) (d : Drive) (v f b : List ℕ) → 128 * i + 128 ≤ length b → succeeded (on_piece single i d v f b).answer ≡ false
        → on_piece single i d v f b ≡ same_all (on_piece single i d v f b) d v f b
    unfolding on_piece
    piece_refused i d v f b fits h =
        let p = part b (128 * i) 128 in
        ap (λ (o : Outcome). record { answer = o.answer; drive = o.drive; volume = o.volume; fcb = o.fcb; buffer = put b (128 * i) 128 o.buffer })
        (refuses d v f p h)
        ∙ ap (λ (x : List ℕ). record { answer = (single d v f p).answer; drive = d; volume = v; fcb = f; buffer = x }) (put_part b (128 * i) 128 fits)

    -- with none done, all is as given
    pub none_done : (k : ℕ) (d : Drive) (v f b : List ℕ) → 128 * k ≤ length b → succeeded (singles single 0 k d v f b).answer ≡ false
        → singles single 0 k d v f b ≡ same_all (singles single 0 k d v f b) d v f b
    unfolding singles
    none_done zero d v f b fits h = refl
    none_done (suc k) d v f b fits h = go (succeeded (on_piece single 0 d v f b).answer) refl
      where
        o : Outcome
        o = on_piece single 0 d v f b

        go : (t : Bool) → succeeded (on_piece single 0 d v f b).answer ≡ t → singles single 0 (suc k) d v f b ≡ same_all (singles single 0 (suc k) d v f b) d v f b
        go true e = absurd (true≢false (sym (past_first k 0 o.drive o.volume o.fcb o.buffer) ∙ (rw e at h)))
        go false e = unfold singles in rw e (ap (λ (x : Outcome). ended 0 (why_of o.answer) x.drive x.volume x.fcb x.buffer) (piece_refused 0 d v f b (omega arith) e))
