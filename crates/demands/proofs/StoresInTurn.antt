-- "A call of (ii) stores as its single calls would": the list of its stores is the lists of its writes, in turn. A write that
-- is refused has none, and so have those that follow it, since what refuses it looks at no byte of the buffer.
use mathlib.Core.Path.{◌≡◌, refl, sym, ap, ◌∙◌}
use mathlib.Core.Bool.{Bool, true, false, cond, true≢false}
use mathlib.Core.List.{List, [], ◌∷◌, ◌++◌}
use Prim.Native.Nat.{ℕ, zero, suc, ◌+◌, ◌*◌, ◌≤◌}
use native.Mathlib.Omega.{arith}
use lib.ListN.{length}
use Rattle.lists.specs.Bytes.{part}
use Rattle.lists.proofs.PartLaws.{length_part}
use Rattle.disk_stores.specs.Stores.{Store}
use Rattle.call_fcb.specs.Fcb.{position}
use Rattle.call_answers.specs.Refusal.{Test, is_none, first_met}
use Rattle.call_answers.specs.Answer.{value_of, succeeded, why_of}
use Rattle.filecalls.specs.declared.Drive.{Drive}
use Rattle.filecalls.specs.Outcome.{Act, Outcome, outcome}
use Rattle.filecalls.specs.Read.{sequential_tests}
use Rattle.filecalls.specs.Write.{write_done, directory_tests, write_sequential_act}
use Rattle.filecalls.specs.Leaves.{write_sequential_leaves}
use Rattle.several.specs.Several.{ended, on_piece, singles}
use Rattle.filecalls.specs.Stores.{sequential_stores}
use Rattle.several.specs.Stores.{singles_stores}
use Rattle.filecalls.specs.CodeLadder.{sequential_lent}
use Rattle.filecalls.proofs.LentLaws.{sequential_lent_lem}
use Rattle.filecalls.proofs.OutcomeLaws as laws
use Rattle.several.proofs.SeveralLaws.{write_refuses}
use Rattle.call_served.specs.Asked.{Asked}
use Rattle.call_served.specs.Calls.{call_of}
use Rattle.bdos.specs.Stores.{transfer_stores, call_stores, stores_of}
use Rattle.demands.specs.Cuts.{after_writes, next_stores, in_turn}
use Rattle.demands.proofs.WritesCut.{stores_unless}
use Rattle.several.proofs.SinglesCutLaws.{piece_buffer}

-- ---- lists
append_none : (a : List Store) → a ++ [] ≡ a
append_none [] = refl
append_none (s ∷ a) = ap {B = List Store} (λ l. s ∷ l) (append_none a)

append_three : (a b c : List Store) → a ++ (b ++ c) ≡ (a ++ b) ++ c
append_three [] b c = refl
append_three (s ∷ a) b c = ap {B = List Store} (λ l. s ∷ l) (append_three a b c)

-- ---- a write that is refused is so whatever its bytes
refused_again : (d : Drive) (v f b b' : List ℕ) → length b ≡ length b' → succeeded (write_sequential_leaves d v f b).answer ≡ false → sequential_stores d v f b' ≡ []
unfolding write_sequential_act
refused_again d v f b b' same fails =
    stores_unless (λ ss. ss ≡ []) (tests b') _ refl (λ h. absurd (true≢false (sym (succeeds (ap (λ ts. is_none (first_met ts)) tests_same ∙ h)) ∙ fails)))
  where
    tests : List ℕ → List Test
    tests r = sequential_tests d v f r ++ directory_tests d v f (position f)

    tests_same : tests b ≡ tests b'
    tests_same =
        ap (λ ts. ts ++ directory_tests d v f (position f))
        (sequential_lent_lem d v f b ∙ ap (sequential_lent d v f) same ∙ sym (sequential_lent_lem d v f b'))

    succeeds : is_none (first_met (tests b)) ≡ true → succeeded (outcome d v f b (write_sequential_act d v f b)).answer ≡ true
    succeeds e = ap (λ (x : Act). succeeded (outcome d v f b x).answer) (laws.does (tests b) _ e) ∙ unfold outcome write_done in refl

-- ---- the first of several writes, by whether it is done
module _ (k i : ℕ) (d : Drive) (v f b : List ℕ) where
  abbrev o : Outcome
  o = on_piece write_sequential_leaves i d v f b

  abbrev first : List Store
  first = sequential_stores d v f (part b (128 * i) 128)

  stores_are : singles_stores i (suc k) d v f b ≡ first ++ cond (succeeded o.answer) (singles_stores (suc i) k o.drive o.volume o.fcb o.buffer) []
  unfolding singles_stores
  stores_are = refl

  left_are : singles write_sequential_leaves i (suc k) d v f b
      ≡ cond (succeeded o.answer) (singles write_sequential_leaves (suc i) k o.drive o.volume o.fcb o.buffer)
      (ended i (why_of o.answer) o.drive o.volume o.fcb o.buffer)
  unfolding singles
  left_are = refl

  stores_done : succeeded o.answer ≡ true → singles_stores i (suc k) d v f b ≡ first ++ singles_stores (suc i) k o.drive o.volume o.fcb o.buffer
  stores_done e = stores_are ∙ ap (λ (s : Bool). first ++ cond s (singles_stores (suc i) k o.drive o.volume o.fcb o.buffer) []) e

  left_done : succeeded o.answer ≡ true
      → singles write_sequential_leaves i (suc k) d v f b ≡ singles write_sequential_leaves (suc i) k o.drive o.volume o.fcb o.buffer
  left_done e =
      left_are
      ∙ ap (λ (s : Bool). cond s (singles write_sequential_leaves (suc i) k o.drive o.volume o.fcb o.buffer)
      (ended i (why_of o.answer) o.drive o.volume o.fcb o.buffer)) e

  stores_refused : succeeded o.answer ≡ false → singles_stores i (suc k) d v f b ≡ []
  unfolding on_piece
  stores_refused e =
      stores_are ∙ ap (λ (s : Bool). first ++ cond s (singles_stores (suc i) k o.drive o.volume o.fcb o.buffer) []) e ∙ append_none first
      ∙ refused_again d v f (part b (128 * i) 128) (part b (128 * i) 128) refl e

  -- a write after it is as on what was given
  after_refused : succeeded o.answer ≡ false → (r : List ℕ)
      → (let x : Outcome = singles write_sequential_leaves i (suc k) d v f b in sequential_stores x.drive x.volume x.fcb r ≡ sequential_stores d v f r)
  unfolding on_piece
  after_refused e r =
      ap (λ (x : Outcome). sequential_stores x.drive x.volume x.fcb r)
      (left_are ∙ ap (λ (s : Bool). cond s (singles write_sequential_leaves (suc i) k o.drive o.volume o.fcb o.buffer)
      (ended i (why_of o.answer) o.drive o.volume o.fcb o.buffer)) e)
      ∙ ap (λ (x : Outcome). sequential_stores x.drive x.volume x.fcb r) (write_refuses d v f (part b (128 * i) 128) e)

-- ---- the stores of one write more stand at the end
abbrev stores_after : Outcome → List ℕ → List Store
stores_after x r = sequential_stores x.drive x.volume x.fcb r

abbrev More : ℕ → ℕ → Drive → List ℕ → List ℕ → List ℕ → Type 0
More k i d v f b =
    singles_stores i (suc k) d v f b
    ≡ singles_stores i k d v f b ++ stores_after (singles write_sequential_leaves i k d v f b) (part b (128 * (i + k)) 128)

module _ (k i : ℕ) (d : Drive) (v f b : List ℕ) (fits : 128 * (i + suc (suc k)) ≤ length b) where
  abbrev w : Outcome
  w = on_piece write_sequential_leaves i d v f b

  pieces : w.buffer ≡ b
  pieces = piece_buffer i d v f b (omega arith)

  more_done : succeeded w.answer ≡ true → More k (suc i) w.drive w.volume w.fcb w.buffer → More (suc k) i d v f b
  more_done e ih =
      let z : suc i + k ≡ i + suc k = omega arith in
      let before = singles_stores i (suc k) d v f b in
      let rest = singles_stores (suc i) k w.drive w.volume w.fcb w.buffer in
      let x : Outcome = singles write_sequential_leaves (suc i) k w.drive w.volume w.fcb w.buffer in
      let piece : part w.buffer (128 * (suc i + k)) 128 ≡ part b (128 * (i + suc k)) 128
      = ap (λ (l : List ℕ). part l (128 * (suc i + k)) 128) pieces ∙ ap (λ (n : ℕ). part b (128 * n) 128) z in
      stores_done (suc k) i d v f b e
      ∙ ap (λ (l : List Store). first k i d v f b ++ l) ih
      ∙ append_three (first k i d v f b) rest (stores_after x (part w.buffer (128 * (suc i + k)) 128))
      ∙ ap (λ (l : List Store). l ++ stores_after x (part w.buffer (128 * (suc i + k)) 128)) (sym (stores_done k i d v f b e))
      ∙ ap (λ (y : Outcome). before ++ stores_after y (part w.buffer (128 * (suc i + k)) 128)) (sym (left_done k i d v f b e))
      ∙ ap (λ (r : List ℕ). before ++ stores_after (singles write_sequential_leaves i (suc k) d v f b) r) piece

  more_refused : succeeded w.answer ≡ false → More (suc k) i d v f b
  unfolding on_piece
  more_refused e =
      let last = part b (128 * (i + suc k)) 128 in
      let same : length (part b (128 * i) 128) ≡ length last
      = length_part b (128 * i) 128 (omega arith) ∙ sym (length_part b (128 * (i + suc k)) 128 (omega arith)) in
      stores_refused (suc k) i d v f b e
      ∙ sym (ap (λ (l : List Store). l ++ stores_after (singles write_sequential_leaves i (suc k) d v f b) last) (stores_refused k i d v f b e)
      ∙ after_refused k i d v f b e last ∙ refused_again d v f (part b (128 * i) 128) last same e)

more_first : (i : ℕ) (d : Drive) (v f b : List ℕ) → More 0 i d v f b
unfolding singles_stores singles on_piece
more_first i d v f b = let z : i + 0 ≡ i = omega arith in rw z (go (succeeded (write_sequential_leaves d v f (part b (128 * i) 128)).answer))
  where
    go : (s : Bool) → sequential_stores d v f (part b (128 * i) 128) ++ cond s [] [] ≡ sequential_stores d v f (part b (128 * i) 128)
    go true = append_none _
    go false = append_none _

pub singles_more : (k i : ℕ) (d : Drive) (v f b : List ℕ) → 128 * (i + suc k) ≤ length b → More k i d v f b
singles_more zero i d v f b fits = more_first i d v f b
singles_more (suc k) i d v f b fits =
    let o = on_piece write_sequential_leaves i d v f b in
    let same = pieces k i d v f b fits in
    go (succeeded o.answer) refl (singles_more k (suc i) o.drive o.volume o.fcb o.buffer (rw same (omega arith)))
  where
    go : (s : Bool) → (let o : Outcome = on_piece write_sequential_leaves i d v f b in
        succeeded o.answer ≡ s → More k (suc i) o.drive o.volume o.fcb o.buffer → More (suc k) i d v f b)
    go true e ih = more_done k i d v f b fits e ih
    go false e ih = more_refused k i d v f b fits e

-- ---- so the list is that of the statement
module _ (c : Asked) (d : Drive) (v : List ℕ) where
  next_are : (j : ℕ) → next_stores stores_of c j d v ≡ stores_after (after_writes c j d v) (part c.buffer (128 * (0 + j)) 128)
  unfolding call_of call_stores transfer_stores
  next_are j = let z : 0 + j ≡ j = omega arith in rw z

  turn_more : (j : ℕ) → in_turn stores_of c (suc j) d v ≡ in_turn stores_of c j d v ++ next_stores stores_of c j d v
  unfolding in_turn
  turn_more j = refl

  turn_none : in_turn stores_of c 0 d v ≡ singles_stores 0 0 d v c.fcb c.buffer
  unfolding in_turn singles_stores
  turn_none = refl

  pub turns_are : (j : ℕ) → 128 * j ≤ length c.buffer → in_turn stores_of c j d v ≡ singles_stores 0 j d v c.fcb c.buffer
  turns_are zero fits = turn_none
  turns_are (suc j) fits =
      turn_more j
      ∙ ap (λ (l : List Store). l ++ next_stores stores_of c j d v) (turns_are j (omega arith))
      ∙ ap (λ (l : List Store). singles_stores 0 j d v c.fcb c.buffer ++ l) (next_are j)
      ∙ sym (singles_more j 0 d v c.fcb c.buffer (omega arith))

-- ---- how many were done
-- the first is, where the answer tells it of all
first_done : (j i : ℕ) (s : Bool) (x y : Outcome) → value_of y.answer ≡ i → value_of (cond s x y).answer ≡ i + suc j → s ≡ true
first_done j i true x y a b = refl
first_done j i false x y a b = absurd (omega arith)

pub told_done_lem : (j i : ℕ) (d : Drive) (v f b : List ℕ) → value_of (singles write_sequential_leaves i (suc j) d v f b).answer ≡ i + suc j
    → (let o : Outcome = on_piece write_sequential_leaves i d v f b in
    (succeeded o.answer ≡ true) × (value_of (singles write_sequential_leaves (suc i) j o.drive o.volume o.fcb o.buffer).answer ≡ suc i + j))
told_done_lem j i d v f b e =
    let z : i + suc j ≡ suc i + j = omega arith in
    let ok = first_done j i (succeeded (on_piece write_sequential_leaves i d v f b).answer) _ _ refl (sym (ap (λ (x : Outcome). value_of x.answer) (left_are j i d v f b)) ∙ e) in
    (ok, sym (ap (λ (x : Outcome). value_of x.answer) (left_done j i d v f b ok)) ∙ e ∙ z)
