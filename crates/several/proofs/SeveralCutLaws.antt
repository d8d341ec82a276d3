-- Several writes whose stores are cut, by the tests of what is lent; and how many stores are enough for them.
use mathlib.Core.Path.{◌≡◌, refl, sym, ap, ◌∙◌}
use mathlib.Core.Bool.{Bool, true, false, not, cond}
use mathlib.Core.List.{List, []}
use Prim.Native.Nat.{ℕ, zero, suc, ◌+◌, ◌*◌, ◌≤◌}
use native.Mathlib.Omega.{arith}
use lib.ListN.{length, length-append}
use Rattle.disk_stores.specs.Stores.{Store, cut}
use Rattle.disk_stores.proofs.CodeLaws.{cut_none}
use Rattle.call_answers.specs.declared.Refusal.{Refusal}
use Rattle.call_answers.specs.declared.Answer.TheVariants.{Several}
use Rattle.call_answers.specs.Refusal.{is_none, first_met}
use Rattle.call_answers.specs.Answer.{succeeded}
use Rattle.filecalls.specs.declared.Drive.{Drive}
use Rattle.filecalls.specs.declared.Reply.{Reply}
use Rattle.filecalls.specs.Outcome.{Outcome}
use Rattle.filecalls.specs.Leaves.{write_sequential_leaves}
use Rattle.several.specs.Several.{several_tests, piece_at, on_piece, several}
use Rattle.filecalls.specs.Stores.{Cut, cut_left, sequential_stores}
use Rattle.several.specs.Stores.{singles_stores, several_stores, SeveralCut}
use Rattle.several.specs.CodeCut.{SinglesCut}
use Rattle.filecalls.proofs.OutcomeLaws.{refuses}
use Rattle.filecalls.proofs.EnoughLaws.{sequential_most}
use Rattle.several.proofs.SeveralLaws.{several_refused, several_passed}
use Rattle.several.proofs.SeveralLent.{lent_pieces}

module _ (d : Drive) (v f b : List ℕ) (k most : ℕ) where
  stores_refused : is_none (first_met (several_tests d v f b k)) ≡ false → several_stores d v f b k ≡ []
  unfolding several_stores
  stores_refused e = rw e

  stores_passed : is_none (first_met (several_tests d v f b k)) ≡ true → several_stores d v f b k ≡ singles_stores 0 k d v f b
  unfolding several_stores
  stores_passed e = rw e

  -- the tests of what is lent refuse, as code learns it
  pub several_cut_refused : {why : Refusal} {t : Bool} {r : Reply} → why ≡ first_met (several_tests d v f b k) → t ≡ is_none why → not t ≡ true
      → r ≡ record { answer = Several 0 why; drive = d } → SeveralCut most d v f b k (cut_left r v f b most)
  several_cut_refused {why} {t} {r} e i h q =
      let no = refuses (several_tests d v f b k) e i h in
      let none = stores_refused no in
      let call = several_refused write_sequential_leaves d v f b k no in
      let is : (cut_left r v f b most).outcome ≡ several write_sequential_leaves d v f b k = rw (q, e) (sym call) in
      record {
        volume_is = sym (ap (cut d.geometry v most) none ∙ cut_none d.geometry v most);
        left_is = rw none (omega arith);
        refused_is = rw (← is);
        whole = λ w. is;
      }

  -- they pass, and the single writes decide
  pub several_cut_passed : {c : Cut} → is_none (first_met (several_tests d v f b k)) ≡ true → SinglesCut most d v f b k c → SeveralCut most d v f b k c
  several_cut_passed passed x =
      let some = stores_passed passed in
      let call = several_passed write_sequential_leaves d v f b k passed in
      record {
        volume_is = rw some x.volume_is;
        left_is = rw some x.left_is;
        refused_is = rw call x.refused_is;
        whole = λ w. rw call (x.whole (rw some at w));
      }

-- 33 stores for each of at most 16 writes
singles_most : (k i : ℕ) (d : Drive) (v f b : List ℕ) → length (singles_stores i k d v f b) ≤ 33 * k
unfolding singles_stores
singles_most zero i d v f b = omega arith
singles_most (suc k) i d v f b =
    let o : Outcome = on_piece write_sequential_leaves i d v f b in
    let rest = singles_stores (suc i) k o.drive o.volume o.fcb o.buffer in
    let one = sequential_most d v f (piece_at b i) in
    let more = singles_most k (suc i) o.drive o.volume o.fcb o.buffer in
    rw (length-append (sequential_stores d v f (piece_at b i)) (cond (succeeded o.answer) rest [])) (go (succeeded o.answer) rest one more)
  where
    go : (t : Bool) (rest : List Store) {a : ℕ} → a ≤ 33 → length rest ≤ 33 * k → a + length (cond t rest []) ≤ 33 * suc k
    go true rest h l = omega arith
    go false rest h l = omega arith

pub several_enough : (d : Drive) (v f b : List ℕ) (k : ℕ) → length (several_stores d v f b k) ≤ 528
unfolding several_stores
several_enough d v f b k = go (is_none (first_met (several_tests d v f b k))) refl
  where
    go : (t : Bool) → is_none (first_met (several_tests d v f b k)) ≡ t → length (cond t (singles_stores 0 k d v f b) []) ≤ 528
    go true h = omega (arith, singles_most k 0 d v f b, (lent_pieces d v f b k h).most)
    go false h = omega arith
