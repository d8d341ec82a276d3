-- What a record leaves that is read and written again with its first two bytes changed: its bytes are those that the write of the
-- record finds, and they are as many as a buffer has.
use mathlib.Core.Path.{◌≡◌, refl, sym, ap, ◌∙◌}
use mathlib.Core.Bool.{Bool, true, false, not, cond}
use mathlib.Core.List.{List}
use Prim.Native.Nat.{ℕ, ◌%◌}
use lib.ListN.{length, set, replicate, length-set}
use Rattle.disk_volume.specs.Name.{name_of}
use Rattle.call_fcb.specs.Fcb.{random}
use Rattle.call_answers.specs.declared.Refusal.{Refusal}
use Rattle.call_answers.specs.declared.Refusal.TheVariants.{NoGroup}
use Rattle.call_answers.specs.declared.Answer.TheVariants.{Refused}
use Rattle.call_answers.specs.Refusal.{Test, is_none, first_met}
use Rattle.call_read.specs.Read.{read_tests, read_bytes}
use Rattle.call_write.specs.Rewrite.{with_first_two, shown_bytes}
use Rattle.call_write.proofs.DecidedLaws.{length_shown}
use Rattle.filecalls.specs.declared.Drive.{Drive}
use Rattle.filecalls.specs.declared.Reply.{Reply}
use Rattle.filecalls.specs.Outcome.{deny, unless, outcome}
use Rattle.filecalls.specs.Leaves.{read_random_leaves}
use Rattle.filecalls.specs.Read.{random_tests, read_done, read_random_act}
use Rattle.filecalls.specs.Write.{directory_tests, write_done, write_direct_act}
use Rattle.filecalls.specs.Stores.{cut_outcome, cut_left}
use Rattle.filecalls.specs.Rewrite.{rewritten_bytes}
use Rattle.filecalls.specs.CodeReady.{Lent}
use Rattle.filecalls.specs.CodeLadder.{named_tests, random_lent}
use Rattle.filecalls.proofs.StateLaws.{both_clear, named_clear}
use Rattle.filecalls.proofs.OutcomeLaws.{stops, passes}
use Rattle.filecalls.proofs.CutLaws.{cut_refused_at}
use Rattle.filecalls.proofs.LentLaws.{random_lent_lem}

module _ (d : Drive) (v f : List ℕ) where
  abbrev zeros : List ℕ
  zeros = replicate 128 0

  -- the tests of the directory
  abbrev reads : List Test
  reads = read_tests d.geometry v d.user (name_of f) (random f) NoGroup

  -- the read of it, refused by what is lent, and by the directory or not
  unshown : is_none (first_met (random_lent d v f 128)) ≡ false → (read_random_leaves d v f zeros).buffer ≡ zeros
  unfolding read_random_act outcome
  unshown no_read =
      let e : is_none (first_met (random_tests d v f zeros)) ≡ false = rw (random_lent_lem d v f zeros) no_read in
      rw (stops (random_tests d v f zeros) reads (read_done d v f (random f) (random f % 128)) e)

  by_tests : (outcome d v f zeros (unless reads (read_done d v f (random f) (random f % 128)))).buffer ≡ shown_bytes d.geometry v d.user (name_of f) (random f)
  unfolding unless outcome read_done shown_bytes
  by_tests = go (is_none (first_met reads))
    where
      go : (t : Bool) → (outcome d v f zeros (cond t (read_done d v f (random f) (random f % 128)) (deny (first_met reads)))).buffer
          ≡ cond t (read_bytes d.geometry v d.user (name_of f) (random f)) zeros
      go true = refl
      go false = refl

  pub shown_random : is_none (first_met (random_lent d v f 128)) ≡ true
      → (read_random_leaves d v f zeros).buffer ≡ shown_bytes d.geometry v d.user (name_of f) (random f)
  unfolding read_random_act
  shown_random none =
      let e : is_none (first_met (random_tests d v f zeros)) ≡ true = rw (random_lent_lem d v f zeros) none in
      rw (passes (random_tests d v f zeros) reads (read_done d v f (random f) (random f % 128)) e) by_tests

  read_length : length (read_random_leaves d v f zeros).buffer ≡ 128
  unfolding random_lent
  read_length = go (is_none (first_met (random_lent d v f 128))) refl
    where
      go : (t : Bool) → is_none (first_met (random_lent d v f 128)) ≡ t → length (read_random_leaves d v f zeros).buffer ≡ 128
      go true none =
          let l : Lent d (length v) (length f) 128 = named_clear d v f 128 false (both_clear (named_tests d v f 128 false) _ none).0 in
          ap length (shown_random none) ∙ length_shown d.geometry v d.user (name_of f) (random f) l.state.law l.volume
      go false met = ap length (unshown met)

  module _ (low high most : ℕ) where
    abbrev bytes : List ℕ
    bytes = rewritten_bytes d v f low high

    rewritten_length : length bytes ≡ 128
    unfolding rewritten_bytes
    rewritten_length =
        let r = (read_random_leaves d v f zeros).buffer in
        length-set (set r 0 low) 1 high ∙ length-set r 0 low ∙ read_length

    tests_are : random_tests d v f bytes ≡ random_lent d v f 128
    tests_are = random_lent_lem d v f bytes ∙ ap (random_lent d v f) rewritten_length

    -- what is lent is refused
    pub rewrite_refused : {why : Refusal} {r : Reply} {t : Bool} → why ≡ first_met (random_lent d v f 128) → t ≡ is_none why → not t ≡ true
        → r ≡ record { answer = Refused why; drive = d } → cut_left r v f bytes most ≡ cut_outcome most d v f bytes (write_direct_act false d v f bytes)
    rewrite_refused e i h p = cut_refused_at d v f bytes most (random_tests d v f bytes) _ _ (e ∙ ap first_met (sym tests_are)) i h p

    module _ (none : is_none (first_met (random_lent d v f 128)) ≡ true) where
      lent_passed : is_none (first_met (random_tests d v f bytes)) ≡ true
      lent_passed = rw tests_are none

      -- record n, which r0 r1 hold, is written with its first two bytes changed
      pub rewrite_done : {s : Reply} {v' f' : List ℕ} {n left : ℕ} → n ≡ random f
          → (let b = with_first_two low high (shown_bytes d.geometry v d.user (name_of f) n) in
          cut_left s v' f' b left ≡ cut_outcome most d v f b (unless (directory_tests d v f n) (write_done d v f n (n % 128) false b)))
          → cut_left s v' f' bytes left ≡ cut_outcome most d v f bytes (write_direct_act false d v f bytes)
      unfolding rewritten_bytes
      rewrite_done {s} {v'} {f'} {n} {left} e w =
          let b : with_first_two low high (shown_bytes d.geometry v d.user (name_of f) n) ≡ bytes =
          ap (λ (k : ℕ). with_first_two low high (shown_bytes d.geometry v d.user (name_of f) k)) e ∙ ap (λ (r : List ℕ). with_first_two low high r) (sym (shown_random none)) in
          let w' : cut_left s v' f' bytes left ≡ cut_outcome most d v f bytes (unless (directory_tests d v f n) (write_done d v f n (n % 128) false bytes)) = rw b at w in
          w'
          ∙ ap (cut_outcome most d v f bytes) (ap (λ (k : ℕ). unless (directory_tests d v f k) (write_done d v f k (k % 128) false bytes)) e ∙ sym (passes (random_tests d v f bytes) _ _ lent_passed))
