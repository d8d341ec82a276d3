-- A call of several records answers by its tests: where one is met, of those of what is lent or of its first record, none is
-- done and its number is that test's; where none is met one is done, and its number is 0 or one of the single call's.
use mathlib.Core.Path.{◌≡◌, refl, sym, ap, ◌∙◌}
use mathlib.Core.Bool.{Bool, true, false, ◌||◌, true≢false}
use mathlib.Core.List.{List, [], ◌∷◌, ◌++◌}
use Prim.Native.Nat.{ℕ, ◌*◌}
use native.Mathlib.Omega.{arith}
use lib.Dec.{ltb, eqb}
use lib.ListN.{length, drop}
use borrow.Author.Tests.{eq-eqb}
use Rattle.lists.specs.Bytes.{part}
use Rattle.lists.proofs.PartLaws.{length_part}
use Rattle.disk_geometry.specs.Geometry.{bytes}
use Rattle.disk_volume.specs.Name.{name_of}
use Rattle.call_fcb.specs.Fcb.{position}
use Rattle.call_answers.specs.declared.Refusal.TheVariants.{Absent}
use Rattle.call_answers.specs.declared.Answer.{Answer}
use Rattle.call_answers.specs.declared.Answer.TheVariants.{Refused, Several}
use Rattle.call_answers.specs.Refusal.{Test, refusal_number, is_none, first_met}
use Rattle.call_answers.specs.Answer.{number_of, succeeded, why_of}
use Rattle.call_answers.proofs.Ladder.{ladder_stop, ladder_pass}
use Rattle.call_read.specs.Read.{read_tests}
use Rattle.call_decide.specs.Write.{write_tests}
use Rattle.filecalls.specs.Leaves.{read_sequential_leaves, write_sequential_leaves}
use Rattle.filecalls.specs.declared.Drive.{Drive}
use Rattle.filecalls.specs.Tests.{closed_state, volume_length, fcb_length, buffer_length}
use Rattle.filecalls.specs.Outcome.{Outcome, unless, outcome}
use Rattle.filecalls.specs.Read.{sequential_tests, read_done, read_sequential_act}
use Rattle.filecalls.specs.Write.{directory_tests, write_done, write_sequential_act}
use Rattle.several.specs.Several.{Single, on_piece, several, several_tests}
use Rattle.several.proofs.SinglesLaws.{piece_answer, first_refused, first_done, stop_number}
use Rattle.several.proofs.SeveralLaws.{several_refused, several_passed}
use Rattle.several.proofs.SeveralLent.{LentPieces, lent_pieces}
use Rattle.call_served.specs.declared.Call.TheVariants.{Moves}
use Rattle.call_served.specs.declared.Transfer.TheVariants.{ReadSequential, WriteSequential, ReadSeveral, WriteSeveral}
use Rattle.demands.specs.Order.{numbers_of, reasons, fcb_tests, refusals_of, among, answers_of}
use Rattle.demands.proofs.Says.{Says, number_among}

-- ---- what is lent is right, so the single call's tests of it pass
module _ (d : Drive) (v f b : List ℕ) (k : ℕ) (l : LentPieces d v f b k) where
  lent_passes : (r : List ℕ) → length r ≡ 128 → is_none (first_met (closed_state d ∷ volume_length d v ∷ fcb_length f ∷ buffer_length r ∷ [])) ≡ true
  unfolding first_met
  lent_passes r r128 = rw (l.opens, eq-eqb (length v) (bytes d.geometry) l.volume, eq-eqb (length f) 36 l.fcb, eq-eqb (length r) 128 r128)

  first_piece : length (part b (128 * 0) 128) ≡ 128
  first_piece = length_part b (128 * 0) 128 (omega (arith, l.buffer, l.least))

  tests_left : (ts : List Test) → first_met (sequential_tests d v f (part b (128 * 0) 128) ++ ts) ≡ first_met (fcb_tests f ++ ts)
  unfolding sequential_tests
  tests_left ts =
      ladder_pass (closed_state d ∷ volume_length d v ∷ fcb_length f ∷ buffer_length (part b (128 * 0) 128) ∷ []) (fcb_tests f ++ ts)
      (lent_passes (part b (128 * 0) 128) first_piece)

-- ---- a single call by its tests
record Single-says (single : Single) (tests : Drive → List ℕ → List ℕ → List Test) : Type 0 where
  refused : (d : Drive) (v f r : List ℕ) → is_none (first_met (sequential_tests d v f r ++ tests d v f)) ≡ false
      → (single d v f r).answer ≡ Refused (first_met (sequential_tests d v f r ++ tests d v f))
  done : (d : Drive) (v f r : List ℕ) → is_none (first_met (sequential_tests d v f r ++ tests d v f)) ≡ true → succeeded (single d v f r).answer ≡ true

abbrev read_rest : Drive → List ℕ → List ℕ → List Test
read_rest d v f = read_tests d.geometry v d.user (name_of f) (position f) Absent

abbrev write_rest : Drive → List ℕ → List ℕ → List Test
write_rest d v f = directory_tests d v f (position f)

read_single : Single-says read_sequential_leaves read_rest
unfolding read_sequential_act read_done outcome unless
read_single = record { refused = λ d v f r e. rw e; done = λ d v f r e. rw e }

write_single : Single-says write_sequential_leaves write_rest
unfolding write_sequential_act write_done outcome unless
write_single = record { refused = λ d v f r e. rw e; done = λ d v f r e. rw e }

-- ---- several of them
module _ (single : Single) (tests : Drive → List ℕ → List ℕ → List Test) (one : Single-says single tests) where
  module _ (d : Drive) (v f b : List ℕ) (k : ℕ) where
    abbrev all : List Test
    all = several_tests d v f b k ++ (fcb_tests f ++ tests d v f)

    abbrev of_first : List Test
    of_first = sequential_tests d v f (part b (128 * 0) 128) ++ tests d v f

    -- where the tests of what is lent pass, those of the first record are the single call's
    first_tests_lem : is_none (first_met (several_tests d v f b k)) ≡ true → first_met all ≡ first_met of_first
    first_tests_lem h = ladder_pass (several_tests d v f b k) (fcb_tests f ++ tests d v f) h ∙ sym (tests_left d v f b k (lent_pieces d v f b k h) (tests d v f))

    none_done : is_none (first_met all) ≡ false → (several single d v f b k).answer ≡ Several 0 (first_met all)
    none_done e = go (is_none (first_met (several_tests d v f b k))) refl
      where
        go : (t : Bool) → is_none (first_met (several_tests d v f b k)) ≡ t → (several single d v f b k).answer ≡ Several 0 (first_met all)
        go false h =
            ap (λ (o : Outcome). o.answer) (several_refused single d v f b k h)
            ∙ ap (Several 0) (sym (ladder_stop (several_tests d v f b k) (fcb_tests f ++ tests d v f) h))
        go true h =
            let a : (on_piece single 0 d v f b).answer ≡ Refused (first_met of_first)
            = piece_answer single 0 d v f b ∙ one.refused d v f (part b (128 * 0) 128) (sym (ap is_none (first_tests_lem h)) ∙ e) in
            ap (λ (o : Outcome). o.answer) (several_passed single d v f b k h)
            ∙ first_refused single k d v f b (lent_pieces d v f b k h).least (ap succeeded a)
            ∙ ap (λ (x : Answer). Several 0 (why_of x)) a ∙ ap (Several 0) (sym (first_tests_lem h))

    passed : is_none (first_met all) ≡ true → is_none (first_met (several_tests d v f b k)) ≡ true
    passed e = go (is_none (first_met (several_tests d v f b k))) refl
      where
        go : (t : Bool) → is_none (first_met (several_tests d v f b k)) ≡ t → is_none (first_met (several_tests d v f b k)) ≡ true
        go true h = h
        go false h = absurd (true≢false (sym e ∙ ap is_none (ladder_stop (several_tests d v f b k) (fcb_tests f ++ tests d v f) h) ∙ h))

    some_done_lem : is_none (first_met all) ≡ true → succeeded (several single d v f b k).answer ≡ true
    some_done_lem e =
        let h = passed e in
        let a = one.done d v f (part b (128 * 0) 128) (sym (ap is_none (first_tests_lem h)) ∙ e) in
        ap (λ (o : Outcome). succeeded o.answer) (several_passed single d v f b k h)
        ∙ first_done single k d v f b (lent_pieces d v f b k h).least (ap succeeded (piece_answer single 0 d v f b) ∙ a)

  -- ---- the number that stops it
  module _ (ok : ℕ → Bool) (none : ok 0 ≡ true)
      (within : (d : Drive) (v f r : List ℕ) (n : ℕ) → among n (numbers_of (reasons (sequential_tests d v f r ++ tests d v f))) ≡ true → ok n ≡ true) where
    one_number : (d : Drive) (v f r : List ℕ) → succeeded (single d v f r).answer ≡ false → ok (number_of (single d v f r).answer) ≡ true
    one_number d v f r h = go (is_none (first_met (sequential_tests d v f r ++ tests d v f))) refl
      where
        go : (t : Bool) → is_none (first_met (sequential_tests d v f r ++ tests d v f)) ≡ t → ok (number_of (single d v f r).answer) ≡ true
        go true e = absurd (true≢false (sym (one.done d v f r e) ∙ h))
        go false e =
            ap (λ (a : Answer). ok (number_of a)) (one.refused d v f r e)
            ∙ within d v f r (refusal_number (first_met (sequential_tests d v f r ++ tests d v f))) (number_among (sequential_tests d v f r ++ tests d v f) e)

    several_says : (d : Drive) (v f b : List ℕ) (k : ℕ) → Says (several single d v f b k).answer (all d v f b k) ok
    several_says d v f b k = record {
      met = λ e. rw (none_done d v f b k e) (refl, refl);
      none = λ e. (
        some_done_lem d v f b k e,
        ap (λ (o : Outcome). ok (number_of o.answer)) (several_passed single d v f b k (passed d v f b k e)) ∙ stop_number single ok none one_number k 0 d v f b,
      );
    }

-- ---- the two calls: their refusals are the single call's and 46
one_more : (a b c d e x : Bool) → (b || (c || (d || x))) ≡ true → (a || (b || (c || (d || (e || x))))) ≡ true
one_more true b c d e x h = refl
one_more false true c d e x h = refl
one_more false false true d e x h = refl
one_more false false false true e x h = refl
one_more false false false false true x h = refl
one_more false false false false false x h = h

pub read_says : (d : Drive) (v f b : List ℕ) (k : ℕ) → Says (several read_sequential_leaves d v f b k).answer (several_tests d v f b k ++ (fcb_tests f ++ read_rest d v f)) (answers_of (Moves ReadSeveral))
unfolding sequential_tests read_tests
read_says = several_says read_sequential_leaves read_rest read_single (answers_of (Moves ReadSeveral)) refl
    (λ d v f r n h. one_more (ltb n 1) (eqb n 32) (eqb n 33) (eqb n 34) (eqb n 46) (among n (numbers_of (drop 3 (refusals_of (Moves ReadSequential))))) h)

pub write_says : (d : Drive) (v f b : List ℕ) (k : ℕ) → Says (several write_sequential_leaves d v f b k).answer (several_tests d v f b k ++ (fcb_tests f ++ write_rest d v f)) (answers_of (Moves WriteSeveral))
unfolding sequential_tests write_tests
write_says = several_says write_sequential_leaves write_rest write_single (answers_of (Moves WriteSeveral)) refl
    (λ d v f r n h. one_more (ltb n 1) (eqb n 32) (eqb n 33) (eqb n 34) (eqb n 46) (among n (numbers_of (drop 3 (refusals_of (Moves WriteSequential))))) h)
