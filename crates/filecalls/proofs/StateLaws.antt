-- What an open state tells, and what the tests of lent lengths tell where they do not refuse.
use mathlib.Core.Path.{◌≡◌, refl, sym, ap, ◌∙◌}
use mathlib.Core.Bool.{Bool, true, false, not, ◌&&◌, false≢true}
use mathlib.Core.List.{List, [], ◌∷◌, ◌++◌}
use Prim.Native.Nat.{ℕ}
use lib.Dec.{leb, eqb}
use lib.ListN.{length}
use borrow.Author.Tests.{not-false, eqb-true, leb-true}
use Rattle.lists.proofs.BoolLaws.{and_parts}
use Rattle.disk_geometry.specs.Geometry.{lawful, bytes}
use Rattle.call_answers.specs.declared.Refusal.{Refusal}
use Rattle.call_answers.specs.declared.Refusal.TheVariants.{Closed, VolumeLength, FcbLength, BufferLength}
use Rattle.call_answers.specs.Refusal.{Test, is_none, first_met}
use Rattle.call_answers.proofs.Ladder.{ladder_stop, ladder_pass, unmet}
use Rattle.filecalls.specs.declared.Drive.{Drive}
use Rattle.filecalls.specs.State.{is_open}
use Rattle.filecalls.specs.Tests.{drive_code, bad_name}
use Rattle.filecalls.specs.CodeReady.{OpenState, Lent}
use Rattle.filecalls.specs.CodeLadder.{lent_tests, named_tests, plain_tests}

pub is_open_lem : (d : Drive) → is_open d ≡ true → OpenState d
unfolding is_open
is_open_lem d e =
    let p = and_parts (lawful d.geometry && leb d.user 15) _ e in
    let q = and_parts (lawful d.geometry) _ p.0 in
    record { law = q.0; user15 = leb-true _ _ q.1; kept = p.1 }

same_length : (a b : ℕ) → not (eqb a b) ≡ false → a ≡ b
same_length a b e = eqb-true a b (not-false (eqb a b) e)

pub lent_clear : (d : Drive) (v f b : ℕ) → is_none (first_met (lent_tests d v f b)) ≡ true → Lent d v f b
unfolding lent_tests
lent_clear d v f b e =
    let s = unmet Closed _ _ refl e in
    let x = unmet VolumeLength _ _ refl s.1 in
    let y = unmet FcbLength _ _ refl x.1 in
    let z = unmet BufferLength _ _ refl y.1 in
    record {
      state = is_open_lem d (not-false (is_open d) s.0);
      volume = same_length v (bytes d.geometry) x.0;
      fcb = same_length f 36 y.0;
      buffer = same_length b 128 z.0;
    }

-- neither of two groups of tests refuses where both together do not
pub both_clear : (xs ys : List Test) → is_none (first_met (xs ++ ys)) ≡ true → (is_none (first_met xs) ≡ true) × (is_none (first_met ys) ≡ true)
both_clear xs ys e = go (is_none (first_met xs)) refl
  where
    go : (t : Bool) → is_none (first_met xs) ≡ t → (is_none (first_met xs) ≡ true) × (is_none (first_met ys) ≡ true)
    go true h = (h, ap is_none (sym (ladder_pass xs ys h)) ∙ e)
    go false h = absurd (false≢true (sym h ∙ ap is_none (sym (ladder_stop xs ys h)) ∙ e))

pub named_clear : (d : Drive) (v f : List ℕ) (b : ℕ) (p : Bool) → is_none (first_met (named_tests d v f b p)) ≡ true → Lent d (length v) (length f) b
unfolding named_tests lent_tests
named_clear d v f b p e =
    lent_clear d (length v) (length f) b (both_clear (lent_tests d (length v) (length f) b) (drive_code f ∷ bad_name p f 1 ∷ []) e).0

-- a call that is lent no buffer passes the right length for one
pub no_buffer : (d : Drive) (v f : List ℕ) (p : Bool) → first_met (named_tests d v f 128 p) ≡ first_met (plain_tests d v f p)
unfolding named_tests first_met
no_buffer d v f p = refl

-- what code knows once `named_why` has not refused a call without a buffer
pub record Named (d : Drive) (v f : List ℕ) (p : Bool) : Type 0 where
  pub none : is_none (first_met (plain_tests d v f p)) ≡ true
  pub lent : Lent d (length v) (length f) 128

pub named : (d : Drive) (v f : List ℕ) (p : Bool) {why : Refusal} {t : Bool} → why ≡ first_met (named_tests d v f 128 p) → t ≡ is_none why → not t ≡ false
    → Named d v f p
named d v f p {why} {t} e i h =
    let n : is_none (first_met (named_tests d v f 128 p)) ≡ true = ap is_none (sym e) ∙ sym i ∙ not-false t h in
    record { none = sym (ap is_none (no_buffer d v f p)) ∙ n; lent = named_clear d v f 128 p n }
