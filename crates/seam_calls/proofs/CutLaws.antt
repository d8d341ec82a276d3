-- No call makes more stores than 528, so that their number fits into 16 bits; and what a cut leaves at the seam.
use mathlib.Core.Path.{◌≡◌, refl, sym, ap, ap₂, ◌∙◌}
use mathlib.Core.List.{List}
use mathlib.Core.Bool.{Bool, true, false, not}
use Prim.Native.Nat.{ℕ, ◌+◌, ◌-◌, ◌*◌, ◌≤◌, ◌<◌, min}
use native.Mathlib.Nat.{min-eq_left, min-eq_right}
use native.Mathlib.Omega.{arith}
use lib.Dec.{leb, eqb}
use lib.ListN.{length, replicate}
use borrow.Author.Tests.{not-true, not-false, leb-true, leb-false}
use Rattle.call_answers.specs.declared.Refusal.TheVariants.{Closed}
use Rattle.call_answers.specs.declared.Answer.TheVariants.{Refused}
use Rattle.disk_stores.specs.Stores.{Store, cut}
use Rattle.call_served.specs.Asked.{Asked, asked}
use Rattle.call_served.specs.Calls.{call_of}
use Rattle.filecalls.specs.declared.Drive.{Drive}
use Rattle.filecalls.specs.declared.Front.{Front}
use Rattle.filecalls.specs.CodeFront.{front_of, joined}
use Rattle.filecalls.specs.State.{is_open}
use Rattle.filecalls.specs.Stores.{refused_by}
use Rattle.drive_bytes.specs.Layout.{drive_bytes, blocks_at, decoded}
use Rattle.bdos.specs.Step.{step}
use Rattle.bdos.specs.Stores.{stores_of, cut_volume}
use Rattle.seam_calls.specs.CodeLent.{lent_fcb, lent_buffer}
use Rattle.bdos.proofs.DoorLaws.{call_enough}
use Rattle.seam_calls.proofs.LentLaws.{lent_alike}
use Rattle.seam_words.specs.Answered.{answered}
use Rattle.seam_calls.specs.Seam.{sealed, cut_at_seam}
use Rattle.seam_calls.specs.CodeSeam.{CutOpen}
use Rattle.seam_words.proofs.FrontLaws.{front_open}

pub stores_most : (c : Asked) (d : Drive) (v : List ℕ) → length (stores_of c d v) ≤ 528
stores_most c d v = call_enough (call_of c.function) c.parameter d v c.fcb c.buffer

-- how many were made, by how many are left
pub made : (most n left : ℕ) → left ≡ most - n → most - left ≡ min most n
made most n left e = go (leb most n) refl
  where
    go : (t : Bool) → leb most n ≡ t → most - left ≡ min most n
    go true h = let l = leb-true most n h in let z : most - left ≡ most = omega (arith, e, l) in z ∙ sym (min-eq_left {n = most} {m = n} l)
    go false h = let l : n < most = leb-false most n h in let z : most - left ≡ n = omega (arith, e, l) in z ∙ sym (min-eq_right {n = n} {m = most} (omega (arith, l)))

-- a cut in an open state: how many stores it made, and what is answered
pub made_most : {most : ℕ} {c : Asked} {d : Drive} {v v' : List ℕ} {left refusal : ℕ} → CutOpen most c d v v' left refusal → most - left ≤ 528
made_most {most} {c} {d} {v} x = omega (arith, x.left_is, stores_most c d v)

pub cut_told : {most : ℕ} {c : Asked} {d : Drive} {v v' : List ℕ} {left refusal : ℕ} → CutOpen most c d v v' left refusal
    → refusal + 65536 * (most - left) ≡ refused_by (step d.geometry c d v).answer + 65536 * min most (length (stores_of c d v))
cut_told {most} {c} {d} {v} {v'} {left} {refusal} x = ap₂ (λ (a b : ℕ). a + 65536 * b) x.refused_is (made most (length (stores_of c d v)) left x.left_is)

-- what is not lent on makes no difference
pub lent_open : (n p : ℕ) (f b : List ℕ) {most : ℕ} {d : Drive} {v v' : List ℕ} {left refusal : ℕ}
    → CutOpen most (asked n p (lent_fcb f) (lent_buffer b)) d v v' left refusal → CutOpen most (asked n p f b) d v v' left refusal
unfolding step
lent_open n p f b {most} {d} {v} x =
    let same = lent_alike d.geometry (call_of n) p d v f b in
    record {
      volume_is = x.volume_is ∙ ap (cut d.geometry v most) same.stores_are;
      left_is = x.left_is ∙ ap (λ (l : List Store). most - length l) same.stores_are;
      refused_is = x.refused_is ∙ ap refused_by same.answer_is;
    }

-- the state in the drive's bytes is open, as code learns it of its front w
module _ (s : List ℕ) {w : Front} {t : Bool} (is : w ≡ front_of (decoded s)) (asks : (held : List ℕ) → t ≡ is_open (joined w held)) where
  pub opens_by : not t ≡ false → is_open (decoded s) ≡ true
  opens_by h = sym (front_open (decoded s) is asks) ∙ not-false t h

  shut_by : not t ≡ true → is_open (decoded s) ≡ false
  shut_by h = sym (front_open (decoded s) is asks) ∙ not-true t h

-- what each way through the seam leaves; x: whether the drive has the length that its T asks
module _ (most n p : ℕ) (s v f b : List ℕ) {x : Bool} (has : x ≡ eqb (length s) (drive_bytes (blocks_at s))) where
  pub cut_other_length : {r : ℕ} → not x ≡ true → r ≡ answered (Refused Closed) → sealed r s v f b ≡ cut_at_seam most n p s v f b
  unfolding cut_at_seam
  cut_other_length h e = rw (sym has ∙ not-true x h, e)

  module _ (whole : not x ≡ false) {w : Front} {t : Bool} (is : w ≡ front_of (decoded s)) (asks : (held : List ℕ) → t ≡ is_open (joined w held))
      {s' : List ℕ} (closed : s' ≡ replicate (length s) 0) where
    pub cut_refused : {r : ℕ} → not t ≡ true → r ≡ answered (Refused Closed) → sealed r s' v f b ≡ cut_at_seam most n p s v f b
    unfolding cut_at_seam
    cut_refused h e = rw (closed, sym has ∙ not-false x whole, shut_by s is asks h, e)

    pub cut_done : {r : ℕ} {v' : List ℕ} → not t ≡ false → v' ≡ cut_volume (decoded s).geometry (asked n p f b) (decoded s) v most
        → r ≡ refused_by (step (decoded s).geometry (asked n p f b) (decoded s) v).answer + 65536 * min most (length (stores_of (asked n p f b) (decoded s) v))
        → sealed r s' v' f b ≡ cut_at_seam most n p s v f b
    unfolding cut_at_seam
    cut_done h ev er = rw (closed, ev, er, sym has ∙ not-false x whole, opens_by s is asks h)
