-- A loop over the pieces of several writes, with a number of stores that are left: what is still to be done with what is left
-- gives the whole. Once a write is cut none is left, and what follows stores nothing.
use mathlib.Core.Path.{◌≡◌, refl, sym, ap, ◌∙◌}
use mathlib.Core.Bool.{Bool, true, false, cond}
use mathlib.Core.List.{List, [], ◌++◌}
use Prim.Native.Nat.{ℕ, suc, ◌+◌, ◌-◌, ◌*◌, ◌%◌, ◌≤◌, ◌<◌}
use native.Mathlib.Numerals.{add-one}
use native.Mathlib.Omega.{arith}
use lib.ListN.{length, length-append}
use Rattle.lists.specs.Bytes.{put}
use Rattle.lists.proofs.PartLaws.{put_part}
use Rattle.call_answers.specs.declared.Refusal.TheVariants.{None}
use Rattle.call_answers.specs.declared.Answer.TheVariants as answer
use Rattle.call_answers.specs.Refusal.{is_none, first_met}
use Rattle.call_answers.specs.Answer.{succeeded, why_of}
use Rattle.call_fcb.specs.Fcb.{position}
use Rattle.disk_geometry.specs.declared.Geometry.{Geometry}
use Rattle.disk_stores.specs.Stores.{Store, cut}
use Rattle.disk_stores.proofs.CodeLaws.{cut_none, then_cut, then_left}
use Rattle.filecalls.specs.declared.Drive.{Drive}
use Rattle.filecalls.specs.declared.Reply.{Reply}
use Rattle.filecalls.specs.Outcome.{deny, unless, Outcome, outcome}
use Rattle.filecalls.specs.Read.{sequential_tests}
use Rattle.filecalls.specs.Write.{directory_tests, write_done, write_sequential_act}
use Rattle.filecalls.specs.Leaves.{write_sequential_leaves}
use Rattle.several.specs.Several.{piece_at, ended, on_piece, singles}
use Rattle.filecalls.specs.Stores.{Cut, cut_outcome, cut_left, refused_by, sequential_stores}
use Rattle.several.specs.Stores.{singles_stores}
use Rattle.several.specs.CodeCut.{SinglesCut}
use Rattle.filecalls.proofs.OutcomeLaws.{same_geometry}
use Rattle.filecalls.proofs.CutLaws.{cut_whole, refused_stores}
use Rattle.several.proofs.SinglesLaws.{past_first}

-- a write leaves the buffer as it is lent
write_buffer : (d : Drive) (v f b : List ℕ) → (write_sequential_leaves d v f b).buffer ≡ b
unfolding write_sequential_act write_done outcome unless
write_buffer d v f b = go (is_none (first_met (sequential_tests d v f b ++ directory_tests d v f (position f))))
  where
    go : (t : Bool)
        → (outcome d v f b (cond t (write_done d v f (position f) (position f % 128 + 1) false b) (deny (first_met (sequential_tests d v f b ++ directory_tests d v f (position f)))))).buffer ≡ b
    go true = refl
    go false = refl

-- and so does the single write of a piece
pub piece_buffer : (i : ℕ) (d : Drive) (v f b : List ℕ) → 128 * i + 128 ≤ length b → (on_piece write_sequential_leaves i d v f b).buffer ≡ b
unfolding on_piece
piece_buffer i d v f b h = ap (put b (128 * i) 128) (write_buffer d v f (piece_at b i)) ∙ put_part b (128 * i) 128 h

-- in piece i, with the state, the volume and the control block of then
pub record CutLeft (k : ℕ) (d₀ : Drive) (v₀ f₀ b : List ℕ) (most : ℕ) (d : Drive) (v f : List ℕ) (left i : ℕ) : Type 0 where
  pub geometry_is : d.geometry ≡ d₀.geometry
  pub volume_is : cut d₀.geometry v₀ most (singles_stores 0 k d₀ v₀ f₀ b) ≡ cut d₀.geometry v left (singles_stores i (k - i) d v f b)
  pub left_is : most - length (singles_stores 0 k d₀ v₀ f₀ b) ≡ left - length (singles_stores i (k - i) d v f b)
  pub refused_is : refused_by (singles write_sequential_leaves 0 k d₀ v₀ f₀ b).answer ≡ refused_by (singles write_sequential_leaves i (k - i) d v f b).answer
  pub whole : length (singles_stores 0 k d₀ v₀ f₀ b) ≤ most
      → (singles write_sequential_leaves 0 k d₀ v₀ f₀ b ≡ singles write_sequential_leaves i (k - i) d v f b) × (length (singles_stores i (k - i) d v f b) ≤ left)

pub cut_start : (k : ℕ) (d : Drive) (v f b : List ℕ) (most : ℕ) → CutLeft k d v f b most d v f most 0
cut_start k d v f b most =
    let z : k - 0 ≡ k = omega arith in
    record { geometry_is = refl; volume_is = rw z; left_is = rw z; refused_is = rw z; whole = rw z (λ h. (refl, h)) }

pub cut_end : {k : ℕ} {d₀ : Drive} {v₀ f₀ b : List ℕ} {most : ℕ} {d : Drive} {v f : List ℕ} {left i : ℕ} {r : Reply}
    → CutLeft k d₀ v₀ f₀ b most d v f left i → k ≤ i → r ≡ record { answer = answer.Several i None; drive = d }
    → SinglesCut most d₀ v₀ f₀ b k (cut_left r v f b left)
unfolding singles singles_stores
cut_end {k} {d₀} {v₀} {f₀} {b} {most} {d} {v} {f} {left} {i} x h e =
    let z : k - i ≡ 0 = omega arith in
    rw e (record {
      volume_is = sym (x.volume_is ∙ rw z (cut_none d₀.geometry v left));
      left_is = sym (x.left_is ∙ rw z (omega arith));
      refused_is = sym (x.refused_is ∙ rw z);
      whole = λ q. sym ((x.whole q).0 ∙ rw z);
    })

-- the single write of piece i, by what it left
module _ (d : Drive) (v f b : List ℕ) (left i : ℕ) (fits : 128 * i + 128 ≤ length b) {r : Reply} {v' f' : List ℕ} {left' : ℕ}
    (e : cut_left r v' f' (piece_at b i) left' ≡ cut_outcome left d v f (piece_at b i) (write_sequential_act d v f (piece_at b i))) where
  abbrev S : List Store
  S = sequential_stores d v f (piece_at b i)

  abbrev o : Outcome
  o = on_piece write_sequential_leaves i d v f b

  answer_is : r.answer ≡ o.answer
  unfolding cut_outcome on_piece
  answer_is = ap (λ (c : Cut). c.outcome.answer) e

  drive_is : r.drive ≡ o.drive
  unfolding cut_outcome on_piece
  drive_is = ap (λ (c : Cut). c.outcome.drive) e

  fcb_is_lem : f' ≡ o.fcb
  unfolding cut_outcome on_piece
  fcb_is_lem = ap (λ (c : Cut). c.outcome.fcb) e

  cut_is : v' ≡ cut d.geometry v left S
  unfolding cut_outcome
  cut_is = ap (λ (c : Cut). c.outcome.volume) e

  left_is : left' ≡ left - length S
  unfolding cut_outcome
  left_is = ap (λ (c : Cut). c.left) e

  volume_is : length S ≤ left → v' ≡ o.volume
  unfolding cut_outcome on_piece
  volume_is h =
      ap (λ (c : Cut). c.outcome.volume) e
      ∙ ap (λ (x : Outcome). x.volume) (cut_whole d v f (piece_at b i) left (write_sequential_act d v f (piece_at b i)) h)

  buffer_is_lem : o.buffer ≡ b
  buffer_is_lem = piece_buffer i d v f b fits

  geometry_kept : r.drive.geometry ≡ d.geometry
  unfolding on_piece
  geometry_kept = ap (λ (x : Drive). x.geometry) drive_is ∙ same_geometry d v f (piece_at b i) (write_sequential_act d v f (piece_at b i))

  -- the stores from piece i on, and from the next
  abbrev R : ℕ → List Store
  R m = singles_stores (suc i) m o.drive o.volume o.fcb o.buffer

  abbrev R' : ℕ → List Store
  R' m = singles_stores (suc i) m r.drive v' f' b

  rest_same : (m : ℕ) → length S ≤ left → R' m ≡ R m
  rest_same m h = rw (drive_is, fcb_is_lem, volume_is h, buffer_is_lem)

  calls_same : (m : ℕ) → length S ≤ left
      → singles write_sequential_leaves (suc i) m r.drive v' f' b ≡ singles write_sequential_leaves (suc i) m o.drive o.volume o.fcb o.buffer
  calls_same m h = rw (drive_is, fcb_is_lem, volume_is h, buffer_is_lem)

  -- a refused write has none
  none_stored : succeeded r.answer ≡ false → S ≡ []
  unfolding on_piece
  none_stored t = refused_stores d v f (piece_at b i) (write_sequential_act d v f (piece_at b i)) (ap succeeded (sym answer_is) ∙ t)

  stores_next : (m : ℕ) → succeeded r.answer ≡ true → singles_stores i (suc m) d v f b ≡ S ++ R m
  unfolding singles_stores
  stores_next m t = let q : succeeded o.answer ≡ true = ap succeeded (sym answer_is) ∙ t in rw q

  singles_next : (m : ℕ) → succeeded r.answer ≡ true
      → singles write_sequential_leaves i (suc m) d v f b ≡ singles write_sequential_leaves (suc i) m o.drive o.volume o.fcb o.buffer
  unfolding singles
  singles_next m t = let q : succeeded o.answer ≡ true = ap succeeded (sym answer_is) ∙ t in rw q

  not_refused : (m : ℕ) (d : Drive) (v f b : List ℕ) → refused_by (singles write_sequential_leaves (suc i) m d v f b).answer ≡ 0
  not_refused m d v f b = rw (past_first write_sequential_leaves m i d v f b)

  -- with enough the write is whole, and leaves enough for the rest
  all_fit : (m : ℕ) {w : Outcome} → w ≡ singles write_sequential_leaves (suc i) m o.drive o.volume o.fcb o.buffer → length (S ++ R m) ≤ left
      → (w ≡ singles write_sequential_leaves (suc i) m r.drive v' f' b) × (length (R' m) ≤ left')
  all_fit m e' h =
      let l = length-append S (R m) in
      let fits-here : length S ≤ left = omega arith in
      let s = ap length (rest_same m fits-here) in
      (e' ∙ sym (calls_same m fits-here), omega (arith, left_is))

  pub cut_next : {k : ℕ} {d₀ : Drive} {v₀ f₀ : List ℕ} {most : ℕ} → CutLeft k d₀ v₀ f₀ b most d v f left i → i < k → succeeded r.answer ≡ true
      → CutLeft k d₀ v₀ f₀ b most r.drive v' f' left' (i + 1)
  cut_next {k} {d₀} {v₀} {f₀} {most} x h t =
      let m = k - suc i in
      let z : k - i ≡ suc (k - suc i) = omega arith in
      let g = d₀.geometry in
      let list = ap (λ (n : ℕ). singles_stores i n d v f b) z ∙ stores_next (k - suc i) t in
      let calls = ap (λ (n : ℕ). singles write_sequential_leaves i n d v f b) z ∙ singles_next (k - suc i) t in
      let here : v' ≡ cut g v left S = cut_is ∙ ap (λ (y : Geometry). cut y v left S) x.geometry_is in
      rw (add-one i) (record {
        geometry_is = geometry_kept ∙ x.geometry_is;
        volume_is = x.volume_is ∙ ap (cut g v left) list ∙ sym (then_cut g v S (R m) (R' m) left (rest_same m))
            ∙ ap (λ (y : List ℕ). cut g y (left - length S) (R' m)) (sym here) ∙ ap (λ (n : ℕ). cut g v' n (R' m)) (sym left_is);
        left_is = x.left_is ∙ ap (λ (l : List Store). left - length l) list ∙ sym (then_left g v S (R m) (R' m) left (rest_same m))
            ∙ ap (λ (n : ℕ). n - length (R' m)) (sym left_is);
        refused_is = x.refused_is ∙ ap (λ (y : Outcome). refused_by y.answer) calls ∙ not_refused m o.drive o.volume o.fcb o.buffer
            ∙ sym (not_refused m r.drive v' f' b);
        whole = λ q. all_fit m ((x.whole q).0 ∙ calls) (rw list at (x.whole q).1);
      })

  pub cut_stop : {k : ℕ} {d₀ : Drive} {v₀ f₀ : List ℕ} {most : ℕ} {r₂ : Reply} → CutLeft k d₀ v₀ f₀ b most d v f left i → i < k → succeeded r.answer ≡ false
      → r₂ ≡ record { answer = answer.Several i (why_of r.answer); drive = r.drive }
      → SinglesCut most d₀ v₀ f₀ b k (cut_left r₂ v' f' b left')
  unfolding singles singles_stores
  cut_stop {k} {d₀} {v₀} {f₀} {most} x h t e₂ =
      let z : k - i ≡ suc (k - (i + 1)) = omega arith in
      let g = d₀.geometry in
      let q : succeeded o.answer ≡ false = ap succeeded (sym answer_is) ∙ t in
      let none : S ≡ [] = none_stored t in
      let list : singles_stores i (k - i) d v f b ≡ [] = rw (z, q, none) in
      let calls : singles write_sequential_leaves i (k - i) d v f b ≡ ended i (why_of o.answer) o.drive o.volume o.fcb o.buffer = rw (z, q) in
      let same : v' ≡ v = cut_is ∙ ap (cut d.geometry v left) none ∙ cut_none d.geometry v left in
      let all_left : left' ≡ left = left_is ∙ ap (λ (l : List Store). left - length l) none ∙ omega arith in
      let stored : v' ≡ o.volume = volume_is (rw none (omega arith)) in
      rw e₂ (record {
        volume_is = same ∙ sym (x.volume_is ∙ ap (cut g v left) list ∙ cut_none g v left);
        left_is = all_left ∙ sym (x.left_is ∙ ap (λ (l : List Store). left - length l) list ∙ omega arith);
        refused_is = sym (x.refused_is ∙ ap (λ (y : Outcome). refused_by y.answer) calls ∙ rw answer_is);
        whole = λ w. sym ((x.whole w).0 ∙ calls ∙ rw (← answer_is, ← drive_is, ← fcb_is_lem, ← stored, buffer_is_lem));
      })
