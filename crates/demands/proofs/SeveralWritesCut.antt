-- A call of several records cut anywhere: it stores as its single writes would, so each cut lies in one of them, before which
-- all is consistent.
use mathlib.Core.Path.{◌≡◌, refl, sym, ap, ◌∙◌}
use mathlib.Core.Logic.{◌≢◌, ◌⊎◌, inl, inr}
use mathlib.Core.Bool.{Bool, true, false, cond, ◌&&◌}
use mathlib.Core.List.{List, [], ◌++◌}
use Prim.Native.Nat.{ℕ, zero, suc, ◌+◌, ◌-◌, ◌*◌, ◌≤◌, ◌<◌}
use native.Mathlib.Omega.{arith}
use native.Mathlib.Decide.{dec_le}
use lib.Dec.{eqb}
use lib.ListN.{length}
use borrow.Author.Tests.{not-false, eqb-true}
use Rattle.lists.specs.Bytes.{part}
use Rattle.disk_geometry.specs.declared.Geometry.{Geometry}
use Rattle.disk_volume.specs.Name.{name_of, same}
use Rattle.disk_stores.specs.Stores.{Store, laid, cut}
use Rattle.disk_stores.proofs.LaidLaws.{laid_append, cut_enough, cut_first, cut_second}
use Rattle.disk_stores.proofs.CodeLaws.{cut_none}
use Rattle.call_fcb.specs.Fcb.{position}
use Rattle.call_answers.specs.declared.Refusal.TheVariants.{Closed, VolumeLength, FcbLength, BadCount, BufferLength}
use Rattle.call_answers.proofs.Ladder.{unmet}
use Rattle.call_answers.specs.Refusal.{is_none, first_met}
use Rattle.call_answers.specs.Answer.{succeeded}
use Rattle.filecalls.specs.declared.Drive.{Drive}
use Rattle.filecalls.specs.Outcome.{Outcome}
use Rattle.filecalls.specs.Write.{write_sequential_act}
use Rattle.filecalls.specs.Leaves.{write_sequential_leaves}
use Rattle.several.specs.Several.{on_piece, singles, several, several_tests}
use Rattle.several.proofs.SinglesCutLaws.{piece_buffer}
use Rattle.filecalls.specs.Stores.{sequential_stores}
use Rattle.several.specs.Stores.{singles_stores, several_stores}
use Rattle.bdos.specs.Step.{carries, does}
use Rattle.demands.specs.Demand2.{Present}
use Rattle.demands.proofs.Acts.{Consistent, act_laid, Safe, safe_none, StepKeeps, outcome_keeps}
use Rattle.demands.proofs.WritesKeep.{write_sequential_keeps}
use Rattle.demands.proofs.SeveralKeeps.{leaves_then}
use Rattle.demands.proofs.Demand2Sequence.{Next, next_call}
use Rattle.demands.proofs.WriteCut.{WriteSafe, write_none}
use Rattle.demands.proofs.WritesCut.{sequential_safe}

-- a volume left half done by a write of k records from the position on
pub record SeveralSafe (d : Drive) (f : List ℕ) (k : ℕ) (v w : List ℕ) : Type 0 where
  pub safe : Safe (λ u name. eqb u d.user && same name (name_of f)) d.geometry v w
  pub records_stay : (m : ℕ) → (m < position f) ⊎ (position f + k ≤ m) → (s : List ℕ) → Present d f v m s → Present d f w m s

none_of : {d : Drive} {f : List ℕ} {k : ℕ} {v : List ℕ} → Consistent d v → SeveralSafe d f k v v
none_of c = record { safe = safe_none c; records_stay = λ m o s p. p }

-- a record outside is not the first
not_first : (p k m : ℕ) → (m < p) ⊎ (p + suc k ≤ m) → m ≢ p
not_first p k m (inl h) = omega arith
not_first p k m (inr h) = omega arith

one_of : {d : Drive} {f : List ℕ} (k : ℕ) {r v w : List ℕ} → WriteSafe d f (position f) r v w → SeveralSafe d f (suc k) v w
one_of {d} {f} k x = record { safe = x.safe; records_stay = λ m o s p. x.records_stay m (not_first (position f) k m o) s p }

-- ---- one single write
module _ (d : Drive) (v f r : List ℕ) (c : Consistent d v) where
  abbrev o : Outcome
  o = write_sequential_leaves d v f r

  abbrev mine : List Store
  mine = sequential_stores d v f r

  pub mine_laid : laid d.geometry v mine ≡ o.volume
  mine_laid = act_laid d v f r (write_sequential_act d v f r)

  pub write_kept : StepKeeps (λ u name. eqb u d.user && same name (name_of f)) d v o
  write_kept = outcome_keeps (λ u name. eqb u d.user && same name (name_of f)) d v f r (write_sequential_act d v f r) c (write_sequential_keeps d v f r c)

  pub whole : WriteSafe d f (position f) r v o.volume
  whole = rw (cut_enough d.geometry v mine (length mine) (omega arith), mine_laid) at (sequential_safe d v f r c (length mine))

  module _ (e : succeeded o.answer ≡ true) where
    pub to_next : Next d v f r o
    unfolding does carries
    to_next = next_call d.geometry 0 d v f r e

    -- the file is the same, to and fro
    pub forth : (w : List ℕ) (m : ℕ) (s : List ℕ) → Present d f w m s → Present o.drive o.fcb w m s
    forth w m s p =
        let x = to_next in
        record {
          is_present = rw (x.geometry_is, x.user_is, x.name_is) p.is_present;
          has_bytes = rw (x.geometry_is, x.user_is, x.name_is) p.has_bytes;
        }

    pub back : (w : List ℕ) (m : ℕ) (s : List ℕ) → Present o.drive o.fcb w m s → Present d f w m s
    back w m s p =
        let x = to_next in
        record {
          is_present = rw (x.geometry_is, x.user_is, x.name_is) at p.is_present;
          has_bytes = rw (x.geometry_is, x.user_is, x.name_is) at p.has_bytes;
        }

    -- it is done, and then some of those that follow
    then_of : (k : ℕ) (w : List ℕ) → SeveralSafe o.drive o.fcb k o.volume w → SeveralSafe d f (suc k) v w
    then_of k w later = record {
      safe = record {
        same_size = later.safe.same_size ∙ whole.safe.same_size;
        sound = rw to_next.geometry_is at later.safe.sound;
        others = λ u name u15 h.
            leaves_then (whole.safe.others u name u15 h)
            (rw to_next.geometry_is at (later.safe.others u name u15 (rw (to_next.user_is, to_next.name_is) h)));
      };
      records_stay = λ m out s p.
          back w m s (later.records_stay m (beyond m out) s (forth o.volume m s (whole.records_stay m (not_first (position f) k m out) s p)));
    }
      where
        beyond : (m : ℕ) → (m < position f) ⊎ (position f + suc k ≤ m) → (m < position o.fcb) ⊎ (position o.fcb + k ≤ m)
        beyond m (inl h) = inl (omega (arith, to_next.position_is))
        beyond m (inr h) = inr (omega (arith, to_next.position_is))

-- ---- k single writes from piece i on, cut: one of them is cut, the pieces being those of b₀
pub record InOne (i k : ℕ) (d : Drive) (v f b b₀ w : List ℕ) : Type 0 where
  pub before : ℕ
  pub made : ℕ
  pub is : w ≡ cut d.geometry (singles write_sequential_leaves i before d v f b).volume made
      (sequential_stores (singles write_sequential_leaves i before d v f b).drive (singles write_sequential_leaves i before d v f b).volume
      (singles write_sequential_leaves i before d v f b).fcb (part b₀ (128 * (i + before)) 128))
  pub one : WriteSafe (singles write_sequential_leaves i before d v f b).drive (singles write_sequential_leaves i before d v f b).fcb
      (position (singles write_sequential_leaves i before d v f b).fcb) (part b₀ (128 * (i + before)) 128)
      (singles write_sequential_leaves i before d v f b).volume w
  pub same_geometry : (singles write_sequential_leaves i before d v f b).drive.geometry ≡ d.geometry
  pub all : SeveralSafe d f k v w

-- the first is cut, or none is begun
first_cut : (i k made : ℕ) (d : Drive) (v f b b₀ w : List ℕ) → w ≡ cut d.geometry v made (sequential_stores d v f (part b₀ (128 * i) 128))
    → WriteSafe d f (position f) (part b₀ (128 * i) 128) v w → SeveralSafe d f k v w → InOne i k d v f b b₀ w
unfolding singles
first_cut i k made d v f b b₀ w is one all =
    let z : i + 0 ≡ i = omega arith in
    record { before = 0; made = made; is = rw z is; one = rw z one; same_geometry = refl; all = all }

-- the first is done, and one of the others is cut
later_cut : (i k : ℕ) (d : Drive) (v f b b₀ w : List ℕ) → Consistent d v → (let o : Outcome = on_piece write_sequential_leaves i d v f b in
    succeeded o.answer ≡ true → InOne (suc i) k o.drive o.volume o.fcb o.buffer b₀ w → InOne i (suc k) d v f b b₀ w)
unfolding singles on_piece
later_cut i k d v f b b₀ w c ok x =
    let z : i + suc x.before ≡ suc i + x.before = omega arith in
    let r = part b (128 * i) 128 in
    let g = (to_next d v f r c ok).geometry_is in
    record {
      before = suc x.before;
      made = x.made;
      is = rw (ok, z) (rw g at x.is);
      one = rw (ok, z) x.one;
      same_geometry = rw ok (x.same_geometry ∙ g);
      all = then_of d v f r c ok k w x.all;
    }

-- one more in front of the others
module _ (i k : ℕ) (d : Drive) (v f b b₀ : List ℕ) (pieces : b ≡ b₀) (c : Consistent d v) (rest : List Store) where
  abbrev r : List ℕ
  r = part b (128 * i) 128

  abbrev first : List Store
  first = sequential_stores d v f (part b (128 * i) 128)

  abbrev w₁ : Outcome
  w₁ = on_piece write_sequential_leaves i d v f b

  in_first_lem : (made : ℕ) (w : List ℕ) → w ≡ cut d.geometry v made first → WriteSafe d f (position f) r v w → InOne i (suc k) d v f b b₀ w
  in_first_lem made w is one = first_cut i (suc k) made d v f b b₀ w (rw (← pieces) is) (rw (← pieces) one) (one_of k one)

  add_cut : ((x : ℕ) → InOne (suc i) k w₁.drive w₁.volume w₁.fcb w₁.buffer b₀ (cut w₁.drive.geometry w₁.volume x rest))
      → (t : ℕ) → InOne i (suc k) d v f b b₀ (cut d.geometry v t (first ++ cond (succeeded w₁.answer) rest []))
  unfolding on_piece
  add_cut later t = go (dec_le t (length first))
    where
      after : (s : Bool) → succeeded w₁.answer ≡ s → InOne i (suc k) d v f b b₀ (cut d.geometry w₁.volume (t - length first) (cond s rest []))
      after true e = later_cut i k d v f b b₀ _ c e (rw (to_next d v f r c e).geometry_is at (later (t - length first)))
      after false e =
          rw (cut_none d.geometry w₁.volume (t - length first))
          (in_first_lem (length first) w₁.volume (sym (cut_enough d.geometry v first (length first) (omega arith) ∙ mine_laid d v f r c)) (whole d v f r c))

      go : Dec (t ≤ length first) → InOne i (suc k) d v f b b₀ (cut d.geometry v t (first ++ cond (succeeded w₁.answer) rest []))
      go (yes h) = rw (cut_first d.geometry v first (cond (succeeded w₁.answer) rest []) t h) (in_first_lem t _ refl (sequential_safe d v f r c t))
      go (no h) =
          rw (cut_second d.geometry v first (cond (succeeded w₁.answer) rest []) t (omega arith), mine_laid d v f r c)
          (after (succeeded w₁.answer) refl)

pub singles_cut : (k i t : ℕ) (d : Drive) (v f b b₀ : List ℕ) → b ≡ b₀ → Consistent d v → 128 * (i + k) ≤ length b
    → InOne i k d v f b b₀ (cut d.geometry v t (singles_stores i k d v f b))
unfolding singles_stores laid
singles_cut zero i t d v f b b₀ pieces c fits =
    rw (cut_none d.geometry v t) (first_cut i 0 0 d v f b b₀ v refl (write_none c) (none_of c))
singles_cut (suc k) i t d v f b b₀ pieces c fits =
    let o = on_piece write_sequential_leaves i d v f b in
    let same = piece_buffer i d v f b (omega arith) in
    add_cut i k d v f b b₀ pieces c (singles_stores (suc i) k o.drive o.volume o.fcb o.buffer)
    (λ x. singles_cut k (suc i) x o.drive o.volume o.fcb o.buffer b₀ (same ∙ pieces) (kept i d v f b c) (rw same (omega arith)))
    t
  where
    kept : (i : ℕ) (d : Drive) (v f b : List ℕ) → Consistent d v → Consistent (on_piece write_sequential_leaves i d v f b).drive (on_piece write_sequential_leaves i d v f b).volume
    kept i d v f b c = unfold on_piece in (write_kept d v f (part b (128 * i) 128) c).consistent

-- ---- all stores laid down, and their order
pub singles_laid : (k i : ℕ) (d : Drive) (v f b : List ℕ) → Consistent d v
    → laid d.geometry v (singles_stores i k d v f b) ≡ (singles write_sequential_leaves i k d v f b).volume
unfolding singles_stores singles on_piece laid
singles_laid zero i d v f b c = refl
singles_laid (suc k) i d v f b c =
    let r = part b (128 * i) 128 in
    let o = on_piece write_sequential_leaves i d v f b in
    let rest = singles_stores (suc i) k o.drive o.volume o.fcb o.buffer in
    laid_append d.geometry (sequential_stores d v f r) _ v
    ∙ rw (mine_laid d v f r c)
    (go (succeeded o.answer) rest (singles write_sequential_leaves (suc i) k o.drive o.volume o.fcb o.buffer) _
    (sym (ap (λ (g : Geometry). laid g o.volume rest) (write_kept d v f r c).geometry)
    ∙ singles_laid k (suc i) o.drive o.volume o.fcb o.buffer (write_kept d v f r c).consistent) refl)
  where
    go : {u : List ℕ} (s : Bool) (rest : List Store) (on last : Outcome) → laid d.geometry u rest ≡ on.volume → last.volume ≡ u
        → laid d.geometry u (cond s rest []) ≡ (cond s on last).volume
    go true rest on last e z = e
    go false rest on last e z = sym z

-- ---- after some of them all is as before the first: state and volume are consistent
pub record Moment (g : Geometry) (o : Outcome) : Type 0 where
  pub geometry_is : o.drive.geometry ≡ g
  pub consistent : Consistent o.drive o.volume

pub singles_moment : (j i : ℕ) (d : Drive) (v f b : List ℕ) → Consistent d v → Moment d.geometry (singles write_sequential_leaves i j d v f b)
unfolding singles on_piece
singles_moment zero i d v f b c = record { geometry_is = refl; consistent = c }
singles_moment (suc j) i d v f b c =
    let o = on_piece write_sequential_leaves i d v f b in
    let k = write_kept d v f (part b (128 * i) 128) c in
    let rest = singles_moment j (suc i) o.drive o.volume o.fcb o.buffer k.consistent in
    go (succeeded o.answer) (record { geometry_is = rest.geometry_is ∙ k.geometry; consistent = rest.consistent })
    (record { geometry_is = k.geometry; consistent = k.consistent })
  where
    go : {x y : Outcome} (s : Bool) → Moment d.geometry x → Moment d.geometry y → Moment d.geometry (cond s x y)
    go true a b = a
    go false a b = b

-- ---- the call
pub several_pieces : (d : Drive) (v f b : List ℕ) (k : ℕ) → is_none (first_met (several_tests d v f b k)) ≡ true → length b ≡ 128 * k
unfolding several_tests
several_pieces d v f b k h =
    let closed = unmet Closed _ _ refl h in
    let volume = unmet VolumeLength _ _ refl closed.1 in
    let fcb = unmet FcbLength _ _ refl volume.1 in
    let count = unmet BadCount _ _ refl fcb.1 in
    eqb-true (length b) (128 * k) (not-false _ (unmet BufferLength _ _ refl count.1).0)

module _ (d : Drive) (v f b : List ℕ) (k : ℕ) (c : Consistent d v) where
  pub several_cut_lem : (t : ℕ) → InOne 0 k d v f b b (cut d.geometry v t (several_stores d v f b k))
  unfolding several_stores laid
  several_cut_lem t = go (is_none (first_met (several_tests d v f b k))) refl
    where
      go : (s : Bool) → is_none (first_met (several_tests d v f b k)) ≡ s
          → InOne 0 k d v f b b (cut d.geometry v t (cond (is_none (first_met (several_tests d v f b k))) (singles_stores 0 k d v f b) []))
      go true e = rw e (singles_cut k 0 t d v f b b refl c (omega (arith, several_pieces d v f b k e)))
      go false e = rw (e, cut_none d.geometry v t) (first_cut 0 k 0 d v f b b v refl (write_none c) (none_of c))

  pub several_laid : laid d.geometry v (several_stores d v f b k) ≡ (several write_sequential_leaves d v f b k).volume
  unfolding several_stores several laid
  several_laid = go (is_none (first_met (several_tests d v f b k))) refl
    where
      go : (s : Bool) → is_none (first_met (several_tests d v f b k)) ≡ s
          → laid d.geometry v (cond (is_none (first_met (several_tests d v f b k))) (singles_stores 0 k d v f b) []) ≡ (several write_sequential_leaves d v f b k).volume
      go true e = rw e (singles_laid k 0 d v f b c)
      go false e = rw e
