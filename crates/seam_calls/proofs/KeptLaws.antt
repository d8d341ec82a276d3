-- What a call leaves as it was: the geometry, unless it logs in, and all where it is refused.
use mathlib.Core.Path.{◌≡◌, refl, ap, ◌∙◌}
use mathlib.Core.Bool.{false}
use mathlib.Core.Logic.{◌⊎◌, inl, inr}
use mathlib.Core.List.{List, []}
use Prim.Native.Nat.{ℕ}
use Rattle.disk_geometry.specs.declared.Geometry.{Geometry}
use Rattle.call_answers.specs.Answer.{succeeded}
use Rattle.filecalls.specs.declared.Drive.{Drive}
use Rattle.filecalls.specs.Outcome.{keeps, takes, frees, protects, becomes, searches, Act, deny, done, changed_state, outcome}
use Rattle.filecalls.proofs.OutcomeLaws.{same_all, outcome_refused}
use Rattle.filecalls.specs.Leaves.{read_sequential_leaves, write_sequential_leaves}
use Rattle.several.specs.Several.{Single, on_piece, several}
use Rattle.several.proofs.SeveralLaws.{several_keeps, leaves_all, read_refuses, write_refuses}
use Rattle.call_served.specs.declared.Call.{Call}
use Rattle.call_served.specs.declared.Call.TheVariants.{LogIn, Open, Close, SearchFirst, SearchNext, Delete, Make, Rename, Protect, Attributes, User, Size, SetRandom, Moves, Unserved}
use Rattle.call_served.specs.declared.Transfer.TheVariants.{ReadSequential, WriteSequential, ReadRandom, WriteRandom, WriteZeroFill, ReadSeveral, WriteSeveral}
use Rattle.bdos.specs.Step.{keeps_buffer, keeps_fcb, keeps_volume, carries, does, step}
use Rattle.call_served.specs.Asked.{Asked}
use Rattle.call_served.specs.Calls.{call_of}

-- ---- the geometry
-- no change of a state alters it, so no act does
outcome_geometry : (d : Drive) (v f b : List ℕ) (act : Act) → (outcome d v f b act).drive.geometry ≡ d.geometry
unfolding outcome changed_state
outcome_geometry d v f b (deny why) = refl
outcome_geometry d v f b (done code keeps stores f' b') = refl
outcome_geometry d v f b (done code (takes t x) stores f' b') = refl
outcome_geometry d v f b (done code (frees u pattern) stores f' b') = refl
outcome_geometry d v f b (done code protects stores f' b') = refl
outcome_geometry d v f b (done code (becomes u) stores f' b') = refl
outcome_geometry d v f b (done code (searches q) stores f' b') = refl

several_geometry : (single : Single) → ((d : Drive) (v f b : List ℕ) → (single d v f b).drive.geometry ≡ d.geometry)
    → (d : Drive) (v f b : List ℕ) (k : ℕ) → (several single d v f b k).drive.geometry ≡ d.geometry
unfolding on_piece
several_geometry single one d v f b k = several_keeps single (λ x w h c. x.geometry ≡ d.geometry) (λ i x w h c e. one x w h _ ∙ e) d v f b k refl

module _ (d : Drive) (p : ℕ) (v f b : List ℕ) where
  pub call_geometry_of : (call : Call) → (call ≡ LogIn) ⊎ ((does d.geometry call p d v f b).drive.geometry ≡ d.geometry)
  unfolding does carries
  call_geometry_of LogIn = inl refl
  call_geometry_of Open = inr (outcome_geometry d v f [] _)
  call_geometry_of Close = inr (outcome_geometry d v f [] _)
  call_geometry_of SearchFirst = inr (outcome_geometry d v f b _)
  call_geometry_of SearchNext = inr (outcome_geometry d v [] b _)
  call_geometry_of Delete = inr (outcome_geometry d v f [] _)
  call_geometry_of (Moves ReadSequential) = inr (outcome_geometry d v f b _)
  call_geometry_of (Moves WriteSequential) = inr (outcome_geometry d v f b _)
  call_geometry_of Make = inr (outcome_geometry d v f [] _)
  call_geometry_of Rename = inr (outcome_geometry d v f [] _)
  call_geometry_of Protect = inr (outcome_geometry d [] [] [] _)
  call_geometry_of Attributes = inr (outcome_geometry d v f [] _)
  call_geometry_of User = inr (outcome_geometry d [] [] [] _)
  call_geometry_of (Moves ReadRandom) = inr (outcome_geometry d v f b _)
  call_geometry_of (Moves WriteRandom) = inr (outcome_geometry d v f b _)
  call_geometry_of Size = inr (outcome_geometry d v f [] _)
  call_geometry_of SetRandom = inr (outcome_geometry d [] f [] _)
  call_geometry_of (Moves WriteZeroFill) = inr (outcome_geometry d v f b _)
  call_geometry_of (Moves ReadSeveral) = inr (several_geometry read_sequential_leaves (λ x w h c. outcome_geometry x w h c _) d v f b p)
  call_geometry_of (Moves WriteSeveral) = inr (several_geometry write_sequential_leaves (λ x w h c. outcome_geometry x w h c _) d v f b p)
  call_geometry_of Unserved = inr (outcome_geometry d v f b _)

-- ---- a refusal alters nothing
module _ (g : Geometry) (p : ℕ) (d : Drive) (v f b : List ℕ) where
  call_refused : (call : Call) → (call ≡ LogIn → ⊥) → succeeded (does g call p d v f b).answer ≡ false
      → does g call p d v f b ≡ same_all (does g call p d v f b) d v f b
  unfolding does carries
  call_refused LogIn n e = absurd (n refl)
  call_refused Open n e = ap (keeps_buffer b) (outcome_refused d v f [] _ e)
  call_refused Close n e = ap (keeps_buffer b) (outcome_refused d v f [] _ e)
  call_refused SearchFirst n e = outcome_refused d v f b _ e
  call_refused SearchNext n e = ap (keeps_fcb f) (outcome_refused d v [] b _ e)
  call_refused Delete n e = ap (keeps_buffer b) (outcome_refused d v f [] _ e)
  call_refused (Moves ReadSequential) n e = outcome_refused d v f b _ e
  call_refused (Moves WriteSequential) n e = outcome_refused d v f b _ e
  call_refused Make n e = ap (keeps_buffer b) (outcome_refused d v f [] _ e)
  call_refused Rename n e = ap (keeps_buffer b) (outcome_refused d v f [] _ e)
  call_refused Protect n e = ap (keeps_volume v) (ap (keeps_fcb f) (ap (keeps_buffer b) (outcome_refused d [] [] [] _ e)))
  call_refused Attributes n e = ap (keeps_buffer b) (outcome_refused d v f [] _ e)
  call_refused User n e = ap (keeps_volume v) (ap (keeps_fcb f) (ap (keeps_buffer b) (outcome_refused d [] [] [] _ e)))
  call_refused (Moves ReadRandom) n e = outcome_refused d v f b _ e
  call_refused (Moves WriteRandom) n e = outcome_refused d v f b _ e
  call_refused Size n e = ap (keeps_buffer b) (outcome_refused d v f [] _ e)
  call_refused SetRandom n e = ap (keeps_volume v) (ap (keeps_buffer b) (outcome_refused d [] f [] _ e))
  call_refused (Moves WriteZeroFill) n e = outcome_refused d v f b _ e
  call_refused (Moves ReadSeveral) n e = leaves_all read_sequential_leaves read_refuses d v f b p e
  call_refused (Moves WriteSeveral) n e = leaves_all write_sequential_leaves write_refuses d v f b p e
  call_refused Unserved n e = outcome_refused d v f b _ e

pub step_refused : (g : Geometry) (c : Asked) (d : Drive) (v : List ℕ) → (call_of c.function ≡ LogIn → ⊥) → succeeded (step g c d v).answer ≡ false
    → step g c d v ≡ same_all (step g c d v) d v c.fcb c.buffer
unfolding step
step_refused g c d v n e = call_refused g c.parameter d v c.fcb c.buffer (call_of c.function) n e
