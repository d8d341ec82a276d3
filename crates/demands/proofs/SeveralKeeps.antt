-- A call of several records keeps what its single calls keep: state and volume stay consistent, the geometry stays, and a
-- file that it does not name stays as it is; with none done every file does.
use mathlib.Core.Path.{◌≡◌, refl, ap, ◌∙◌}
use mathlib.Core.Bool.{Bool, true, false, ◌&&◌}
use mathlib.Core.List.{List}
use Prim.Native.Nat.{ℕ, ◌*◌, ◌≤◌}
use lib.Dec.{eqb}
use Rattle.lists.specs.Bytes.{part}
use Rattle.disk_geometry.specs.declared.Geometry.{Geometry}
use Rattle.disk_volume.specs.Name.{name_of, same}
use Rattle.call_answers.specs.Answer.{succeeded}
use Rattle.filecalls.specs.Leaves.{write_sequential_leaves}
use Rattle.filecalls.specs.declared.Drive.{Drive}
use Rattle.filecalls.specs.Outcome.{Outcome}
use Rattle.filecalls.specs.Write.{write_sequential_act}
use Rattle.several.specs.Several.{Single, on_piece, several}
use Rattle.several.proofs.SinglesLaws.{Holds, Refuses}
use Rattle.several.proofs.SeveralLaws as laws
use Rattle.bdos.specs.Step.{carries, does}
use Rattle.demands.proofs.Acts.{Consistent, Leaves, leaves_all, StepKeeps, outcome_keeps}
use Rattle.demands.proofs.WritesKeep.{write_sequential_keeps}
use Rattle.demands.proofs.Demand2Sequence.{next_call}

pub leaves_then : {g : Geometry} {u : ℕ} {name v w x : List ℕ} → Leaves g v w u name → Leaves g w x u name → Leaves g v x u name
leaves_then k l = record {
  presence = λ n. l.presence n ∙ k.presence n;
  contents = λ n h. l.contents n (k.presence n ∙ h) ∙ k.contents n h;
}

and-false : (a b : Bool) → b ≡ false → (a && b) ≡ false
and-false true b e = e
and-false false b e = refl

-- ---- by a single call, and by the files that it names: by user, control block, and the file
module _ (single : Single) (names : ℕ → List ℕ → ℕ → List ℕ → Bool) (refuses : Refuses single)
    (one : (d : Drive) (v f b : List ℕ) → Consistent d v → StepKeeps (λ u name. names d.user f u name) d v (single d v f b))
    (same_file : (d : Drive) (v f b : List ℕ) (u : ℕ) (name : List ℕ)
    → names (single d v f b).drive.user (single d v f b).fcb u name ≡ names d.user f u name) where
  -- what holds from the first single call, of d₀, v₀ and f₀, to any later one
  record Along (d₀ : Drive) (v₀ f₀ : List ℕ) (d : Drive) (v f b : List ℕ) : Type 0 where
    consistent : Consistent d v
    geometry : d.geometry ≡ d₀.geometry
    file : (u : ℕ) (name : List ℕ) → names d.user f u name ≡ names d₀.user f₀ u name
    others : (u : ℕ) (name : List ℕ) → u ≤ 15 → names d₀.user f₀ u name ≡ false → Leaves d₀.geometry v₀ v u name

  step_along : (d₀ : Drive) (v₀ f₀ : List ℕ) (i : ℕ) (d : Drive) (v f b : List ℕ) → Along d₀ v₀ f₀ d v f b → Holds (Along d₀ v₀ f₀) (on_piece single i d v f b)
  unfolding on_piece
  step_along d₀ v₀ f₀ i d v f b a =
      let r = part b (128 * i) 128 in
      let k = one d v f r a.consistent in
      record {
        consistent = k.consistent;
        geometry = k.geometry ∙ a.geometry;
        file = λ u name. same_file d v f r u name ∙ a.file u name;
        others = λ u name u15 h.
            leaves_then (a.others u name u15 h)
            (rw (← a.geometry) (k.others u name u15 (and-false (succeeded (single d v f r).answer) (names d.user f u name) (a.file u name ∙ h))));
      }

  pub several_keeps : (d : Drive) (v f b : List ℕ) (k : ℕ) → Consistent d v → StepKeeps (λ u name. names d.user f u name) d v (several single d v f b k)
  several_keeps d v f b k c =
      let a = laws.several_keeps single (Along d v f) (step_along d v f) d v f b k
      (record { consistent = c; geometry = refl; file = λ u name. refl; others = λ u name u15 h. leaves_all }) in
      record { consistent = a.consistent; geometry = a.geometry; others = λ u name u15 h. rest u name h (a.others u name u15) }
    where
      -- one is done and the file is not named, or none is
      rest : (u : ℕ) (name : List ℕ) → (succeeded (several single d v f b k).answer && names d.user f u name) ≡ false
          → (names d.user f u name ≡ false → Leaves d.geometry v (several single d v f b k).volume u name)
          → Leaves d.geometry v (several single d v f b k).volume u name
      rest u name h other = go (succeeded (several single d v f b k).answer) refl h
        where
          go : (t : Bool) → succeeded (several single d v f b k).answer ≡ t → (t && names d.user f u name) ≡ false
              → Leaves d.geometry v (several single d v f b k).volume u name
          go true e n = other n
          go false e n = rw (ap (λ (o : Outcome). o.volume) (laws.leaves_all single refuses d v f b k e)) leaves_all

-- ---- the writes: each leaves the user, and the name in the control block
module _ (d : Drive) (v f b : List ℕ) where
  record SameFile : Type 0 where
    user_is : (write_sequential_leaves d v f b).drive.user ≡ d.user
    name_is : name_of (write_sequential_leaves d v f b).fcb ≡ name_of f

  done_same : succeeded (write_sequential_leaves d v f b).answer ≡ true → SameFile
  unfolding does carries
  done_same e = let n = next_call d.geometry 0 d v f b e in record { user_is = n.user_is; name_is = n.name_is }

  refused_same : succeeded (write_sequential_leaves d v f b).answer ≡ false → SameFile
  refused_same e =
      let z = laws.write_refuses d v f b e in
      record { user_is = ap (λ (o : Outcome). o.drive.user) z; name_is = ap (λ (o : Outcome). name_of o.fcb) z }

  same_file : SameFile
  same_file = go (succeeded (write_sequential_leaves d v f b).answer) refl
    where
      go : (t : Bool) → succeeded (write_sequential_leaves d v f b).answer ≡ t → SameFile
      go true e = done_same e
      go false e = refused_same e

pub write_several_keeps : (d : Drive) (v f b : List ℕ) (k : ℕ) → Consistent d v
    → StepKeeps (λ u name. eqb u d.user && same name (name_of f)) d v (several write_sequential_leaves d v f b k)
write_several_keeps =
    several_keeps write_sequential_leaves (λ w h u name. eqb u w && same name (name_of h)) laws.write_refuses
    (λ d v f b c. outcome_keeps (λ u name. eqb u d.user && same name (name_of f)) d v f b (write_sequential_act d v f b) c (write_sequential_keeps d v f b c))
    (λ d v f b u name. let s = same_file d v f b in rw (s.user_is, s.name_is))
