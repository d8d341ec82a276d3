-- Sequential writes one after another: each leaves the next position of the same file, what is written below the position
-- stays, and so all records stand at the end.
use mathlib.Core.Path.{◌≡◌, refl, ap, ◌∙◌}
use mathlib.Core.Bool.{true, false}
use mathlib.Core.Logic.{◌≢◌}
use mathlib.Core.List.{List, [], ◌∷◌}
use Prim.Native.Nat.{ℕ, zero, suc, ◌+◌, ◌%◌, ◌<◌}
use native.Mathlib.Omega.{arith}
use lib.ListN.{length, get_or}
use Rattle.lists.proofs.BoolLaws.{and_parts}
use Rattle.disk_geometry.specs.declared.Geometry.{Geometry}
use Rattle.disk_volume.specs.Name.{name_of}
use Rattle.disk_volume.specs.Record.{present}
use Rattle.call_fcb.specs.Fcb.{position, set_to}
use Rattle.call_answers.specs.Refusal.{is_none, first_met}
use Rattle.call_answers.specs.Answer.{succeeded}
use Rattle.call_decide.specs.Write.{entry_after}
use Rattle.call_decide.proofs.WriteLaws.{length_entry_after}
use Rattle.filecalls.specs.declared.Drive.{Drive}
use Rattle.filecalls.specs.Outcome.{Outcome}
use Rattle.filecalls.specs.Write.{write_sequential_act}
use Rattle.call_served.specs.declared.Call.TheVariants.{Moves}
use Rattle.call_served.specs.declared.Transfer.TheVariants.{WriteSequential}
use Rattle.bdos.specs.Step.{carries, does, step}
use Rattle.call_served.specs.Asked.{asked}
use Rattle.call_served.specs.Calls.{call_of}
use Rattle.demands.specs.Order.{tests_of}
use Rattle.demands.specs.Demand2.{sequential, Present, all_written_by, volume_by}
use Rattle.demands.proofs.Says.{was_none}
use Rattle.demands.proofs.Demand1.{call_says}
use Rattle.demands.proofs.Demand2Apart.{Apart}
use Rattle.demands.proofs.Demand2Others.{Stays}
use Rattle.demands.proofs.Demand2Writes.{call_clear, call_wrote, block_left, stores, others, still_apart, next_position, same_name}

-- ---- one of them
-- what it leaves for the next
pub record Next (d : Drive) (v f r : List ℕ) (o : Outcome) : Type 0 where
  pub geometry_is : o.drive.geometry ≡ d.geometry
  pub user_is : o.drive.user ≡ d.user
  pub name_is : name_of o.fcb ≡ name_of f
  pub position_is : position o.fcb ≡ position f + 1
  pub written : Present d f o.volume (position f) r
  pub others_stay : Apart d.geometry d.held v → (m : ℕ) → m ≢ position f → present d.geometry v d.user (name_of f) m ≡ true
      → Stays d.geometry v o.volume d.user (name_of f) m
  pub apart : Apart d.geometry d.held v → Apart d.geometry o.drive.held o.volume

module _ (g : Geometry) (p : ℕ) (d : Drive) (v f r : List ℕ) where
  block_is : is_none (first_met (tests_of g (Moves WriteSequential) p d v f r)) ≡ true
      → (does g (Moves WriteSequential) p d v f r).fcb ≡ set_to f (entry_after d.geometry d.held v d.user (name_of f) (position f)) (position f) (position f % 128 + 1)
  unfolding does carries write_sequential_act
  block_is e = block_left d v f (position f) (position f % 128 + 1) false r (tests_of g (Moves WriteSequential) p d v f r) e

  pub next_call : succeeded (does g (Moves WriteSequential) p d v f r).answer ≡ true → Next d v f r (does g (Moves WriteSequential) p d v f r)
  next_call h =
      let e = was_none (call_says g p d v f r (Moves WriteSequential)) h in
      let w = call_wrote g p d v f r sequential e in
      let c = call_clear g p d v f r sequential e in
      let n = position f in
      let entry = entry_after d.geometry d.held v d.user (name_of f) n in
      let e32 = length_entry_after d.geometry d.held v d.user (name_of f) n c.state.law c.size c.passed in
      record {
        geometry_is = w.geometry_is;
        user_is = w.user_is;
        name_is = ap name_of (block_is e) ∙ same_name f c.fcb entry e32 n (n % 128 + 1);
        position_is = ap position (block_is e) ∙ next_position f c.fcb entry e32 n (n % 128 + 1) refl;
        written = stores g p d v f r sequential e;
        others_stay = others g p d v f r sequential e;
        apart = still_apart g p d v f r sequential e;
      }

  next : succeeded (step g (asked 21 p f r) d v).answer ≡ true → Next d v f r (step g (asked 21 p f r) d v)
  unfolding step call_of
  next h = next_call h

-- ---- all of them
module _ (g : Geometry) (p : ℕ) where
  -- a record below the position stays
  below_stays : (rs : List (List ℕ)) (d : Drive) (v f : List ℕ) → Apart d.geometry d.held v → all_written_by (step g) p rs d v f ≡ true
      → (m : ℕ) → m < position f → present d.geometry v d.user (name_of f) m ≡ true
      → Stays d.geometry v (volume_by (step g) p rs d v f) d.user (name_of f) m
  below_stays [] d v f a h m l q = record { still_present = q; same_bytes = refl }
  below_stays (r ∷ rs) d v f a h m l q =
      let o = step g (asked 21 p f r) d v in
      let both = and_parts (succeeded o.answer) (all_written_by (step g) p rs o.drive o.volume o.fcb) h in
      let x = next g p d v f r both.0 in
      let s = x.others_stay a m (omega arith) q in
      let t = below_stays rs o.drive o.volume o.fcb (rw x.geometry_is (x.apart a)) both.1 m (omega (arith, x.position_is))
      (rw (x.geometry_is, x.user_is, x.name_is) s.still_present) in
      let u = rw (x.geometry_is, x.user_is, x.name_is) at t in
      record { still_present = u.still_present; same_bytes = u.same_bytes ∙ s.same_bytes }

  pub sequence : (rs : List (List ℕ)) (d : Drive) (v f : List ℕ) → Apart d.geometry d.held v → all_written_by (step g) p rs d v f ≡ true
      → (j : ℕ) → j < length rs → Present d f (volume_by (step g) p rs d v f) (position f + j) (get_or rs j [])
  sequence [] d v f a h j l = absurd (omega arith)
  sequence (r ∷ rs) d v f a h zero l =
      let o = step g (asked 21 p f r) d v in
      let both = and_parts (succeeded o.answer) (all_written_by (step g) p rs o.drive o.volume o.fcb) h in
      let x = next g p d v f r both.0 in
      let t = below_stays rs o.drive o.volume o.fcb (rw x.geometry_is (x.apart a)) both.1 (position f) (omega (arith, x.position_is))
      (rw (x.geometry_is, x.user_is, x.name_is) x.written.is_present) in
      let u = rw (x.geometry_is, x.user_is, x.name_is) at t in
      let z : position f + 0 ≡ position f = omega arith in
      rw z (record { is_present = u.still_present; has_bytes = u.same_bytes ∙ x.written.has_bytes })
  sequence (r ∷ rs) d v f a h (suc j) l =
      let o = step g (asked 21 p f r) d v in
      let both = and_parts (succeeded o.answer) (all_written_by (step g) p rs o.drive o.volume o.fcb) h in
      let x = next g p d v f r both.0 in
      let t = sequence rs o.drive o.volume o.fcb (rw x.geometry_is (x.apart a)) both.1 j (omega arith) in
      let z : position f + suc j ≡ position o.fcb + j = omega (arith, x.position_is) in
      rw z
      (record {
        is_present = rw (x.geometry_is, x.user_is, x.name_is) at t.is_present;
        has_bytes = rw (x.geometry_is, x.user_is, x.name_is) at t.has_bytes;
      })
