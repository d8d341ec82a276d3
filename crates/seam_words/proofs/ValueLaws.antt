-- The value beside log-in's answer fits 16 bits: a count is at most 4,096, a slot at most 2,048, and every other answer has 0.
use mathlib.Core.Path.{◌≡◌, refl}
use mathlib.Core.Bool.{Bool, true, false, not, cond}
use mathlib.Core.List.{List}
use Prim.Native.Nat.{ℕ, ◌-◌, ◌≤◌, ◌<◌}
use native.Mathlib.Omega.{arith}
use Rattle.lists.proofs.BoundedLaws.{low_le}
use Rattle.disk_geometry.specs.declared.Geometry.{Geometry}
use Rattle.disk_geometry.specs.Geometry.{lawful, slots}
use Rattle.disk_geometry.proofs.GeometryLaws.{bounds}
use Rattle.call_answers.specs.declared.Refusal.TheVariants.{Closed}
use Rattle.call_answers.specs.declared.Answer.TheVariants as answer
use Rattle.call_answers.specs.Refusal.{is_none, first_met}
use Rattle.call_answers.specs.Answer.{value_of}
use Rattle.disk_held.specs.Held.{holds, free_count}
use Rattle.disk_held.proofs.CountLaws.{count_not}
use Rattle.disk_rules.specs.GoodSlot.{good_slot, lowest_bad}
use Rattle.disk_rules.specs.Named.{held_of}
use Rattle.filecalls.specs.declared.Reply.{Reply}
use Rattle.filecalls.specs.State.{closed, logged_in}
use Rattle.filecalls.specs.LogIn.{log_in_tests, refused_log_in, log_in}
use Rattle.filecalls.proofs.LogInLaws.{refused_value}

free_le : (held : List ℕ) (d t : ℕ) → free_count held d t ≤ t - d
unfolding free_count
free_le held d t = omega (arith, count_not (holds held) d (t - d))

bad_le : (g : Geometry) (v : List ℕ) → lowest_bad g v ≤ slots g
unfolding lowest_bad
bad_le g v = omega (arith, low_le (λ i. not (good_slot g v i)) 0 (slots g))

module _ (g : Geometry) (v : List ℕ) where
  unlawful : lawful g ≡ false → (log_in g v).answer ≡ answer.Refused Closed
  unfolding log_in log_in_tests first_met refused_log_in
  unlawful e = rw e

  within : lawful g ≡ true → value_of (log_in g v).answer < 65536
  unfolding log_in
  within e = go (is_none (first_met (log_in_tests g v)))
    where
      go : (t : Bool)
          → value_of (cond {A = Reply} t (record { answer = answer.Ready (free_count (held_of g v) g.directory_blocks g.blocks); drive = logged_in g (held_of g v) })
          (record { answer = refused_log_in g v; drive = closed })).answer < 65536
      go true = omega (arith, free_le (held_of g v) g.directory_blocks g.blocks, (bounds g e).blocks_high)
      go false = omega (arith, refused_value g v, bad_le g v, (bounds g e).slots_high)

  pub log_in_value : value_of (log_in g v).answer < 65536
  log_in_value = go (lawful g) refl
    where
      go : (t : Bool) → lawful g ≡ t → value_of (log_in g v).answer < 65536
      go true e = within e
      go false e = rw (unlawful e) (omega arith)
