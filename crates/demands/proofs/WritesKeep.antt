-- The three writes keep state and volume consistent and leave every file but the one that they name.
use mathlib.Core.Path.{◌≡◌, refl, sym, ap, ◌∙◌}
use mathlib.Core.Bool.{Bool, true, false, not, ◌&&◌}
use mathlib.Core.List.{List, ◌++◌}
use Prim.Native.Nat.{ℕ, ◌+◌, ◌%◌, ◌<◌}
use native.Mathlib.Omega.{arith}
use lib.Dec.{eqb}
use lib.ListN.{length}
use Rattle.disk_volume.specs.Name.{name_of, same}
use Rattle.call_fcb.specs.Fcb.{position, random}
use Rattle.call_answers.specs.Refusal.{is_none, first_met}
use Rattle.filecalls.specs.declared.Drive.{Drive}
use Rattle.filecalls.specs.Outcome.{changed_state}
use Rattle.filecalls.specs.Read.{sequential_tests, random_tests}
use Rattle.filecalls.specs.Write.{write_entry, write_done, directory_tests, write_sequential_act, write_direct_act, write_random_act, write_zero_fill_act}
use Rattle.filecalls.proofs.LentLaws.{sequential_lent_lem, sequential_passed}
use Rattle.filecalls.proofs.StateLaws.{both_clear}
use Rattle.numbers.specs.Numbers.{Bytes}
use Rattle.demands.proofs.Acts.{Consistent, Keeps, does, keeps_unless}
use Rattle.demands.proofs.Demand2Writes.{Clear, clear_sequential, clear_random}
use Rattle.demands.proofs.WriteKeeps.{write_size, write_sound, write_held}
use Rattle.demands.proofs.WriteCut.{write_cut_lem, write_ordered}

-- ---- the record that is written is below 65,536
pub random_low : (f : List ℕ) → Bytes f → random f < 65536
unfolding random
random_low f h = omega (arith, h 33, h 34)

pub position_low : (d : Drive) (v f b : List ℕ) → is_none (first_met (sequential_tests d v f b ++ directory_tests d v f (position f))) ≡ true → position f < 65536
position_low d v f b h =
    let p = both_clear (sequential_tests d v f b) (directory_tests d v f (position f)) h in
    (sequential_passed d v f (length b) refl refl (ap (λ t. not (is_none (first_met t))) (sym (sequential_lent_lem d v f b)) ∙ ap not p.0)).low

module _ (d : Drive) (v f b : List ℕ) (c : Consistent d v) where
  -- record n is written with the buffer's bytes
  done_keeps : (n cr : ℕ) (fills : Bool) → n < 65536 → Clear d v f b n → Keeps (λ u name. eqb u d.user && same name (name_of f)) d v (write_done d v f n cr fills b)
  unfolding write_done write_entry changed_state
  done_keeps n cr fills n< l =
      let g = d.geometry in
      let u15 = l.state.user15 in
      does (record {
        consistent = record {
          law = c.law;
          size = write_size g c.law v c.size c.sound d.held c.held d.user u15 (name_of f) n n< l.passed fills b l.record128;
          sound = write_sound g c.law v c.size c.sound d.held c.held d.user u15 (name_of f) n n< l.passed fills b l.record128;
          held = write_held g c.law v c.size c.sound d.held c.held d.user u15 (name_of f) n n< l.passed fills b l.record128;
        };
        cuts = λ k. (write_cut_lem d v f c l.state n fills b n< l.record128 l.passed k).safe;
        ordered = write_ordered d v f c l.state n fills b n< l.record128 l.passed;
      })

  pub write_sequential_keeps : Keeps (λ u name. eqb u d.user && same name (name_of f)) d v (write_sequential_act d v f b)
  unfolding write_sequential_act
  write_sequential_keeps = keeps_unless (sequential_tests d v f b ++ directory_tests d v f (position f)) _
      (λ h. done_keeps (position f) (position f % 128 + 1) false (position_low d v f b h) (clear_sequential d v f b h))

  write_direct_keeps : (fills : Bool) → Bytes f → Keeps (λ u name. eqb u d.user && same name (name_of f)) d v (write_direct_act fills d v f b)
  write_direct_keeps fills small = keeps_unless (random_tests d v f b ++ directory_tests d v f (random f)) _
      (λ h. done_keeps (random f) (random f % 128) fills (random_low f small) (clear_random d v f b h))

  pub write_random_keeps : Bytes f → Keeps (λ u name. eqb u d.user && same name (name_of f)) d v (write_random_act d v f b)
  unfolding write_random_act
  write_random_keeps = write_direct_keeps false

  pub write_zero_fill_keeps : Bytes f → Keeps (λ u name. eqb u d.user && same name (name_of f)) d v (write_zero_fill_act d v f b)
  unfolding write_zero_fill_act
  write_zero_fill_keeps = write_direct_keeps true
