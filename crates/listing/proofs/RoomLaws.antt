-- Every listing fits into its room.
use mathlib.Core.Path.{◌≡◌, refl, ap, ◌∙◌}
use mathlib.Core.Bool.{Bool, true, false, cond}
use mathlib.Core.List.{List}
use Prim.Native.Nat.{ℕ, ◌+◌, ◌≤◌}
use native.Mathlib.Omega.{arith}
use lib.Dec.{eqb, ltb}
use lib.ListN.{length, take, drop, length-append}
use lib.Seq.{take_at}
use borrow.Author.Tests.{ltb-false}
use Rattle.disk_held.specs.Held.{free_count, is_free}
use Rattle.disk_geometry.specs.Geometry.{lawful, bytes, slots}
use Rattle.disk_rules.specs.GoodSlot.{lowest_bad}
use Rattle.disk_rules.specs.Named.{held_of}
use Rattle.disk_rules.proofs.AcceptedLaws.{lowest_bad_le, accepted}
use Rattle.text.specs.Text.{Text, text, puts}
use Rattle.text.proofs.TextLaws.{puts_room}
use Rattle.call_answers.specs.declared.Refusal.TheVariants.{VolumeLength}
use Rattle.call_answers.specs.declared.Answer.{Answer}
use Rattle.call_answers.specs.declared.Answer.TheVariants.{Ready, BadSlot, Refused}
use Rattle.call_answers.specs.Answer.{number_of}
use Rattle.call_answers.specs.Refusal.{first_met}
use Rattle.filecalls.specs.LogIn.{log_in, log_in_tests, refused_log_in}
use Rattle.listing.specs.Listing.{geometry_v, listing_for, listing}
use Rattle.listing.specs.Listing as the
use Rattle.listing.specs.Room.{room, Fits}
use Rattle.listing.proofs.LineLaws.{two_digits, count_short, lines_short}

-- ---- by log-in's answer
module _ (v : List ℕ) where
  abbrev free : ℕ
  free = free_count (held_of geometry_v v) 1 40

  -- what log-in says, by its two tests that can be met
  abbrev says : Bool → Bool → Answer
  says right bad = cond right (cond bad (BadSlot (lowest_bad geometry_v v)) (Ready free)) (Refused VolumeLength)

  answer_is : (right bad : Bool) → eqb (length v) (bytes geometry_v) ≡ right → ltb (lowest_bad geometry_v v) (slots geometry_v) ≡ bad
      → (log_in geometry_v v).answer ≡ says right bad
  unfolding log_in log_in_tests first_met refused_log_in lawful bytes
  answer_is false bad e f = rw e
  answer_is true true e f = rw (e, f)
  answer_is true false e f = rw (e, f)

  accepted_short : lowest_bad geometry_v v ≡ 32 → length (the.accepted geometry_v v free) ≤ room
  unfolding the.accepted free_count
  accepted_short ok =
      let lines = lines_short geometry_v v (accepted geometry_v v ok) (omega arith) 0 32 (omega arith) in
      let count = two_digits free (omega (arith, count_short (is_free (held_of geometry_v v)) 1 39)) in
      simp length-append (omega (arith, lines, count))

  bad_short : length (listing_for (BadSlot (lowest_bad geometry_v v)) geometry_v v) ≤ room
  unfolding listing_for
  bad_short =
      let slot = two_digits (lowest_bad geometry_v v) (omega (arith, lowest_bad_le geometry_v v)) in
      let number = two_digits (number_of (BadSlot 0)) (omega arith) in
      simp length-append (omega (arith, slot, number))

  refused_short : length (listing_for (Refused VolumeLength) geometry_v v) ≤ room
  unfolding listing_for
  refused_short = simp length-append (omega (arith, two_digits (number_of (Refused VolumeLength)) (omega arith)))

  listing_short : length (listing v) ≤ room
  unfolding listing listing_for
  listing_short = go (eqb (length v) (bytes geometry_v)) (ltb (lowest_bad geometry_v v) (slots geometry_v)) refl refl
    where
      go : (right bad : Bool) → eqb (length v) (bytes geometry_v) ≡ right → ltb (lowest_bad geometry_v v) (slots geometry_v) ≡ bad
          → length (listing_for (log_in geometry_v v).answer geometry_v v) ≤ room
      go false bad e f = rw (answer_is false bad e f) refused_short
      go true true e f = rw (answer_is true true e f) bad_short
      go true false e f =
          let ok : lowest_bad geometry_v v ≡ 32 = omega (arith, lowest_bad_le geometry_v v, ltb-false (lowest_bad geometry_v v) 32 f) in
          rw (answer_is true false e f) (accepted_short ok)

-- ---- the theorem
listing_whole : (v out after : List ℕ) (n : ℕ) → room ≤ length out → text after n ≡ puts (text out 0) (listing v) → take n after ≡ listing v
listing_whole v out after n h e =
    let l = listing v in
    let is = e ∙ puts_room l out 0 (omega (arith, listing_short v)) in
    let z : n ≡ length l = ap (λ (t : Text). t.at) is ∙ omega arith in
    rw z (ap (λ (t : Text). take (length l) t.bytes) is ∙ take_at l (drop (0 + length l) out) (length l) refl)

pub fits : Fits
fits = record { short = listing_short; whole = listing_whole }
